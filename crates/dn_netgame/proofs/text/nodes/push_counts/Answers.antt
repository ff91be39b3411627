-- The counts of a node's line, one after another.
use Rattle.std.specs.{Prelude.{nat_lt, if◌then◌else◌}, Fmt.signed_decimal, String.string_bytes}
use Rattle.std.proofs.Common.{◌≡◌, ◌<◌, ◌≤◌, ◌+◌, ◌-◌, ℕ, pos, suc, Bool, true, false, Some, None, List, [], ◌++◌, append_assoc, append-nil, refl, codes, arith, rules}
use Rattle.dn_ring.specs.Ring.{Ring}
use Rattle.dn_lockstep.specs.Tables.{count_of}
use Rattle.dn_netgame.specs.Texts.{counts_from, counts}
use Rattle.dn_node.specs.Contents.{contents}
use Rattle.dn_netgame.proofs.text.nodes.push_counts.Goals as goal

-- the count of the first player, and those of the others
counts_step : (player players : ℕ) (rings : ℕ → Ring) → player < players
    → counts_from player (players - player) rings
    ≡ codes " " ++ (signed_decimal (pos (count_of rings player)) ++ counts_from (player + 1)
    (players - (player + 1)) rings)
counts_step player players rings h =
    let e : players - player ≡ suc (players - (player + 1)) = omega arith in rw e refl

-- the count that a node tells, and that there is one
counted_if : (b : Bool) (held count : ℕ) → Some count ≡ (if b then Some held else None)
    → (b ≡ true) × (count ≡ held)
counted_if true held count h = (refl, cc)
counted_if false held count h = absurd (cc)

-- one more count behind a text
counts_more : (player players count : ℕ) (rings : ℕ → Ring) (old new whole : List ℕ)
    → Some count ≡ (if nat_lt player players then Some (count_of rings player) else None)
    → (old ++ counts_from player (players - player) rings ≡ whole) × (player ≤ players)
    → new ≡ old ++ (codes " " ++ (signed_decimal (pos count) ++ []))
    → (new ++ counts_from (player + 1) (players - (player + 1)) rings ≡ whole) × (player + 1 ≤ players)
counts_more player players count rings old new whole told so_far put = grind (arith, counted_if, counts_step, append_assoc, append-nil)

pub loop-count-preserved : goal.loop-count-preserved
loop-count-preserved g c =
    let put : string_bytes c.push_fields.new.text
    ≡ string_bytes c.loop-count.text ++ (codes " " ++ (signed_decimal (pos c.in-Some.count) ++ [])) =
    search rules in
    let n = contents c.args.node.now in
    counts_more c.loop-count.player n.players c.in-Some.count n.rings (string_bytes c.loop-count.text)
    (string_bytes c.push_fields.new.text)
    (string_bytes c.args.text.now ++ counts n.players n.rings) c.in-Some.ensures.value c.loop-count.invariant put

pub loop-count-init : goal.loop-count-init
loop-count-init g c = search rules

pub loop-count-smaller : goal.loop-count-smaller
loop-count-smaller g c = search rules

pub overflow_cast-count : goal.overflow_cast-count
overflow_cast-count g c = search rules

pub overflow_add-player : goal.overflow_add-player
overflow_add-player g c = search rules

pub returns : goal.returns
returns g c = search rules
