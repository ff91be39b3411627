-- Nothing is lacking where all thresholds are reached, and only there.
use Rattle.std.proofs.{Common.{◌≡◌, ◌≤◌, ℕ, ◌+◌, List, [], ◌∷◌, ◌++◌, Bool, true, false, Option, if◌then◌else◌, refl, arith}, lemmas.Bool.{le-ltb, ltb-false, ne_eqb, eq-eqb}}
use Rattle.std.proofs.lemmas.List.Elements.{All-nil, All-cons, All-head, All-tail}
use Rattle.std.specs.Prelude.{All, nat_lt}
use Rattle.dn_measure.specs.{declared.arrivals.Arrivals.Arrivals, declared.felt.Felt.Felt, declared.felt.Felt.TheVariants.{Never, Within, Longer}, declared.verdict.Lack.Lack}
use Rattle.dn_measure.specs.{declared.verdict.Lack.TheVariants.{Time, Tics, Datagrams}, declared.measure.Summary.Summary, Thresholds.{longest_key, greatest_loss}}
use Rattle.dn_measure.specs.Verdict.{note, note_loss, losses_of, lacks_of, is_late, peer_loss, IsInTime, Carries}

-- nothing is noted, and what nothing was added to
noted_nothing : (b : Bool) (lack : Lack) → note b lack ≡ [] → b ≡ false
noted_nothing false lack h = refl
noted_nothing true lack h = cc

left_empty : (xs ys : List Lack) → xs ++ ys ≡ [] → xs ≡ []
left_empty [] ys h = refl
left_empty (x ∷ xs) ys h = cc

right_empty : (xs ys : List Lack) → xs ++ ys ≡ [] → ys ≡ []
right_empty [] ys h = h
right_empty (x ∷ xs) ys h = cc

-- keys that are felt in time
in_time : (felt : Felt) → is_late felt ≡ false → IsInTime felt
in_time Never h = cc
in_time (Within time) h = ltb-false longest_key time h
in_time Longer h = cc

not_late : (felt : Felt) → IsInTime felt → is_late felt ≡ false
not_late Never h = absurd h
not_late (Within time) h = le-ltb longest_key time h
not_late Longer h = absurd h

-- players of whom enough datagrams come
abbrev Keeps : Option Arrivals → Type 0
Keeps peer = peer_loss peer ≤ greatest_loss

none_lost : (player : ℕ) (peers : List (Option Arrivals)) → All Keeps peers → losses_of player peers ≡ []
none_lost player [] h = refl
none_lost player (peer ∷ peers) h =
    let first = le-ltb greatest_loss (peer_loss peer) (All-head Keeps peer peers h) in
    let rest = none_lost (player + 1) peers (All-tail Keeps peer peers h) in
    rw first rest

all_kept : (player : ℕ) (peers : List (Option Arrivals)) → losses_of player peers ≡ [] → All Keeps peers
all_kept player [] h = All-nil Keeps
all_kept player (peer ∷ peers) h =
    let first = noted_nothing (nat_lt greatest_loss (peer_loss peer)) (Datagrams player (peer_loss peer))
    (left_empty (note_loss player peer) (losses_of (player + 1) peers) h) in
    let behind = right_empty (note_loss player peer) (losses_of (player + 1) peers) h in
    let rest = all_kept (player + 1) peers behind in
    All-cons Keeps peer peers (ltb-false greatest_loss (peer_loss peer) first) rest

-- which of three was taken, where nothing is lacking
third_taken : (short dead : Bool) (rest : List Lack)
    → (if short then Time ∷ [] else (if dead then Tics ∷ [] else rest)) ≡ []
    → (short ≡ false) × (dead ≡ false) × (rest ≡ [])
third_taken true dead rest h = cc
third_taken false true rest h = cc
third_taken false false rest h = (refl, refl, h)

pub nothing_lacks : (s : Summary) → Carries s → lacks_of s ≡ []
nothing_lacks s h = grind (arith, le-ltb, ne_eqb, not_late, none_lost)

pub all_reached : (s : Summary) → lacks_of s ≡ [] → Carries s
all_reached s h =
    grind (arith, third_taken, right_empty, eq-eqb, ltb-false, noted_nothing, left_empty, in_time, all_kept)
