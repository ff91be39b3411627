-- What a lockstep makes of the end of a player who is lost, and of the commands before it that are told
-- whole.
use Rattle.std.proofs.Common.{◌≡◌, ◌≢◌, ◌<◌, ◌≤◌, ◌+◌, ◌-◌, ℕ, false, List, ◌++◌, length, refl, ap, sym, ◌∙◌, arith, inl, inr, Option, Some, None, take, drop, zero, suc, Bool, length-append, length-drop, length-take, drop-drop}
use Rattle.std.proofs.{lemmas.Bool.{cases_Bool, le-ltb, cases_eq}, Math.Seq.{drop-append_seam, take-length}}
use Rattle.std.specs.{Prelude.{if◌then◌else◌, ◌||◌, nat_lt}, List.list_any}
use Rattle.dn_tic.specs.declared.command.TicCmd.{TicCmd}
use Rattle.dn_ring.specs.Ring.{Ring}
use Rattle.dn_machine.specs.{declared.peer.Peer.Peer, Limits.Limits, Node.{ends_of, is_ended, Node, put}}
use Rattle.dn_machine.specs.{Running.is_over, Settling.{settled_one, settled_to}}
use Rattle.dn_machine.proofs.Put.{put_at, put_off, same_functions}
use Rattle.dn_lockstep.specs.Settling.{has_gap, is_no_peer, is_other_end, missing, on_settle, refused_end}
use Rattle.dn_lockstep.specs.{Settling.settled_unless, declared.lockstep.settling.Settled.Settled, Phases.is_listening}
use Rattle.dn_lockstep.specs.{Tables.{count_of, ring_of, is_stop}, Represents.{Represents, marked_to}}
use Rattle.dn_lockstep.specs.{Steps.{IsAfter, Steps}, Contents.Contents}
use Rattle.dn_lockstep.proofs.{After.{after, steps}, Shown.{below, got_is}, Gathering.{peer_below, same_test}}
use Rattle.dn_lockstep.proofs.Changing.{shows_commands, shows_peer, AreKept}
use Rattle.dn_machine.specs.Node as machine

-- without a gap they are as many as are missing
pub missing_length : (got end first : ℕ) (commands : List TicCmd) → has_gap got end first commands ≡ false
    → length (missing got end first commands) ≡ end - got
missing_length got end first commands e = grind (arith, length-drop, length-take)

-- so peers of which one is settled are kept
pub kept_settled : {old new : ℕ → Peer} {player made : ℕ} (tics end : ℕ) → (old player).resend ≤ made
    → is_other_end tics (old player).end end ≡ false
    → new player ≡ record (old player) { end = Some end; want = false }
    → ((p : ℕ) → p ≢ player → new p ≡ old p) → AreKept old new player made
kept_settled {old} {new} {player} {made} tics end low fine is others = grind arith

-- and no mark of the player's is taken away
settled_marked : (tics got end : ℕ) (known : Option ℕ) → got ≤ end → is_other_end tics known end ≡ false
    → (is_over known tics ≡ false → tics ≤ got) → marked_to tics (Some end) ≡ marked_to tics known
settled_marked tics got end known past same ahead = grind arith

-- why an end is refused, by what the lockstep has
abbrev pub refused_by : Contents → ℕ → ℕ → ℕ → List TicCmd → Option Settled
refused_by n player end first commands =
    if is_no_peer n.players n.me player then Some Settled.NotAPlayer else (
    if is_listening n.phase || is_ended n.phase then Some Settled.NotPlaying else (
    if has_gap (count_of n.rings player) end first commands then Some Settled.Gap else (
    if nat_lt end (count_of n.rings player) then Some Settled.Behind else (
    if nat_lt (n.ran + n.places) end then Some Settled.Overrun else (
    if list_any is_stop (missing (count_of n.rings player) end first commands) then Some Settled.Stopper else (
    if is_other_end n.ran (n.peers player).end end then Some Settled.OtherEnd else None))))))

-- where no command is missing: by the tests that are left
pub past_gap : (n : Contents) (player end first : ℕ) (commands : List TicCmd) (reason : Option Settled) {got : ℕ}
    → is_no_peer n.players n.me player ≡ false → (is_listening n.phase || is_ended n.phase) ≡ false
    → got ≡ count_of n.rings player → has_gap got end first commands ≡ false → got ≤ end
    → (if nat_lt (n.ran + n.places) end then Some Settled.Overrun else (
    if list_any is_stop (missing got end first commands) then Some Settled.Stopper else (
    if is_other_end n.ran (n.peers player).end end then Some Settled.OtherEnd else None))) ≡ reason
    → refused_by n player end first commands ≡ reason
past_gap n player end first commands reason {got} peer within counted near past rest =
    grind (arith, le-ltb, past, peer)

module _ {limits : Limits} {me : ℕ} {n : Contents} {m : machine.Node} (r : Represents limits me n m)
    (player end first : ℕ) (commands : List TicCmd) where
  -- it is why the machine's node refuses it
  same_refusal : refused_end limits me m player end first commands ≡ refused_by n player end first commands
  same_refusal = elim (cases_Bool (is_no_peer n.players n.me player)) [
    | inl e ↦ let test = sym (same_test r player) ∙ e in rw (test, e) refl
    | inr e ↦
        let mine = peer_below n.players n.me player e in
        let had = got_is limits me n m r player mine in
        let known = r.peers.known player (below limits me n m r player mine) in
        let test = sym (same_test r player) ∙ e in
        rw (test, e, r.stands.phase, had, known, r.table.ran, r.whose.places) refl
  ]

  module _ (fine : refused_by n player end first commands ≡ None) where
    peer : is_no_peer n.players n.me player ≡ false
    peer = grind arith

    mine : player < n.players
    mine = peer_below n.players n.me player peer

    had : count_of n.rings player ≡ machine.got m player
    had = got_is limits me n m r player mine

    same_end : (n.peers player).end ≡ ends_of m player
    same_end = ap (λ (p : Peer). p.end) (r.peers.known player (below limits me n m r player mine))

    past : machine.got m player ≤ end
    past = grind (arith, fine, had)

    only : is_other_end (machine.ran m) (ends_of m player) end ≡ false
    only = grind (arith, fine, same_end, r.table.ran)

    abbrev more : List TicCmd
    more = missing (machine.got m player) end first commands

    abbrev all : List TicCmd
    all = m.held player ++ more

    counts : length all ≡ end
    counts = grind (arith, length-append, missing_length, past, had)

    pub taken_shows : (is_over (n.peers player).end n.ran ≡ false → n.ran ≤ count_of n.rings player)
        → (peers : ℕ → Peer) (rings : ℕ → Ring)
        → peers player ≡ record (n.peers player) { end = Some end; want = false }
        → ((p : ℕ) → p ≢ player → peers p ≡ n.peers p)
        → ((held : List TicCmd) → n.rings player ≡ ring_of held
        → rings player ≡ ring_of (held ++ missing (count_of n.rings player) end first commands))
        → ((p : ℕ) → p ≢ player → rings p ≡ n.rings p)
        → IsAfter limits me (record n { peers = peers; rings = rings })
        (on_settle limits me m player end first commands)
        (λ settled. Settled.Taken (end - count_of n.rings player) ≡ settled)
    unfolding on_settle
    taken_shows ahead peers rings is others kept apart =
        let here = below limits me n m r player mine in
        let rest : rings player ≡ ring_of all =
        kept (m.held player) (r.commands.rings player here)
        ∙ ap (λ (k : ℕ). ring_of (m.held player ++ missing k end first commands)) had in
        let known : peers player ≡ record (m.peers player) { end = Some (length all); want = false } =
        grind (arith, is, r.peers.known, here, counts) in
        let caught_up : is_over (ends_of m player) (machine.ran m) ≡ false → machine.ran m ≤ machine.got m player =
        grind (arith, ahead, same_end, had, r.table.ran) in
        let marked : marked_to (machine.ran m) (Some (length all)) ≡ marked_to (machine.ran m) (ends_of m player) =
        ap (λ (k : ℕ). marked_to (machine.ran m) (Some k)) counts
        ∙ settled_marked (machine.ran m) (machine.got m player) end (ends_of m player) past only caught_up in
        after (settled_one m player all) (Settled.Taken (end - machine.got m player))
        (ap (λ (o : Option Settled). settled_unless o m player end first commands) (same_refusal ∙ fine))
        (shows_commands (shows_peer r player peers marked known others) player n.hold m.inputs
        all rings r.commands.hold rest apart) (ap (λ (k : ℕ). Settled.Taken (end - k)) had)

-- what is refused changes nothing
pub refuses : (n : Contents) (player end first : ℕ) (commands : List TicCmd) (reason : Settled)
    → refused_by n player end first commands ≡ Some reason
    → Steps n n (λ limits me m. on_settle limits me m player end first commands) (λ settled. reason ≡ settled)
unfolding on_settle
refuses n player end first commands reason e = grind (arith, steps, same_refusal, after)

-- what is told by commands that reach up to an end, of which the rest is missing, is taken
module _ (limits : Limits) (me player first : ℕ) (m : machine.Node) (commands decided rest : List TicCmd)
    (whole : m.held player ++ rest ≡ decided)
    (there : missing (machine.got m player) (length decided) first commands ≡ rest)
    (near : has_gap (machine.got m player) (length decided) first commands ≡ false)
    (peer : is_no_peer limits.players me player ≡ false) (within : (is_listening m.phase || is_ended m.phase) ≡ false)
    (room : length decided ≤ machine.ran m + limits.places) (safe : list_any is_stop rest ≡ false)
    (same : is_other_end (machine.ran m) (ends_of m player) (length decided) ≡ false) where
  pub settles : on_settle limits me m player (length decided) first commands
      ≡ (settled_one m player decided, Settled.Taken (length rest))
  unfolding on_settle
  settles = grind (arith, le-ltb, length-append)

-- the last of a player's commands reach up to its end
module _ (player first : ℕ) (m : machine.Node) (rest : List TicCmd) (near : first ≤ machine.got m player) where
  abbrev whole : List TicCmd
  whole = m.held player ++ rest

  abbrev told : List TicCmd
  told = drop first whole

  counted : length whole ≡ machine.got m player + length rest
  counted = length-append (m.held player) rest

  pub rest_missing : missing (machine.got m player) (length whole) first told ≡ rest
  rest_missing =
      let many : length whole - machine.got m player ≡ length rest = omega (arith, counted) in
      let behind : drop (machine.got m player - first) told ≡ rest =
      drop-drop (machine.got m player - first) first whole
      ∙ ap (λ (k : ℕ). drop k whole) (omega (arith, near)) ∙ drop-append_seam (m.held player) rest in
      (λ i. take (many i) (behind i)) ∙ take-length rest

  pub no_gap : has_gap (machine.got m player) (length whole) first told ≡ false
  no_gap = grind (arith, length-drop, counted)

-- Ends that are settled for one player after another.

-- what is kept of each player, changed for one after another
unfoldable pub each : {A : Type 0} → ℕ → (ℕ → Bool) → (ℕ → A → A) → (ℕ → A) → ℕ → A
each zero gone next all = all
each (suc player) gone next all =
    let before = each player gone next all in
    if gone player then put before player (next player (before player)) else before

module _ {A : Type 0} (gone : ℕ → Bool) (next : ℕ → A → A) (all : ℕ → A) where
  -- past the bound it is as it was
  each_past : (bound p : ℕ) → bound ≤ p → each bound gone next all p ≡ all p
  unfolding each
  each_past zero p past = refl
  each_past (suc bound) p past =
      let other : p ≢ bound = λ e. absurd (omega (arith, e, past)) in
      let before = each_past bound p (omega (arith, past)) in grind (arith, put_off)

  -- below it, it is changed once for each who is given up
  each_in : (bound p : ℕ) → p < bound → each bound gone next all p ≡ (if gone p then next p (all p) else all p)
  unfolding each
  each_in zero p low = absurd (omega (arith, low))
  each_in (suc bound) p low = elim (cases_eq p bound) [
    | inl same ↦ grind (arith, each_past, put_at)
    | inr other ↦
        let before = each_in bound p (omega (arith, low, other)) in grind (arith, put_off)
  ]

  -- where nobody past the bound is given up
  pub each_is : (bound : ℕ) → ((p : ℕ) → bound ≤ p → gone p ≡ false)
      → each bound gone next all ≡ (λ p. if gone p then next p (all p) else all p)
  each_is bound few = grind (arith, same_functions, each_in, each_past)

module _ (gone : ℕ → Bool) (commands : ℕ → List TicCmd) (node : Node) where
  abbrev ended : ℕ → Peer → Peer
  ended p peer = record peer { end = Some (length (commands p)); want = false }

  -- what is held and what is kept of the peers are changed so, and nothing else
  turns : (bound : ℕ) → settled_to bound gone commands node ≡ record node {
    held = each bound gone (λ p held. commands p) node.held;
    peers = each bound gone ended node.peers;
  }
  unfolding settled_to each
  turns zero = refl
  turns (suc bound) =
      let before = ap (λ (x : Node). settled_one x bound (commands bound)) (turns bound) in
      elim (cases_Bool (gone bound)) [
        | inl on ↦ rw on before
        | inr off ↦ rw off (turns bound)
      ]

pub in_turn : (players : ℕ) (node : Node) (gone : ℕ → Bool) (commands : ℕ → List TicCmd)
    → ((player : ℕ) → players ≤ player → gone player ≡ false)
    → settled_to players gone commands node ≡ record node {
      held = λ p. if gone p then commands p else node.held p;
      peers = λ p. if gone p then ended gone commands node p (node.peers p) else node.peers p;
    }
in_turn players node gone commands few = grind (arith, each_is, turns)
