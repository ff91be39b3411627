-- The ends of all who are given up, as `dn_remain` decides them.
use Rattle.std.proofs.Common.{◌≡◌, ◌+◌, ℕ, refl, subst, ◌∙◌, add-one, ◌≤◌, ◌-◌, false, List, ◌++◌, length, take, drop, sym, ap, arith, ◌≢◌, ◌<◌, zero, suc, Bool, true, Option, Some, None, ◌||◌, max, if◌then◌else◌, length-append, unwrap_or}
use Rattle.std.proofs.{Math.Seq.take-length, lemmas.List.Folds.list_any-append}
use Rattle.std.proofs.lemmas.Bool.{both_ways, cond-true, cond-false}
use Rattle.std.specs.List.{list_any}
use Rattle.dn_machine.specs.{Limits.Limits, Node.ends_of, Node.is_ended, Settling.settled_one, declared.answers.Phase.Phase, Node.got, Node.ran, Settling.settled_to}
use Rattle.dn_lockstep.specs.{Contents.Contents, Steps.{IsAfter, Steps}, declared.lockstep.settling.Settled.Settled}
use Rattle.dn_lockstep.specs.{Phases.is_listening, Tables.is_stop}
use Rattle.dn_lockstep.specs.Settling.{has_gap, is_no_peer, is_other_end, missing, on_settle}
use Rattle.dn_survivor.specs.{declared.others.Others.Others, declared.answers.Ends.Ends, Calls.settled_below, Calls.settled_with, Calls.end_by, Calls.settled_by, Represents.CanTakeAll, OfOthers.commands_of}
use Rattle.dn_survivor.specs.OfOthers.{first_of, has, nodes_of, own_of, told_of}
use Rattle.dn_tic.specs.declared.command.TicCmd.{TicCmd}
use Rattle.dn_machine.proofs.Put.{put_off}
use Rattle.dn_lockstep.proofs.Wholes.{in_turn}
use Rattle.dn_remain.specs.{Vanished.Calls.can_decide, Vanished.Commands.Holder, Vanished.Commands.fresh_holder, Vanished.Commands.seen, Vanished.Commands.on_decision, Vanished.Node.decided_end}
use Rattle.dn_remain.specs.{Promise.commands_decided, Wary.Report, Wary.Wary, Wary.can_settle, Wary.is_in_game, Wary.or_fresh, Wary.report_of, Wary.settled}
use Rattle.dn_survivor.proofs.OfOthers.{Suffices, suffices}
use Rattle.dn_machine.specs.Node as machine
use Rattle.dn_lockstep.proofs.Wholes as wholes
use Rattle.dn_survivor.specs.OfOthers as others
use Rattle.dn_survivor.proofs.OfOthers as agreeing

-- One end that is settled by what is kept of the others.

module _ (limits : Limits) (me player first : ℕ) (m : machine.Node) (commands decided : List TicCmd)
    (near : first ≤ machine.got m player)
    (whole : m.held player ++ drop (machine.got m player - first) commands ≡ decided)
    (long : length decided ≡ max (machine.got m player) (first + length commands)) where
  abbrev behind : List TicCmd
  behind = drop (machine.got m player - first) commands

  counts : length decided ≡ machine.got m player + length behind
  counts = ap length (sym whole) ∙ length-append (m.held player) behind

  missing_is : missing (machine.got m player) (length decided) first commands ≡ behind
  missing_is =
      let many : length decided - machine.got m player ≡ length behind = omega (arith, counts) in
      ap (λ (k : ℕ). take k behind) many ∙ take-length behind

  no_gap : has_gap (machine.got m player) (length decided) first commands ≡ false
  no_gap = grind (arith, long, near)

  -- none of the missing ones would end a demo, if none of all would
  clear : list_any is_stop decided ≡ false → list_any is_stop behind ≡ false
  clear fair = grind (arith, list_any-append)

  pub settles : is_no_peer limits.players me player ≡ false → (is_listening m.phase || is_ended m.phase) ≡ false
      → length decided ≤ machine.ran m + limits.places → list_any is_stop decided ≡ false
      → is_other_end (machine.ran m) (ends_of m player) (length decided) ≡ false
      → on_settle limits me m player (length decided) first commands
      ≡ (settled_one m player decided, Settled.Taken (length decided - machine.got m player))
  settles peer within room fair same =
      grind (arith, behind, counts, wholes.settles, commands, missing_is, no_gap, clear)

-- who is in a game neither listens nor has ended
pub in_game : (phase : Phase) → is_in_game phase ≡ true → (is_listening phase || is_ended phase) ≡ false
in_game phase h = grind (arith, both_ways)

-- a report that never came tells nothing, in either crate's words
fresh_is : (o : Option Report) → unwrap_or o fresh_holder ≡ or_fresh o
fresh_is None = refl
fresh_is (Some report) = refl

-- ends that were settled before leave all else as it was
pub record Leaves (bound : ℕ) (old new : machine.Node) : Type 0 where
  pub held : (p : ℕ) → bound ≤ p → new.held p ≡ old.held p
  pub peers : (p : ℕ) → bound ≤ p → new.peers p ≡ old.peers p
  pub rows : ran new ≡ ran old
  pub phase : new.phase ≡ old.phase

leaves : (bound : ℕ) (gone : ℕ → Bool) (commands : ℕ → List TicCmd) (m : machine.Node)
    → Leaves bound m (settled_to bound gone commands m)
unfolding settled_to
leaves zero gone commands m = record { held = λ p h. refl; peers = λ p h. refl; rows = refl; phase = refl }
leaves (suc bound) gone commands m =
    let before = leaves bound gone commands m in
    grind (arith, put_off)

module _ (limits : Limits) (me : ℕ) (kept : Others) (wary : Wary) (mine : me < limits.players)
    (r : others.Represents limits.players limits.places me kept wary.gone wary.newest)
    (peers : (player : ℕ) → wary.gone player ≡ true → is_no_peer limits.players me player ≡ false)
    (here : is_in_game wary.node.phase ≡ true) where
  abbrev commands : ℕ → List TicCmd
  commands = commands_decided limits me wary

  -- what was told, in the words of `dn_survivor::others`
  abbrev lists : ℕ → Holder TicCmd
  lists o = unwrap_or (wary.newest o) fresh_holder

  abbrev same_lists : ℕ → Holder TicCmd
  same_lists o = or_fresh (wary.newest o)

  lists_are : lists ≡ same_lists
  lists_are = λ i o. fresh_is (wary.newest o) i

  decided_is : (player : ℕ) → commands player ≡ (on_decision limits.players me (report_of wary) lists).held player
  decided_is player = λ i. (on_decision limits.players me (report_of wary) (sym lists_are i)).held player

  -- one who is given up is another player of the game
  below : (player : ℕ) → wary.gone player ≡ true → player < limits.players
  below player given = let peer = peers player given in grind (arith, peer)

  apart : (player : ℕ) → wary.gone player ≡ true → player ≢ me
  apart player given e = let peer = peers player given in grind (arith, peer, e)

  -- the node with all of them
  abbrev turned : machine.Node
  turned = record wary.node {
    held = λ p. if wary.gone p then commands p else wary.node.held p;
    peers = λ p. if wary.gone p
        then record (wary.node.peers p) { end = Some (length (commands p)); want = false }
        else wary.node.peers p;
  }

  -- settled one after the other
  module _ (can : CanTakeAll limits me wary) where
    -- one of them, once those of lower numbers are settled
    one : (player : ℕ) (m : machine.Node) → wary.gone player ≡ true → Leaves player wary.node m
        → settled_by limits me kept player m
        ≡ (settled_one m player (commands player), Settled.Taken (length (commands player) - got m player))
    one player m given before =
        let low = below player given in
        let take = can player low given in
        let other = apart player given in
        let held : m.held player ≡ wary.node.held player = before.held player (omega arith) in
        let enough : Suffices limits.players me player kept (m.held player) (commands player)
        (first_of limits.players me kept player) =
        subst (λ (o : List TicCmd). Suffices limits.players me player kept o (commands player)
        (first_of limits.players me kept player)) (sym held)
        (subst (λ (d : List TicCmd). Suffices limits.players me player kept (wary.node.held player) d
        (first_of limits.players me kept player)) (sym (decided_is player))
        (suffices limits.players limits.places me player kept (report_of wary) wary.newest take.made r mine low other
        given take.within (first_of limits.players me kept player) refl)) in
        let end : end_by limits me kept player m ≡ length (commands player) =
        ap (λ (o : List TicCmd). decided_end limits.players me (own_of kept (λ p. length o)) (told_of kept) player) held
        ∙ (agreeing.ends limits.players limits.places me kept wary.gone wary.newest r (report_of wary) refl player low
        other given ∙ ap length (sym (decided_is player))) in
        let room : length (commands player) ≤ ran m + limits.places =
        subst (λ (k : ℕ). length (commands player) ≤ k + limits.places) (sym before.rows) take.room in
        let within : (is_listening m.phase || is_ended m.phase) ≡ false =
        ap (λ (p : Phase). is_listening p || is_ended p) before.phase ∙ in_game wary.node.phase here in
        let same : is_other_end (ran m) (ends_of m player) (length (commands player)) ≡ false = grind arith in
        grind (arith, on_settle, first_of, settles, commands, take.fair)

    all : (bound : ℕ) → bound ≤ limits.players → settled_below limits me kept bound wary.node
        ≡ (settled_to bound wary.gone commands wary.node, Ends.Taken)
    unfolding settled_below settled_to
    all zero most = refl
    all (suc bound) most =
        let before = all bound (omega (arith, most)) in
        let alike : has kept.gone bound ≡ wary.gone bound = r.given_up bound (omega (arith, most)) in
        let so_far : machine.Node = settled_to bound wary.gone commands wary.node in
        grind (arith, cond-true, one, leaves, cond-false)

    -- all of them: the node that has decided
    pub decides : settled_below limits me kept limits.players wary.node
        ≡ (
          settled wary.node wary.gone (on_decision limits.players me (report_of wary)
              (λ player. or_fresh (wary.newest player))),
          Ends.Taken,
        )
    decides = grind (arith, all, in_turn, below)

  -- the test is the same
  pub tests : can_decide limits.players me (own_of kept (λ player. 0)) (nodes_of kept) ≡ can_settle limits me wary
  tests = agreeing.decide limits.players limits.places me kept wary.gone wary.newest r (seen (report_of wary))
      (λ player. 0) (λ p h. refl)

-- One call of the lockstep after another.

-- what two calls make of a node
pub chain : {A B : Type 0} {old mid new : Contents} {done : A} {last : B}
    (first : Limits → ℕ → machine.Node → machine.Node × A) (next : Limits → ℕ → machine.Node × A → machine.Node × B)
    → Steps old mid first (λ a. done ≡ a) → Steps mid new (λ limits me m. next limits me (m, done)) (λ b. last ≡ b)
    → Steps old new (λ limits me m. next limits me (first limits me m)) (λ b. last ≡ b)
chain {A} {B} {old} {mid} {new} {done} {last} first next one two = record {
  same = two.same ∙ one.same;
  step = λ limits me m r.
      let a = one.step limits me m r in
      let P : A → Type 0 = λ x. IsAfter limits me new (next limits me ((first limits me m).0, x)) (λ b. last ≡ b) in
      subst P a.answer (two.step limits me (first limits me m).0 a.node);
}

module _ (limits : Limits) (me : ℕ) (others : Others) (m : machine.Node) where
  pub below_zero : settled_below limits me others 0 m ≡ (m, Ends.Taken)
  unfolding settled_below
  below_zero = refl

  pub below_next : (player : ℕ) → settled_below limits me others (player + 1) m
      ≡ settled_with limits me others player (settled_below limits me others player m)
  unfolding settled_below
  below_next player = rw (add-one player) refl
