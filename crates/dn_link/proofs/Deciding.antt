-- What each end keeps that a node takes, all keep that it decides; so it has as much after a give-up or a report.
use Rattle.std.proofs.{Common.{◌≡◌, ℕ, false, List, ◌++◌, zero, suc, refl, ap, sym, ◌∙◌, length, Option, Some, None, inl, inr}, lemmas.Bool.{cases_eq, cond_both}}
use Rattle.dn_tic.specs.declared.command.TicCmd.{TicCmd}
use Rattle.dn_machine.specs.{declared.peer.Peer.Peer, Limits.Limits, Settling.settled_one}
use Rattle.dn_machine.proofs.Put.{put_at, put_off}
use Rattle.dn_remain.specs.Vanished.Calls.{can_decide}
use Rattle.dn_lockstep.specs.{Settling.{missing, on_excuse, on_settle, refused_end, settled_unless}, declared.lockstep.settling.Settled.Settled}
use Rattle.dn_survivor.specs.{Calls.{decided_by, end_by, given_up_by, heard_by, settled_below, with_gone}, OfOthers.{commands_of, first_of, has, nodes_of, own_of}, declared.others.Others.Others}
use Rattle.dn_link.proofs.{Growing.{Holds, excuse_holds, holds_on, holds_same, settled_holds}, Sending.resend_of}
use Rattle.dn_machine.specs.Node as machine

module _ (limits : Limits) (me : ℕ) (Keeps : machine.Node → machine.Node → Type 0)
    (same : (m : machine.Node) → Keeps m m)
    (on : (m mid new : machine.Node) → Keeps m mid → Keeps mid new → Keeps m new)
    (one : (m : machine.Node) (player : ℕ) (more : List TicCmd) → Keeps m (settled_one m player (m.held player ++ more))) where
  abbrev IsKept : {A : Type 0} → machine.Node → machine.Node × A → Type 0
  IsKept m after = Keeps m after.0

  unless_keeps : (refused : Option Settled) (m : machine.Node) (player end first : ℕ) (commands : List TicCmd)
      → Keeps m (settled_unless refused m player end first commands).0
  unless_keeps (Some reason) m player end first commands = same m
  unless_keeps None m player end first commands = one m player (missing (machine.got m player) end first commands)

  settle_keeps : (m : machine.Node) (player end first : ℕ) (commands : List TicCmd)
      → Keeps m (on_settle limits me m player end first commands).0
  unfolding on_settle
  settle_keeps m player end first commands =
      unless_keeps (refused_end limits me m player end first commands) m player end first commands

  below_keeps : (others : Others) (bound : ℕ) (m : machine.Node) → Keeps m (settled_below limits me others bound m).0
  unfolding settled_below
  below_keeps others zero m = same m
  below_keeps others (suc player) m =
      let before = (settled_below limits me others player m).0 in
      cond_both (has others.gone player) _ _ (IsKept m)
      (λ gone. on m before _ (below_keeps others player m) (settle_keeps before player
      (end_by limits me others player before) (first_of limits.players me others player)
      (commands_of limits.players me others player)))
      (λ off. below_keeps others player m)

  decided_keeps : (others : Others) (m : machine.Node) → Keeps m (decided_by limits me others m).0
  decided_keeps others m =
      cond_both (can_decide limits.players me (own_of others (λ player. 0)) (nodes_of others)) _ _ (IsKept m)
      (λ all. below_keeps others limits.players m) (λ some. same m)

-- it has as much
pub report_holds : (limits : Limits) (me : ℕ) (others : Others) (m : machine.Node)
    → Holds m (heard_by limits me others m).0
report_holds limits me others m =
    decided_keeps limits me Holds holds_same holds_on (settled_holds limits me) others m

pub give_up_holds : (limits : Limits) (me : ℕ) (others : Others) (player : ℕ) (m : machine.Node)
    → Holds m (given_up_by limits me others player m).0
give_up_holds limits me others player m =
    let mid = (on_excuse limits me m player).0 in
    holds_on m mid (decided_by limits me (with_gone others player) mid).0 (excuse_holds limits me m player)
    (decided_keeps limits me Holds holds_same holds_on (settled_holds limits me) (with_gone others player) mid)

-- and from which tic on a player is sent commands stays
pub report_same : (limits : Limits) (me to : ℕ) (others : Others) (m : machine.Node)
    → resend_of (heard_by limits me others m).0 to ≡ resend_of m to
report_same limits me to others m =
    decided_keeps limits me (λ (a b : machine.Node). resend_of b to ≡ resend_of a to) (λ m. refl)
    (λ a b c first then. then ∙ first) one others m
  where
    one : (m : machine.Node) (player : ℕ) (more : List TicCmd)
        → resend_of (settled_one m player (m.held player ++ more)) to ≡ resend_of m to
    one m player more =
        let peer : Peer = record (m.peers player) { end = Some (length (m.held player ++ more)); want = false } in
        elim (cases_eq to player) [
          | inl at ↦ ap (λ (p : Peer). p.resend) (put_at m.peers player to peer at)
              ∙ ap (λ (k : ℕ). (m.peers k).resend) (sym at)
          | inr off ↦ ap (λ (p : Peer). p.resend) (put_off m.peers player to peer off)
        ]
