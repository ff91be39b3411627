-- A packet that comes to a node: what is known of it, and of the peer that is kept.
use Rattle.std.proofs.Common.{◌≡◌, ℕ, ◌<◌, ◌≤◌, refl, sym, ◌∙◌, ap, arith, inl, inr, List, ◌∷◌, length, cond, Bool, true, false, Option, Some, None}
use Rattle.std.proofs.lemmas.{Bool.{cond-true, cond-false}, Option.same_Some}
use Rattle.dn_tic.specs.declared.command.TicCmd.{TicCmd}
use Rattle.dn_machine.specs.{declared.peer.Peer.Peer, Flight.Flight, Flight.is_exit, Flight.end_of, Node.with_peer, Node.ends_of, Node.got, Node.made, Game.Game, Game.with_node, Worlds.Rules}
use Rattle.dn_machine.proofs.{Games.exit_is, Put.{put_off, same_functions}}
use Rattle.dn_remain.specs.{Vanished.Node.Node, Vanished.Commands.Holder, Vanished.Commands.seen, Vanished.Commands.past_seen, Wary.reached, Wary.end_seen, Wary.rows_to, Wary.holder_of, Wary.now_of}
use Rattle.dn_remain.proofs.{Vanished.Invariant.IsLater, Vanished.Invariant.IsKept, Vanished.Always.always, Vanished.Handing.was_seen, Vanished.Put.at_put, Seeing.same_holder, Seeing.reached_cases, Known.IsTold, Known.IsEnd, Known.Follows, Known.IsFit, Known.Went, Following.stays}
use Rattle.dn_machine.specs.Node as machine

module _ {S : Type 0} {known : ℕ → Holder TicCmd → Type 0} {rules : Rules S} {game : Game} {gone : ℕ → ℕ → Bool} {older : List (ℕ → Holder TicCmd)}
    (follows : Follows known rules game gone older) {flight : Flight}
    (told : IsTold rules.players (now_of game gone ∷ older) flight)
    (open_from : gone flight.to flight.from ≡ false) where
  kept : IsKept rules.players (past_seen (now_of game gone ∷ older))
  kept = always rules.players rules.ahead (past_seen (now_of game gone ∷ older)) follows.run

  order : is_exit flight.kind ≡ true → IsLater rules.players (past_seen (now_of game gone ∷ older)) flight.from
      (seen told.state) (seen (now_of game gone flight.from))
  order x = kept.order flight.from (seen told.state)
      (was_seen (now_of game gone ∷ older) flight.from told.state (told.exit (exit_is flight.kind x)).2)

  -- what the sender of an EXIT packet is
  pub end_is : is_exit flight.kind ≡ true → IsEnd game.nodes gone flight.to flight.from (end_of flight)
  end_is x =
      let ex = told.exit (exit_is flight.kind x) in
      let same = (order x).left ex.0 in (
        told.apart,
        ap (λ (n : Node). n.left) same ∙ ex.0,
        ap (λ (n : Node). n.gone flight.to) same ∙ told.open_to,
        ex.1 ∙ sym (ap (λ (n : Node). n.got flight.from) same),
      )

  pub made_it : end_of flight ≤ length ((game.nodes flight.from).held flight.from)
  made_it =
      let a : length (told.state.held flight.from) ≤ length ((game.nodes flight.from).held flight.from) =
      (kept.sound told.by (seen told.state) (was_seen (now_of game gone ∷ older) told.by told.state told.had)).made
      flight.from in
      omega (arith, told.reaches)

  pub below_made : got (game.nodes flight.to) flight.from ≤ length ((game.nodes flight.from).held flight.from)
  below_made = (kept.sound flight.to (seen (now_of game gone flight.to)) (inl refl)).made flight.from

  -- no end is reached while commands are missing
  pub unknown : got (game.nodes flight.to) flight.from < end_of flight
      → end_seen (game.nodes flight.to) flight.from ≡ None
  unknown l = elim (reached_cases (got (game.nodes flight.to) flight.from) (ends_of (game.nodes flight.to) flight.from)) [
    | inl none ↦ none.0
    | inr some ↦
        let k = (follows.ends flight.to flight.from some.0 some.1 open_from).3 in
        let m = some.3 in
        let n = made_it in
        absurd (omega arith)
  ]

  pub end_known : (peer : Peer)
      → peer.end ≡ cond (is_exit flight.kind) (Some (end_of flight)) (ends_of (game.nodes flight.to) flight.from)
      → (e : ℕ) → peer.end ≡ Some e → IsEnd game.nodes gone flight.to flight.from e
  end_known peer t e s = grind (arith, IsEnd, same_Some, cond-true, end_is, cond-false)

  pub fit_peer : (held : ℕ → List TicCmd) (peer : Peer) → held flight.to ≡ (game.nodes flight.to).held flight.to
      → peer.resend ≤ made flight.to (game.nodes flight.to)
      → ((e : ℕ) → peer.end ≡ Some e → IsEnd game.nodes gone flight.to flight.from e)
      → IsFit rules.limits game.nodes gone flight.to (gone flight.to)
      (record (with_peer (game.nodes flight.to) flight.from peer) { held = held })
  fit_peer held peer same low is =
      let peers : ℕ → Peer = (game.nodes flight.to).peers in
      let c = ap (length {A = TicCmd}) same in
      record {
        rows = inl refl;
        ends = λ p e. at_put (λ p o. o.end ≡ Some e → gone flight.to p ≡ false → IsEnd game.nodes gone flight.to p e)
            peers flight.from peer (λ s f. is e s) (λ p n. follows.ends flight.to p e) p;
        endless = ap (λ (o : Peer). o.end) (put_off peers flight.from flight.to peer (λ e. told.apart (sym e)))
            ∙ follows.endless flight.to;
        resend = at_put (λ to o. o.resend ≤ length (held flight.to)) peers flight.from peer (omega arith)
            (λ to n. let b = follows.resend flight.to to in omega arith);
      }

  -- a peer is kept with which nothing else is seen
  pub quiet : (peer : Peer) → peer.resend ≤ made flight.to (game.nodes flight.to)
      → ((e : ℕ) → peer.end ≡ Some e → IsEnd game.nodes gone flight.to flight.from e)
      → reached (got (game.nodes flight.to) flight.from) peer.end ≡ end_seen (game.nodes flight.to) flight.from
      → Went known rules (with_node game flight.to (with_peer (game.nodes flight.to) flight.from peer)) gone
  quiet peer low is same =
      let new : machine.Node = with_peer (game.nodes flight.to) flight.from peer in
      let ends : end_seen new ≡ end_seen (game.nodes flight.to) =
      same_functions (at_put (λ p o. reached (got (game.nodes flight.to) p) o.end ≡ end_seen (game.nodes flight.to) p)
      (game.nodes flight.to).peers flight.from peer same (λ p n. refl)) in (
        older,
        stays follows flight.to new (fit_peer (game.nodes flight.to).held peer refl low is)
            (same_holder (holder_of new (gone flight.to)) _ refl ends refl refl
            (ap (λ (e : ℕ → Option ℕ). rows_to e (machine.ran (game.nodes flight.to))) ends)),
      )
