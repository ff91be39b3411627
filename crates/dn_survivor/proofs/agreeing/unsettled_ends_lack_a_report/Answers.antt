-- Whose end is not settled, in a game of survivors.
use Rattle.std.proofs.Common.{◌≡◌, ◌<◌, ℕ, true, false, refl, ap, sym, ◌∙◌, arith, inl, inr, Some, None, slice_get}
use Rattle.std.proofs.lemmas.{Bool.{cases_Bool, cond-false, ne_eqb}, Option.none-some}
use Rattle.dn_setup.specs.Settings.{Settings}
use Rattle.dn_machine.specs.{Limits.Limits, Node.{ends_of, lowest}}
use Rattle.dn_lockstep.specs.Marking.{Marking}
use Rattle.dn_remain.specs.{Remaining.wary_of, Wary.{end_seen, reached, Wary, can_settle, on_give_up, on_report}}
use Rattle.dn_remain.proofs.Seeing.{reached_some}
use Rattle.dn_survivor.specs.{Calls.GivesUp, Calls.HearsReport, Calls.undecided_in, Calls.unsettled_in, OneGame.AreRemaining, Represents.Represents, Represents.given_up_is, Represents.reported_is, OneGame.Given}
use Rattle.dn_survivor.specs.{OneGame.Session, Surviving.Surviving, Surviving.is_unsettled, declared.answers.GivenUp.GivenUp, declared.answers.Reported.Reported}
use Rattle.dn_survivor.proofs.{Lowest.lowest_none, Pairs.known}
use Rattle.dn_machine.specs.Node as machine
use Rattle.dn_remain.specs.declared.events.GivenUp as remain_given
use Rattle.dn_remain.specs.declared.events.Reported as remain_reported
use Rattle.dn_remain.proofs.Answering as answering
use Rattle.dn_survivor.proofs.OneGame as game_of
use Rattle.dn_survivor.proofs.Steps as steps
use Rattle.dn_survivor.proofs.agreeing.unsettled_ends_lack_a_report.Goals as goal

-- where the node has settled the ends of all whom it has given up, none is left
module _ (limits : Limits) (me : ℕ) (now : Surviving) (wary : Wary) (r : Represents limits me now wary)
    (settled : (p : ℕ) → wary.gone p ≡ true → end_seen wary.node p ≡ Some (machine.got wary.node p)) where
  one : (p : ℕ) → p < limits.players → is_unsettled now p ≡ false
  one p low = grind (arith, cond-false, ne_eqb)

  none : unsettled_in now ≡ None
  none = grind (arith, lowest_none, one)

given_is : (answer : remain_given.GivenUp) → GivenUp.Decided ≡ given_up_is answer
    → answer ≡ remain_given.GivenUp.Decided
given_is answer e = grind (arith, e)

told_is : (answer : remain_reported.Reported) → Reported.Decided ≡ reported_is answer
    → answer ≡ remain_reported.Reported.Decided
told_is answer e = grind (arith, e)

-- an end behind all commands is seen
seen_at : (m : machine.Node) (p : ℕ) → ends_of m p ≡ Some (machine.got m p) → end_seen m p ≡ Some (machine.got m p)
seen_at m p is = ap (reached (machine.got m p)) is ∙ reached_some (machine.got m p) (machine.got m p) (omega arith)

module _ (marking : Marking) (limits : Limits) (settings : Settings) (session : Session) where
  -- who has an end that is not settled lacks a report
  lacks : (q p : ℕ) (game : AreRemaining marking limits settings session) → q < limits.players
      → unsettled_in (session.survivors q) ≡ Some p → (r : ℕ) × (undecided_in (session.survivors q) ≡ Some r)
  lacks q p game mine is = elim (cases_Bool (can_settle limits q (wary_of game.last q))) [
    | inr cannot ↦
        let k = answering.missing limits q (wary_of game.last q) (wary_of game.last q) refl cannot in
        (k.0, steps.asked limits q (session.survivors q) (wary_of game.last q) (game.nodes q mine) ∙ k.1)
    | inl can ↦
        let gone = none limits q (session.survivors q) (wary_of game.last q) (game.nodes q mine)
        ((known marking limits settings session game).1.settled q can) in
        absurd (none-some p (sym gone ∙ is))
  ]

  decided : (q player : ℕ) (new : Surviving) (game : AreRemaining marking limits settings session)
      → q < limits.players → GivesUp player (session.survivors q) new GivenUp.Decided → unsettled_in new ≡ None
  decided q player new game mine by =
      let is = game_of.gave_up_is marking limits settings game q mine player new GivenUp.Decided by in
      let w : Wary = (on_give_up limits q (wary_of game.last q) player).0 in
      none limits q new w is.0 (λ p gone. seen_at w.node p (answering.decides limits q (wary_of game.last q) player
      (given_is _ is.1) p gone))

  reported : (which : ℕ) (given : Given) (new : Surviving) (game : AreRemaining marking limits settings session)
      → slice_get session.reports which ≡ Some given
      → HearsReport given.from given.report (session.survivors given.to) new Reported.Decided
      → unsettled_in new ≡ None
  reported which given new game at by =
      let is = game_of.reported marking limits settings game which given at new Reported.Decided by in
      let w : Wary = (on_report limits given.to (wary_of game.last given.to) given.from
      (game_of.holder marking limits settings game which given at)).0 in
      none limits given.to new w is.0 (λ p gone. seen_at w.node p (answering.decides_on limits given.to
      (wary_of game.last given.to) given.from (game_of.holder marking limits settings game which given at)
      (told_is _ is.1) p gone))

pub returns : goal.returns
returns c = record { lacks = lacks; gave_up = decided; reported = reported }
