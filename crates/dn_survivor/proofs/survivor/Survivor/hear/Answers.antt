use Rattle.std.proofs.{Common.{◌≡◌, ◌∙◌, Option, None, ap, sym, subst, refl, true, false}, lemmas.Option.none-some}
use Rattle.dn_lockstep.specs.{Settling.is_no_peer, Steps.Steps}
use Rattle.dn_lockstep.proofs.After.{steps}
use Rattle.dn_survivor.specs.{declared.others.Others.Others, OfOthers.reported_as, Calls.HearsReportUnless, Calls.reported_by, Calls.refused_report, Calls.unkept, Calls.decided_by}
use Rattle.dn_survivor.specs.{Surviving.surviving, declared.answers.Reported.Reported}
use Rattle.dn_remain.specs.Wary.{is_in_game}
use Rattle.dn_survivor.specs.declared.others.hearing.Reported as noted
use Rattle.dn_survivor.proofs.survivor.Survivor.hear.Goals as goal

-- what is kept is so by what is kept of the others
kept_is : (n : noted.Reported) → unkept n ≡ None → n ≡ noted.Reported.Kept
kept_is noted.Reported.Kept e = refl
kept_is noted.Reported.GivenUp e = absurd (none-some _ (sym e))
kept_is noted.Reported.Excluded e = absurd (none-some _ (sym e))
kept_is noted.Reported.Improper e = absurd (none-some _ (sym e))
kept_is noted.Reported.Stale e = absurd (none-some _ (sym e))

pub returns-clause-hears : goal.returns-clause-hears
returns-clause-hears c =
    let from = c.args.from in
    let report = c.args.report in
    let old = surviving c.args.self.now in
    let new = surviving c.decide.new.self in
    let here : is_in_game old.lockstep.phase ≡ true = sym c.is_in_game.ensures ∙ c.if-not-is_in_game.false in
    let peer : is_no_peer old.lockstep.players old.lockstep.me from ≡ false =
    sym c.is_no_peer.ensures ∙ c.if-is_no_peer.false in
    let note : c.hear.result ≡ reported_as old.lockstep.players old.lockstep.me old.others from report =
    c.hear.ensures.answer
    ∙ (λ i. reported_as (c.players-players.ensures i) (c.me-me.ensures i) old.others from report) in
    let unrefused : unkept c.hear.result ≡ None = sym c.unkept.ensures ∙ c.in_default.is in
    let none : refused_report old from report ≡ None = rw (here, peer) (ap unkept (sym note) ∙ unrefused) in
    let put = c.hear.ensures.kept (kept_is c.hear.result unrefused) in
    let step = subst (λ (o : Others). Steps old.lockstep new.lockstep
    (λ limits me m. decided_by limits me o m) (λ ends. c.decide.result ≡ ends)) put c.decide.ensures.step in
    subst (λ (o : Option Reported). HearsReportUnless o from report old new c.reported_by.result) (sym none) (
      c.decide.ensures.others ∙ put,
      steps step.same (λ limits me m r.
          let s = step.step limits me m r in
          record { node = s.node; answer = c.reported_by.ensures.is ∙ ap reported_by s.answer }),
    )
