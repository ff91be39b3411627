use Rattle.std.proofs.Common.{◌<◌, append-nil, inl, refl, ap, sym, ◌∙◌, subst, arith, length}
use Rattle.dn_machine.specs.{declared.events.Done.Done, Game.refused, Worlds.rules_of}
use Rattle.dn_game.specs.{Contents.contents, Applied.IsAddressed, Frame.named_by}
use Rattle.dn_game.proofs.{Applying.{after_refused, after_event, after_send, stops}, Framing.{rest_all, rest_as, rest_step, run_keeps}, Leading.{leads_on, step_leads}}
use Rattle.dn_node.proofs.Stepping.{whose_step}
use Rattle.dn_game.proofs.game.Game.apply.Goals as goal

pub returns-in-Some-clause-leads : goal.returns-in-Some-clause-leads
returns-in-Some-clause-leads g c = leads_on _ _ _ _ _ _ (λ players extra capacity m r.
    inl (after_refused _ (rules_of g.W.World.physics players extra capacity) _ m _ _
    (c.in-Some.ensures.told players extra capacity m r) r))

pub returns-in-Send-clause-leads : goal.returns-in-Send-clause-leads
returns-in-Send-clause-leads g c = leads_on _ _ _ _ _ _ (λ players extra capacity m r.
    after_send _ (rules_of g.W.World.physics players extra capacity) _ m _ _ _ _ _ c.in-Send.is
    (c.in_default.ensures.told players extra capacity m r) (c.send.ensures.sent players extra capacity m r))

pub returns-in-Build-clause-leads : goal.returns-in-Build-clause-leads
returns-in-Build-clause-leads g c =
    step_leads _ _ _ _ _ _ _ _ _ _ Done.Built c.in_default.ensures.told (c.in_default.ensures.there refl) c.in-Build.is (λ h. h)
    c.index_mut.ensures.value c.build.ensures.step.step (λ limits m. refl)

pub returns-in-Give-clause-leads : goal.returns-in-Give-clause-leads
returns-in-Give-clause-leads g c =
    step_leads _ _ _ _ _ _ _ _ _ _ Done.Built c.in_default.ensures.told (c.in_default.ensures.there refl) c.in-Give.is (λ h. h)
    c.index_mut-in-Give.ensures.value c.give.ensures.step.step (λ limits m. refl)

pub returns-in-Deliver-clause-leads : goal.returns-in-Deliver-clause-leads
returns-in-Deliver-clause-leads g c = leads_on _ _ _ _ _ _ (λ players extra capacity m r.
    let told = c.in_default.ensures.told players extra capacity m r in
    inl (after_event _ (rules_of g.W.World.physics players extra capacity) _ m _ _ c.in-Deliver.is _ told
    (c.deliver.ensures.heard players extra capacity m r (sym (told ∙ ap (refused players m) c.in-Deliver.is)))))

pub returns-in-Run-clause-leads : goal.returns-in-Run-clause-leads
returns-in-Run-clause-leads g c =
    step_leads _ _ _ _ _ _ _ _ _ _ Done.Ran c.in_default.ensures.told (c.in_default.ensures.there refl) c.in-Run.is (λ h. h)
    c.index_mut-in-Run.ensures.value c.run.ensures.step.step (λ limits m. refl)

pub returns-in-Quit-clause-leads : goal.returns-in-Quit-clause-leads
returns-in-Quit-clause-leads g c =
    step_leads _ _ _ _ _ _ _ _ _ _ Done.Quit c.in_default.ensures.told (c.in_default.ensures.there refl) c.in-Quit.is (λ h. h)
    c.index_mut-in-Quit.ensures.value c.quit.ensures.step.step (λ limits m. refl)

pub returns-in-Stop-clause-leads : goal.returns-in-Stop-clause-leads
returns-in-Stop-clause-leads g c =
    let n = c.args.self.now in
    let below : c.in-Stop.node < length n.nodes.items =
    subst (IsAddressed (contents n)) c.in-Stop.is (c.in_default.ensures.there refl) in
    leads_on _ _ _ _ _ _ (λ players extra capacity m r.
    inl (after_event _ (rules_of g.W.World.physics players extra capacity) _ m _ _ c.in-Stop.is _
    (c.in_default.ensures.told players extra capacity m r) (stops _ _ _ m _ r (omega (arith, below, n.few)))))

pub returns-in-Build-clause-whose : goal.returns-in-Build-clause-whose
returns-in-Build-clause-whose g c = whose_step _ _ _ _ c.index_mut.ensures.value c.build.ensures.step.same

pub returns-in-Give-clause-whose : goal.returns-in-Give-clause-whose
returns-in-Give-clause-whose g c = whose_step _ _ _ _ c.index_mut-in-Give.ensures.value c.give.ensures.step.same

pub returns-in-Run-clause-whose : goal.returns-in-Run-clause-whose
returns-in-Run-clause-whose g c = whose_step _ _ _ _ c.index_mut-in-Run.ensures.value c.run.ensures.step.same

pub returns-in-Quit-clause-whose : goal.returns-in-Quit-clause-whose
returns-in-Quit-clause-whose g c = whose_step _ _ _ _ c.index_mut-in-Quit.ensures.value c.quit.ensures.step.same

pub returns-in-Some-clause-rest : goal.returns-in-Some-clause-rest
returns-in-Some-clause-rest g c = rest_all _ _ _ _ refl refl

pub returns-in-Send-clause-rest : goal.returns-in-Send-clause-rest
returns-in-Send-clause-rest g c = grind (arith, rest_as)

pub returns-in-Build-clause-rest : goal.returns-in-Build-clause-rest
returns-in-Build-clause-rest g c =
    rest_step _ _ _ _ _ _ (ap (named_by (contents c.args.self.now)) c.in-Build.is) c.index_mut.ensures.value
    (λ moves. c.build.ensures.world)

pub returns-in-Give-clause-rest : goal.returns-in-Give-clause-rest
returns-in-Give-clause-rest g c =
    rest_step _ _ _ _ _ _ (ap (named_by (contents c.args.self.now)) c.in-Give.is) c.index_mut-in-Give.ensures.value
    (λ moves. c.give.ensures.world)

pub returns-in-Deliver-clause-rest : goal.returns-in-Deliver-clause-rest
returns-in-Deliver-clause-rest g c = grind (arith, rest_as, append-nil)

pub returns-in-Run-clause-rest : goal.returns-in-Run-clause-rest
returns-in-Run-clause-rest g c =
    rest_step _ _ _ _ _ _ (ap (named_by (contents c.args.self.now)) c.in-Run.is) c.index_mut-in-Run.ensures.value
    (λ moves. c.run.ensures.world (run_keeps _ moves))

pub returns-in-Quit-clause-rest : goal.returns-in-Quit-clause-rest
returns-in-Quit-clause-rest g c =
    rest_step _ _ _ _ _ _ (ap (named_by (contents c.args.self.now)) c.in-Quit.is) c.index_mut-in-Quit.ensures.value
    (λ moves. c.quit.ensures.world)

pub returns-in-Stop-clause-rest : goal.returns-in-Stop-clause-rest
returns-in-Stop-clause-rest g c = rest_all _ _ _ _ refl refl
