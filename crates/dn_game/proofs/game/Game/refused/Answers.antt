use Rattle.std.proofs.Common.{◌≡◌, true, ℕ, ap, sym, ◌∙◌, nat_lt}
use Rattle.dn_machine.specs.Game.{refused}
use Rattle.dn_game.proofs.{Applying.{refused_send, refused_own}, game.Game.refused.Goals.{in-Build, in-Build-2, in-Build-3, in-Build-4, in-Build-5}}
use Rattle.dn_game.proofs.game.Game.refused.Goals as goal

pub returns-in-Send-2-clause-told : goal.returns-in-Send-2-clause-told
returns-in-Send-2-clause-told g c players extra capacity m r =
    let same : c.in-Send.to ≡ c.in-Send-2.to = cc in
    let there : nat_lt c.in-Send-2.to players ≡ true =
    ap (λ (k : ℕ). nat_lt k players) (sym same) ∙ sym (ap (nat_lt c.in-Send.to) r.players)
    ∙ sym c.is_player.ensures ∙ c.if-not-is_player.false in
    c.refused_at.ensures.told players extra capacity m r ∙ refused_send players m _ _ there
    ∙ ap (refused players m) (sym c.in-Send-2.is)

pub returns-in-Deliver-clause-told : goal.returns-in-Deliver-clause-told
returns-in-Deliver-clause-told g c players extra capacity m r =
    c.refused_flight.ensures.told players extra capacity m r ∙ ap (refused players m) (sym c.in-Deliver.is)

pub returns-in-Build-clause-told : goal.returns-in-Build-clause-told
returns-in-Build-clause-told g c players extra capacity m r =
    let told = c.refused_at-in-Build.ensures.told players extra capacity m r in
    elim c.in-Build-1.branch [
      | in-Build w ↦ told ∙ refused_own players m _ _ _ w.node-is w.in-Build.is
      | in-Build-2 w ↦ told ∙ refused_own players m _ _ _ w.node-is w.in-Build.is
      | in-Build-3 w ↦ told ∙ refused_own players m _ _ _ w.node-is w.in-Build.is
      | in-Build-4 w ↦ told ∙ refused_own players m _ _ _ w.node-is w.in-Build.is
      | in-Build-5 w ↦ told ∙ refused_own players m _ _ _ w.node-is w.in-Build.is
    ]
