use Rattle.std.proofs.Common.{◌∙◌, sym, arith}
use Rattle.dn_lockstep.proofs.Lowest.{lowest_found}
use Rattle.dn_survivor.specs.Surviving.{surviving, is_unsettled}
use Rattle.dn_survivor.proofs.Lowest.{fails_next, lowest_none}
use Rattle.dn_survivor.proofs.survivor.Survivor.unsettled.Goals as goal

pub loop-player-preserved : goal.loop-player-preserved
loop-player-preserved c =
    fails_next c.loop-player.player (is_unsettled (surviving c.args.self.now)) c.loop-player.invariant
    (sym c.is_unsettled.ensures ∙ c.if-is_unsettled.false)

pub returns-then-is_unsettled : goal.returns-then-is_unsettled
returns-then-is_unsettled c =
    let test = is_unsettled (surviving c.args.self.now) in
    sym (lowest_found c.args.self.now.lockstep.players c.loop-player.player test (omega arith)
    (lowest_none c.loop-player.player test c.loop-player.invariant)
    (sym c.is_unsettled.ensures ∙ c.if-is_unsettled.true))
