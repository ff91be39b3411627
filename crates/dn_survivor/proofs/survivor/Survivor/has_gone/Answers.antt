use Rattle.std.proofs.Common.{◌∙◌, sym, ap, arith, is_some}
use Rattle.dn_lockstep.proofs.Lowest.{lowest_found}
use Rattle.dn_survivor.specs.Surviving.{surviving, has_given_up}
use Rattle.dn_survivor.proofs.Lowest.{lowest_none}
use Rattle.dn_survivor.proofs.survivor.Survivor.has_gone.Goals as goal

pub returns-then-has_given_up : goal.returns-then-has_given_up
returns-then-has_given_up c =
    let test = has_given_up (surviving c.args.self.now) in
    let found = lowest_found c.args.self.now.lockstep.players c.loop-player.player test (omega arith)
    (lowest_none c.loop-player.player test c.loop-player.invariant)
    (sym c.has_given_up.ensures ∙ c.if-has_given_up.true) in
    sym (ap is_some found)
