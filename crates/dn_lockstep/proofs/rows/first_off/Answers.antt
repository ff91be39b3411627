use Rattle.std.proofs.Common.{rules, arith}
use Rattle.dn_machine.proofs.Truth.{lowest_none_each}
use Rattle.dn_lockstep.specs.{Tables.{ring_at, peer_at}, Rows.is_missing}
use Rattle.dn_lockstep.proofs.Lowest.{lowest_zero, lowest_past, lowest_found}
use Rattle.dn_lockstep.proofs.rows.first_off.Goals as goal

pub is_differing-requires-clause-there : goal.is_differing-requires-clause-there
is_differing-requires-clause-there c =
    lowest_none_each c.args.players (is_missing (ring_at c.args.rings.now) (peer_at c.args.peers.now) c.args.tic)
    c.requires.there c.loop-player.player (search rules)

pub loop-player-init : goal.loop-player-init
loop-player-init c = lowest_zero _

pub returns-then-is_differing-clause-lowest : goal.returns-then-is_differing-clause-lowest
returns-then-is_differing-clause-lowest c = grind (arith, lowest_found)

pub loop-player-preserved : goal.loop-player-preserved
loop-player-preserved c = grind (arith, lowest_past)
