use Rattle.dn_engine_tests.specs.Tables.{IsTable}
use Rattle.dn_engine_tests.proofs.playing.play_table.Given as goal

abbrev pub invariant-loop-event : goal.invariant-loop-event
invariant-loop-event g l = IsTable g.W.World.state g.W.World.physics l.fn.host.secret l.table
