use Rattle.dn_engine_tests.proofs.playing.play_table.Goals as goal

pub loop-event-preserved : goal.loop-event-preserved
loop-event-preserved g c = c.apply.ensures c.args.host.now.secret c.loop-event.invariant

pub returns-clause-agreed : goal.returns-clause-agreed
returns-clause-agreed g c = λ apart begun.
    c.tables_agree.ensures c.args.host.now.secret c.loop-event.table c.loop-event.invariant apart begun
