use Rattle.std.proofs.Common.{rules, arith, ◌≤◌, ◌+◌, length}
use Rattle.dn_demo.specs.{Layout.long_tics, Text.row_bytes}
use Rattle.dn_demo.proofs.Text.{long_tics_sound, length-row_bytes}
use Rattle.dn_demo.proofs.recorder.Recorder.row.Goals as goal

pub returns-then-len-row_size-clause-size : goal.returns-then-len-row_size-clause-size
returns-then-len-row_size-clause-size c = length-row_bytes long_tics _ _ long_tics_sound c.requires.row.seats

pub add_row-requires-clause-room : goal.add_row-requires-clause-room
add_row-requires-clause-room c =
    let fits : length c.args.self.now.bytes + length (row_bytes long_tics c.args.moves.now) + 1
    ≤ c.args.self.now.limit = search rules in
    omega (arith, fits, length-row_bytes long_tics _ _ long_tics_sound c.requires.row.seats)

pub returns-then-len-row_size-clause-fits : goal.returns-then-len-row_size-clause-fits
returns-then-len-row_size-clause-fits c = search rules

pub returns-then-len-row_size-clause-written : goal.returns-then-len-row_size-clause-written
returns-then-len-row_size-clause-written c = search rules

pub returns-then-len-row_size-clause-text : goal.returns-then-len-row_size-clause-text
returns-then-len-row_size-clause-text c = search rules
