use Rattle.std.proofs.Common.{rules, arith}
use Rattle.dn_demo.specs.Layout.{long_tics}
use Rattle.dn_demo.proofs.Text.{long_tics_sound, text-row, length-row_bytes}
use Rattle.dn_demo.proofs.recorder.Recorder.add_row.Goals as goal

pub add_all-requires-clause-room : goal.add_all-requires-clause-room
add_all-requires-clause-room c = omega (arith, length-row_bytes long_tics _ _ long_tics_sound c.requires.row.seats)

pub returns-clause-size : goal.returns-clause-size
returns-clause-size c = length-row_bytes long_tics _ _ long_tics_sound c.requires.row.seats

pub returns-clause-text : goal.returns-clause-text
returns-clause-text c = text-row _ _ _ (search rules)
