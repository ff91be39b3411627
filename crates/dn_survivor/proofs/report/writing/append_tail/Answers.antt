use Rattle.std.proofs.Common.{◌∷◌, [], ℕ, length, ap, arith, length-append, flat_map}
use Rattle.dn_tic.specs.Command.{command_bytes}
use Rattle.dn_packet.proofs.Texts.{length-commands}
use Rattle.dn_survivor.proofs.report.writing.append_tail.Goals as goal

pub returns-clause-long : goal.returns-clause-long
returns-clause-long c =
    let commands = c.as_slice.result.now in
    omega (
      arith,
      ap (length {A = ℕ}) c.append.ensures,
      length-append c.args.bytes.now.items (c.args.tail.now.player ∷ []),
      ap (length {A = ℕ}) c.append-2.ensures,
      length-append c.append.new.bytes.items c.to_le_bytes.result,
      ap (length {A = ℕ}) c.to_le_bytes.ensures,
      ap (length {A = ℕ}) c.append-3.ensures,
      length-append c.append-2.new.bytes.items (c.len.result ∷ []),
      ap (length {A = ℕ}) c.append_commands.ensures,
      length-append c.append-3.new.bytes.items (flat_map command_bytes commands),
      length-commands commands,
      c.as_slice.ensures.fits,
    )
