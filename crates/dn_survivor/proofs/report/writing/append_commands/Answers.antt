use Rattle.std.proofs.Common.{◌++◌, ℕ, List, length, ap, sym, ◌∙◌, arith, length-append, append-nil}
use Rattle.dn_tic.specs.Command.{command_bytes}
use Rattle.dn_survivor.proofs.ReportBytes.{one_more}
use Rattle.dn_survivor.proofs.report.writing.append_commands.Goals as goal

pub loop-command-init : goal.loop-command-init
loop-command-init c = record { so_far = sym (append-nil _); long = omega arith }

pub append-requires : goal.append-requires
append-requires c =
    omega (arith, c.loop-command.invariant.long, c.requires, c.loop-command-test.true, ap (length {A = ℕ}) c.to_bytes.ensures)

pub loop-command-preserved : goal.loop-command-preserved
loop-command-preserved c =
    let inv = c.loop-command.invariant in
    record {
      so_far = one_more command_bytes c.args.bytes.now.items c.args.commands.now _ _ c.loop-command.bytes.items _
          c.loop-command-test.true inv.so_far
          (c.append.ensures ∙ ap (λ (bs : List ℕ). c.loop-command.bytes.items ++ bs) c.to_bytes.ensures);
      long = omega (
        arith,
        inv.long,
        ap (length {A = ℕ}) c.append.ensures,
        length-append c.loop-command.bytes.items c.to_bytes.result,
        ap (length {A = ℕ}) c.to_bytes.ensures,
      );
    }
