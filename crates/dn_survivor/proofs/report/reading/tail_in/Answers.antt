use Rattle.std.proofs.Common.{◌≡◌, ◌+◌, ◌-◌, ◌*◌, ℕ, refl, sym, ◌∙◌, arith, ap, take, drop, flat_map}
use Rattle.dn_tic.specs.Command.{command_bytes}
use Rattle.dn_survivor.specs.ReportBytes.{told_number, IsFirst}
use Rattle.dn_survivor.proofs.ReportBytes.{assembled}
use Rattle.dn_survivor.proofs.report.reading.tail_in.Goals as goal

pub returns-clause-told : goal.returns-clause-told
returns-clause-told c =
    let bytes = c.args.bytes.now in
    let first : IsFirst c.args.before c.args.least bytes = c.fault_in.ensures.none c.in_default.is c.requires in
    let spelled : take (8 * told_number bytes) (drop 6 bytes) ≡ flat_map command_bytes c.commands_in.result.items =
    let size : 6 + 8 * c.from.result - 6 ≡ 8 * told_number bytes = omega (arith, c.from.ensures) in
    ap (λ (k : ℕ). take k (drop 6 bytes)) (sym size) ∙ c.commands_in.ensures.spelled in
    let whole = assembled bytes c.count_in.result c.commands_in.result.items (λ i. omega (arith, c.type_inv.bytes i))
    first.long first.whole c.count_in.ensures spelled in (
      record {
        player = omega (arith, first.player);
        count = omega arith;
        few = omega (arith, whole.0, first.few);
        had = omega (arith, whole.0, first.had, c.count_in.ensures);
        commands = c.commands_in.ensures.valid;
      },
      first,
      refl,
      whole.0,
      whole.1,
    )
