use Rattle.std.proofs.Common.{refl, [], ℕ, List, arith}
use Rattle.dn_packet.specs.Written.{IsFront}
use Rattle.dn_packet.proofs.Fronts.{parts_written}
use Rattle.dn_packet.proofs.writing.encode_parts.Goals as goal

pub returns : goal.returns
returns c =
    let old : List ℕ = c.args.room.now in
    let nothing : IsFront [] old old 0 0x1234567 = record {
      written = (refl, refl);
      whole = refl;
      total =
          refl;
    } in
    let begun = c.write_eight-begun.ensures.more [] old nothing in
    let part = c.write_commands-part.ensures.more _ old begun in
    parts_written c.args.head.now c.args.first.now c.args.second.now _ _ _ _ _ old
    c.write_commands-sum.new.room _
    c.from.ensures refl (omega arith) (c.write_commands-sum.ensures.more _ old part) c.write_u32.ensures
