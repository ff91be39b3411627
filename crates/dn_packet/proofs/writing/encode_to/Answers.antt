use Rattle.std.proofs.Common.{ap, ◌∙◌, subst, append-nil}
use Rattle.dn_packet.specs.{declared.packet.Packet.Packet, Text.{text, packet_with}, Written.IsWritten}
use Rattle.dn_packet.proofs.writing.encode_to.Goals as goal

pub returns : goal.returns
returns c =
    let P : Packet → Type 0 = λ p. IsWritten (text p) c.args.room.now c.encode_parts.new.room
    c.encode_parts.result in
    subst P (ap (packet_with c.head.result) (append-nil _ ∙ c.as_slice.ensures.value) ∙ c.head.ensures)
    c.encode_parts.ensures
