use Rattle.std.proofs.Common.{ℕ, List, ◌∙◌, ap, subst}
use Rattle.dn_packet.specs.{Text.text, Written.IsWritten}
use Rattle.zirmegat.proofs.packets.zmg_packet_encode.Goals as goal

pub returns-clause-written : goal.returns-clause-written
returns-clause-written c flags few room =
    let P : List ℕ → Type 0 = λ bytes. IsWritten bytes c.args.out.now c.write.new.out c.write.result in
    subst P (c.as_slice.ensures.value ∙ (c.encode-text.ensures ∙ ap text c.packet.ensures)) c.write.ensures
