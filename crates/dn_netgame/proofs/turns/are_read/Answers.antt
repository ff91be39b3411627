use Rattle.std.proofs.{Common.{◌<◌, arith}, lemmas.List.Elements.All-from_get_or}
use Rattle.dn_netgame.proofs.Turning.{read_and_told}
use Rattle.dn_netgame.proofs.turns.are_read.Goals as goal

pub returns : goal.returns
returns c =
    let bytes = All-from_get_or (λ byte. byte < 256) c.args.bytes.now 0
    (λ i below. omega (arith, c.type_inv.bytes i)) in
    read_and_told c.args.bytes.now (c.every_datagram_is_read.ensures c.args.bytes.now bytes)
    c.every_packet_is_told.ensures
