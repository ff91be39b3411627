use Rattle.std.proofs.Common.{◌≡◌, ◌<◌, length, Some, ap, sym, ◌∙◌, rules}
use Rattle.dn_game.proofs.{Packing.is_told, Standing.there_is}
use Rattle.dn_game.proofs.pool.Pool.flight.Goals as goal

pub returns : goal.returns
returns c =
    let below : c.args.which < length c.args.self.now.flights = search rules in
    let at = there_is _ _ below in
    let read : c.try_extend_from_slice.new.self.items ≡ c.datagram.result.now = search rules in
    ap Some (is_told at.0 _ _ (c.record-record.ensures at.0 at.1) (read ∙ c.datagram.ensures.bytes at.0 at.1))
    ∙ sym at.1
