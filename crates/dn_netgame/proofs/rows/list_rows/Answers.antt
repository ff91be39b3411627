use Rattle.std.proofs.Common.{rules, ◌≡◌, length, take, arith, Err}
use Rattle.std.specs.{String.string_bytes, Io.KnownBytes.Appends}
use Rattle.dn_netgame.specs.{Transfer.AppendsFront, declared.transfer.RunFault.TheVariants.Write}
use Rattle.dn_netgame.proofs.{Pieces.up_to_full, RowPieces.{lists_whole, lists_more, lists_all, lists_front}}
use Rattle.dn_netgame.proofs.rows.list_rows.Goals as goal

pub returns-in_err-count-clause-fails : goal.returns-in_err-count-clause-fails
returns-in_err-count-clause-fails g c =
    let n = length (take c.min-room.result c.loop-alloc.piece) in
    let size : n ≡ c.min-room.result = search rules in
    let fewer = c.in_err-count.ensures.fewer in
    let whole = lists_whole _ _ _ _ _ c.loop-alloc.invariant n (omega (arith, size)) _ fewer.bytes
    (omega (arith, size)) (omega (arith, c.loop-alloc-test.true)) fewer.taken (omega (arith, fewer.fewer)) in
    search rules

pub returns-in_err-text-clause-fails : goal.returns-in_err-text-clause-fails
returns-in_err-text-clause-fails g c =
    let n = length (take c.min-room.result c.loop-alloc.piece) in
    let size : n ≡ c.min-room.result = search rules in
    let up = c.in_ok-count.ensures.bytes in
    let whole = lists_whole _ _ _ _ _ c.loop-alloc.invariant n (omega (arith, size)) _
    (take c.in_ok-count.count c.fill.new.buffer) (omega (arith, size)) (omega (arith, c.loop-alloc-test.true))
    up.taken up.within in
    search rules

pub returns-in_err-put-clause-fails : goal.returns-in_err-put-clause-fails
returns-in_err-put-clause-fails g c =
    let n = length (take c.min-room.result c.loop-alloc.piece) in
    let size : n ≡ c.min-room.result = search rules in
    let told = c.in_ok-text.ensures in
    let front : AppendsFront (g.W.Write.contents c.loop-alloc.output) (g.W.Write.contents c.put.new.output)
    (string_bytes c.in_ok-text.text) = search rules in
    let write : c.from_residual-in_err-put.result ≡ Err Write = search rules in
    rw write (lists_front _ _ _ _ _ c.loop-alloc.invariant n (omega (arith, size)) c.fill.new.buffer _
    c.in_ok-count.count _ c.in_ok-count.ensures.count c.in_ok-count.ensures.bytes told.1 told.2 _ front)

pub returns-then-count-room-clause-shown : goal.returns-then-count-room-clause-shown
returns-then-count-room-clause-shown g c =
    let size : length (take c.min-room.result c.loop-alloc.piece) ≡ c.min-room.result = search rules in
    let put : Appends (g.W.Write.contents c.loop-alloc.output) (g.W.Write.contents c.put.new.output)
    (string_bytes c.in_ok-text.text) = search rules in
    lists_all _ _ _ _ _ c.loop-alloc.invariant _ (omega (arith, size)) c.fill.new.buffer _ c.in_ok-count.count _
    c.in_ok-count.ensures.count c.in_ok-count.ensures.bytes c.in_ok-text.ensures.1 c.in_ok-text.ensures.2 _ put
    (omega (arith, size, c.if-count-room.true))

pub loop-alloc-preserved : goal.loop-alloc-preserved
loop-alloc-preserved g c =
    let size : length (take c.min-room.result c.loop-alloc.piece) ≡ c.min-room.result = search rules in
    let put : Appends (g.W.Write.contents c.loop-alloc.output) (g.W.Write.contents c.put.new.output)
    (string_bytes c.in_ok-text.text) = search rules in
    lists_more _ _ _ _ _ c.loop-alloc.invariant _ (omega (arith, size)) c.fill.new.buffer _ c.in_ok-count.count _
    c.in_ok-count.ensures.count c.in_ok-count.ensures.bytes c.in_ok-text.ensures.1 c.in_ok-text.ensures.2 _ put
    (omega (arith, c.loop-alloc-test.true)) (omega (arith, size, c.if-count-room.false))
    (grind (arith, size, c.min-room.ensures))

pub returns-clause-shown : goal.returns-clause-shown
returns-clause-shown g c = grind (arith, up_to_full)
