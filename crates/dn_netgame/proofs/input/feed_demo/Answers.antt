use Rattle.std.proofs.Common.{rules, ◌≡◌, ◌≤◌, ◌<◌, ◌+◌, ◌++◌, length, take, drop, arith, length-append, length-take}
use Rattle.std.proofs.KnownBytes.{Consumes-trans}
use Rattle.dn_world.specs.Plane.{walking}
use Rattle.dn_netgame.proofs.Pieces.{fewer_more, fed_more, up_to_more, up_to_full}
use Rattle.dn_netgame.proofs.input.feed_demo.Goals as goal

pub returns-in_err-count-clause-fewer : goal.returns-in_err-count-clause-fewer
returns-in_err-count-clause-fewer g c =
    let so_far = c.loop-piece.invariant in
    let size : length (take c.min-room.result c.loop-piece.piece) ≡ c.min-room.result = search rules in
    let room : length so_far.0 + length (take c.min-room.result c.loop-piece.piece) ≤ 33554433 =
    omega (arith, size, so_far.1, so_far.3.taken) in
    λ _. fewer_more _ _ _ so_far.0 _ _ room so_far.2 c.in_err-count.ensures.fewer

pub returns-then-count-room-clause-shown : goal.returns-then-count-room-clause-shown
returns-then-count-room-clause-shown g c =
    let so_far = c.loop-piece.invariant in
    let up = c.in_ok-count.ensures.bytes in
    let size : length (take c.min-room.result c.loop-piece.piece) ≡ c.min-room.result = search rules in
    let room : length so_far.0 + length (take c.min-room.result c.loop-piece.piece) ≤ 33554433 =
    omega (arith, size, so_far.1, so_far.3.taken) in
    let ys = take c.in_ok-count.count c.fill.new.buffer in
    let count : length ys ≤ c.in_ok-count.count =
    omega (arith, length-take c.in_ok-count.count c.fill.new.buffer) in
    let short : length ys < length (take c.min-room.result c.loop-piece.piece) =
    omega (arith, size, count, c.if-count-room.true) in (
      so_far.0 ++ ys,
      up_to_more _ _ _ so_far.0 ys _ 33554433 room so_far.2 up short,
      fed_more (λ w. w) walking _ _ so_far.0 c.fill.new.buffer (drop c.min-room.result c.loop-piece.piece)
          c.in_ok-count.count c.in_ok-count.ensures.count so_far.3 c.push.ensures.shown,
    )

pub loop-piece-preserved : goal.loop-piece-preserved
loop-piece-preserved g c =
    let so_far = c.loop-piece.invariant in
    let up = c.in_ok-count.ensures.bytes in
    let size : length (take c.min-room.result c.loop-piece.piece) ≡ c.min-room.result = search rules in
    let room : length so_far.0 + length (take c.min-room.result c.loop-piece.piece) ≤ 33554433 =
    omega (arith, size, so_far.1, so_far.3.taken) in
    let ys = take c.in_ok-count.count c.fill.new.buffer in (
      so_far.0 ++ ys,
      omega (arith, length-append so_far.0 ys, up.within, room),
      Consumes-trans _ _ _ so_far.0 ys so_far.2 up.taken,
      fed_more (λ w. w) walking _ _ so_far.0 c.fill.new.buffer (drop c.min-room.result c.loop-piece.piece)
          c.in_ok-count.count c.in_ok-count.ensures.count so_far.3 c.push.ensures.shown,
    )

pub returns-clause-shown : goal.returns-clause-shown
returns-clause-shown g c = grind (arith, up_to_full)
