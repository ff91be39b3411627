use Rattle.std.proofs.Common.{◌≡◌, sym, arith, false}
use Rattle.dn_remain.specs.Vanished.Calls.{is_within_at}
use Rattle.dn_survivor.specs.OfOthers.{has}
use Rattle.dn_survivor.proofs.Lowest.{every_false}
use Rattle.dn_survivor.proofs.others.deciding.is_within.Goals as goal

pub returns-then-not-other-player : goal.returns-then-not-other-player
returns-then-not-other-player c =
    let fails : is_within_at (has c.args.one.now) (has c.args.other.now) c.loop-player.player ≡ false = grind arith in
    sym (every_false c.args.players c.loop-player.player (is_within_at (has c.args.one.now) (has c.args.other.now))
    (omega arith) fails)
