-- The events lead there.
use Rattle.std.proofs.Common.{refl, arith}
use Rattle.dn_machine.specs.{Sending.{on_build_by, on_send}, Hearing.on_packet, Game.{applied, opening_game}}
use Rattle.dn_machine.specs.{Limits.row_of, Node.lowest, Sparing.on_run_but}
use Rattle.dn_remain.specs.{Vanished.Calls.every, Vanished.Commands.longest, Remaining.opening_remaining, Wary.rows_to, Wary.on_give_up, Wary.on_report}
use Rattle.dn_remain.proofs.Example.{after_own, after, after_all, goes_on, last, reaches}
use Rattle.dn_remain.proofs.laws.a_game_goes_on.Goals as goal

pub returns : goal.returns
unfolding last goes_on after_all after after_own applied opening_game on_build_by on_send on_packet on_run_but row_of
    lowest every longest rows_to on_give_up on_report opening_remaining
returns g c settings =
    let p = g.W.World.physics in (
      goes_on,
      last p settings goes_on,
      reaches p settings goes_on,
      refl,
      refl,
      refl,
      record { one = omega arith; other = omega arith; apart = λ e. absurd (omega arith); here = refl; there = refl },
      refl,
      refl,
      refl,
      refl,
      refl,
      refl,
      refl,
    )
