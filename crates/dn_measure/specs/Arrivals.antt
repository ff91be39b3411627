-- What came over the line from a peer.
use Rattle.std.specs.Prelude.{ℕ, ◌+◌, ◌-◌, ◌*◌, ◌/◌, ◌==◌, if◌then◌else◌}
use Rattle.dn_measure.specs.declared.arrivals.Arrivals.{Arrivals}

-- how many of a thousand were lost, where a part of one counts as a whole one; all, of none that were sent
abbrev pub loss_of : Arrivals → ℕ
loss_of a =
    if (a.came + a.lost) == 0
    then 1000
    else (1000 * a.lost + (a.came + a.lost - 1)) / (a.came + a.lost)
