-- What came over a line, in numbers for the screen.
use Rattle.std.specs.Prelude.{ℕ, ◌+◌, ◌-◌, ◌*◌, ◌/◌, ◌%◌, ◌^◌, ◌==◌, if◌then◌else◌, nat_lt, nat_le, min, Option, None, Some, bit_and, bit_or}
use Rattle.dn_link.specs.declared.tally.Tally.{Tally}

-- counts stop at the largest of 32 bits
abbrev pub stops : ℕ → ℕ
stops n = min n (2 ^ 32 - 1)

-- which came, so many numbers later
abbrev pub seen_later : ℕ → ℕ → ℕ
seen_later step seen = if nat_lt step 64 then bit_or (seen * 2 ^ step % 2 ^ 64) 1 else 1

-- a newer one came: those between are missing so far
abbrev pub goes_on : ℕ → Tally → Tally
goes_on step tally =
    record tally {
      came = stops (tally.came + 1);
      lost = stops (tally.lost + (step - 1));
      seen = seen_later step tally.seen;
    }

-- one that is no newer than the newest: it came too late to tell, came again, or was missing and came late
abbrev pub falls_back : ℕ → Tally → Tally
falls_back back tally =
    if nat_le 64 back
    then record tally { too_old = stops (tally.too_old + 1) }
    else (if bit_and (tally.seen / 2 ^ back) 1 == 1
    then record tally { repeated = stops (tally.repeated + 1) }
    else record tally { came = stops (tally.came + 1); lost = tally.lost - 1; seen = bit_or tally.seen (2 ^ back) })

-- a datagram of this number came, after the newest
abbrev pub tallied : Option ℕ → ℕ → Tally → Tally
tallied None number tally = record tally { came = stops (tally.came + 1); seen = 1 }
tallied (Some newest) number tally =
    if nat_lt newest number then goes_on (number - newest) tally else falls_back (newest - number) tally
