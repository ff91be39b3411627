-- What is known of the line from a peer, and of the leads.
use Rattle.std.specs.{Prelude.{ℕ, ◌+◌, ◌-◌, ◌/◌, ◌%◌, ◌^◌, ◌==◌, ◌-ℤ◌, if◌then◌else◌, nat_lt, min, max, ℤ, pos, negsuc, None, Some}, Int.{int_max, int_min}, Prelude.{Bool, is_some}}
use Rattle.dn_lockstep.specs.{Contents.Contents, Told.{got, made}}
use Rattle.dn_link.specs.{declared.{bundle.Bundle.Bundle, line.Line.Line}, Tally.tallied}

-- a line from which nothing came
abbrev pub new_line : Line
new_line =
    record {
      newest = None;
      holes = 0;
      before = 0;
      reported_holes = 0;
      lead = pos 0;
      own_lead = pos 0;
      echo = 0;
      age = 0;
      tally = record { came = 0; lost = 0; repeated = 0; too_old = 0; seen = 0 };
    }

-- a datagram is newer than the newest: what is missing between them counts in the block of the older, up to 255
abbrev pub counted : ℕ → ℕ → Line → Line
counted newest number line =
    if number / 64 == newest / 64
    then record line { holes = min (line.holes + (number - newest - 1)) 255 }
    else record line { holes = 0; before = min (line.holes + (number - newest - 1)) 255 }

abbrev pub with_tally : Bundle → Line → Line
with_tally bundle line = record line { tally = tallied line.newest bundle.number line.tally }

-- what it reports is the newest
abbrev pub after_newest : Bundle → Line → Line
after_newest bundle line =
    record line {
      newest = Some bundle.number;
      reported_holes = bundle.holes;
      lead = bundle.lead;
      echo = bundle.counts.echo;
      age = 0;
    }

-- a datagram came: the first of all, a newer one, or an old one, which tells nothing
abbrev pub heard_on : Bundle → Line → Line
heard_on bundle line =
    elim line.newest [
      | None ↦ after_newest bundle (with_tally bundle line)
      | Some newest ↦
          if nat_lt newest bundle.number
          then after_newest bundle (counted newest bundle.number (with_tally bundle line))
          else with_tally bundle line
    ]

-- what is echoed: the number after that of the newest datagram that came; 0 before
abbrev pub own_echo : Line → ℕ
own_echo line = elim line.newest [ None ↦ 0 | Some newest ↦ (newest + 1) % 2 ^ 32 ]

-- how many ticks ago its newest datagram came, at the next tick
abbrev pub older : Line → ℕ
older line = if is_some line.newest then min (line.age + 1) 255 else line.age

-- that was at one of the last four
abbrev pub is_fresh : Line → Bool
is_fresh line = nat_lt line.age 4

-- how many of the peer's datagrams are missing
abbrev pub missing : Line → ℕ
missing line = max line.holes line.before

-- by how many commands a player leads another: those that it made, less those that it has of the other
abbrev pub lead_over : Contents → ℕ → ℤ
lead_over node player =
    if nat_lt player node.players
    then int_max (negsuc 127) (int_min (pos (made node) -ℤ pos (got node player)) (pos 127))
    else pos 0
