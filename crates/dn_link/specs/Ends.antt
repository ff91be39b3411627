-- What a datagram tells of its sender's end.
use Rattle.std.specs.Prelude.{ℕ, ◌==◌, ◌&&◌, if◌then◌else◌, Bool, nat_lt, Option, Some, slice_index}
use Rattle.dn_machine.specs.declared.answers.{Cause.TheVariants.{Quit, Full, Inconsistent}, Phase.Phase, Phase.TheVariants.Ended}
use Rattle.dn_link.specs.declared.bundle.Bundle.{Bundle}

-- the byte that tells why a player in this phase has ended; 0 of one that has not
abbrev pub told_cause : Phase → ℕ
told_cause (Ended Quit) = 1
told_cause (Ended Full) = 2
told_cause (Ended (Inconsistent player was should)) = 3
told_cause phase = 0

-- its sender has given up the receiver, and tells no more
abbrev pub excludes : Bundle → Bool
excludes bundle = bundle.cause == 4

-- its sender counts one command more than it made: it has told all of them, and its end
abbrev pub tells_end : Bundle → Bool
tells_end bundle = nat_lt bundle.counts.made (slice_index bundle.counts.got bundle.from)

-- why its sender has left, as far as its datagrams told
abbrev pub left_by : Bundle → Option ℕ → Option ℕ
left_by bundle left =
    if nat_lt 0 bundle.cause && (nat_lt bundle.cause 4 && tells_end bundle) then Some bundle.cause else left
