use Rattle.std.proofs.Common.{length}
use Rattle.std.specs.List.{flat_map}
use Rattle.dn_lockstep.specs.Contents.{contents}
use Rattle.dn_survivor.specs.OfOthers.{has}
use Rattle.dn_link.specs.Packets.{heard_of, takes_relay}
use Rattle.dn_link.proofs.Hearings.{LeadsOn}
use Rattle.dn_link.proofs.hearing.hear_parts.Given as goal

abbrev pub invariant-parts : goal.invariant-parts
invariant-parts l =
    LeadsOn (flat_map (heard_of (takes_relay (has l.fn.gone) l.fn.counts) l.fn.from) l.fn.parts) (contents l.fn.lockstep)
    (flat_map (heard_of (takes_relay (has l.gone) l.counts) l.from) l.rest) (contents l.lockstep)

abbrev pub decreases-parts : goal.decreases-parts
decreases-parts l = length l.rest
