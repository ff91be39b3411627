use Rattle.std.proofs.Common.{ℕ, subst, List}
use Rattle.std.specs.List.{flat_map}
use Rattle.dn_lockstep.specs.Contents.{contents}
use Rattle.dn_link.specs.{declared.bundle.Part.Part, Hearing.HearsAll, Packets.heard_of, Packets.takes_relay}
use Rattle.dn_survivor.specs.OfOthers.{has}
use Rattle.dn_link.proofs.hearing.hear_bundle.Goals as goal

pub returns : goal.returns
returns c =
    subst (λ (xs : List ℕ × List Part). HearsAll (flat_map (heard_of (takes_relay (has c.args.gone.now) xs.0)
    c.args.bundle.now.from) xs.1) (contents c.args.lockstep.now) (contents c.hear_parts.new.lockstep))
    (λ i. (c.held_of-counts.ensures i, c.as_slice.ensures.value i)) c.hear_parts.ensures
