-- What is seen of a link.
use Rattle.dn_seal.specs.declared.seal.Seal.{Seal}
use Rattle.dn_link.specs.declared.link.Link.{Link}
use Rattle.dn_link.specs.Linked.{Linked}
use Rattle.dn_link.specs.Linking.{linked, seal_of}
use Rattle.dn_link.specs.Pacing.{PaceState, pace_of}

-- a link, what it keeps for its pace, and what it has in common with the others of its game
pub record Joined : Type 0 where
  pub link : Linked
  pub pace : PaceState
  pub seal : Seal

abbrev pub joined_of : Link → Joined
joined_of link =
    record { link = linked link; pace = pace_of link; seal = seal_of link }
