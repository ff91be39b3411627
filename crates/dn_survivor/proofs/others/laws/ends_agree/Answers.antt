use Rattle.std.proofs.Common.{refl}
use Rattle.dn_survivor.proofs.OfOthers.{ends}
use Rattle.dn_survivor.proofs.others.laws.ends_agree.Goals as goal

pub returns : goal.returns
returns c = λ players places me player others holder newest r below apart given.
    ends players places me others holder.gone newest r holder refl player below apart given
