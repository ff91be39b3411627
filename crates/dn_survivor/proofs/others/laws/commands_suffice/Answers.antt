use Rattle.std.proofs.Common.{List, sym, subst}
use Rattle.dn_tic.specs.declared.command.TicCmd.{TicCmd}
use Rattle.dn_survivor.proofs.OfOthers.{Suffices, suffices}
use Rattle.dn_survivor.proofs.others.laws.commands_suffice.Goals as goal

pub returns : goal.returns
returns c = λ players places me player others holder newest made own decided first.
    λ r below here apart given within has is from.
    subst (λ (o : List TicCmd). Suffices players me player others o decided first) (sym has)
    (subst (λ (d : List TicCmd). Suffices players me player others (holder.held player) d first) (sym is)
    (suffices players places me player others holder newest made r here below apart given within first from))
