use Rattle.std.proofs.Common.{subst, ◌∙◌, Option, ℕ}
use Rattle.dn_session.specs.{Lead.due, Playing.GivesUpNow, Playing.playing}
use Rattle.dn_session.proofs.part.Part.give_up_due.Goals as goal

pub returns : goal.returns
returns c = subst (λ (player : Option ℕ). GivesUpNow player (playing c.args.self.now) (playing c.give_up_now.new.self))
    (c.number_of.ensures ∙ c.due-player.ensures.value ∙ (λ i. due (c.patience.ensures i) (c.view.ensures i)))
    c.give_up_now.ensures
