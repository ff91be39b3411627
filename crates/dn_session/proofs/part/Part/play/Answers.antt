use Rattle.std.proofs.Common.{subst, ap, ◌∙◌, Option}
use Rattle.dn_link.specs.Linking.{linked}
use Rattle.dn_session.specs.{Ending.ending_of, Playing.Playing, Playing.PlaysOn, Playing.playing, Playing.view, declared.ending.Ending.Ending, declared.lead.View.View}
use Rattle.dn_session.proofs.part.Part.play.Goals as goal

pub returns : goal.returns
returns c = subst (λ (p : Playing). PlaysOn (ending_of p.policy (view c.args.now p) (linked p.link)) c.args.now p
    (playing c.play_on.new.self)) c.look.ensures
    (subst (λ (ending : Option Ending). PlaysOn ending c.args.now (playing c.look.new.self) (playing c.play_on.new.self))
    (c.ending_of-ending.ensures ∙ ap (λ (v : View). ending_of (playing c.look.new.self).policy v (linked (playing c.look.new.self).link)) c.view.ensures)
    c.play_on.ensures)
