use Rattle.std.proofs.Common.{◌≡◌, ap, subst, refl, ◌∙◌, Bool, true, false, ℕ, Some, None}
use Rattle.std.specs.Prelude.{◌&&◌, if◌then◌else◌, is_some}
use Rattle.dn_session.specs.{Ending.may_give_up, Playing.GivesUpNow, Playing.Playing, Playing.is_giving, Playing.playing, Playing.view}
use Rattle.dn_session.proofs.part.Part.give_up.Goals as goal

some_if : (test : Bool) (n : ℕ) → test ≡ is_some (if test then Some n else None)
some_if true n = refl
some_if false n = refl

pub returns-clause-gives : goal.returns-clause-gives
returns-clause-gives c = subst (λ (p : Playing). GivesUpNow
    (if is_giving p.progress && may_give_up (view c.args.now p) c.args.player then Some c.args.player else None) p
    (playing c.give_up_if.new.self)) c.look.ensures
    (subst (λ (may : Bool). GivesUpNow (if may then Some c.args.player else None) (playing c.look.new.self)
    (playing c.give_up_if.new.self)) c.may_give_up-may.ensures c.give_up_if.ensures)

pub returns-clause-is : goal.returns-clause-is
returns-clause-is c = c.may_give_up-may.ensures
    ∙ ap (λ (p : Playing). is_giving p.progress && may_give_up (view c.args.now p) c.args.player) c.look.ensures
    ∙ some_if _ c.args.player
