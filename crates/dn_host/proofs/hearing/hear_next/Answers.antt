use Rattle.std.proofs.Common.{◌≡◌, ℕ, Bool, true, false, subst}
use Rattle.std.specs.Prelude.{◌&&◌, ◌==◌, not, Option, option_map, take}
use Rattle.dn_link.specs.Hearing.{ByTest}
use Rattle.dn_session.specs.{declared.greeting.Address.Address, Reading.is_greeting, Session.meeting}
use Rattle.dn_host.proofs.hearing.hear_next.Goals as goal

-- what is taken is not one too many
kept : (Drops Takes : Type 0) (test taken : Bool) → taken ≡ not test → taken ≡ true → Takes → ByTest test Drops Takes
kept Drops Takes false taken is so takes = takes
kept Drops Takes true taken is so takes = absurd (cc)

pub returns-then-is_taken : goal.returns-then-is_taken
returns-then-is_taken g c = (
  c.poll.new.self,
  _,
  _,
  subst (λ (came : Option (Address × ℕ)). g.W.Wire.polls c.args.wire.now
      (option_map (λ found. (found.0, take found.1 c.poll.new.room)) came) c.poll.new.self) c.in-Some.is
      c.poll.ensures.polled,
  kept _ _ (is_greeting (take c.in-Some.count c.poll.new.room) && c.args.left.now == 0) _ c.is_taken.ensures.taken
      c.if-is_taken.true
      (meeting c.hear.new.session, c.hear.ensures.hears, c.hear.ensures.comes, c.send_all.ensures),
  c.is_taken.ensures.left,
)
