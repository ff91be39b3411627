use Rattle.std.proofs.Common.{ap, subst, sym, ◌∙◌, Bool, Option, List, ℕ}
use Rattle.std.specs.Option.{option_or}
use Rattle.dn_session.specs.{Session.HearsWhen, Session.meeting, declared.greeting.Address.Address}
use Rattle.dn_session.proofs.session.Session.receive.Goals as goal

pub returns-then-is_greeting-clause-hears : goal.returns-then-is_greeting-clause-hears
returns-then-is_greeting-clause-hears c = subst (λ (test : Bool). HearsWhen test c.args.from.now c.args.bytes.now c.args.now
    (meeting c.args.self.now) (meeting (record c.args.self.now { side = c.hear-reply.new.self; reply = c.keep.new.waiting })))
    (sym c.if-is_greeting.true ∙ c.is_greeting.ensures) (
      c.hear-reply.new.self,
      c.hear-reply.ensures.hears.0,
      c.hear-reply.ensures.hears.1,
      ap (λ (reply : Option (Address × List ℕ)). record (meeting c.args.self.now) {
        lobby = c.hear-reply.new.self;
        reply = reply;
      }) (c.keep.ensures ∙ ap (λ (reply : Option (Address × List ℕ)). option_or reply (meeting c.args.self.now).reply)
          c.hear-reply.ensures.hears.2),
    )
