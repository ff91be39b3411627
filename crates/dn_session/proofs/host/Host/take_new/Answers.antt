use Rattle.std.proofs.Common.{ℕ, Option, ap, sym, ◌∙◌}
use Rattle.dn_session.specs.{Hosting.lobby, Hosting.on_newcomer, Hosting.seating}
use Rattle.dn_session.proofs.host.Host.take_new.Goals as goal

pub returns-in-Some-clause-reply : goal.returns-in-Some-clause-reply
returns-in-Some-clause-reply c =
    let from = c.args.from.now in
    let call = c.args.call.now in
    let now = c.args.now in
    c.seating.ensures.value ∙ ap (seating from call now c.in-Some.n) c.fill.ensures
    ∙ sym (ap (λ (s : Option ℕ). (on_newcomer from call now s (lobby c.args.self.now)).1) c.in-Some.is)
