use Rattle.std.proofs.Common.{ap, ◌∙◌}
use Rattle.dn_session.specs.{Hosting.lobby, Text.greeting_bytes, Text.seating_rest, declared.greeting.Seating.Seating}
use Rattle.dn_session.proofs.host.Host.seating.Goals as goal

pub returns-clause-value : goal.returns-clause-value
returns-clause-value c =
    c.seal.ensures.value
    ∙ ap (λ (s : Seating). greeting_bytes (lobby c.args.self.now).seal 2 (seating_rest s)) c.seating_to-seating.ensures
