use Rattle.std.proofs.Common.{◌≡◌, ℕ, Bool, true, Option, Some, Result, Ok, refl, ap, sym, subst, ◌∙◌, rules}
use Rattle.std.specs.Option.{option_map}
use Rattle.dn_link.specs.declared.link.Link.{Link}
use Rattle.dn_lockstep.specs.declared.config.NodeFault.{NodeFault}
use Rattle.dn_session.specs.Session.{meeting, Begins}
use Rattle.dn_host.specs.{Playing.millis, Turns.StartsAs}
use Rattle.dn_host.proofs.turns.Turns.begin.Goals as goal

pub returns-in-Some-clause-starts : goal.returns-in-Some-clause-starts
returns-in-Some-clause-starts c =
    let old = meeting c.args.self.now.session in
    let new = meeting c.begin.new.self in
    let began : c.begin.result ≡ Ok true = search rules in
    let begins : Begins (millis c.args.now) old new (Ok true) =
    subst (λ (r : Result Bool NodeFault). Begins (millis c.args.now) old new r) began
    (subst (λ (n : ℕ). Begins n old new c.begin.result) c.millis.ensures c.begin.ensures) in
    let link = sym c.link.ensures ∙ ap (option_map _) c.in-Some.is in (
      true,
      begins,
      subst (λ (l : Option Link). StartsAs true c.args.self.now.plan c.args.now l c.args.self.now.game
          (Some c.new.result)) (sym link) (c.new.result, c.new.ensures, refl),
    )
