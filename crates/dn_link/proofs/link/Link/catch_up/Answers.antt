use Rattle.std.proofs.{Common.{◌≡◌, refl, ap, sym, ◌∙◌, subst}, lemmas.Option.same_Some}
use Rattle.dn_tic.specs.declared.input.Input.{Input}
use Rattle.dn_machine.specs.Sending.{on_build}
use Rattle.dn_lockstep.specs.Steps.{Steps}
use Rattle.dn_link.specs.{Linking.linked, Pace.still_owed, Pacing.PaceState}
use Rattle.dn_link.proofs.link.Link.catch_up.Goals as goal

pub returns-clause-owed : goal.returns-clause-owed
returns-clause-owed c = λ input owed.
    let made = c.make-made.result in
    let same = same_Some c.in_ok-input.input input (sym c.in_ok-input.was ∙ owed) in (
      made,
      refl,
      subst (λ (x : Input). Steps (linked c.args.self.now).node (linked c.make-made.new.self).node
          (λ limits me m. on_build limits me m x) (λ answer. made ≡ answer)) same c.make-made.ensures.step,
      c.settle.ensures
          ∙ ap (λ (p : PaceState). record p { owed = still_owed made p.owed }) c.make-made.ensures.pace,
    )
