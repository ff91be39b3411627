use Rattle.std.proofs.Common.{ap, sym, ℕ, arith, ◌≡◌, get_or, false, ◌∷◌, []}
use Rattle.dn_lockstep.specs.Steps.{with_row}
use Rattle.dn_lockstep.proofs.{After.{after, steps}, Running.run_all}
use Rattle.dn_lockstep.proofs.lockstep.Lockstep.run_into.Goals as goal

-- nobody is in this set
nobody : (player : ℕ) → get_or (false ∷ false ∷ false ∷ false ∷ []) player false ≡ false
nobody player = grind arith

pub returns-clause-step : goal.returns-clause-step
returns-clause-step c = steps c.run_without.ensures.step.same (λ limits me m r.
    let ran = c.run_without.ensures.step.step limits me m r in
    after _ _ (ap (with_row limits m) (sym (run_all limits _ m _ (λ p l. nobody p)))) ran.node ran.answer)
