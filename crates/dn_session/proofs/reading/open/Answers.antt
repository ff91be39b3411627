use Rattle.std.proofs.Common.{◌≡◌, ℕ, List, Option, sym, ◌∙◌, inl}
use Rattle.dn_seal.specs.declared.seal.Seal.{Seal}
use Rattle.dn_session.specs.{Reading.first_fault, declared.greeting.GreetingFault.GreetingFault}
use Rattle.dn_session.proofs.Readings.{IsSized, clean_of, only_fault, opened, opened_only}
use Rattle.dn_session.proofs.reading.open.Goals as goal

-- the fault that was found, as the sort has it
of_sort : (seal : Seal) (bytes : List ℕ) {kind sort : ℕ × ℕ} {a b : Option GreetingFault} → kind ≡ sort
    → a ≡ first_fault seal kind.0 kind.1 bytes → a ≡ b → first_fault seal sort.0 sort.1 bytes ≡ b
of_sort seal bytes same found is = sym (λ i. first_fault seal (same i).0 (same i).1 bytes) ∙ sym found ∙ is

pub returns-in-Some-clause-only : goal.returns-in-Some-clause-only
returns-in-Some-clause-only g c =
    let kind = c.what_and_size-what.ensures in
    let sized : IsSized g.G.Greeting.sort = record { enough = kind.enough; long = kind.long } in
    let first = of_sort _ _ kind.value c.fault_in.ensures.first c.in-Some.is in
    only_fault _ _ _ _ (clean_of g.G.Greeting.sort sized _ _) _ (inl first)

pub returns-in-None : goal.returns-in-None
returns-in-None g c =
    let sort = g.G.Greeting.sort in
    let kind = c.what_and_size-what.ensures in
    let sized : IsSized sort = record { enough = kind.enough; long = kind.long } in
    let first = of_sort _ _ kind.value c.fault_in.ensures.first c.in-None.is in
    let told = c.told.ensures in
    let reads = opened sort sized _ _ first _ told.only told.is _ c.ok_or.ensures.value in
    record { opens = reads; only = λ read. opened_only sort sized _ _ first _ told.only _ read reads }
