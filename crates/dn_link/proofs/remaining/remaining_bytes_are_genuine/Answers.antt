-- What was sealed in a game in which players may be given up.
use Rattle.std.proofs.{Common.{◌≡◌, ℕ, List, [], refl, ap, sym, ◌∙◌, subst, All}, lemmas.List.Elements.All-nil}
use Rattle.std.specs.{Prelude.{Result, Ok, Err}, List.flat_map}
use Rattle.dn_survivor.specs.{OneGame.Session, Surviving.Surviving, ReportBytes.report_bytes, declared.report.Report.Report}
use Rattle.dn_seal.specs.declared.seal.Seal.{Seal}
use Rattle.dn_link.specs.{declared.bundle.{Bundle.Bundle, BundleFault.BundleFault, Part.Part}, RemainingLinks.WasGiven, Packets.{packets_in, packets_of}, Reading.IsBundledAs}
use Rattle.dn_link.specs.{RemainingLinks.{HasReached, IsGenuineIn, IsLater, WasSealedIn}, Text.{IsBundle, sealed_bytes}}
use Rattle.dn_link.proofs.{Knowing.{counts_reached, reached_on}, Linking.opened_later, RemainingCalls.own, Wholes.only_bundle}
use Rattle.dn_open.specs.Sealed.{sealing_of}
use Rattle.dn_link.proofs.remaining.remaining_bytes_are_genuine.Goals as goal

not_opened : (fault : BundleFault) (bundle : Bundle)
    → ◌≡◌ {A = Result Bundle BundleFault} (Ok bundle) (Err fault) → ⊥
not_opened fault bundle e = cc

no_bytes : (report : Report) → [] ≡ report_bytes report → ⊥
no_bytes report e = cc

module _ (seal : Seal) (session : Session) where
  stay : (later : Session) (bytes : List ℕ) → IsLater session later → WasSealedIn seal session bytes
      → WasSealedIn seal later bytes
  stay later bytes is (bundle, fits, spelled, all, told, reached) = (
    bundle,
    fits,
    spelled,
    opened_later session.packets later.packets is.packets bundle.to (packets_in bundle) all,
    λ report reads. let was = told report reads in (was.0, is.reports was.0 _ was.1),
    reached_on session later bundle is reached,
  )

  empty : (bundle : Bundle) → IsBundle bundle → bundle.parts.items ≡ [] → bundle.report.items ≡ []
      → HasReached session.survivors bundle → WasSealedIn seal session (sealed_bytes seal bundle)
  empty bundle fits none nothing reached = (
    bundle,
    fits,
    refl,
    subst (λ (parts : List Part). All (WasGiven session.packets bundle.to) (flat_map (packets_of bundle.from) parts))
        (sym none) (All-nil (WasGiven session.packets bundle.to)),
    λ report reads. absurd (no_bytes report (sym nothing ∙ reads.1)),
    reached,
  )

  refused : (player : ℕ) (bytes : List ℕ) (fault : BundleFault)
      → IsBundledAs (sealing_of seal player) bytes (Err fault) → IsGenuineIn seal session player bytes
  refused player bytes fault refuses bundle is =
      absurd (not_opened fault bundle (only_bundle (sealing_of seal player) bytes bundle is (Err fault) refuses))

pub returns-clause-stay : goal.returns-clause-stay
returns-clause-stay c = stay

pub returns-clause-empty : goal.returns-clause-empty
returns-clause-empty c = λ marking limits settings session links player seal bundle echo linked mine fits from counts
    none nothing.
    empty seal session bundle fits none nothing (counts_reached session.survivors bundle (links player).node echo
    (ap (λ (k : ℕ). (session.survivors k).lockstep) (from ∙ own marking limits settings session links linked player mine)
    ∙ ap (λ (s : Surviving). s.lockstep) (sym (linked.survivors player mine))) (sym from) counts)

pub returns-clause-genuine : goal.returns-clause-genuine
returns-clause-genuine c = λ seal session player bytes was bundle is. was

pub returns-clause-refused : goal.returns-clause-refused
returns-clause-refused c = refused
