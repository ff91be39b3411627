-- What a player passes on has the size of a datagram.
use Rattle.std.proofs.Common.{◌≡◌, ◌≤◌, arith, ℕ, List, Bool, true, false, Option, Some, None, Ok, Err, Result, length, ap, sym, subst, ◌∙◌}
use Rattle.std.proofs.lemmas.Option.{none-some, same_Some}
use Rattle.dn_seal.specs.{declared.seal.Seal.Seal, Opening.IsSized}
use Rattle.dn_open.specs.Sealed.{sealing_of}
use Rattle.dn_link.specs.{Hearing.ByTest, Linked.Linked, Linked.Receives, Linked.ReceivesAs}
use Rattle.dn_link.specs.{Reading.IsBundledAs, Reading.bundles, declared.bundle.Bundle.Bundle, declared.bundle.BundleFault.BundleFault, declared.received.Received.Received}
use Rattle.dn_link.specs.declared.bundle.BundleFault.TheVariants as fault
use Rattle.dn_link.specs.declared.received.Received.TheVariants as received

-- why bytes were not opened
abbrev why : Received → Option BundleFault
why (received.Unopened fault) = Some fault
why answer = None

-- this holds, whatever a test answers
either : {This That P : Type 0} (test : Bool) → (This → P) → (That → P) → ByTest test This That → P
either true this that holds = this holds
either false this that holds = that holds

-- one that was opened is not answered so
opened_is : (bundle : Bundle) (old new : Linked) (answer : Received) → ReceivesAs (Ok bundle) old new answer
    → why answer ≡ None
opened_is bundle old new answer = grind (arith, either)

-- what is for another player has the size of a datagram
pub sized : (seal : Seal) (bytes : List ℕ) (old new : Linked) (answer : Received) → Receives seal bytes old new answer
    → answer ≡ received.Unopened fault.Receiver → (19 ≤ length bytes) × (length bytes ≤ 1200)
sized seal bytes old new answer (opened, read, took) is =
    let long = go opened read took in
    (omega (arith, long.0), long.1)
  where
    go : (opened : Result Bundle BundleFault) → IsBundledAs (sealing_of seal old.node.me) bytes opened
        → ReceivesAs opened old new answer → IsSized bundles bytes
    go (Ok bundle) read took =
        absurd (none-some fault.Receiver (sym (opened_is bundle old new answer took) ∙ ap why is))
    go (Err why_not) read took =
        let same : why_not ≡ fault.Receiver = same_Some why_not fault.Receiver (sym (ap why took.0) ∙ ap why is) in
        (subst (λ (f : BundleFault). IsBundledAs (sealing_of seal old.node.me) bytes (Err f)) same read).0.0.0.0
