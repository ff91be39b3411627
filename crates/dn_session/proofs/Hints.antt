-- Bytes are read as one hint.
use Rattle.std.proofs.Common.{◌≡◌, ℕ, List, [], ◌∷◌, length, arith, refl, ap, sym, ◌∙◌, None, Result}
use Rattle.dn_session.specs.{Reading.IsHintedIn, Reading.hint_fault, Text.IsHinted, Text.hint_byte, Text.hinted_bytes, Text.version_of}
use Rattle.dn_session.proofs.{Readings.only, Told.told_hint, Told.told_hinted}
use Rattle.dn_session.specs.{declared.greeting.GreetingFault.GreetingFault, declared.greeting.Hint.Hint, declared.greeting.Hinted.Hinted}
use Rattle.dn_session.specs.declared.greeting.Hint.TheVariants as hint

-- sixteen bytes, one by one
sixteen : (m : List ℕ) → length m ≡ 16 → (P : List ℕ → Type 0)
    → ((a b c d e f g h i j k l n o p q : ℕ)
    → P (a ∷ b ∷ c ∷ d ∷ e ∷ f ∷ g ∷ h ∷ i ∷ j ∷ k ∷ l ∷ n ∷ o ∷ p ∷ q ∷ [])) → P m
sixteen (a ∷ b ∷ c ∷ d ∷ e ∷ f ∷ g ∷ h ∷ i ∷ j ∷ k ∷ l ∷ n ∷ o ∷ p ∷ q ∷ []) long P holds =
    holds a b c d e f g h i j k l n o p q
sixteen _ long P holds = absurd (omega (arith, long))

-- why it was not read is found again in its bytes
hint_back : (h : Hint) → told_hint (hint_byte h) (version_of h) ≡ h
hint_back hint.Key = refl
hint_back (hint.Version v) = refl

pub hinted_back : (hinted : Hinted) → IsHinted hinted → told_hinted (hinted_bytes hinted) ≡ hinted
hinted_back hinted is =
    sixteen hinted.number is.number
    (λ m. told_hinted (hinted_bytes (record hinted { number = m })) ≡ record hinted { number = m })
    (λ a b c d e f g h i j k l n o p q.
    let why = hint_back hinted.hint in
    λ x. record { number = a ∷ b ∷ c ∷ d ∷ e ∷ f ∷ g ∷ h ∷ i ∷ j ∷ k ∷ l ∷ n ∷ o ∷ p ∷ q ∷ []; hint = why x })

pub same_hinted : (a b : Hinted) → IsHinted a → IsHinted b → hinted_bytes a ≡ hinted_bytes b → a ≡ b
same_hinted a b ha hb e = sym (hinted_back a ha) ∙ ap told_hinted e ∙ hinted_back b hb

-- the bytes of a hint have no fault
clean_hint : (hinted : Hinted) → IsHinted hinted → hint_fault (hinted_bytes hinted) ≡ None
unfolding hint_fault
clean_hint hinted is =
    sixteen hinted.number is.number (λ m. hint_fault (hinted_bytes (record hinted { number = m })) ≡ None)
    (λ a b c d e f g h i j k l n o p q. refl)

pub one_hint : (bytes : List ℕ) (a b : Result Hinted GreetingFault) → IsHintedIn bytes a → IsHintedIn bytes b → a ≡ b
one_hint bytes =
    only IsHinted hinted_bytes (hint_fault bytes) bytes (λ hinted is e. ap hint_fault e ∙ clean_hint hinted is)
    (λ s t x y. same_hinted s t x.0 y.0 (sym x.1 ∙ y.1))
