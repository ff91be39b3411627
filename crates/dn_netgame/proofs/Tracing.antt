-- What an observer was told, and what its text is then.
use Rattle.std.proofs.Common.{◌≡◌, ◌+◌, ℕ, List, [], ◌∷◌, ◌++◌, Result, append_assoc, append-nil, refl, sym, ap, ◌∙◌}
use Rattle.std.proofs.{Common.All, lemmas.List.Elements.{All-cons, All-nil}}
use Rattle.dn_machine.specs.declared.events.{Done.Done, Event.Event, Refusal.Refusal}
use Rattle.dn_game.specs.{Observed.{Observing, ObservesAll}, Scripts.{event_line, script_text}}
use Rattle.dn_netgame.specs.{Texts.{trace_line, trace_lines}, Told.{IsNotLeftOut, AddsTraced, AddsScripted}}

-- the lines of events, each behind those before it
module _ {L : Type 0} (observes : Observing L) (text : L → List ℕ) (P : Result Done Refusal → Type 0)
    (line : ℕ → Event → Result Done Refusal → List ℕ) (lines : ℕ → List Event → List (Result Done Refusal) → List ℕ)
    (none : (number : ℕ) → lines number [] [] ≡ [])
    (more : (number : ℕ) (e : Event) (es : List Event) (a : Result Done Refusal) (others : List (Result Done Refusal))
    → lines number (e ∷ es) (a ∷ others) ≡ line number e a ++ lines (number + 1) es others)
    (one : (number : ℕ) (event : Event) (answer : Result Done Refusal) (old new : L)
    → observes old number event answer new → P answer × (text new ≡ text old ++ line number event answer)) where
  all_told : (events : List Event) (answers : List (Result Done Refusal)) (number : ℕ) (old new : L)
      → ObservesAll observes old number events answers new
      → All P answers × (text new ≡ text old ++ lines number events answers)
  all_told [] [] number old new same = (
    All-nil P,
    ap text same ∙ sym (append-nil (text old)) ∙ ap (λ (t : List ℕ). text old ++ t) (sym (none number)),
  )
  all_told [] (a ∷ answers) number old new way = absurd way
  all_told (e ∷ events) [] number old new way = absurd way
  all_told (e ∷ events) (a ∷ answers) number old new (next, added, way) =
      let (met, behind) = all_told events answers (number + 1) next new way in
      let here = one number e a old next added in (
        All-cons P a answers here.0 met,
        behind ∙ ap (λ (t : List ℕ). t ++ lines (number + 1) events answers) here.1
            ∙ append_assoc (text old) (line number e a) (lines (number + 1) events answers)
            ∙ ap (λ (t : List ℕ). text old ++ t) (sym (more number e events a answers)),
      )

module _ {L : Type 0} (text : L → List ℕ) (old new : L) (events : List Event)
    (answers : List (Result Done Refusal)) (empty : text old ≡ []) where
  pub traced : ObservesAll (AddsTraced text) old 0 events answers new → text new ≡ trace_lines 0 events answers
  traced told =
      let all = all_told (AddsTraced text) text (λ a. Unit {0}) trace_line trace_lines (λ n. refl)
      (λ n e es a others. refl) (λ n e a before after put. (tt, put)) events answers 0 old new told in
      all.1 ∙ ap (λ (t : List ℕ). t ++ trace_lines 0 events answers) empty

  pub scripted : ObservesAll (AddsScripted text) old 0 events answers new
      → All IsNotLeftOut answers × (text new ≡ script_text events)
  scripted told =
      let all = all_told (AddsScripted text) text IsNotLeftOut (λ n e a. event_line e) (λ n es others. script_text es)
      (λ n. refl) (λ n e es a others. refl) (λ n e a before after put. put) events answers 0 old new told in
      (all.0, all.1 ∙ ap (λ (t : List ℕ). t ++ script_text events) empty)
