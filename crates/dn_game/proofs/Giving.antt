-- A node that did not start has the world that was given for it.
use Rattle.std.proofs.Common.{◌≡◌, ◌≢◌, ◌⊎◌, ◌++◌, ℕ, zero, suc, List, [], ◌∷◌, Option, Some, None, Result, length, ap, sym, ◌∙◌, refl, inl, inr, slice_get, option_map}
use Rattle.std.proofs.lemmas.{Bool.cases_eq, Option.{none-some, same_Some, slice_get-map}}
use Rattle.dn_machine.specs.{declared.events.Done.Done, declared.events.Event.Event, declared.events.Event.TheVariants.{Build, Give, Send, Deliver, Run, Quit, Stop}, declared.events.Refusal.Refusal}
use Rattle.dn_node.specs.declared.node.Node.{Node}
use Rattle.dn_game.specs.{declared.flight.Flight.Flight, Contents.Contents, Frame.{KeepsRest, MovesNoWorld, named_in, KeepsGiven}, Opening.worlds_of}
use Rattle.dn_node.specs.Contents as node

-- this node is named, or it is not
named_or : (o : Option ℕ) (i : ℕ) → (o ≡ Some i) ⊎ (o ≢ Some i)
named_or None i = inr (λ e. none-some i e)
named_or (Some k) i = elim (cases_eq k i) [
  | inl e ↦ inl (ap Some e)
  | inr n ↦ inr (λ e. n (same_Some k i e))
]

-- what stands in equal lists
pub same_at : {X : Type 0} (xs ys : List X) (i : ℕ) → xs ≡ ys → slice_get xs i ≡ slice_get ys i
same_at {X} xs ys i same = ap (λ (zs : List X). slice_get zs i) same

module _ {X : Type 0} where
  -- what stood in a list stands there when more follows
  pub at_front : (xs more : List X) (k : ℕ) (x : X) → slice_get xs k ≡ Some x
      → slice_get (xs ++ more) k ≡ Some x
  at_front [] more k x h = absurd (none-some x h)
  at_front (y ∷ xs) more zero x h = h
  at_front (y ∷ xs) more (suc k) x h = at_front xs more k x h

  at_end : (xs : List X) (y : X) → slice_get (xs ++ y ∷ []) (length xs) ≡ Some y
  at_end [] y = refl
  at_end (x ∷ xs) y = at_end xs y

receiver_stays : (flights more : List Flight) (which i : ℕ)
    → option_map (λ (flight : Flight). flight.to) (slice_get flights which) ≡ Some i
    → option_map (λ (flight : Flight). flight.to) (slice_get (flights ++ more) which) ≡ Some i
receiver_stays [] more which i h = absurd (none-some i h)
receiver_stays (f ∷ flights) more zero i h = h
receiver_stays (f ∷ flights) more (suc which) i h = receiver_stays flights more which i h

-- who is named is named when more packets were sent
pub named_stays : (flights more : List Flight) (event : Event) (i : ℕ) → named_in flights event ≡ Some i
    → named_in (flights ++ more) event ≡ Some i
named_stays flights more (Build node keys) i h = h
named_stays flights more (Give node command) i h = h
named_stays flights more (Send node to) i h = h
named_stays flights more (Deliver which) i h = receiver_stays flights more which i h
named_stays flights more (Run node) i h = h
named_stays flights more (Quit node) i h = h
named_stays flights more (Stop node) i h = h

module _ {W : Type 0} (old new : Contents W) (event : Event) (answer : Result Done Refusal)
    (left : KeepsRest old new event answer) where
  -- the world of a node that this event does not move
  pub stays_at : (i : ℕ) → (named_in old.flights event ≡ Some i → MovesNoWorld answer)
      → slice_get (worlds_of new.nodes) i ≡ slice_get (worlds_of old.nodes) i
  stays_at i still =
      let own = λ (n : Node W). (node.contents n).world in
      elim (named_or (named_in old.flights event) i) [
        | inl is ↦ same_at _ _ i (left.worlds (still is))
        | inr apart ↦ slice_get-map own new.nodes i ∙ ap (option_map own) (left.others i apart)
            ∙ sym (slice_get-map own old.nodes i)
      ]

  -- one event more
  pub given_more : (worlds : List W) (events : List Event) (answers : List (Result Done Refusal))
      → length events ≡ length answers → KeepsGiven worlds events answers old
      → KeepsGiven worlds (events ++ event ∷ []) (answers ++ answer ∷ []) new
  given_more worlds events answers count before i never =
      let later : (e : Event) → named_in old.flights e ≡ Some i → named_in new.flights e ≡ Some i =
      λ e is. rw left.more.1 (named_stays old.flights left.more.0 e i is) in
      let last_answer : slice_get (answers ++ answer ∷ []) (length events) ≡ Some answer =
      ap (slice_get (answers ++ answer ∷ [])) count ∙ at_end answers answer in
      stays_at i (λ is. never (length events) event answer (at_end events event) last_answer (later event is))
      ∙ before i (λ k e a here answered is. never k e a (at_front events (event ∷ []) k e here)
      (at_front answers (answer ∷ []) k a answered) (later e is))
