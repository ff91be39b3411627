-- One event more in a list that was played.
use Rattle.std.proofs.Common.{◌≡◌, ◌+◌, ℕ, suc, Bool, cond, length, ap, List, [], ◌∷◌, ◌++◌, Option, Some, None, Result, Err, refl, inl, inr, arith, IsTrue, count_by, is_ok, is_err}
use Rattle.std.proofs.lemmas.List.Sums.{sum_by-append}
use Rattle.dn_setup.specs.Settings.{Settings}
use Rattle.dn_machine.specs.{declared.events.Done.Done, declared.events.Event.Event, declared.events.Refusal.Refusal, Game.{Game, applied, opening_game, refused}, Runs.{Leads, Next, is_send}, Worlds.Rules}
use Rattle.dn_game.specs.{Applied.IsApplied, Contents.{Contents, contents, Represents}, Played.{Answers, Plays, PlaysBy, IsPlayed}, declared.played.Played.Played}

-- what is counted by a test, with one more
pub counts_more : {A : Type 0} (p : A → Bool) (xs : List A) (x : A) (old new : ℕ) → old ≡ count_by p xs
    → new ≡ old + count_by p (x ∷ []) → new ≡ count_by p (xs ++ x ∷ [])
counts_more p xs x old new before more =
    omega (arith, before, more, sum_by-append (λ a. cond (p a) 1 0) xs (x ∷ []))

-- how a send that is left out is answered
abbrev answer_of : Option Refusal → Result Done Refusal
answer_of None = Err Refusal.Memory
answer_of (Some refusal) = Err refusal

module _ {G E A : Type 0} (Step : G → E → A → G → Type 0) where
  -- what was played, and then more
  pub plays_on : (events more : List E) (answers others : List A) (game mid last : G)
      → PlaysBy Step game events answers mid → PlaysBy Step mid more others last
      → PlaysBy Step game (events ++ more) (answers ++ others) last
  plays_on [] more [] others game mid last same next = rw same at next
  plays_on [] more (a ∷ answers) others game mid last way next = absurd way
  plays_on (e ∷ events) more [] others game mid last way next = absurd way
  plays_on (e ∷ events) more (a ∷ answers) others game mid last way next =
      (way.0, way.1, plays_on events more answers others way.0 mid last way.2 next)

  pub plays_more : (events : List E) (answers : List A) (event : E) (answer : A) (game mid last : G)
      → PlaysBy Step game events answers mid → Step mid event answer last
      → PlaysBy Step game (events ++ event ∷ []) (answers ++ answer ∷ []) last
  plays_more events answers event answer game mid last way next =
      plays_on events (event ∷ []) answers (answer ∷ []) game mid last way (last, next, refl)

  -- what follows from each step holds of what was played
  pub follows : (Way : G → List E → List A → G → Type 0) → ((game last : G) → last ≡ game → Way game [] [] last)
      → ((event : E) (answer : A) (events : List E) (answers : List A) (game next last : G)
      → Step game event answer next → Way next events answers last
      → Way game (event ∷ events) (answer ∷ answers) last)
      → (events : List E) (answers : List A) (game last : G) → PlaysBy Step game events answers last
      → Way game events answers last
  follows Way none one [] [] game last way = none game last way
  follows Way none one [] (a ∷ answers) game last way = absurd way
  follows Way none one (e ∷ events) [] game last way = absurd way
  follows Way none one (e ∷ events) (a ∷ answers) game last way =
      one e a events answers game way.0 last way.1 (follows Way none one events answers way.0 last way.2)

  -- so each event has an answer
  pub as_many : (events : List E) (answers : List A) (game last : G) → PlaysBy Step game events answers last
      → length events ≡ length answers
  as_many = follows (λ game events answers last. length events ≡ length answers) (λ game last same. refl)
      (λ e a events answers game next last one same. ap suc same)

module _ {S : Type 0} (rules : Rules S) where
  -- a send that is left out has its answer
  left_out : (event : Event) (game next : Game) → IsTrue (is_send event) → next ≡ game
      → (answer : Result Done Refusal) × Answers rules game event answer next
  unfolding applied
  left_out event game next send same = (answer_of (refused rules.players game event), grind arith)

  -- so each run has its answers
  pub leads_plays : (events : List Event) (game last : Game)
      → Leads rules game events last → (answers : List (Result Done Refusal))
      × Plays rules game events answers last
  leads_plays [] game last same = ([], same)
  leads_plays (e ∷ events) game last (next, inl same, rest) =
      let more = leads_plays events next last rest in
      ((applied rules game e).1 ∷ more.0, (next, inl (same, refl), more.1))
  leads_plays (e ∷ events) game last (next, inr (send, same), rest) =
      let more = leads_plays events next last rest in
      let one = left_out e game next send same in
      (one.0 ∷ more.0, (next, one.1, more.1))

  -- an answered event is one of a run
  pub answers_next : (event : Event) (answer : Result Done Refusal) (game next : Game)
      → Answers rules game event answer next → Next rules game event next
  answers_next event answer game next is = grind arith

  -- so what was played is one of the runs
  pub plays_leads : (events : List Event) (answers : List (Result Done Refusal)) (game last : Game)
      → Plays rules game events answers last → Leads rules game events last
  plays_leads = follows (Answers rules) (λ game events answers last. Leads rules game events last)
      (λ game last same. same) (λ event answer events answers game next last one rest.
      (next, answers_next event answer game next one, rest))

-- an event that was applied has its answer
pub answers_one : {W S : Type 0} (state : W → S) (rules : Rules S) (old new : Contents W) (m : Game)
    (event : Event) (answer : Result Done Refusal)
    → Represents state rules old m → IsApplied state rules old new m event answer
    → (next : Game) × Answers rules m event answer next × Represents state rules new next
answers_one {W} {S} state rules old new m event answer r (inl after) =
    ((applied rules m event).0, inl (refl, after.answered), after.game)
answers_one {W} {S} state rules old new m event answer r (inr (free, left)) =
    (m, inr (free, left.asks, refl, left.answered), rw left.same r)

-- a game that was played: with no event so far, and with one more. Abbrevs, so that their answers compute where
-- they are cited.
module _ {W S : Type 0} (state : W → S) (rules : Rules S) (settings : Settings) where
  abbrev pub none_played : (played : Played W) → Represents state rules (contents played.game) (opening_game settings)
      → played.done ≡ 0 → played.refused ≡ 0 → IsPlayed state rules settings [] played
  none_played played opened done refused =
      record {
        last = opening_game settings;
        answers = [];
        plays = refl;
        game = opened;
        done = done;
        refused = refused;
      }

  abbrev pub played_more : (events : List Event) (event : Event) (answer : Result Done Refusal) (played next : Played W)
      → (r : IsPlayed state rules settings events played)
      → IsApplied state rules (contents played.game) (contents next.game) r.last event answer
      → next.done ≡ played.done + count_by is_ok (answer ∷ [])
      → next.refused ≡ played.refused + count_by is_err (answer ∷ [])
      → IsPlayed state rules settings (events ++ event ∷ []) next
  played_more events event answer played next r is done refused =
      let one = answers_one state rules (contents played.game) (contents next.game) r.last event answer r.game
      is in
      record {
        last = one.0;
        answers = r.answers ++ answer ∷ [];
        plays = plays_more (Answers rules) events r.answers event answer (opening_game settings) r.last one.0 r.plays
            one.1;
        game = one.2;
        done = counts_more is_ok r.answers answer _ _ r.done done;
        refused = counts_more is_err r.answers answer _ _ r.refused refused;
      }
