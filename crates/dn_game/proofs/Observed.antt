-- One event more that an observer is told.
use Rattle.std.proofs.Common.{◌≡◌, ◌+◌, ℕ, List, [], ◌∷◌, ◌++◌, Some, Result, refl, ap, ◌∙◌, length-append, length, arith, count_by, is_ok, is_err}
use Rattle.rand_pcg.specs.Lcg.{Lcg}
use Rattle.dn_setup.specs.Settings.{Settings}
use Rattle.dn_machine.specs.{declared.events.Done.Done, declared.events.Event.Event, declared.events.Refusal.Refusal, Game.{Game, opening_game, refused}, Worlds.Rules}
use Rattle.dn_game.specs.{Applied.IsApplied, Contents.{contents}, Played.{Answers, Plays, IsPlayed}, Schedule.{behind_three, generator_of, scheduled}, Stormed.{Follows, IsStormed}, declared.played.Played.Played}
use Rattle.dn_game.specs.{Headline.HaveAgreed, Observed.{Observing, ObservesAll}}
use Rattle.dn_game.proofs.{Answering.{answers_one, counts_more, plays_leads}, Headlines.have_agreed}

-- One event more of a schedule.

module _ {S : Type 0} (rules : Rules S) where
  pub follows_more : (generator : Lcg) (events : List Event) (answers : List (Result Done Refusal))
      (event : Event) (answer : Result Done Refusal) (rest : Lcg) (game mid last : Game)
      → Follows rules generator game events answers rest mid → scheduled rules.players mid rest ≡ Some event
      → Answers rules mid event answer last
      → Follows rules generator game (events ++ event ∷ []) (answers ++ answer ∷ []) (behind_three rest) last
  follows_more generator [] [] event answer rest game mid last (left, same) given next =
      (rw (same, left) at given, (last, rw same at next, (ap behind_three left, refl)))
  follows_more generator [] (a ∷ answers) event answer rest game mid last way given next = absurd way
  follows_more generator (e ∷ events) [] event answer rest game mid last way given next = absurd way
  follows_more generator (e ∷ events) (a ∷ answers) event answer rest game mid last (first, (then, one, way))
      given next =
      grind (
        arith,
        follows_more (behind_three generator) events answers event answer rest then mid last way
            given next,
      )

  pub follows_plays : (generator : Lcg) (events : List Event) (answers : List (Result Done Refusal))
      (rest : Lcg) (game last : Game)
      → Follows rules generator game events answers rest last → Plays rules game events answers last
  follows_plays generator [] [] rest game last (left, same) = same
  follows_plays generator [] (a ∷ answers) rest game last way = absurd way
  follows_plays generator (e ∷ events) [] rest game last way = absurd way
  follows_plays generator (e ∷ events) (a ∷ answers) rest game last (first, (then, one, way)) =
      (then, one, follows_plays (behind_three generator) events answers rest then last way)

-- one event more of a storm. An abbrev, so that its events and answers compute where it is cited.
abbrev pub stormed_more : {W S : Type 0} (state : W → S) (rules : Rules S) (settings : Settings)
    (seed count : ℕ) (event : Event) (answer : Result Done Refusal) (played next : Played W)
    → (s : IsStormed state rules settings seed count played)
    → scheduled rules.players s.last s.rest ≡ Some event
    → IsApplied state rules (contents played.game) (contents next.game) s.last event answer
    → next.done ≡ played.done + count_by is_ok (answer ∷ [])
    → next.refused ≡ played.refused + count_by is_err (answer ∷ [])
    → IsStormed state rules settings seed (count + 1) next
stormed_more state rules settings seed count event answer played next s given is done refused =
    let one = answers_one state rules (contents played.game) (contents next.game) s.last event answer s.game
    is in
    record {
      events = s.events ++ event ∷ [];
      answers = s.answers ++ answer ∷ [];
      rest = behind_three s.rest;
      last = one.0;
      follows = follows_more rules (generator_of seed) s.events s.answers event answer s.rest
          (opening_game settings) s.last one.0 s.follows given one.1;
      counted = length-append s.events (event ∷ []) ∙ ap (λ (k : ℕ). k + 1) s.counted;
      game = one.2;
      done = counts_more is_ok s.answers answer _ _ s.done done;
      refused = counts_more is_err s.answers answer _ _ s.refused refused;
    }

module _ {L : Type 0} (observes : Observing L) where
  pub observes_more : (events : List Event) (answers : List (Result Done Refusal)) (event : Event)
      (answer : Result Done Refusal) (number last : ℕ) (old mid new : L)
      → ObservesAll observes old number events answers mid → last ≡ number + length events
      → observes mid last event answer new
      → ObservesAll observes old number (events ++ event ∷ []) (answers ++ answer ∷ []) new
  observes_more [] [] event answer number last old mid new same counted told = grind arith
  observes_more [] (a ∷ answers) event answer number last old mid new way counted told = absurd way
  observes_more (e ∷ events) [] event answer number last old mid new way counted told = absurd way
  observes_more (e ∷ events) (a ∷ answers) event answer number last old mid new (then, one, way) counted told =
      grind (
        arith,
        observes_more events answers event answer (number + 1) last then mid new way (omega (
          arith,
          counted,
        )) told,
      )

-- and what it was told of led to games that agree
module _ {W S : Type 0} (state : W → S) (rules : Rules S) (settings : Settings) (played : Played W) where
  pub played_agrees : (events : List Event) → IsPlayed state rules settings events played
      → HaveAgreed state rules.physics settings rules.players (contents played.game)
  played_agrees events run =
      have_agreed state rules settings events (contents played.game) (record {
        last = run.last;
        run = plays_leads rules events run.answers (opening_game settings) run.last run.plays;
        game = run.game;
      })

  pub stormed_agrees : (seed count : ℕ) → IsStormed state rules settings seed count played
      → HaveAgreed state rules.physics settings rules.players (contents played.game)
  stormed_agrees seed count run =
      let plays = follows_plays rules (generator_of seed) run.events run.answers run.rest (opening_game settings)
      run.last run.follows in
      have_agreed state rules settings run.events (contents played.game) (record {
        last = run.last;
        run = plays_leads rules run.events run.answers (opening_game settings) run.last plays;
        game = run.game;
      })
