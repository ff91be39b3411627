-- A game goes on as soon as the network delivers: one good round for the start, and for each tic thirteen and
-- one for each packet that may be in vain.
use Rattle.std.proofs.{Common.{◌≡◌, ℕ, zero, suc, ◌+◌, ◌-◌, ◌*◌, ◌<◌, ◌≤◌, ◌≢◌, Bool, true, not, List, refl, sym, ◌∙◌, ap, subst, arith, inl, inr, ◌⊎◌}, lemmas.Bool.not-true}
use Rattle.dn_setup.specs.Settings.{Settings}
use Rattle.dn_machine.specs.{declared.answers.Phase.Phase, declared.events.Event.Event, Limits.IsWindow, Worlds.Rules, Node.{ran, is_ended}, Running.tic_limit, Game.Game, Runs.Runs}
use Rattle.dn_machine.specs.Progress.{IsSwift, GoesInto, in_order, turn, good_round, good_rounds, NoneLost, AllRan, HasRoom}
use Rattle.dn_machine.proofs.{Games.always, Stages.{Unknown, reach, reaches, lag_low}, GoingOn.{IsFar, IsOn, IsRoomy, InDemos, Without, roomy_on}, EachEvent.each_of, Growth.{always_patient, rounds_ran}}
use Rattle.dn_machine.proofs.{Rounds.{At, AtOn, turn_keeps, round_nearer, has_after, other_player, next_run}, Openings.{Stands, Gathers, Listens, Plays, HasGone, always_open}, Begun.{IsBegun, all_play}, StartUp.round_starts}
use Rattle.dn_tic.specs.declared.input.Input.{Input}

module _ {S : Type 0} (rules : Rules S) where
  -- some rounds and then more
  rounds_add : (inputs : ℕ → ℕ → Input) (game : Game) (first more all : ℕ) → all ≡ more + first
      → good_rounds rules inputs all game ≡ good_rounds rules (λ round. inputs (round + first)) more
      (good_rounds rules inputs first game)
  unfolding good_rounds in_order
  rounds_add inputs game first zero all e = grind arith
  rounds_add inputs game first (suc more) zero e = absurd (omega arith)
  rounds_add inputs game first (suc more) (suc all) e =
      let same : all ≡ more + first = omega arith in
      ap (good_round rules (inputs all)) (rounds_add inputs game first more all same)
      ∙ ap (λ (n : ℕ). good_round rules (inputs n)
      (good_rounds rules (λ round. inputs (round + first)) more (good_rounds rules inputs first game))) same

  rounds_far : (cap : ℕ) (stay : ℕ → Bool) (inputs : ℕ → ℕ → Input) (count : ℕ) (game : Game)
      → IsFar rules cap stay game → IsFar rules cap stay (good_rounds rules inputs count game)
  rounds_far cap stay inputs count game far q l s = grind (arith, rounds_ran)

module _ {S : Type 0} (rules : Rules S) (settings : Settings) (cap : ℕ) (several : 2 ≤ rules.players) (more : ℕ)
    (over : rules.places ≤ reach rules.limits more) where
  -- in these rounds each player has what it needs for a tic, and in the last of them runs it
  abbrev pub each : ℕ
  each = 13 + more

  module _ (stay : ℕ → Bool) (one : ℕ) (in_game : one < rules.players) (stays : stay one ≡ true) where
    -- a started game, where all who stay have run this many tics, unless every demo is as good as full
    abbrev Settled : ℕ → Game → Type 0
    Settled tic game = IsFar rules cap stay game ⊎ IsOn rules settings cap stay tic game

    another : (p : ℕ) × (p < rules.players) × (p ≢ one)
    another = other_player rules.players one several

    -- how far another player is from giving the one a command
    abbrev AtPair : ℕ → ℕ → Game → Type 0
    AtPair tic rounds game = At rules settings cap stay tic another.0 one another.1 in_game stays another.2
        rounds game

    settled : (tic rounds : ℕ) (game : Game) → AtPair tic rounds game → Settled tic game
    settled tic rounds game x = grind arith

    -- one good round
    settled_round : (tic : ℕ) (inputs : ℕ → Input) (game : Game) → IsOn rules settings cap stay tic game
        → Settled tic (good_round rules inputs game)
    settled_round tic inputs game on = settled tic (12 + more) (good_round rules inputs game)
        (round_nearer rules settings cap stay tic another.0 one another.1 in_game stays another.2 inputs (12 + more)
        game (AtOn on _ refl (Unknown more (omega arith) (λ h. omega arith))))

    settled_each : (tic : ℕ) (inputs : ℕ → ℕ → Input) (game : Game) → IsOn rules settings cap stay tic game
        → Settled tic (good_rounds rules inputs each game)
    unfolding good_rounds good_round in_order
    settled_each tic inputs game on =
        let all : suc (12 + more) ≡ 13 + more = omega arith in
        subst (λ (n : ℕ). Settled tic (in_order (λ before round. good_round rules (inputs round) before) n game)) all
        (settled tic 0 (good_round rules (inputs (12 + more)) (good_rounds rules inputs (12 + more) game))
        (each_of (AtPair tic 0) (turn rules (inputs (12 + more))) rules.players
        (good_rounds rules inputs (12 + more) game)
        (λ i g l at. search (rules, turn_keeps)) (search (rules, has_after))))

    -- a tic more
    next_tic : (tic : ℕ) → suc tic + rules.ahead ≤ cap → (inputs : ℕ → ℕ → Input) (game : Game) → Settled tic game
        → Settled (suc tic) (good_rounds rules inputs each game)
    next_tic tic room inputs game (inl far) = inl (rounds_far rules cap stay inputs each game far)
    next_tic tic room inputs game (inr on) = elim (settled_each tic inputs game on) [
      | inl far ↦ inl far
      | inr still ↦ inr (search (rules, next_run, roomy_on))
    ]

    pub tics : (tic count last rounds : ℕ) → last ≡ tic + count → last + rules.ahead ≤ cap → rounds ≡ each * count
        → (inputs : ℕ → ℕ → Input) (game : Game) → Settled tic game
        → Settled last (good_rounds rules inputs rounds game)
    unfolding good_rounds in_order
    tics tic zero last rounds e room f inputs game at = grind arith
    tics tic (suc count) zero rounds e room f inputs game at = absurd (omega arith)
    tics tic (suc count) (suc last) rounds e room f inputs game at =
        let first : ℕ = each * count in
        subst (λ (g : Game). Settled (suc last) g)
        (sym (rounds_add rules inputs game first each rounds (omega arith)))
        (next_tic last (omega arith) (λ round. inputs (round + first)) (good_rounds rules inputs first game)
        (tics tic count last first (omega arith) (omega arith) refl inputs game at))

    -- and so the one has run this many
    pub one_ran : (tic : ℕ) (game : Game) → tic + rules.ahead ≤ cap → Settled tic game → tic ≤ ran (game.nodes one)
    one_ran tic game room x = grind arith

  first : 0 < rules.players
  first = omega arith

  module _ (events : List Event) (game : Game) (run : Runs rules settings events game)
      (none_lost : NoneLost rules game) (window : IsWindow rules.limits) (swift : IsSwift rules.limits)
      (carries : 1 ≤ rules.most) where
    -- who has not ended
    abbrev staying : ℕ → Bool
    staying q = not (is_ended (game.nodes q).phase)

    begun : (tic : ℕ) → AllRan rules game game tic → IsRoomy rules cap tic game
        → IsBegun rules settings cap staying tic game
    begun tic far roomy = record {
      live = grind (arith, always, always_patient);
      there = λ q l s. not-true (is_ended (game.nodes q).phase) s;
      left = λ q l s. grind arith;
      is_open = always_open rules settings several window events game run;
      ran = λ q l s. far q l (not-true (is_ended (game.nodes q).phase) s);
      room = roomy;
    }

    -- one good round for the start
    starts : (q : ℕ) → q < rules.players → staying q ≡ true → (tic : ℕ) → AllRan rules game game tic
        → IsRoomy rules cap tic game → (inputs : ℕ → Input) → IsFar rules cap staying (good_round rules inputs game)
        ⊎ IsOn rules settings cap staying tic (good_round rules inputs game)
    starts q l s tic far roomy inputs = go ((begun tic far roomy).is_open.stands 0)
      where
        go : Stands 0 (game.nodes 0) → IsFar rules cap staying (good_round rules inputs game)
            ⊎ IsOn rules settings cap staying tic (good_round rules inputs game)
        go (Gathers z e f k) = round_starts rules settings cap staying tic first
            (ap (λ (p : Phase). not (is_ended p)) e) inputs several game (begun tic far roomy) e
        go (Listens z e f) = absurd (z refl)
        go (Plays e) = settled_round staying q l s tic inputs game
            (all_play rules settings cap staying tic game (begun tic far roomy)
            (((begun tic far roomy).live.kept.sound 0 first).playing e))
        go (HasGone e) = settled_round staying q l s tic inputs game
            (all_play rules settings cap staying tic game (begun tic far roomy) ((none_lost 0 first).0 e))

    -- in exactly this many rounds
    goes_on_in : (inputs : ℕ → ℕ → Input) (tic count : ℕ) → AllRan rules game game tic → IsRoomy rules cap tic game
        → tic + count + rules.ahead ≤ cap → AllRan rules game (good_rounds rules inputs (each * count + 1) game)
        (tic + count)
    unfolding good_rounds in_order
    goes_on_in inputs tic count far roomy room q l in_play =
        let s : staying q ≡ true = ap not in_play in
        one_ran staying q l s (tic + count) (good_rounds rules inputs (each * count + 1) game) room
        (subst (λ (g : Game). IsFar rules cap staying g ⊎ IsOn rules settings cap staying (tic + count) g)
        (sym (rounds_add rules inputs game 1 (each * count) (each * count + 1) refl))
        (tics staying q l s tic count (tic + count) (each * count) refl room refl (λ round. inputs (round + 1))
        (good_round rules (inputs 0) game) (starts q l s tic far roomy (inputs 0))))

    pub goes_on_by : (inputs : ℕ → ℕ → Input) (tic count rounds : ℕ) → AllRan rules game game tic
        → IsRoomy rules cap tic game → tic + count + rules.ahead ≤ cap → each * count < rounds
        → AllRan rules game (good_rounds rules inputs rounds game) (tic + count)
    goes_on_by inputs tic count rounds far roomy room enough q l in_play =
        let first : ℕ = each * count + 1 in
        let rest : ℕ = rounds - first in
        let whole : rounds ≡ rest + first = omega arith in
        subst (λ (g : Game). tic + count ≤ ran (g.nodes q))
        (sym (rounds_add rules inputs game first rest rounds whole)) (search (rules, rounds_ran, goes_on_in))

module _ {S : Type 0} (rules : Rules S) (settings : Settings) (fits : rules.capacity ≤ tic_limit)
    (several : 2 ≤ rules.players) (events : List Event) (game : Game) (run : Runs rules settings events game)
    (none_lost : NoneLost rules game) (window : IsWindow rules.limits) (swift : IsSwift rules.limits) where
  -- a packet that carries no command goes nowhere
  carries : (packets : ℕ) → GoesInto rules.limits packets → 1 ≤ rules.most
  carries packets into = grind arith

  pub goes_on_with : (packets : ℕ) → GoesInto rules.limits packets → (inputs : ℕ → ℕ → Input) (tic count rounds : ℕ)
      → HasRoom rules game tic (tic + count + rules.ahead)
      → (12 + packets) * count < rounds → AllRan rules game game tic
      → AllRan rules game (good_rounds rules inputs rounds game) (tic + count)
  goes_on_with zero into inputs tic count rounds room enough far = grind arith
  goes_on_with (suc more) into inputs tic count rounds room enough far = go room
    where
      some : 1 ≤ rules.most
      some = carries (suc more) into

      over : rules.places ≤ reach rules.limits more
      over = let same = reaches rules.limits more some (lag_low rules.limits) in omega arith

      so_many : (13 + more) * count < rounds
      so_many = omega arith

      go : HasRoom rules game tic (tic + count + rules.ahead)
          → AllRan rules game (good_rounds rules inputs rounds game) (tic + count)
      go (inl demos) =
          goes_on_by rules settings rules.capacity several more over events game run none_lost window swift some
          inputs tic count rounds far (InDemos (omega arith) fits) demos so_many
      go (inr (p, l, left, few, most)) =
          goes_on_by rules settings tic_limit several more over events game run none_lost window swift some
          inputs tic count rounds far (Without p l left few (omega arith)) most so_many
