-- What a turn, and a round of turns, leaves of how far a player is from giving another the command of a tic.
use Rattle.std.proofs.{Common.{◌≡◌, ℕ, ◌<◌, ◌≤◌, ◌≢◌, Bool, true, refl, arith, inl, inr, ◌⊎◌}, lemmas.List.length_push}
use Rattle.dn_tic.specs.declared.input.Input.{Input}
use Rattle.dn_setup.specs.Settings.{Settings}
use Rattle.dn_machine.specs.{declared.events.Event.Event, declared.events.Event.TheVariants.Run, Worlds.Rules, Node.{Node, got, made, ran}, Sending.{on_build, on_build_by}, Running.{is_absent, row_held}, Game.{Game, with_node, on_own_run}}
use Rattle.dn_machine.specs.Progress.{after, build_of}
use Rattle.dn_machine.proofs.{Truth.lowest_none, Stages.side, GoingOn.{accepted, accepted_build, IsFar, IsOn, full_far, ran_after, live_after, on_alike, stays_in, roomy_after, row_fits}, Exchanges.IsQuiet, Receivers.in_play}
use Rattle.dn_machine.proofs.EachEvent.{build_round, is_of_round}
use Rattle.dn_machine.proofs.OwnKeeps
use Rattle.dn_machine.proofs.GoingOn

module _ {S : Type 0} (rules : Rules S) (settings : Settings) (cap : ℕ) (stay : ℕ → Bool) (tic : ℕ) where
  module _ (game : Game) (on : IsOn rules settings cap stay tic game) where
    -- one node after an event, that looks as it did
    viewed : {A : Type 0} (event : Event) (r : ℕ) (x : Node) → after rules event game ≡ with_node game r x
        → (view : Node → A) → view x ≡ view (game.nodes r) → (q : ℕ)
        → view ((after rules event game).nodes q) ≡ view (game.nodes q)
    viewed event r x same view alike q = grind arith

    placed_on : (event : Event) → is_of_round event ≡ true → (r : ℕ) (x : Node)
        → after rules event game ≡ with_node game r x
        → x.phase ≡ (game.nodes r).phase → x.played ≡ (game.nodes r).played
        → IsOn rules settings cap stay tic (after rules event game)
    placed_on event round r x same phase played =
        let phases = viewed event r x same (λ (n : Node). n.phase) phase in
        let played_too = viewed event r x same (λ (n : Node). n.played) played in
        search (rules, on_alike, live_after, ran_after, roomy_after)

    placed_quiet : (event : Event) (r : ℕ) (x : Node) → after rules event game ≡ with_node game r x
        → ((s : ℕ) → s ≢ r → side x s ≡ side (game.nodes r) s) → IsQuiet game (after rules event game)
    placed_quiet event r x same quiet q s apart = grind arith

    module _ (r : ℕ) (mine : r < rules.players) where
      record IsBuilt (new : Node) : Type 0 where
        phase : new.phase ≡ (game.nodes r).phase
        played : new.played ≡ (game.nodes r).played
        quiet : (s : ℕ) → s ≢ r → side new s ≡ side (game.nodes r) s
        built : stay r ≡ true → tic < made r new

      builds : (input : Input) → IsBuilt (on_build rules.limits r (game.nodes r) input).0
      unfolding on_build_by
      builds input = grind (arith, length_push)

      built_is : (input : Input) → after rules (build_of r input) game
          ≡ with_node game r (on_build rules.limits r (game.nodes r) input).0
      built_is input = accepted_build rules game r input (GoingOn.accepts rules settings game on.live r mine)

      pub build_on : (input : Input) → IsOn rules settings cap stay tic (after rules (build_of r input) game)
      build_on input = placed_on (build_of r input) (build_round r input) r _ (built_is input) (builds input).phase
          (builds input).played

      pub build_quiet : (input : Input) → IsQuiet game (after rules (build_of r input) game)
      build_quiet input = placed_quiet (build_of r input) r _ (built_is input) (builds input).quiet

      pub build_made : (input : Input) → stay r ≡ true → tic < made r ((after rules (build_of r input) game).nodes r)
      build_made input s = grind (arith, built_is, builds)

      -- a player holds nobody back: its command is there, or its known end is not past the next tic
      abbrev pub IsThere : ℕ → Type 0
      IsThere p = (ran (game.nodes r) < got (game.nodes r) p) ⊎ (is_absent (game.nodes r) p ≡ true)

      -- run
      data IsRun (new : Node) : Type 0 where
        Full : cap ≤ ran (game.nodes r) → IsRun new
        Runs : new.phase ≡ (game.nodes r).phase → new.played ≡ (game.nodes r).played
            → ((s : ℕ) → s ≢ r → side new s ≡ side (game.nodes r) s)
            → (stay r ≡ true → ((p : ℕ) → p < rules.players → IsThere p) → ran (game.nodes r) < ran new)
            → IsRun new

      runs : IsRun (on_own_run rules (game.nodes r)).0
      runs = OwnKeeps.cases rules settings game on.live.kept r mine (λ (new : Node). IsRun new)
          (λ waits. grind (arith, lowest_none))
          (λ plays there full.
          let most = row_fits rules cap tic game settings on.live.kept r mine
          (on.ran r mine (stays_in (game.nodes r) (stay r) (on.left r mine) plays)) there on.room in
          grind arith)
          (λ plays there free. let count = length_push (game.nodes r).rows (row_held rules.limits (game.nodes r)) in
          grind arith)

      run_is : after rules (Run r) game ≡ with_node game r (on_own_run rules (game.nodes r)).0
      run_is = accepted rules game (Run r) (GoingOn.accepts rules settings game on.live r mine)

      -- where one demo is full, every demo is as good as full
      far_of : cap ≤ ran (game.nodes r) → IsFar rules cap stay game
      far_of = search (rules, full_far, in_play)

      -- what a run leaves, unless every demo is as good as full
      pub record HasRun (new : Game) : Type 0 where
        pub still_on : IsOn rules settings cap stay tic new
        pub quiet : IsQuiet game new
        pub more : stay r ≡ true → ((p : ℕ) → p < rules.players → IsThere p)
            → ran (game.nodes r) < ran (new.nodes r)

      pub run_on : IsFar rules cap stay game ⊎ HasRun (after rules (Run r) game)
      run_on = go (on_own_run rules (game.nodes r)).0 runs run_is
        where
          go : (x : Node) → IsRun x → after rules (Run r) game ≡ with_node game r x
              → IsFar rules cap stay game ⊎ HasRun (after rules (Run r) game)
          go x (Full full) same = inl (far_of full)
          go x (Runs phase played quiet more) same = inr (record {
            still_on = placed_on (Run r) refl r x same phase played;
            quiet = placed_quiet (Run r) r x same quiet;
            more = grind arith;
          })
