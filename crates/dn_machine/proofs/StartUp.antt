-- After one good round every node plays.
use Rattle.std.proofs.{Common.{◌≡◌, ℕ, ◌<◌, ◌≢◌, Bool, true, false, true≢false, [], length, refl, sym, ◌∙◌, ap, arith, Some, None, inl, inr, zero, suc, ◌≤◌, ◌⊎◌}, lemmas.Bool.{cases_Bool, cases_eq}}
use Rattle.dn_tic.specs.declared.input.Input.{Input}
use Rattle.dn_setup.specs.Settings.{Settings}
use Rattle.dn_machine.specs.{Making.vanilla_making, Progress.{exchange, after, turn, good_round, build_of}}
use Rattle.dn_machine.specs.declared.answers.Phase.{Phase}
use Rattle.dn_machine.specs.{declared.answers.Phase.TheVariants.{Gathering, Playing}, Worlds.Rules, Flight.{SetUp, Flight, is_near}, Node.{Node, made, is_ended, has_left}, Sending.{on_send, on_build, on_build_by, on_build_in}, Hearing.on_packet, Game.{Game, with_node}}
use Rattle.dn_machine.proofs.{GoingOn.{Gives, accepted_build, IsFar, IsOn, far_after, exchange_far}, Openings.{Stands, Gathers, Listens, Plays, HasGone}, Begun.{AllGentle, exchange_gentle, IsBegun, build_gentle, with_exchange, With, WithFar, WithSo, gentle_begun, all_play, keep_build, keep_exchange, keep_run, keep_turn}}
use Rattle.dn_machine.proofs.{EachEvent.{two_of, one_of, build_round}, Calls.noted_all}
use Rattle.dn_machine.proofs.GoingOn

-- The key player's packet starts a listener, and a player's packet is noted by the key player.

-- the key player still gathers
abbrev pub KeyGathers : Game → Type 0
KeyGathers g = (g.nodes 0).phase ≡ Gathering

-- a player plays or has left
abbrev pub IsIn : ℕ → Game → Type 0
IsIn j g = ((g.nodes j).phase ≡ Playing) ⊎ (has_left (g.nodes j) ≡ true)

-- the key player has heard of a player
abbrev pub KnowsOf : ℕ → Game → Type 0
KnowsOf j g = ((g.nodes 0).phase ≡ Playing) ⊎ ((g.nodes 0).noted j ≡ true)

pub in_stable : (j : ℕ) (old new : Game) → AllGentle old new → IsIn j old → IsIn j new
in_stable j old new gentle x = grind arith

pub knows_stable : (j : ℕ) (old new : Game) → AllGentle old new → KnowsOf j old → KnowsOf j new
knows_stable j old new gentle x = grind arith

module _ {S : Type 0} (rules : Rules S) (settings : Settings) (cap : ℕ) (stay : ℕ → Bool) (tic : ℕ) where
  module _ (some : 0 < rules.players) (key_stays : stay 0 ≡ true) where
    -- the key player's packet starts a listener
    module _ (j : ℕ) (its : j < rules.players) (other : j ≢ 0) (game : Game)
        (begun : IsBegun rules settings cap stay tic game) (key : KeyGathers game) where
      abbrev set_up : Flight
      set_up = record { from = 0; to = j; kind = SetUp settings; start = 0; request = None; commands = [] }

      back : 0 ≢ j
      back e = other (sym e)

      gives : on_send rules.limits 0 (game.nodes 0) j ≡ (game.nodes 0, Some set_up)
      unfolding on_send
      gives = grind arith

      abbrev started_one : Node
      started_one = (on_packet rules.limits j (game.nodes j) set_up).0

      exchange_is : exchange rules 0 game j
          ≡ with_node (GoingOn.under_way rules settings game begun.live 0 j some its back (game.nodes 0)
          set_up refl gives) j started_one
      exchange_is = search (rules, GoingOn.arrives, back, gives)

      started_plays : is_ended (game.nodes j).phase ≡ false → started_one.phase ≡ Playing
      unfolding on_packet
      started_plays in_play = grind arith

      pub starts : IsIn j (exchange rules 0 game j)
      starts = elim (cases_Bool (stay j)) [
        | inl s ↦ grind (arith, exchange_is, started_plays)
        | inr s ↦ inr ((exchange_gentle rules game 0 j j).left (begun.left j its s))
      ]

      pub still_gathers : KeyGathers (exchange rules 0 game j)
      still_gathers = grind (arith, exchange_is)

    -- and a player's packet is noted
    module _ (j : ℕ) (its : j < rules.players) (other : j ≢ 0) (game : Game)
        (begun : IsBegun rules settings cap stay tic game)
        (gone asks_it : Bool) (sends : Gives rules game j 0 gone asks_it)
        (asker : asks_it ≡ true → is_ended (game.nodes j).phase ≡ false) where
      abbrev F : Flight
      F = GoingOn.packet rules settings game begun.live j 0 its some other gone asks_it sends

      near : length (game.nodes 0).rows ≡ 0 → is_near (made 0 (game.nodes 0)) F ≡ true
      near none = grind (arith, GoingOn.fits)

      knows_by : KnowsOf j (exchange rules j game 0)
      unfolding on_packet
      knows_by = go (begun.is_open.stands 0)
        where
          go : Stands 0 (game.nodes 0) → KnowsOf j (exchange rules j game 0)
          go (Listens z e f) = absurd (z refl)
          go (HasGone e) = absurd (true≢false (sym e ∙ begun.there 0 some key_stays))
          go (Plays e) = inl ((exchange_gentle rules game j 0 0).plays e)
          go (Gathers z e f k) =
              inr (ap (λ (g : Game). (g.nodes 0).noted j)
              (GoingOn.exchanged rules settings game begun.live j 0 its some other gone asks_it sends (near k))
              ∙ (grind arith))

    pub knows : (j : ℕ) → j < rules.players → j ≢ 0 → (game : Game)
        → IsBegun rules settings cap stay tic game → IsIn j game → KnowsOf j (exchange rules j game 0)
    knows j its other game begun (inl plays) =
        knows_by j its other game begun false ((game.nodes j).peers 0).want
        (GoingOn.sends_playing rules settings game begun.live j 0 other plays) (λ w. ap is_ended plays)
    knows j its other game begun (inr left) =
        knows_by j its other game begun true false
        (GoingOn.sends_left rules settings game begun.live j 0 other left) (λ w. absurd (true≢false (sym w)))

-- The round.

-- each of a bounded number of facts, or what stands beside each
all_or : (A : Type 0) (P : ℕ → Type 0) (bound : ℕ) → ((j : ℕ) → j < bound → A ⊎ P j)
    → A ⊎ ((j : ℕ) → j < bound → P j)
all_or A P zero h = inr (λ j l. absurd (omega arith))
all_or A P (suc bound) h = elim (all_or A P bound (λ j l. h j (omega arith))) [
  | inl a ↦ inl a
  | inr before ↦ elim (h bound (omega arith)) [
    | inl a ↦ inl a
    | inr here ↦ grind arith
  ]
]

module _ {S : Type 0} (rules : Rules S) (settings : Settings) (cap : ℕ) (stay : ℕ → Bool) (tic : ℕ) where
  -- so, or every demo is as good as full
  abbrev So : (Game → Type 0) → Game → Type 0
  So = With rules settings cap stay tic

  -- who gathers builds nothing
  builds_none : (g : Game) → (g.nodes 0).phase ≡ Gathering → (input : Input)
      → (on_build rules.limits 0 (g.nodes 0) input).0.phase ≡ (g.nodes 0).phase
  unfolding on_build_by
  builds_none g key state = ap (λ (ph : Phase). (on_build_in vanilla_making rules.limits 0 (g.nodes 0) state ph).0.phase) key

  module _ (some : 0 < rules.players) (key_stays : stay 0 ≡ true) where
    module _ (inputs : ℕ → Input) where
      -- the key player's turn starts each other
      module _ (j : ℕ) (its : j < rules.players) (other : j ≢ 0) where
        gathers_on : (i : ℕ) (g : Game) → i < rules.players → i ≢ j → So KeyGathers g
            → So KeyGathers (exchange rules 0 g i)
        gathers_on i g l n at = elim (cases_eq i 0) [
          | inl e ↦ own i g e at
          | inr d ↦ search (rules, with_exchange, still_gathers)
        ]
          where
            -- to itself it gives nothing
            own : (k : ℕ) (h : Game) → k ≡ 0 → So KeyGathers h → So KeyGathers (exchange rules 0 h k)
            own k h e (WithFar far) = WithFar (exchange_far rules cap stay 0 k h far)
            own k h e (WithSo begun key) =
                let same : exchange rules 0 h k ≡ h = grind (arith, GoingOn.exchange_own) in grind arith

        starts_one : (g : Game) → So KeyGathers g → So (IsIn j) (exchange rules 0 g j)
        starts_one g = search (rules, with_exchange, starts)

        key_built : (g : Game) → So KeyGathers g → So KeyGathers (after rules (build_of 0 (inputs 0)) g)
        key_built g (WithFar far) = WithFar (far_after rules cap stay (build_of 0 (inputs 0)) g far)
        key_built g (WithSo begun key) =
            WithSo (search (rules, gentle_begun, build_round, build_gentle))
            (grind (arith, accepted_build, builds_none))

        key_turn : (g : Game) → So KeyGathers g → So (IsIn j) (turn rules inputs g 0)
        unfolding turn
        key_turn g key = keep_run rules settings cap stay tic (IsIn j) (in_stable j) 0 some _ (
            one_of (So KeyGathers) (So (IsIn j)) (exchange rules 0) rules.players j
            (λ i h l n x. gathers_on i h l n x)
            (λ i h l n x. keep_exchange rules settings cap stay tic (IsIn j) (in_stable j) 0 i h x)
            (λ h x. starts_one h x) (after rules (build_of 0 (inputs 0)) g) its (key_built g key))

        notes_one : (g : Game) → So (IsIn j) g → So (KnowsOf j) (exchange rules j g 0)
        notes_one g = search (rules, with_exchange, knows)

        other_turn : (g : Game) → So (IsIn j) g → So (KnowsOf j) (turn rules inputs g j)
        unfolding turn
        other_turn g plays = keep_run rules settings cap stay tic (KnowsOf j) (knows_stable j) j its _ (
            one_of (So (IsIn j)) (So (KnowsOf j)) (exchange rules j) rules.players 0
            (λ i h l n x. keep_exchange rules settings cap stay tic (IsIn j) (in_stable j) j i h x)
            (λ i h l n x. keep_exchange rules settings cap stay tic (KnowsOf j) (knows_stable j) j i h x)
            (λ h x. notes_one h x) (after rules (build_of j (inputs j)) g) some
            (keep_build rules settings cap stay tic (IsIn j) (in_stable j) j (inputs j) g plays))

        round_notes : (g : Game) → So KeyGathers g → So (KnowsOf j) (good_round rules inputs g)
        unfolding good_round
        round_notes g key = two_of (So KeyGathers) (So (IsIn j)) (So (KnowsOf j)) (turn rules inputs)
            rules.players 0 j (omega arith)
            (λ i h l less x. absurd (omega arith))
            (λ i h l a b x. keep_turn rules settings cap stay tic (IsIn j) (in_stable j) inputs i l h x)
            (λ i h l a b x. keep_turn rules settings cap stay tic (KnowsOf j) (knows_stable j) inputs i l h x)
            (λ h x. key_turn h x)
            (λ h x. other_turn h x) g its key

      pub round_starts : 2 ≤ rules.players → (g : Game) → IsBegun rules settings cap stay tic g
          → (g.nodes 0).phase ≡ Gathering → IsFar rules cap stay (good_round rules inputs g)
          ⊎ IsOn rules settings cap stay tic (good_round rules inputs g)
      round_starts several g begun key =
          elim (all_or (IsFar rules cap stay (good_round rules inputs g))
          (λ (j : ℕ). 0 < j → KnowsOf j (good_round rules inputs g)) rules.players one) [
            | inl far ↦ inl far
            | inr each ↦ with_begun each (round_notes 1 (omega arith) (λ e. omega arith) g (WithSo begun key))
          ]
        where
          one : (j : ℕ) → j < rules.players → IsFar rules cap stay (good_round rules inputs g)
              ⊎ (0 < j → KnowsOf j (good_round rules inputs g))
          one j l = elim (cases_eq j 0) [
            | inl e ↦ inr (λ low. absurd (omega arith))
            | inr n ↦ known (round_notes j l n g (WithSo begun key))
          ]
            where
              known : So (KnowsOf j) (good_round rules inputs g) → IsFar rules cap stay (good_round rules inputs g)
                  ⊎ (0 < j → KnowsOf j (good_round rules inputs g))
              known (WithFar far) = inl far
              known (WithSo now y) = inr (λ low. y)

          with_begun : ((j : ℕ) → j < rules.players → 0 < j → KnowsOf j (good_round rules inputs g))
              → So (KnowsOf 1) (good_round rules inputs g) → IsFar rules cap stay (good_round rules inputs g)
              ⊎ IsOn rules settings cap stay tic (good_round rules inputs g)
          with_begun each (WithFar far) = inl far
          with_begun each (WithSo now y) = inr (go (now.is_open.stands 0))
            where
              go : Stands 0 ((good_round rules inputs g).nodes 0)
                  → IsOn rules settings cap stay tic (good_round rules inputs g)
              go (Plays e) = all_play rules settings cap stay tic (good_round rules inputs g) now
                  ((now.live.kept.sound 0 some).playing e)
              go (Listens z e f) = absurd (z refl)
              go (HasGone e) = absurd (true≢false (sym e ∙ now.there 0 some key_stays))
              go (Gathers z e f k) =
                  let all = noted_all rules.players ((good_round rules inputs g).nodes 0).noted
                  (λ k a b. grind arith) in grind arith
