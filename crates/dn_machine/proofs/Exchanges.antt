-- What an exchange leaves in a game that goes on, where each node plays or has left.
use Rattle.std.proofs.{Common.{◌≡◌, ℕ, ◌+◌, ◌≤◌, ◌<◌, ◌≢◌, Bool, true, false, true≢false, length, refl, sym, ◌∙◌, ap, subst, arith, inl, inr, ◌⊎◌}, lemmas.Bool.{cases_eq, cases_lt, cases_Bool}}
use Rattle.dn_setup.specs.Settings.{Settings}
use Rattle.dn_machine.specs.{Limits.Limits, Worlds.Rules, Flight.{Flight, is_near}, Node.{Node, put, ends_of, got, made, is_ended, has_left}, Game.{Game, with_node}, Progress.{exchange}}
use Rattle.dn_machine.proofs.{Invariant.{HoldsAll, history_of}, Put.{put_at, put_off}, GoingOn.{IsOn, ran_after, live_after, on_alike, roomy_after, Gives}, Stages.{side, goal_of, Holds, Taken, Moves, Asked}}
use Rattle.dn_machine.proofs.Receivers.{in_play, request_within, hears}
use Rattle.dn_machine.proofs.GoingOn

-- what a node keeps of the others is as it was
abbrev pub IsQuiet : Game → Game → Type 0
IsQuiet old new = (r s : ℕ) → r ≢ s → side (new.nodes r) s ≡ side (old.nodes r) s

-- what an exchange leaves
pub record IsExchanged (limits : Limits) (stay : ℕ → Bool) (tic goal start : ℕ) (i j : ℕ) (old new : Game) : Type 0 where
  pub other : (r s : ℕ) → (r ≡ i → s ≢ j) → (r ≡ j → s ≢ i) → side (new.nodes r) s ≡ side (old.nodes r) s
  pub mine_pause : ((new.nodes i).peers j).pause ≡ ((old.nodes i).peers j).pause
  pub mine_got : length ((new.nodes i).held j) ≡ length ((old.nodes i).held j)
  pub mine_want : ((new.nodes i).peers j).want ≡ ((old.nodes i).peers j).want
  pub mine_end : ends_of (new.nodes i) j ≡ ends_of (old.nodes i) j
  pub begins : stay j ≡ true → ((old.nodes i).peers j).resend ≡ length ((old.nodes j).held i)
      → start ≡ length ((old.nodes j).held i)
  pub moves : Moves limits goal start ((old.nodes i).peers j) ((new.nodes i).peers j)
  pub taken : stay j ≡ true → Taken limits.most tic goal start (side (old.nodes j) i) (side (new.nodes j) i)
  pub asked : stay i ≡ true → Holds tic (side (old.nodes i) j)
      ⊎ Asked (length ((old.nodes i).held j)) ((old.nodes i).peers j).want ((old.nodes j).peers i)
      ((new.nodes j).peers i)
  pub phase : (r : ℕ) → (new.nodes r).phase ≡ (old.nodes r).phase
  pub played : (r : ℕ) → (new.nodes r).played ≡ (old.nodes r).played

module _ {S : Type 0} (rules : Rules S) (settings : Settings) (cap : ℕ) (stay : ℕ → Bool) (tic : ℕ)
    (game : Game) (on : IsOn rules settings cap stay tic game) where
  there : (q : ℕ) → q < rules.players → stay q ≡ true → is_ended (game.nodes q).phase ≡ false
  there = in_play rules settings cap stay tic game on

  holds_all : (q p : ℕ) → HoldsAll (history_of game) q p → Holds tic (side (game.nodes q) p)
  holds_all q p h = elim (cases_lt tic (got (game.nodes q) p)) [
    | inl l ↦ inl l
    | inr m ↦ inr (h.0, h.1, omega arith)
  ]

  -- a node has made at most the window more than another, or needs no more of it
  close_or : (q p : ℕ) → q < rules.players → p < rules.players
      → (made q (game.nodes q) ≤ made p (game.nodes p) + rules.ahead) ⊎ Holds tic (side (game.nodes q) p)
  close_or q p l m = grind (arith, holds_all)

  module _ (i : ℕ) (j : ℕ) (mine : i < rules.players) (its : j < rules.players) (apart : i ≢ j)
      (built : stay i ≡ true → tic < made i (game.nodes i)) (gone asks_it : Bool)
      (sends : Gives rules game i j gone asks_it)
      (goes : gone ≡ true → (stay i ≡ false) × (has_left (game.nodes i) ≡ true))
      (here : gone ≡ false → stay i ≡ true) (asker : asks_it ≡ true → stay i ≡ true)
      (same_want : stay i ≡ true → ((game.nodes i).peers j).want ≡ asks_it) (goal : ℕ)
      (aims : goal ≡ goal_of (stay i) tic (made i (game.nodes i))) where
    abbrev I : Node
    I = game.nodes i

    abbrev J : Node
    J = game.nodes j

    abbrev flight : Flight
    flight = GoingOn.packet rules settings game on.live i j mine its apart gone asks_it sends

    asked_within : asks_it ≡ true → (got I j ≤ made j J) × (made j J ≤ got I j + (rules.ahead + rules.ahead))
    asked_within = request_within rules settings cap stay tic game on i j mine its apart built gone asks_it
        sends goes here asker goal aims

    near : made i I ≤ made j J + rules.ahead → made j J ≤ made i I + rules.ahead → is_near (made j J) flight ≡ true
    near a b = GoingOn.near rules settings game on.live i j mine its apart gone asks_it sends a b asked_within

    -- a packet to one that stays is near, or that one needs no more
    near_j : stay j ≡ true → (is_near (made j J) flight ≡ true) ⊎ Holds tic (side J i)
    near_j s = grind (arith, near, GoingOn.fits)

    -- and so is one from one that stays
    near_i : stay i ≡ true → (is_near (made j J) flight ≡ true) ⊎ Holds tic (side I j)
    near_i s = grind (arith, close_or, near, GoingOn.fits)

    abbrev new_i : Node
    new_i = GoingOn.sender rules settings game on.live i j mine its apart gone asks_it sends

    abbrev sent_game : Game
    sent_game = GoingOn.sent rules settings game on.live i j mine its apart gone asks_it sends

    -- a view in which both nodes are as they were
    looks : {A : Type 0} (y : Node) (view : Node → A) → view new_i ≡ view I → view y ≡ view J → (r : ℕ)
        → view (put (put game.nodes i new_i) j y r) ≡ view (game.nodes r)
    looks y view mine_same its_same r = grind arith

    -- the game after an exchange, with this receiver
    placed : (y : Node) → y.phase ≡ J.phase → y.played ≡ J.played → ((s : ℕ) → s ≢ i → side y s ≡ side J s)
        → (stay j ≡ true → Taken rules.most tic goal flight.start (side J i) (side y i))
        → (stay i ≡ true → Holds tic (side I j) ⊎ Asked (got I j) (I.peers j).want (J.peers i) (y.peers i))
        → IsExchanged rules.limits stay tic goal flight.start i j game (with_node sent_game j y)
    placed y y_phase y_played y_other y_taken y_asked =
        let N : ℕ → Node = put (put game.nodes i new_i) j y in
        let at_j : (r : ℕ) → r ≡ j → N r ≡ y = λ r e. put_at (put game.nodes i new_i) j r y e in
        let at_i : (r : ℕ) → r ≡ i → N r ≡ new_i = grind arith in
        record {
          other = λ r s n m. elim (cases_eq r j) [
            | inl e ↦ grind arith
            | inr d ↦ grind (arith, put_off)
          ];
          mine_pause = grind arith;
          mine_got = ap (λ (x : Node). length (x.held j)) (at_i i refl);
          mine_want = grind arith;
          mine_end = grind arith;
          begins = grind (arith, GoingOn.fits);
          moves = grind (arith, GoingOn.moves);
          taken = λ u. subst (λ (x : Node). Taken rules.most tic goal flight.start (side J i) (side x i)) (sym (at_j j refl))
              (y_taken u);
          asked = grind arith;
          phase = λ r. looks y (λ (x : Node). x.phase) refl y_phase r;
          played = λ r. looks y (λ (x : Node). x.played) refl y_played r;
        }

    pub exchanges_by : IsExchanged rules.limits stay tic goal flight.start i j game (exchange rules i game j)
    exchanges_by = elim (cases_Bool (is_near (made j J) flight)) [
      | inl near ↦
          let h = hears rules settings cap stay tic game on i j mine its apart built gone asks_it sends goes
          here asker goal aims in
          subst (λ (g : Game). IsExchanged rules.limits stay tic goal flight.start i j game g)
          (sym (GoingOn.exchanged rules settings game on.live i j mine its apart gone asks_it sends near))
          (placed _ h.phase h.played h.other h.taken
          (λ u. grind arith))
      | inr far ↦
          subst (λ (g : Game). IsExchanged rules.limits stay tic goal flight.start i j game g)
          (sym (grind (arith, GoingOn.not_exchanged))) (placed J refl refl (λ s n. refl)
          (λ u. elim (near_j u) [ inl near ↦ absurd (true≢false (sym near ∙ far)) | inr holds ↦ inl holds ])
          (λ u. elim (near_i u) [ inl near ↦ absurd (true≢false (sym near ∙ far)) | inr holds ↦ inl holds ]))
    ]

  module _ (i : ℕ) (j : ℕ) (mine : i < rules.players) (its : j < rules.players) (apart : i ≢ j)
      (built : stay i ≡ true → tic < made i (game.nodes i)) where
    pub exchanges : (goal : ℕ) → goal ≡ goal_of (stay i) tic (made i (game.nodes i))
        → (start : ℕ) × IsExchanged rules.limits stay tic goal start i j game (exchange rules i game j)
    exchanges goal aims = elim (cases_Bool (stay i)) [
      | inl s ↦ (
        _,
        exchanges_by i j mine its apart built false ((game.nodes i).peers j).want
            (GoingOn.sends_playing rules settings game on.live i j apart (on.plays i mine s))
            (λ e. absurd (true≢false (sym e))) (λ e. s) (λ e. s) (λ e. refl) goal aims,
      )
      | inr s ↦ (
        _,
        exchanges_by i j mine its apart built true false
            (GoingOn.sends_left rules settings game on.live i j apart (on.left i mine s))
            (λ e. (s, on.left i mine s)) (λ e. absurd (true≢false e)) (λ e. absurd (true≢false (sym e)))
            (λ e. absurd (true≢false (sym e ∙ s))) goal aims,
      )
    ]

    pub exchange_on : IsOn rules settings cap stay tic (exchange rules i game j)
    unfolding exchange
    exchange_on =
        let x = (exchanges _ refl).1 in search (rules, on_alike, live_after, ran_after, roomy_after)
