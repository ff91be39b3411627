-- A game before or after its start, of which some may have left: what the events of a round leave of it,
-- unless every demo is as good as full.
use Rattle.std.proofs.{Common.{◌≡◌, ℕ, ◌<◌, ◌≤◌, Bool, true, false, true≢false, sym, ◌∙◌, ap, arith, inl, inr, rules, length, ◌⊎◌}, lemmas.Bool.cases_eq}
use Rattle.dn_setup.specs.Settings.{Settings}
use Rattle.dn_machine.specs.{declared.answers.Phase.TheVariants.Playing, declared.events.Event.Event, declared.events.Event.TheVariants.{Run, Send, Deliver}, Worlds.Rules, Node.{Node, ran, is_ended, has_left}}
use Rattle.dn_machine.specs.{Game.{Game, on_own_run, with_node}, Progress.{after, exchange, turn, build_of}}
use Rattle.dn_machine.proofs.{GoingOn.{accepted, IsLive, IsFar, StayRan, IsOn, far_after, exchange_far, full_far, ran_after, live_after, stays_in, IsRoomy, roomy_after, row_fits}, EachEvent.{each_of, is_of_round, after_build, after_send, after_deliver}}
use Rattle.dn_machine.proofs.{Openings.{Stands, Gathers, Listens, Plays, HasGone, IsOpen, applied_open}, Calls.{Change, build_change, send_change, hear_change}}
use Rattle.dn_tic.specs.declared.input.Input.{Input}
use Rattle.dn_machine.proofs.OwnKeeps
use Rattle.dn_machine.proofs.GoingOn

-- What builds, sends and packets leave of a node: it does not end, and whom it has noted stays noted.
-- a node that ends no more, and forgets nobody
pub record Gentle (old new : Node) : Type 0 where
  pub there : is_ended old.phase ≡ false → is_ended new.phase ≡ false
  pub plays : old.phase ≡ Playing → new.phase ≡ Playing
  pub left : has_left old ≡ true → has_left new ≡ true
  pub noted : (p : ℕ) → old.noted p ≡ true → new.noted p ≡ true

pub gentle_same : (node : Node) → Gentle node node
gentle_same node = record { there = λ h. h; plays = λ h. h; left = λ h. h; noted = λ p h. h }

gentle_on : (a b c : Node) → Gentle a b → Gentle b c → Gentle a c
gentle_on a b c first next = grind arith

change_gentle : (players from : ℕ) (spoke : Type 0) (old new : Node) → Change players from spoke ⊥ old new
    → Gentle old new
change_gentle players from spoke old new change = grind arith

-- all nodes of a game so
abbrev pub AllGentle : Game → Game → Type 0
AllGentle old new = (q : ℕ) → Gentle (old.nodes q) (new.nodes q)

pub placed_gentle : {S : Type 0} (rules : Rules S) (game : Game) (i : ℕ) (new : Node)
    → Gentle (game.nodes i) new → AllGentle game (with_node game i new)
placed_gentle rules game i new gentle q = grind arith

module _ {S : Type 0} (rules : Rules S) (game : Game) where
  pub build_gentle : (i : ℕ) (input : Input) → AllGentle game (after rules (build_of i input) game)
  build_gentle i input q = after_build rules (λ (old new : Node). Gentle old new) gentle_same game q i input
      (change_gentle _ _ _ _ _ (build_change rules.limits i (game.nodes i) input))

  pub send_gentle : (i j : ℕ) → AllGentle game (after rules (Send i j) game)
  send_gentle i j q = after_send rules (λ (old new : Node). Gentle old new) gentle_same game q i j
      (change_gentle _ _ _ _ _ (send_change rules.limits i (game.nodes i) j))

  pub deliver_gentle : (which : ℕ) → AllGentle game (after rules (Deliver which) game)
  deliver_gentle which q = after_deliver rules (λ (old new : Node). Gentle old new) gentle_same game q which
      (λ flight. change_gentle _ _ _ _ _ (hear_change rules.limits flight.to (game.nodes flight.to) flight))

pub exchange_gentle : {S : Type 0} (rules : Rules S) (game : Game) (i j : ℕ)
    → AllGentle game (exchange rules i game j)
unfolding exchange
exchange_gentle rules game i j q =
    gentle_on (game.nodes q) _ _ (send_gentle rules game i j q)
    (deliver_gentle rules (after rules (Send i j) game) (length game.flights) q)

module _ {S : Type 0} (rules : Rules S) (settings : Settings) (cap : ℕ) (stay : ℕ → Bool) (tic : ℕ) where
  -- a game before or after its start, of which some may have left
  pub record IsBegun (game : Game) : Type 0 where
    pub live : IsLive rules settings game
    pub there : (q : ℕ) → q < rules.players → stay q ≡ true → is_ended (game.nodes q).phase ≡ false
    pub left : (q : ℕ) → q < rules.players → stay q ≡ false → has_left (game.nodes q) ≡ true
    pub is_open : IsOpen rules game
    pub ran : StayRan rules stay game tic
    pub room : IsRoomy rules cap tic game

  pub gentle_begun : (event : Event) (game : Game) → is_of_round event ≡ true
      → AllGentle game (after rules event game) → IsBegun game → IsBegun (after rules event game)
  gentle_begun event game round gentle begun = record {
    live = live_after rules settings event game round begun.live;
    there = λ q l s. (gentle q).there (begun.there q l s);
    left = λ q l s. (gentle q).left (begun.left q l s);
    is_open = applied_open rules settings game begun.live.kept begun.is_open event;
    ran = ran_after rules stay event game tic begun.ran;
    room = roomy_after rules cap tic game event begun.room;
  }

  pub exchange_begun : (i j : ℕ) (game : Game) → IsBegun game → IsBegun (exchange rules i game j)
  unfolding exchange
  exchange_begun i j game begun = search (rules, gentle_begun, deliver_gentle, send_gentle)

  -- where the key player has played, each plays or has left
  pub all_play : (game : Game) → IsBegun game → (game.nodes 0).played ≡ true → IsOn rules settings cap stay tic game
  all_play game begun key = record {
    live = begun.live;
    plays = λ q l s. playing q l s (played q l) (begun.is_open.stands q);
    left = begun.left;
    ran = begun.ran;
    room = begun.room;
  }
    where
      played : (q : ℕ) → q < rules.players → (game.nodes q).played ≡ true
      played q l = elim (cases_eq q 0) [
        | inl e ↦ ap (λ (k : ℕ). (game.nodes k).played) e ∙ key
        | inr n ↦ begun.is_open.all key q (omega arith) l
      ]

      playing : (q : ℕ) → q < rules.players → stay q ≡ true → (game.nodes q).played ≡ true
          → Stands q (game.nodes q) → (game.nodes q).phase ≡ Playing
      playing q l s has (Gathers z e f k) = absurd (true≢false (sym has ∙ f))
      playing q l s has (Listens z e f) = absurd (true≢false (sym has ∙ f))
      playing q l s has (Plays e) = e
      playing q l s has (HasGone e) = absurd (true≢false (sym e ∙ begun.there q l s))

  -- a run
  module _ (game : Game) (begun : IsBegun game) (r : ℕ) (mine : r < rules.players) where
    abbrev RunsGently : Node → Type 0
    RunsGently new = IsFar rules cap stay game ⊎ Gentle (game.nodes r) new

    far_of : cap ≤ ran (game.nodes r) → IsFar rules cap stay game
    far_of = full_far rules settings cap stay game begun.live begun.there r mine

    runs : RunsGently (on_own_run rules (game.nodes r)).0
    runs = OwnKeeps.cases rules settings game begun.live.kept r mine (λ (new : Node). RunsGently new)
        (λ waits. inr (gentle_same (game.nodes r)))
        (λ plays there full.
        let most = row_fits rules cap tic game settings begun.live.kept r mine
        (begun.ran r mine (stays_in (game.nodes r) (stay r) (begun.left r mine) plays)) there begun.room in
        grind (arith, far_of))
        (λ plays there free. inr (record { there = λ h. h; plays = λ h. h; left = λ h. h; noted = λ p h. h }))

    run_gentle : IsFar rules cap stay game ⊎ AllGentle game (after rules (Run r) game)
    run_gentle = elim runs [
      | inl far ↦ inl far
      | inr gentle ↦
          inr (search (rules, accepted, GoingOn.accepts, placed_gentle))
    ]

  -- a game of which something is so, unless every demo is as good as full
  pub data With (Y : Game → Type 0) (game : Game) : Type 0 where
    WithFar : IsFar rules cap stay game → With Y game
    WithSo : IsBegun game → Y game → With Y game

  -- what an exchange leads to
  pub with_exchange : (Y Z : Game → Type 0) (i j : ℕ) (g : Game)
      → (IsBegun g → Y g → Z (exchange rules i g j)) → With Y g → With Z (exchange rules i g j)
  with_exchange Y Z i j g leads (WithFar far) = WithFar (exchange_far rules cap stay i j g far)
  with_exchange Y Z i j g leads (WithSo begun y) = WithSo (exchange_begun i j g begun) (leads begun y)

  module _ (Y : Game → Type 0) (stable : (old new : Game) → AllGentle old new → Y old → Y new) where
    pub keep_build : (i : ℕ) (input : Input) (g : Game) → With Y g → With Y (after rules (build_of i input) g)
    keep_build i input g (WithFar far) = WithFar (far_after rules cap stay (build_of i input) g far)
    keep_build i input g (WithSo begun y) = grind (arith, build_gentle, gentle_begun)

    pub keep_exchange : (i j : ℕ) (g : Game) → With Y g → With Y (exchange rules i g j)
    keep_exchange i j g = search (rules, with_exchange, exchange_gentle)

    pub keep_run : (i : ℕ) → i < rules.players → (g : Game) → With Y g → With Y (after rules (Run i) g)
    keep_run i l g (WithFar far) = WithFar (far_after rules cap stay (Run i) g far)
    keep_run i l g (WithSo begun y) = elim (run_gentle g begun i l) [
      | inl far ↦ WithFar (far_after rules cap stay (Run i) g far)
      | inr gentle ↦ grind (arith, gentle_begun)
    ]

    pub keep_turn : (inputs : ℕ → Input) (i : ℕ) → i < rules.players → (g : Game) → With Y g
        → With Y (turn rules inputs g i)
    unfolding turn
    keep_turn inputs i l g y =
        keep_run i l _ (each_of (With Y) (exchange rules i) rules.players (after rules (build_of i (inputs i)) g)
        (λ j h k x. keep_exchange i j h x) (keep_build i (inputs i) g y))
