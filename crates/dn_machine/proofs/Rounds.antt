-- In twelve good rounds, and one for each packet that may be in vain, each player gives each other the
-- command of a tic that all have reached; in the round after those each player runs the tic.
use Rattle.std.proofs.{Common.{◌≡◌, ℕ, zero, suc, ◌+◌, ◌<◌, ◌≤◌, ◌≢◌, Bool, true, refl, sym, subst, arith, inl, inr, ap, ◌⊎◌}, lemmas.Bool.{cases_eq, cases_lt}}
use Rattle.dn_setup.specs.Settings.{Settings}
use Rattle.dn_machine.specs.{declared.events.Event.Event, declared.events.Event.TheVariants.Run, Worlds.Rules, Node.{made, got, ran}, Game.Game, Progress.{after, in_order, exchange, turn, good_round, good_rounds, build_of}}
use Rattle.dn_machine.specs.Running.{is_absent}
use Rattle.dn_machine.proofs.{Stages.{AfterSent, AfterHeard, side, Stage, Unknown, goal_of, reach, lag_low, sent_stage, asked_stage, Has, Meets, Asks}, Exchanges.IsExchanged, GoingOn.{IsFar, IsOn, far_after, exchange_far, made_after, exchange_made}}
use Rattle.dn_machine.proofs.{EachEvent.{each_of, two_of, one_of}, Growth.{applied_grows, turn_ran}}
use Rattle.dn_tic.specs.declared.input.Input.{Input}
use Rattle.dn_machine.proofs.GoingOn
use Rattle.dn_machine.proofs.Exchanges
use Rattle.dn_machine.proofs.Turns

module _ {S : Type 0} (rules : Rules S) (settings : Settings) (cap : ℕ) (stay : ℕ → Bool) (tic : ℕ) where
  module _ (p q : ℕ) (l : p < rules.players) (m : q < rules.players) (stays : stay q ≡ true) (apart : p ≢ q) where
    abbrev StageOf : ℕ → ℕ → Game → Type 0
    StageOf goal rounds g = Stage rules.limits tic goal rounds (side (g.nodes p) q) (side (g.nodes q) p)

    -- what the other needs of the player ends before this tic
    abbrev Aims : ℕ → Game → Type 0
    Aims goal g = goal ≡ goal_of (stay p) tic (made p (g.nodes p))

    -- between turns
    pub data At (rounds : ℕ) (g : Game) : Type 0 where
      AtFar : IsFar rules cap stay g → At rounds g
      AtOn : IsOn rules settings cap stay tic g → (goal : ℕ) → Aims goal g → StageOf goal rounds g → At rounds g

    -- within the turn of a node
    pub data In (r : ℕ) (rounds : ℕ) (g : Game) : Type 0 where
      InFar : IsFar rules cap stay g → In r rounds g
      InOn : IsOn rules settings cap stay tic g → (stay r ≡ true → tic < made r (g.nodes r))
          → (goal : ℕ) → Aims goal g → StageOf goal rounds g → In r rounds g

    stage_kept : (goal rounds : ℕ) (g h : Game) → side (h.nodes p) q ≡ side (g.nodes p) q
        → side (h.nodes q) p ≡ side (g.nodes q) p → StageOf goal rounds g → StageOf goal rounds h
    stage_kept goal rounds g h a b stage = grind arith

    aims_after : (event : Event) (goal : ℕ) (g : Game) → IsOn rules settings cap stay tic g → Aims goal g
        → Aims goal (after rules event g)
    aims_after event goal g on aims = grind (arith, made_after)

    aims_exchanged : (r j goal : ℕ) (g : Game) → IsOn rules settings cap stay tic g → Aims goal g
        → Aims goal (exchange rules r g j)
    aims_exchanged r j goal g on aims = grind (arith, exchange_made)

    built_in : (r : ℕ) → r < rules.players → (input : Input) (rounds : ℕ) (g : Game) → At rounds g
        → In r rounds (after rules (build_of r input) g)
    built_in r o input rounds g (AtFar far) = InFar (far_after rules cap stay (build_of r input) g far)
    built_in r o input rounds g (AtOn on goal aims stage) =
        let quiet = Turns.build_quiet rules settings cap stay tic g on r o input in
        InOn (Turns.build_on rules settings cap stay tic g on r o input)
        (Turns.build_made rules settings cap stay tic g on r o input) goal
        (aims_after (build_of r input) goal g on aims)
        (stage_kept goal rounds g (after rules (build_of r input) g) (quiet p q apart)
        (quiet q p (λ e. apart (sym e))) stage)

    run_at : (r : ℕ) → r < rules.players → (rounds : ℕ) (g : Game) → In r rounds g
        → At rounds (after rules (Run r) g)
    run_at r o rounds g (InFar far) = AtFar (far_after rules cap stay (Run r) g far)
    run_at r o rounds g (InOn on built goal aims stage) = elim (Turns.run_on rules settings cap stay tic g on r o) [
      | inl far ↦ AtFar (far_after rules cap stay (Run r) g far)
      | inr ran ↦
          AtOn ran.still_on goal (aims_after (Run r) goal g on aims)
          (stage_kept goal rounds g (after rules (Run r) g) (ran.quiet p q apart)
          (ran.quiet q p (λ e. apart (sym e))) stage)
    ]

    -- the sender keeps what it made
    still_made : (r j : ℕ) (g : Game) (goal start : ℕ) → r ≢ j
        → IsExchanged rules.limits stay tic goal start r j g (exchange rules r g j)
        → (stay r ≡ true → tic < made r (g.nodes r))
        → stay r ≡ true → tic < made r ((exchange rules r g j).nodes r)
    still_made r j g goal start n x built u = grind arith

    -- an exchange of others
    passes : (r j rounds : ℕ) → r < rules.players → j < rules.players → (g : Game) → (r ≡ p → j ≢ q)
        → (r ≡ q → j ≢ p) → In r rounds g → In r rounds (exchange rules r g j)
    passes r j rounds o k g a b (InFar far) = InFar (exchange_far rules cap stay r j g far)
    passes r j rounds o k g a b (InOn on built goal aims stage) = elim (cases_eq r j) [
      | inl e ↦
          let own : exchange rules r g j ≡ g = grind (arith, GoingOn.exchange_own) in
          subst (λ (h : Game). In r rounds h) (sym own) (InOn on built goal aims stage)
      | inr n ↦
          let x = (Exchanges.exchanges rules settings cap stay tic g on r j o k n built _ refl).1 in
          InOn (Exchanges.exchange_on rules settings cap stay tic g on r j o k n built)
          (still_made r j g _ _ n x built) goal (aims_exchanged r j goal g on aims)
          (stage_kept goal rounds g (exchange rules r g j)
          (x.other p q (λ e d. a (sym e) (sym d)) (λ e d. b (sym d) (sym e)))
          (x.other q p (λ e d. b (sym e) (sym d)) (λ e d. a (sym d) (sym e))) stage)
    ]

    -- the player gives the other a packet
    gives : (rounds later : ℕ) → AfterSent rounds later → (g : Game) → In p rounds g
        → In p later (exchange rules p g q)
    gives rounds later fit g (InFar far) = InFar (exchange_far rules cap stay p q g far)
    gives rounds later fit g (InOn on built goal aims stage) =
        let x = (Exchanges.exchanges rules settings cap stay tic g on p q l m apart built goal aims).1 in
        InOn (Exchanges.exchange_on rules settings cap stay tic g on p q l m apart built)
        (still_made p q g _ _ apart x built) goal (aims_exchanged p q goal g on aims)
        (sent_stage rules.limits tic goal rounds later (side (g.nodes p) q)
        (side ((exchange rules p g q).nodes p) q) (side (g.nodes q) p)
        (side ((exchange rules p g q).nodes q) p) _ on.live.carries (lag_low rules.limits) stage x.mine_pause
        (on.live.patient p q) (x.begins stays) x.moves (x.taken stays) fit)

    -- and hears one of it
    hears : (rounds later : ℕ) → AfterHeard rounds later → (g : Game) → In q rounds g
        → In q later (exchange rules q g p)
    hears rounds later fit g (InFar far) = InFar (exchange_far rules cap stay q p g far)
    hears rounds later fit g (InOn on built goal aims stage) =
        let back : q ≢ p = λ e. apart (sym e) in
        let x = (Exchanges.exchanges rules settings cap stay tic g on q p m l back built _ refl).1 in
        InOn (Exchanges.exchange_on rules settings cap stay tic g on q p m l back built)
        (still_made q p g _ _ back x built) goal (aims_exchanged q p goal g on aims)
        (asked_stage rules.limits tic goal rounds later (side (g.nodes p) q)
        (side ((exchange rules q g p).nodes p) q) (side (g.nodes q) p)
        (side ((exchange rules q g p).nodes q) p) stage x.mine_got x.mine_want x.mine_end (x.asked stays) fit)

    module _ (inputs : ℕ → Input) where
      -- the turn of another
      turn_other : (r rounds : ℕ) → r < rules.players → r ≢ p → r ≢ q → (g : Game) → At rounds g
          → At rounds (turn rules inputs g r)
      unfolding turn
      turn_other r rounds o a b g at =
          run_at r o rounds _
          (each_of (In r rounds) (exchange rules r) rules.players (after rules (build_of r (inputs r)) g)
          (λ j h k x. passes r j rounds o k h (λ e. absurd (a e)) (λ e. absurd (b e)) x)
          (built_in r o (inputs r) rounds g at))

      -- the turn of one of the two, up to the run, by what its exchange with the other leads to
      turn_to : (r s : ℕ) → r < rules.players → s < rules.players → (rounds later : ℕ)
          → ((j : ℕ) → j ≢ s → (r ≡ p → j ≢ q) × (r ≡ q → j ≢ p))
          → ((h : Game) → In r rounds h → In r later (exchange rules r h s)) → (g : Game) → At rounds g
          → In r later (in_order (exchange rules r) rules.players (after rules (build_of r (inputs r)) g))
      turn_to r s o m rounds later others goes g at =
          one_of (In r rounds) (In r later) (exchange rules r) rules.players s
          (λ j h k n x. passes r j rounds o k h (others j n).0 (others j n).1 x)
          (λ j h k n x. passes r j later o k h (others j n).0 (others j n).1 x)
          goes (after rules (build_of r (inputs r)) g) m (built_in r o (inputs r) rounds g at)

      turn_gives : (rounds later : ℕ) → AfterSent rounds later → (g : Game) → At rounds g
          → In p later (in_order (exchange rules p) rules.players (after rules (build_of p (inputs p)) g))
      turn_gives rounds later fit g at = search (rules, turn_to, gives)

      turn_sender : (rounds later : ℕ) → AfterSent rounds later → (g : Game) → At rounds g
          → At later (turn rules inputs g p)
      unfolding turn
      turn_sender rounds later fit g at = run_at p l later _ (turn_gives rounds later fit g at)

      pub turn_hears : (rounds later : ℕ) → AfterHeard rounds later → (g : Game) → At rounds g
          → In q later (in_order (exchange rules q) rules.players (after rules (build_of q (inputs q)) g))
      turn_hears rounds later fit g at =
          turn_to q p m l rounds later (λ j n. (λ e. absurd (apart (sym e)), λ e. n))
          (λ h x. hears rounds later fit h x) g at

      turn_receiver : (rounds later : ℕ) → AfterHeard rounds later → (g : Game) → At rounds g
          → At later (turn rules inputs g q)
      unfolding turn
      turn_receiver rounds later fit g at = run_at q m later _ (turn_hears rounds later fit g at)

      -- once the other has the command, it stays so
      pub turn_keeps : (r : ℕ) → r < rules.players → (g : Game) → At 0 g → At 0 (turn rules inputs g r)
      turn_keeps r o g at = elim (cases_eq r p) [
        | inl e ↦ subst (λ (s : ℕ). At 0 (turn rules inputs g s)) (sym e) (turn_sender 0 0 (omega arith) g at)
        | inr a ↦ elim (cases_eq r q) [
          | inl e ↦ subst (λ (s : ℕ). At 0 (turn rules inputs g s)) (sym e) (turn_receiver 0 0 (omega arith) g at)
          | inr b ↦ turn_other r 0 o a b g at
        ]
      ]

      -- a good round in which these two have their turns in this order, and no other counts
      round_of : (a b : ℕ) → a < b → b < rules.players → ((i : ℕ) → i ≢ a → i ≢ b → (i ≢ p) × (i ≢ q))
          → (rounds mid later : ℕ) → ((g : Game) → At rounds g → At mid (turn rules inputs g a))
          → ((g : Game) → At mid g → At later (turn rules inputs g b)) → (g : Game)
          → At rounds g → At later (good_round rules inputs g)
      unfolding good_round
      round_of a b less low others rounds mid later one other g at =
          two_of (At rounds) (At mid) (At later) (turn rules inputs) rules.players a b less
          (λ i h o s at. let n = others i (λ e. omega arith) (λ e. omega arith) in search (rules, turn_other))
          (λ i h o x y at. let n = others i x y in turn_other i mid o n.0 n.1 h at)
          (λ i h o x y at. let n = others i x y in turn_other i later o n.0 n.1 h at) one other g low at

      -- the player has its turn first
      round_up : (rounds mid later : ℕ) → AfterSent rounds mid → AfterHeard mid later → p < q → (g : Game)
          → At rounds g → At later (good_round rules inputs g)
      round_up rounds mid later first next less = round_of p q less m (λ i x y. (x, y)) rounds mid later
          (turn_sender rounds mid first) (turn_receiver mid later next)

      -- or the other has
      round_down : (rounds mid later : ℕ) → AfterHeard rounds mid → AfterSent mid later → q < p
          → (g : Game) → At rounds g → At later (good_round rules inputs g)
      round_down rounds mid later first next less = round_of q p less l (λ i x y. (y, x)) rounds mid later
          (turn_receiver rounds mid first) (turn_sender mid later next)

      -- each good round brings it nearer
      pub round_nearer : (rounds : ℕ) (g : Game) → At (suc rounds) g → At rounds (good_round rules inputs g)
      round_nearer rounds g at = elim (cases_lt p q) [
        | inl less ↦ up rounds less g at
        | inr more ↦ down rounds (omega arith) g at
      ]
        where
          up : (k : ℕ) → p < q → (h : Game) → At (suc k) h → At k (good_round rules inputs h)
          up zero less h at = round_up 1 0 0 (omega arith) (omega arith) less h at
          up (suc k) less h at = elim (cases_lt k 11) [
            | inl s ↦ round_up (suc (suc k)) (suc (suc k)) (suc k) (omega arith) (omega arith) less h at
            | inr t ↦ round_up (suc (suc k)) (suc k) (suc k) (omega arith) (omega arith) less h at
          ]

          down : (k : ℕ) → q < p → (h : Game) → At (suc k) h → At k (good_round rules inputs h)
          down zero less h at = round_down 1 1 0 (omega arith) (omega arith) less h at
          down (suc k) less h at = elim (cases_lt k 11) [
            | inl s ↦ round_down (suc (suc k)) (suc k) (suc k) (omega arith) (omega arith) less h at
            | inr t ↦ round_down (suc (suc k)) (suc (suc k)) (suc k) (omega arith) (omega arith) less h at
          ]

    rounds_nearer : (inputs : ℕ → ℕ → Input) (count left all : ℕ) → count + left ≡ all → (g : Game) → At all g
        → At left (in_order (λ before round. good_round rules (inputs round) before) count g)
    unfolding in_order
    rounds_nearer inputs zero left all sum g at = subst (λ (n : ℕ). At n g) (omega arith) at
    rounds_nearer inputs (suc count) left all sum g at =
        round_nearer (inputs count) left _ (rounds_nearer inputs count (suc left) all (omega arith) g at)

    -- where the player has its turn first, the first round in which nothing is in vain counts for two
    rounds_up : (inputs : ℕ → ℕ → Input) (more : ℕ) → p < q → (count left all : ℕ) → count + left ≡ 11
        → all ≡ more + count → (g : Game) → At (13 + more) g
        → At left (in_order (λ before round. good_round rules (inputs round) before) (suc all) g)
    unfolding in_order
    rounds_up inputs more less zero left all sum total g at =
        subst (λ (n : ℕ). At n (good_round rules (inputs all)
        (in_order (λ before round. good_round rules (inputs round) before) all g))) (omega arith)
        (round_up (inputs all) 13 12 11 (omega arith) (omega arith) less _
        (rounds_nearer inputs all 13 (13 + more) (omega arith) g at))
    rounds_up inputs more less (suc count) left zero sum total g at = absurd (omega arith)
    rounds_up inputs more less (suc count) left (suc all) sum total g at =
        round_nearer (inputs (suc all)) left _
        (rounds_up inputs more less count (suc left) all (omega arith) (omega arith) g at)

    -- After twelve and as many as packets may be in vain the other has it: where the other has its turn
    -- first, the last round counts for two.
    pub has_after : (inputs : ℕ → ℕ → Input) (more : ℕ) → rules.places ≤ reach rules.limits more → (g : Game)
        → IsOn rules settings cap stay tic g → At 0 (good_rounds rules inputs (12 + more) g)
    unfolding good_rounds in_order
    has_after inputs more reaches g on =
        let first : At (13 + more) g = AtOn on _ refl (Unknown more (omega arith) (λ h. omega arith)) in
        let all : suc (11 + more) ≡ 12 + more = omega arith in
        subst (λ (n : ℕ). At 0 (in_order (λ before round. good_round rules (inputs round) before) n g)) all
        (elim (cases_lt p q) [
          | inl less ↦ rounds_up inputs more less 11 0 (11 + more) refl (omega arith) g first
          | inr past ↦ round_down (inputs (11 + more)) 2 1 0 (omega arith) (omega arith) (omega arith) _
              (rounds_nearer inputs (11 + more) 2 (13 + more) (omega arith) g first)
        ])

-- The round after those.

-- of several players another than this one
pub other_player : (players q : ℕ) → 2 ≤ players → (p : ℕ) × (p < players) × (p ≢ q)
other_player players q several = elim (cases_eq q 0) [
  | inl e ↦ (1, several, λ f. omega arith)
  | inr n ↦ (0, omega arith, λ f. omega arith)
]

module _ {S : Type 0} (rules : Rules S) (settings : Settings) (cap : ℕ) (stay : ℕ → Bool) (tic : ℕ) where
  -- in the next round each runs it
  module _ (room : suc tic + rules.ahead ≤ cap) (several : 2 ≤ rules.players) (q : ℕ) (m : q < rules.players)
      (stays : stay q ≡ true) where
    -- all others' commands have come to this player
    abbrev HasAll : Game → Type 0
    HasAll g = (p : ℕ) (l : p < rules.players) (apart : p ≢ q)
        → At rules settings cap stay tic p q l m stays apart 0 g

    other : (p : ℕ) × (p < rules.players) × (p ≢ q)
    other = other_player rules.players q several

    -- within the turn, before the run
    abbrev HasAllIn : Game → Type 0
    HasAllIn g = (p : ℕ) (l : p < rules.players) (apart : p ≢ q)
        → In rules settings cap stay tic p q l m stays apart q 0 g

    runs_it : (g : Game) → HasAllIn g → tic < ran ((after rules (Run q) g).nodes q)
    runs_it g all =
        let more = (applied_grows rules g q (Run q)).rows in
        elim (cases_lt tic (ran (g.nodes q))) [
          | inl done ↦ omega arith
          | inr low ↦ go low (all other.0 other.1 other.2)
        ]
      where
        far_off : ran (g.nodes q) ≤ tic → IsFar rules cap stay g → ⊥
        far_off low far = omega arith

        has_of : ran (g.nodes q) ≤ tic → tic ≤ ran (g.nodes q) → (p : ℕ) (l : p < rules.players) (apart : p ≢ q)
            → In rules settings cap stay tic p q l m stays apart q 0 g
            → (ran (g.nodes q) < got (g.nodes q) p) ⊎ (is_absent (g.nodes q) p ≡ true)
        has_of low high p l apart (InFar far) = absurd (far_off low far)
        has_of low high p l apart (InOn on built goal aims (Has (inl h))) = inl (omega arith)
        has_of low high p l apart (InOn on built goal aims (Has (inr h))) = inr (grind arith)
        has_of low high p l apart (InOn on built goal aims (Meets h e)) = absurd (omega arith)
        has_of low high p l apart (InOn on built goal aims (Asks w h)) = absurd (omega arith)
        has_of low high p l apart (InOn on built goal aims (Unknown more h near)) = absurd (omega arith)

        has : ran (g.nodes q) ≤ tic → tic ≤ ran (g.nodes q) → tic < made q (g.nodes q) → (p : ℕ)
            → p < rules.players → (ran (g.nodes q) < got (g.nodes q) p) ⊎ (is_absent (g.nodes q) p ≡ true)
        has low high built p l = elim (cases_eq p q) [
          | inl e ↦ let same = ap (λ (r : ℕ). got (g.nodes q) r) e in inl (omega arith)
          | inr n ↦ has_of low high p l n (all p l n)
        ]

        go : ran (g.nodes q) ≤ tic → In rules settings cap stay tic other.0 q other.1 m stays other.2 q 0 g
            → tic < ran ((after rules (Run q) g).nodes q)
        go low (InFar far) = absurd (far_off low far)
        go low (InOn on built goal aims stage) =
            let least = on.ran q m stays in
            elim (Turns.run_on rules settings cap stay tic g on q m) [
              | inl far ↦ absurd (far_off low far)
              | inr done ↦ let more = done.more stays (has low least (built stays)) in omega arith
            ]

    turn_runs : (inputs : ℕ → Input) (g : Game) → HasAll g → tic < ran ((turn rules inputs g q).nodes q)
    unfolding turn
    turn_runs inputs g all =
        runs_it _ (λ p l apart. turn_hears rules settings cap stay tic p q l m stays apart inputs 0 0
        (omega arith) g (all p l apart))

    pub round_runs : (inputs : ℕ → Input) (g : Game) → HasAll g → tic < ran ((good_round rules inputs g).nodes q)
    unfolding good_round
    round_runs inputs g all =
        one_of HasAll (λ (h : Game). tic < ran (h.nodes q)) (turn rules inputs) rules.players q
        (λ i h o n x p l apart. search (rules, turn_keeps))
        (λ i h o n x. let more = turn_ran rules inputs q (suc tic) h i (omega arith) in omega arith)
        (λ h x. turn_runs inputs h x) g m all

    pub next_run : (inputs : ℕ → ℕ → Input) (more : ℕ) → rules.places ≤ reach rules.limits more → (g : Game)
        → IsOn rules settings cap stay tic g → tic < ran ((good_rounds rules inputs (13 + more) g).nodes q)
    unfolding good_rounds in_order
    next_run inputs more reaches g on =
        let all : suc (12 + more) ≡ 13 + more = omega arith in
        subst (λ (n : ℕ). tic < ran ((in_order (λ before round. good_round rules (inputs round) before) n g).nodes q))
        all (search (rules, round_runs, has_after))
