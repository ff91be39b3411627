-- A game goes on as the machine's game that it represents.
use Rattle.std.proofs.Common.{◌<◌, ◌≤◌, ◌+◌, ◌≡◌, ℕ, List, Result, Err, refl, ap, sym, ◌∙◌, inl, inr, arith, subst}
use Rattle.dn_game.proofs.{Standing.{window_of, swift_of, packet_of, there_is}, Agreeing.{inside, shown, promised}, Answering.{as_many, plays_leads, plays_on}, Rounding.{keeps_all, plays_rounds}}
use Rattle.dn_setup.specs.Settings.{Settings}
use Rattle.dn_machine.specs.{declared.events.Done.Done, Limits.Limits, declared.events.Event.Event, declared.events.Refusal.Refusal, Game.{Game, opening_game}, Node.is_ended, Progress.good_rounds, Running.tic_limit, Worlds.Rules}
use Rattle.dn_machine.proofs.{Invariant.IsKept, Progress.goes_on_with, Games.always}
use Rattle.dn_machine.proofs.Promises
use Rattle.dn_node.specs.declared.node.Node.{Node}
use Rattle.dn_game.specs.{declared.going_on.PlayOnFault.PlayOnFault, declared.going_on.PlayOnFault.TheVariants.Round, declared.rounds.RoundFault.RoundFault, declared.played.Played.Played, Contents.{Contents, contents, Represents}}
use Rattle.dn_game.specs.{GoingOn.{NoneLost, AllRan, HasRoom, GoesOn, HasGoneOn, HasPlayedOn}, Played.{Answers, IsPlayedFrom, IsReachedWith}, Promised.IsReached, Agreed.HasNode}
use Rattle.dn_game.specs.{Frame.KeepsFlights, Rounds.{KeepsIdleWorlds, answers_to, rounds_events}}
use Rattle.dn_lockstep.proofs.Shown.{started, end_is}
use Rattle.dn_tic.specs.declared.input.Input.{Input}
use Rattle.dn_machine.specs.Progress as machine
use Rattle.dn_node.specs.Contents as node

-- one answer tells of one fault
pub same_round : {A : Type 0} (one other : RoundFault) (answer : Result A PlayOnFault) → answer ≡ Err (Round one)
    → answer ≡ Err (Round other) → one ≡ other
same_round one other answer is same = cc

module _ {W S : Type 0} (state : W → S) (rules : Rules S) (settings : Settings) where
  module _ (g : Contents W) (m : Game) (r : Represents state rules g m) where
    -- the node of a player
    node_of : (i : ℕ) → i < rules.players → (n : Node W) × HasNode g i (node.contents n)
        × node.Represents state rules i (node.contents n) (m.nodes i)
    node_of i below =
        let found = there_is g.nodes i (omega (arith, below, r.players)) in
        (found.0, (found.0, found.1, refl), r.nodes i found.0 found.1)

    lost_none : NoneLost g → machine.NoneLost rules m
    lost_none none i below =
        let at = node_of i below in
        let n = node.contents at.0 in (
          (λ ended. started rules.limits i (node.locked n) (m.nodes i) at.2.lockstep
              (none.started i n at.1 (ap is_ended at.2.lockstep.stands.phase ∙ ended))),
          sym (r.stopped i) ∙ none.moving i (omega (arith, below, r.players)),
        )

    all_ran : (tics : ℕ) → AllRan g g tics → machine.AllRan rules m m tics
    all_ran tics all i below there =
        let at = node_of i below in
        let n = node.contents at.0 in
        let far = all i n n at.1 (ap is_ended at.2.lockstep.stands.phase ∙ there) at.1 in
        omega (arith, far, at.2.lockstep.table.ran)

    -- a node's demo has room for no more tics than a node runs
    short : 2 ≤ rules.players → rules.capacity ≤ tic_limit
    short several =
        let at = node_of 0 (omega arith) in
        at.2.seat.short

    room_of : IsKept rules settings m → (tics most : ℕ) → HasRoom rules.capacity g tics most
        → machine.HasRoom rules m tics most
    room_of kept tics most (inl demos) = inl demos
    room_of kept tics most (inr (i, player, end, n, at, below, known, before, few)) =
        let its : player < rules.players = omega (arith, below, r.players) in
        let mine = inside state rules g m r i n at in
        let told = (Promises.agree rules settings m kept).ends i player end mine its
        (sym (end_is rules.limits i (node.locked n) (m.nodes i) (shown state rules g m r i n at).lockstep mine player its)
        ∙ known) in
        inr (player, its, told.0, omega (arith, told.1, before), few)

  ran_all : (g later : Contents W) (m last : Game) → Represents state rules g m
      → Represents state rules later last → (tics : ℕ) → machine.AllRan rules m last tics → AllRan g later tics
  ran_all g later m last r s tics all i n k (one, at, is) there (other, its, so) =
      let before = r.nodes i one at in
      let after = s.nodes i other its in
      let far = all i (inside state rules g m r i n (one, at, is))
      (sym (ap is_ended before.lockstep.stands.phase)
      ∙ (ap (λ (c : node.Contents W). is_ended c.phase) (sym is) ∙ there)) in
      let told = ap (λ (c : node.Contents W). c.ran) so in
      omega (arith, far, after.lockstep.table.ran, told)

  pub continues : (events : List Event) (g later : Contents W)
      (reached : IsReached state rules settings events g)
      → 2 ≤ rules.players → (inputs : ℕ → ℕ → Input) (rounds : ℕ)
      → Represents state rules later (good_rounds rules inputs rounds reached.last)
      → GoesOn rules.capacity rounds g later
  continues events g later reached several inputs rounds shown none tics more enough room all =
      let kept = always rules settings (window_of rules.limits reached.game.vanilla) events reached.last reached.run in
      ran_all g later reached.last _ reached.game shown _
      (goes_on_with rules settings (short g reached.last reached.game several) several events reached.last
      reached.run (lost_none g reached.last reached.game none)
      (window_of rules.limits reached.game.vanilla) (swift_of rules.limits reached.game.vanilla) 1
      (packet_of rules.limits reached.game.vanilla) inputs tics more rounds (room_of g reached.last reached.game kept tics (tics + more + rules.ahead)
      (subst (λ (k : ℕ). HasRoom rules.capacity g tics (tics + more + k)) (sym (ap (λ (l : Limits). l.ahead) reached.game.vanilla)) room)) enough
      (all_ran g reached.last reached.game tics all))

  -- the events of the rounds lead on, and what they lead to is promised
  pub gone_on : (events : List Event) (answers : List (Result Done Refusal)) (g later : Contents W)
      (reached : IsReachedWith state rules settings events answers g)
      → 2 ≤ rules.players → (inputs : ℕ → ℕ → Input) (rounds : ℕ)
      → Represents state rules later (good_rounds rules inputs rounds reached.last)
      → HasGoneOn state rules settings events answers reached.last inputs rounds g later
  gone_on events answers g later reached several inputs rounds shown =
      record {
        goes_on = continues events g later (record {
          last = reached.last;
          run = plays_leads rules events answers (opening_game settings) reached.last reached.plays;
          game = reached.game;
        }) several inputs rounds shown;
        promised = promised state rules settings _ _ _ later
            (plays_on (Answers rules) events _ answers _ (opening_game settings) reached.last _ reached.plays
            (plays_rounds rules inputs rounds reached.last)) shown;
      }

  -- what is promised of playing on. An abbrev, so that its parts compute where it is cited.
  abbrev pub has_played_on : (worlds : List W) (events : List Event) (inputs : ℕ → Input) (rounds : ℕ)
      (before played : Played W) (run : IsPlayedFrom state rules settings worlds events before)
      → 2 ≤ rules.players
      → Represents state rules (contents played.game) (good_rounds rules (λ round. inputs) rounds run.0.last)
      → KeepsFlights (contents before.game) (contents played.game)
      → KeepsIdleWorlds rules run.0.last (rounds_events rules (λ round. inputs) rounds run.0.last)
      (contents before.game) (contents played.game)
      → played.done ≡ before.done → played.refused ≡ before.refused
      → HasPlayedOn state rules settings worlds events inputs rounds played
  has_played_on worlds events inputs rounds before played run several shown more idle done refused =
      let e = run.0 in
      let behind = rounds_events rules (λ round. inputs) rounds e.last in
      record {
        before = before;
        first = e;
        on = gone_on events e.answers (contents before.game) (contents played.game)
            (record { last = e.last; plays = e.plays; game = e.game }) several (λ round. inputs) rounds shown;
        done = done;
        refused = refused;
        given = keeps_all worlds events behind e.answers (answers_to rules behind e.last) (contents before.game)
            (contents played.game) (as_many (Answers rules) events e.answers _ e.last e.plays) run.1 more idle;
      }
