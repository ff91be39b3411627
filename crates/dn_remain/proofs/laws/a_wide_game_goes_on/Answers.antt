-- Three players in a window of seven: one runs by the commands of another, whose marks tell of another world.
use Rattle.std.proofs.Common.{◌≡◌, ℕ, refl, ◌∙◌, ap, arith, List, [], ◌∷◌, ◌++◌, get_or, take, true, false, Option}
use Rattle.std.proofs.{Common.None, lemmas.List.{length_push, get_or_append_left, get_or_push}}
use Rattle.dn_tic.specs.declared.command.{TicCmd.TicCmd, Move.Move}
use Rattle.dn_tic.proofs.Making.{made_by-mark}
use Rattle.dn_setup.specs.Settings.{Settings}
use Rattle.dn_world.specs.Physics.{Physics}
use Rattle.dn_machine.specs.{declared.answers.Phase.TheVariants.Playing, declared.answers.Ran.Ran, declared.events.Refusal.Refusal, Game.with_node, Game.own_marks, Game.refused_at, Game.applied, Game.opening_game}
use Rattle.dn_machine.specs.{Sending.{on_build_by, on_send}, Hearing.on_packet, Limits.{Limits, row_of}}
use Rattle.dn_machine.specs.{Node.{Node, got, ran, held_at, lacks, lowest}, Worlds.{Rules, rules_within}}
use Rattle.dn_machine.specs.{Worlds.world_after, declared.events.Event.TheVariants.Build, declared.events.Event.TheVariants.Send, declared.events.Event.TheVariants.Deliver, declared.events.Event.TheVariants.Run}
use Rattle.dn_machine.specs.{Running.tic_limit, Running.full_at, Running.is_awaited, Running.row_held, Sparing.first_off_but, Sparing.on_run_but}
use Rattle.dn_machine.proofs.Calls.{ran_on}
use Rattle.dn_remain.specs.{Vanished.Calls.every, Vanished.Commands.Holder, Vanished.Commands.longest, Wary.rows_to, Wary.on_give_up, Wary.on_report, Remaining.Remaining, Remaining.opening_remaining}
use Rattle.dn_remain.specs.{Remaining.after_run, Remaining.after_event, Remaining.NextRemain, Remaining.LeadsRemain, Remaining.RunsRemain, Promise.AgreeInPairs, declared.events.RemainEvent.RemainEvent}
use Rattle.dn_remain.specs.declared.events.RemainEvent.TheVariants.{Own, GiveUp}
use Rattle.dn_remain.proofs.{Each.runs_tic, Checks.none_off, Example.after_own, Example.after_all, Example.after, Example.leads_to, Followed.anchored, Promises.pairs_agree, Reached.IsReached, Reached.reached_by}
use Rattle.dn_remain.proofs.Known
use Rattle.dn_remain.proofs.laws.a_wide_game_goes_on.Goals as goal

abbrev sevens : Limits
sevens = record { players = 3; extra = false; capacity = 100; ahead = 7; places = 14; most = 14 }

-- the event seven times
abbrev seven : RemainEvent → List RemainEvent
seven event = event ∷ event ∷ event ∷ event ∷ event ∷ event ∷ event ∷ []

abbrev six : RemainEvent → List RemainEvent
six event = event ∷ event ∷ event ∷ event ∷ event ∷ event ∷ []

-- up to where the mark is off
before : List RemainEvent
before = Own (Send 0 1) ∷ Own (Send 0 2) ∷ Own (Deliver 0) ∷ Own (Deliver 1) ∷ Own (Send 1 0) ∷ Own (Send 2 0)
    ∷ Own (Deliver 2) ∷ Own (Deliver 3)
    ∷ (seven (Own (Build 0 0)) ++ seven (Own (Build 1 0)) ++ seven (Own (Build 2 0))
    ++ (Own (Send 1 0) ∷ Own (Send 2 0) ∷ Own (Deliver 4) ∷ Own (Deliver 5) ∷ [])
    ++ seven (Own (Run 0)) ++ seven (Own (Build 0 0)) ++ (Own (Send 0 1) ∷ Own
    (Deliver 6) ∷ GiveUp 1 0 ∷ GiveUp 1 2 ∷ [])
    ++ seven (Own (Run 1)) ++ seven (Own (Build 1 0)) ++ six (Own (Run 1)))

-- one event more
leads_on : {S : Type 0} (rules : Rules S) (events : List RemainEvent) (all mid last : Remaining)
    (event : RemainEvent) → LeadsRemain rules all events mid → NextRemain rules mid event last
    → LeadsRemain rules all (events ++ event ∷ []) last
leads_on rules [] all mid last event same step = grind arith
leads_on rules (first ∷ events) all mid last event way step =
    (way.0, way.1, leads_on rules events way.0 mid last event way.2 step)

module _ {S : Type 0} (physics : Physics S) (settings : Settings) where
  abbrev rules : Rules S
  rules = rules_within physics sevens

  there : Remaining
  there = after_all (rules_within physics sevens) (opening_remaining settings) before

  reaches : RunsRemain (rules_within physics sevens) settings before there
  unfolding there
  reaches = leads_to (rules_within physics sevens) (opening_remaining settings) before

  -- as far as it computes
  record IsThere : Type 0 where
    pub had : got (there.game.nodes 1) 0 ≡ 14
    pub made : got (there.game.nodes 0) 0 ≡ 14
    pub ran_it : ran (there.game.nodes 1) ≡ 13
    pub with_two : lacks (get_or (there.game.nodes 0).rows 0 []) 2 ≡ false
    pub without : lacks (get_or (there.game.nodes 1).rows 0 []) 2 ≡ true
    pub given : there.gone 1 0 ≡ true
    pub plays : (there.game.nodes 1).phase ≡ Playing
    pub nobody : lowest 3 (is_awaited (there.game.nodes 1)) ≡ None
    pub goes : refused_at 3 there.game 1 ≡ None
    pub next : lacks (row_held sevens (there.game.nodes 1)) 0 ≡ false
    pub full : full_at sevens (row_held sevens (there.game.nodes 1)) ≡ tic_limit

  is_there : IsThere
  unfolding there before after_all after after_own applied opening_game on_build_by on_send on_packet on_run_but
      row_of lowest every longest rows_to on_give_up on_report opening_remaining
  is_there = record {
    had = refl;
    made = refl;
    ran_it = refl;
    with_two = refl;
    without = refl;
    given = refl;
    plays = refl;
    nobody = refl;
    goes = refl;
    next = refl;
    full = refl;
  }

  known : (older : List (ℕ → Holder TicCmd)) × IsReached (rules_within physics sevens) settings there older
  known = reached_by (rules_within physics sevens) settings before there reaches

  -- its own mark fits, and no other is compared
  none : first_off_but sevens (there.gone 1) (there.game.nodes 1) ≡ None
  none = none_off (rules_within physics sevens) settings there.game there.gone known.0
      (anchored Known.known (rules_within physics sevens) there known.0 known.1.followed) known.1.marked
      (omega arith) 1 (omega arith) is_there.plays is_there.nobody

  abbrev after_it : Node
  after_it = ran_on sevens 1 (there.game.nodes 1) (own_marks (rules_within physics sevens) (there.game.nodes 1))

  last : Remaining
  last = record there { game = with_node there.game 1 after_it }

  game_is : after_event (rules_within physics sevens) there (Run 1) ≡ with_node there.game 1 after_it
  game_is =
      let a = is_there.ran_it in
      let b = is_there.full in
      ap (λ (o : Option Refusal). after_run (rules_within physics sevens) there 1 o) is_there.goes
      ∙ ap (λ (r : Node × Ran). with_node there.game 1 r.0) (runs_tic sevens 1 (there.gone 1) (there.game.nodes 1)
      (own_marks (rules_within physics sevens) (there.game.nodes 1)) is_there.plays is_there.nobody none
      (λ e. absurd (omega arith)))

  runs : RunsRemain (rules_within physics sevens) settings (before ++ Own (Run 1) ∷ []) last
  unfolding last
  runs = grind (arith, leads_on, sevens, before, there, last, reaches, after_it, game_is)

  abbrev agreed : AgreeInPairs (rules_within physics sevens) settings last
  agreed =
      let now = reached_by (rules_within physics sevens) settings (before ++ Own (Run 1) ∷ []) last runs in
      pairs_agree (rules_within physics sevens) settings last now.0 now.1

  went_on : (last.gone 1 0 ≡ true) × (ran (last.game.nodes 1) ≡ 14)
      × (lacks (get_or (last.game.nodes 1).rows 13 []) 0 ≡ false)
      × (lacks (get_or (last.game.nodes 0).rows 0 []) 2 ≡ false)
      × (lacks (get_or (last.game.nodes 1).rows 0 []) 2 ≡ true)
      × ((held_at (last.game.nodes 1) 0 13).mark
      ≡ physics.mark (world_after (rules_within physics sevens) settings (last.game.nodes 0).rows 1) 0)
  unfolding last
  went_on =
      let a = is_there.ran_it in
      let b = length_push (there.game.nodes 1).rows (row_held sevens (there.game.nodes 1)) in
      let c = is_there.had in
      let d = is_there.made in (
        is_there.given,
        omega arith,
        ap (λ (row : List (Option Move)). lacks row 0)
            (get_or_push (there.game.nodes 1).rows (row_held sevens (there.game.nodes 1)) [] 13 is_there.ran_it)
            ∙ is_there.next,
        is_there.with_two,
        ap (λ (row : List (Option Move)). lacks row 2)
            (get_or_append_left (there.game.nodes 1).rows (row_held sevens (there.game.nodes 1) ∷ []) [] 0
            (omega arith)) ∙ is_there.without,
        ap (λ (c : TicCmd). c.mark) (agreed.held 1 0 0 13 (omega arith) (omega arith)
            ∙ agreed.own 0 13 (omega arith) (omega arith) (omega arith))
            ∙ made_by-mark (take 14 (there.game.nodes 0).inputs) _,
      )

pub returns : goal.returns
returns g c settings =
    let p = g.W.World.physics in
    let k = went_on p settings in (
      sevens,
      record { twice = omega arith; back = omega arith },
      refl,
      before ++ Own (Run 1) ∷ [],
      last p settings,
      runs p settings,
      k.0,
      k.1,
      k.2,
      k.3,
      k.4,
      k.5,
    )
