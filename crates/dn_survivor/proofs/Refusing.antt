-- For which reasons an end is refused, and what a give-up does to the phase.
use Rattle.std.proofs.Common.{◌≡◌, ◌≢◌, ◌<◌, ◌≤◌, ◌+◌, ℕ, zero, suc, Bool, true, false, List, refl, sym, ap, subst, ◌∙◌, arith, inl, inr, Option, Some, None, ◌⊎◌, ◌||◌, not, nat_lt, if◌then◌else◌, get_or-set_other}
use Rattle.std.proofs.lemmas.{Bool.{both_ways, cases_Bool, cond_both, eq-eqb, le-ltb}, Option.same_Some}
use Rattle.std.specs.List.{list_any}
use Rattle.dn_tic.specs.declared.command.TicCmd.{TicCmd}
use Rattle.dn_survivor.specs.{declared.report.Report.Report, declared.others.Others.Others, OfOthers.reported_as, OfOthers.with_newest, declared.answers.Ends.Ends, declared.answers.GivenUp.GivenUp}
use Rattle.dn_survivor.specs.{declared.answers.Reported.Reported, Surviving.Surviving, Surviving.has_given_up, OfOthers.commands_of, OfOthers.first_of, OfOthers.has, OfOthers.nodes_of}
use Rattle.dn_survivor.specs.{OfOthers.own_of, OfOthers.told_of, Calls.GivesUp, Calls.GivesUpUnless, Calls.HearsReport, Calls.HearsReportUnless, Calls.given_up_as, Calls.refused_give_up}
use Rattle.dn_survivor.specs.{Calls.refused_report, Calls.reported_by, Calls.unkept, Calls.with_gone, Calls.IsRefusal, Calls.decided_by, Calls.end_by, Calls.ends_with, Calls.settled_below, Calls.settled_by}
use Rattle.dn_machine.specs.{declared.answers.Phase.Phase, Limits.Limits, Node.ends_of, Node.got, Node.is_ended, Node.ran, declared.answers.Phase.TheVariants.Gathering, declared.answers.Phase.TheVariants.Playing}
use Rattle.dn_lockstep.specs.{declared.lockstep.settling.Settled.Settled, Phases.is_listening, Tables.is_stop}
use Rattle.dn_lockstep.specs.Settling.{has_gap, is_no_peer, is_other_end, missing, on_excuse, on_settle, refused_end}
use Rattle.dn_lockstep.specs.Settling.{settled_unless}
use Rattle.dn_remain.specs.{Vanished.{Calls.can_decide, Node.share}, Wary.{is_in_game, noted_gone}}
use Rattle.dn_remain.proofs.Vanished.Put.{highest_bounds}
use Rattle.dn_survivor.proofs.{Ends.in_game, Waries.{excused, still_in}}
use Rattle.dn_machine.specs.Drops as drops
use Rattle.dn_machine.specs.Node as machine
use Rattle.dn_lockstep.specs.Represents as lockstep
use Rattle.dn_survivor.specs.declared.others.hearing.Reported as noted

-- an end that lies behind all commands that are there, of another player, is refused for one of four reasons
refused_as : (gap overrun stops other : Bool) (reason : Settled)
    → (if gap then Some Settled.Gap else (if overrun then Some Settled.Overrun else (
    if stops then Some Settled.Stopper else (if other then Some Settled.OtherEnd else None)))) ≡ Some reason
    → IsRefusal reason
refused_as gap overrun stops other reason e = grind (arith, same_Some)

-- what is answered of an end that is not taken is why it is refused
why : (o : Option Settled) (m : machine.Node) (player end first : ℕ) (commands : List TicCmd) (reason : Settled)
    → (settled_unless o m player end first commands).1 ≡ reason → ((count : ℕ) → reason ≢ Settled.Taken count)
    → o ≡ Some reason
why (Some other) m player end first commands reason e none = ap Some e
why None m player end first commands reason e none = absurd (none _ (sym e))

same_phase : (o : Option Settled) (m : machine.Node) (player end first : ℕ) (commands : List TicCmd)
    → (settled_unless o m player end first commands).0.phase ≡ m.phase
same_phase (Some reason) m player end first commands = refl
same_phase None m player end first commands = refl

-- of several ends the first that is refused is told
told : (ends : Ends) (player : ℕ) (settled : Settled) (other : ℕ) (reason : Settled)
    → ends_with ends player settled ≡ Ends.Untaken other reason
    → (ends ≡ Ends.Untaken other reason)
    ⊎ ((player ≡ other) × (settled ≡ reason) × ((count : ℕ) → settled ≢ Settled.Taken count))
told ends player settled other reason e = grind arith

module _ (limits : Limits) (me : ℕ) (others : Others) (mine : me < limits.players)
    (own : has others.gone me ≡ false) where
  -- a player of the game who is given up is another
  apart : (player : ℕ) → player < limits.players → has others.gone player ≡ true
      → is_no_peer limits.players me player ≡ false
  apart player low given = grind (arith, both_ways)

  -- the end is at least what is there
  enough : (player : ℕ) (m : machine.Node) → got m player ≤ end_by limits me others player m
  enough player m =
      let at : share me (own_of others (λ other. got m player)) (told_of others) player me ≡ got m player =
      let here = eq-eqb me me refl in rw here refl in
      let high = highest_bounds limits.players
      (share me (own_of others (λ other. got m player)) (told_of others) player) me mine in
      omega (arith, at, high)

  refused : (player : ℕ) (m : machine.Node) (reason : Settled) → player < limits.players
      → has others.gone player ≡ true → (is_listening m.phase || is_ended m.phase) ≡ false
      → (settled_by limits me others player m).1 ≡ reason → ((count : ℕ) → reason ≢ Settled.Taken count)
      → IsRefusal reason
  unfolding on_settle
  refused player m reason low given within e none =
      let peer = apart player low given in
      let behind = le-ltb (end_by limits me others player m) (got m player) (enough player m) in
      let is : refused_end limits me m player (end_by limits me others player m)
      (first_of limits.players me others player) (commands_of limits.players me others player) ≡ Some reason =
      why _ m player _ _ _ reason e none in
      let end : ℕ = end_by limits me others player m in
      let first : ℕ = first_of limits.players me others player in
      let commands : List TicCmd = commands_of limits.players me others player in
      let tests : refused_end limits me m player end first commands
      ≡ (if has_gap (got m player) end first commands then Some Settled.Gap else (
      if nat_lt (ran m + limits.places) end then Some Settled.Overrun else (
      if list_any is_stop (missing (got m player) end first commands) then Some Settled.Stopper else (
      if is_other_end (ran m) (ends_of m player) end then Some Settled.OtherEnd else None)))) =
      rw (peer, within, behind) refl in
      refused_as _ _ _ _ reason (sym tests ∙ is)

  phase_by : (player : ℕ) (m : machine.Node) → (settled_by limits me others player m).0.phase ≡ m.phase
  unfolding on_settle
  phase_by player m = same_phase _ m player _ _ _

  abbrev Tells : ℕ → machine.Node → machine.Node × Ends → Type 0
  Tells bound m x = (x.0.phase ≡ m.phase)
      × ((other : ℕ) (reason : Settled) → x.1 ≡ Ends.Untaken other reason
      → IsRefusal reason × (other < bound) × (has others.gone other ≡ true))

  below : (m : machine.Node) → (is_listening m.phase || is_ended m.phase) ≡ false → (bound : ℕ)
      → bound ≤ limits.players → Tells bound m (settled_below limits me others bound m)
  unfolding settled_below
  below m within zero most = (refl, λ other reason e. absurd (cc))
  below m within (suc bound) most =
      let before = below m within bound (omega (arith, most)) in
      let x : machine.Node × Ends = settled_below limits me others bound m in
      elim (cases_Bool (has others.gone bound)) [
        | inr off ↦ rw off (
          before.0,
          λ other reason e. let is = before.1 other reason e in (is.0, omega (arith, is.1), is.2),
        )
        | inl on ↦ rw on (
          phase_by bound x.0 ∙ before.0,
          λ other reason e. elim (told x.1 bound (settled_by limits me others bound x.0).1 other reason e) [
            | inl earlier ↦ let is = before.1 other reason earlier in (is.0, omega (arith, is.1), is.2)
            | inr now ↦ (
              subst IsRefusal now.1 (refused bound x.0 (settled_by limits me others bound x.0).1 (omega (arith, most)) on
                  (ap (λ (p : Phase). is_listening p || is_ended p) before.0 ∙ within) refl now.2),
              omega (arith, now.0),
              ap (has others.gone) (sym now.0) ∙ on,
            )
          ],
        )
      ]

  pub decides : (m : machine.Node) → (is_listening m.phase || is_ended m.phase) ≡ false → (other : ℕ)
      (reason : Settled) → (decided_by limits me others m).1 ≡ Ends.Untaken other reason
      → IsRefusal reason × (other < limits.players) × (has others.gone other ≡ true)
  decides m within other reason =
      cond_both (can_decide limits.players me (own_of others (λ player. 0)) (nodes_of others)) _ _
      (λ (x : machine.Node × Ends). x.1 ≡ Ends.Untaken other reason
      → IsRefusal reason × (other < limits.players) × (has others.gone other ≡ true))
      (λ can. (below m within limits.players (omega arith)).1 other reason) (λ cannot e. absurd (cc))

  -- and no decision changes the phase
  pub decides_phase : (m : machine.Node) → (is_listening m.phase || is_ended m.phase) ≡ false
      → (decided_by limits me others m).0.phase ≡ m.phase
  decides_phase m within = grind (arith, cond_both, below)

-- to wait no longer for one who is given up may start a game
noted_phase : (limits : Limits) (m : machine.Node) (player : ℕ) (phase : Phase) → m.phase ≡ phase
    → ((noted_gone limits m player phase).phase ≡ m.phase)
    ⊎ ((m.phase ≡ Gathering) × ((noted_gone limits m player phase).phase ≡ Playing))
noted_phase limits m player phase e = grind (arith, cond_both)

-- only ends are not taken
given_is : (ends : Ends) (other : ℕ) (reason : Settled) → GivenUp.Untaken other reason ≡ given_up_as ends
    → ends ≡ Ends.Untaken other reason
given_is ends other reason e = grind arith

reported_is : (ends : Ends) (other : ℕ) (reason : Settled) → Reported.Untaken other reason ≡ reported_by ends
    → ends ≡ Ends.Untaken other reason
reported_is ends other reason e = grind arith

-- why a give-up is refused
module _ (old new : Surviving) (player : ℕ) where
  refusal_is : (o : Option GivenUp) (answer : GivenUp) → refused_give_up old player ≡ o
      → GivesUpUnless o player old new answer
      → ((answer ≡ GivenUp.NotAPlayer) ⊎ ((answer ≡ GivenUp.NotPlaying) ⊎ (answer ≡ GivenUp.Already)))
      × (new ≡ old)
      ⊎ ((is_no_peer old.lockstep.players old.lockstep.me player ≡ false)
      × (is_in_game old.lockstep.phase ≡ true) × GivesUpUnless None player old new answer)
  refusal_is (Some reason) answer is h = grind (arith, same_Some)
  refusal_is None answer is h = grind arith

  -- no survivor gives up its own player
  stays_own : is_no_peer old.lockstep.players old.lockstep.me player ≡ false
      → has old.others.gone old.lockstep.me ≡ false → has (with_gone old.others player).gone old.lockstep.me ≡ false
  stays_own peer own = grind (arith, get_or-set_other)

  pub own_stays : (answer : GivenUp) → has_given_up old old.lockstep.me ≡ false → GivesUp player old new answer
      → has_given_up new old.lockstep.me ≡ false
  own_stays answer own by = grind (arith, refusal_is, stays_own)

  -- a lockstep that takes part in the game, whose survivor gives up another player of it
  module _ (limits : Limits) (me : ℕ) (m : machine.Node) (mine : me < limits.players)
      (r : lockstep.Represents limits me old.lockstep m) (own : has_given_up old me ≡ false)
      (gives : is_no_peer old.lockstep.players old.lockstep.me player ≡ false)
      (plays : is_in_game old.lockstep.phase ≡ true) where
    free : has (with_gone old.others player).gone me ≡ false
    free = grind (arith, stays_own)

    excused_is : (on_excuse limits me m player).0 ≡ noted_gone limits m player m.phase
    excused_is = grind (arith, excused)

    within : (is_listening (on_excuse limits me m player).0.phase || is_ended (on_excuse limits me m player).0.phase)
        ≡ false
    within = grind (arith, in_game, excused_is, still_in)

  pub gave_up : (limits : Limits) (me : ℕ) (m : machine.Node) (other : ℕ) (reason : Settled)
      → me < limits.players → lockstep.Represents limits me old.lockstep m
      → has_given_up old me ≡ false → GivesUp player old new (GivenUp.Untaken other reason)
      → IsRefusal reason × (other < limits.players) × (has_given_up new other ≡ true)
  gave_up limits me m other reason mine r own by =
      elim (refusal_is (refused_give_up old player) (GivenUp.Untaken other reason) refl by) [
        | inl same ↦ grind arith
        | inr gives ↦
            let after = gives.2.1.step limits me m r in
            let is = decides limits me (with_gone old.others player) mine
            (free limits me m mine r own gives.0 gives.1) (on_excuse limits me m player).0
            (within limits me m mine r own gives.0 gives.1) other reason (given_is _ other reason after.answer) in
            (is.0, is.1, ap (λ (o : Others). has o.gone other) gives.2.0 ∙ is.2)
      ]

  pub phases : (limits : Limits) (me : ℕ) (m : machine.Node) (answer : GivenUp) → me < limits.players
      → lockstep.Represents limits me old.lockstep m → has_given_up old me ≡ false → GivesUp player old new answer
      → (new.lockstep.phase ≡ old.lockstep.phase)
      ⊎ ((old.lockstep.phase ≡ Gathering) × (new.lockstep.phase ≡ Playing))
  phases limits me m answer mine r own by = grind (arith, refusal_is, decides_phase, free, within, excused_is, noted_phase)

-- why a report is not kept
module _ (old new : Surviving) (from : ℕ) (report : Report) where
  unkept_is : (n : noted.Reported) (other : ℕ) (reason : Settled) → unkept n ≡ Some (Reported.Untaken other reason)
      → ⊥
  unkept_is n other reason e = grind arith

  -- it is kept where an end is not taken
  by_test : (here stranger : Bool) (rest : Option Reported) (other : ℕ) (reason : Settled)
      → (rest ≡ Some (Reported.Untaken other reason) → ⊥) → (o : Option Reported)
      → (if not here then Some (Reported.Dropped drops.not_playing) else (
      if stranger then Some (Reported.Dropped drops.stranger) else rest)) ≡ o
      → HearsReportUnless o from report old new (Reported.Untaken other reason)
      → (here ≡ true) × HearsReportUnless None from report old new (Reported.Untaken other reason)
  by_test here stranger rest other reason never o e h = grind arith

  pub reported : (limits : Limits) (me : ℕ) (m : machine.Node) (other : ℕ) (reason : Settled)
      → me < limits.players → lockstep.Represents limits me old.lockstep m
      → has_given_up old me ≡ false → HearsReport from report old new (Reported.Untaken other reason)
      → IsRefusal reason × (other < limits.players) × (has_given_up new other ≡ true)
  reported limits me m other reason mine r own by =
      let hears = by_test (is_in_game old.lockstep.phase) (is_no_peer old.lockstep.players old.lockstep.me from)
      (unkept (reported_as old.lockstep.players old.lockstep.me old.others from report)) other reason
      (unkept_is _ other reason) (refused_report old from report) refl by in
      let after = hears.1.1.step limits me m r in
      let phase : is_in_game m.phase ≡ true = ap is_in_game (sym r.stands.phase) ∙ hears.0 in
      let is = decides limits me (with_newest old.others from report) mine own m (in_game m.phase phase) other reason
      (reported_is _ other reason after.answer) in
      (is.0, is.1, ap (λ (o : Others). has o.gone other) hears.1.0 ∙ is.2)

  pub own_heard : (answer : Reported) → has_given_up old old.lockstep.me ≡ false → HearsReport from report old new answer
      → has_given_up new old.lockstep.me ≡ false
  own_heard answer own by = grind arith
