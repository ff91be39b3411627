-- Three players, one of whom vanishes: where a list of events leads, and what the other two ran.
use Rattle.std.proofs.Common.{◌≡◌, refl, inl, inr, List, [], ◌∷◌, arith, Bool, true, false, slice_get, get_or}
use Rattle.dn_setup.specs.Settings.{Settings}
use Rattle.dn_machine.specs.declared.events.Event.{Event, TheVariants.{Build, Send, Deliver, Run, Stop}}
use Rattle.dn_machine.specs.{Game.{applied, opening_game}, Sending.{on_build_by, on_send}, Hearing.on_packet}
use Rattle.dn_machine.specs.{Sparing.on_run_but, Limits.row_of, Node.{ran, lacks, lowest}, Worlds.{Rules, rules_of}}
use Rattle.dn_world.specs.Physics.{Physics}
use Rattle.dn_remain.specs.{Vanished.Calls.every, Vanished.Commands.longest, Wary.rows_to, Wary.on_give_up, Wary.on_report, declared.events.RemainEvent.RemainEvent}
use Rattle.dn_remain.specs.Remaining.{Remaining, opening_remaining, after_give_up, after_telling, after_hearing, is_barred, after_event, NextRemain, LeadsRemain, RunsRemain}
use Rattle.dn_remain.specs.declared.events.RemainEvent.TheVariants.{Own, GiveUp, Tell, Hear}

-- one event leads to another game, where it is not barred and nothing is left out
unfoldable pub after_own : {S : Type 0} → Rules S → Remaining → Event → Bool → Remaining
after_own rules all event true = all
after_own rules all event false = record all { game = after_event rules all event }

unfoldable pub after : {S : Type 0} → Rules S → Remaining → RemainEvent → Remaining
after rules all (Own event) = after_own rules all event (is_barred all event)
after rules all (GiveUp node player) = after_give_up rules.limits all node player
after rules all (Tell node to) = after_telling rules.limits all node to
after rules all (Hear which) = after_hearing rules.limits all (slice_get all.reports which)

unfoldable pub after_all : {S : Type 0} → Rules S → Remaining → List RemainEvent → Remaining
after_all rules all [] = all
after_all rules all (event ∷ events) = after_all rules (after rules all event) events

own_leads : {S : Type 0} (rules : Rules S) (all : Remaining) (event : Event) (b : Bool) → is_barred all event ≡ b
    → NextRemain rules all (Own event) (after_own rules all event b)
unfolding after_own
own_leads rules all event true h = inl (h, refl)
own_leads rules all event false h = inr (h, after_event rules all event, inl refl, refl)

event_leads : {S : Type 0} (rules : Rules S) (all : Remaining) (event : RemainEvent)
    → NextRemain rules all event (after rules all event)
unfolding after
event_leads rules all event = grind (arith, own_leads)

pub leads_to : {S : Type 0} (rules : Rules S) (all : Remaining) (events : List RemainEvent)
    → LeadsRemain rules all events (after_all rules all events)
unfolding after_all
leads_to rules all [] = refl
leads_to rules all (event ∷ events) = (
  after rules all event,
  event_leads rules all event,
  leads_to rules (after rules all event) events,
)

unfoldable pub goes_on : List RemainEvent
goes_on = Own (Send 0 1) ∷ Own (Send 0 2) ∷ Own (Deliver 0) ∷ Own (Deliver 1) ∷ Own (Send 1 0) ∷ Own (Send 2 0)
    ∷ Own (Deliver 2) ∷ Own (Deliver 3) ∷ Own (Build 0 0) ∷ Own (Send 0 1) ∷ Own (Deliver 4) ∷ Own (Stop 0)
    ∷ Own (Build 1 0) ∷ Own (Build 1 0) ∷ Own (Build 2 0) ∷ Own (Build 2 0) ∷ Own (Send 1 2) ∷ Own (Send 2 1)
    ∷ Own (Deliver 5) ∷ Own (Deliver 6) ∷ GiveUp 1 0 ∷ GiveUp 2 0 ∷ Tell 1 2 ∷ Tell 2 1 ∷ Hear 0 ∷ Hear 1
    ∷ Own (Run 1) ∷ Own (Run 1) ∷ Own (Run 2) ∷ Own (Run 2) ∷ []

pub starts : List RemainEvent
starts = Own (Send 0 1) ∷ Own (Deliver 0) ∷ Own (Send 1 0) ∷ Own (Deliver 1) ∷ GiveUp 0 2 ∷ GiveUp 1 2
    ∷ Tell 0 1 ∷ Tell 1 0 ∷ Hear 0 ∷ Hear 1 ∷ Own (Build 0 0) ∷ Own (Build 1 0) ∷ Own (Send 0 1) ∷ Own (Send 1 0)
    ∷ Own (Deliver 2) ∷ Own (Deliver 3) ∷ Own (Run 0) ∷ Own (Run 1) ∷ []

module _ {S : Type 0} (physics : Physics S) (settings : Settings) where
  unfoldable pub last : List RemainEvent → Remaining
  last events = after_all (rules_of physics 3 false 100) (opening_remaining settings) events

  pub reaches : (events : List RemainEvent) → RunsRemain (rules_of physics 3 false 100) settings events (last events)
  unfolding last
  reaches events = leads_to (rules_of physics 3 false 100) (opening_remaining settings) events

  pub started : (ran ((last starts).game.nodes 0) ≡ 1) × (ran ((last starts).game.nodes 1) ≡ 1)
      × (lacks (get_or ((last starts).game.nodes 1).rows 0 []) 2 ≡ true)
      × (lacks (get_or ((last starts).game.nodes 1).rows 0 []) 0 ≡ false)
  unfolding last goes_on starts after_all after after_own applied opening_game on_build_by on_send on_packet on_run_but row_of
      lowest every longest rows_to on_give_up on_report opening_remaining
  started = (refl, refl, refl, refl)
