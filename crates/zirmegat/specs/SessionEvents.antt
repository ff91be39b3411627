-- What has happened in a session, and when it wants to be polled, as plain numbers.
use Rattle.std.specs.Prelude.{◌≡◌, ℕ, ◌-◌, ◌<◌, ◌^◌, ◌||◌, Bool, is_some, Option, Some, None}
use Rattle.dn_session.specs.declared.event.Event.{Event}
use Rattle.dn_session.specs.declared.event.Event.TheVariants as event
use Rattle.dn_session.specs.Events.{acts_in, announced_after, next_event, wants_in}
use Rattle.dn_session.specs.Joining.{has_come}
use Rattle.dn_session.specs.Session.{begins_now, Meeting}
use Rattle.zirmegat.specs.declared.session_events.EventAnswer.{EventAnswer}
use Rattle.zirmegat.specs.declared.over.OverAnswer.{OverAnswer}
use Rattle.zirmegat.specs.Over.{not_over, over_told}

-- what has happened

abbrev pub event_at : ℕ → ℕ → OverAnswer → EventAnswer
event_at kind player over = record { kind = kind; player = player; over = over }

abbrev pub event_told : Option Event → EventAnswer
event_told None = event_at 0 0 not_over
event_told (Some (event.Seated seat)) = event_at 1 seat not_over
event_told (Some event.Unseated) = event_at 2 0 not_over
event_told (Some event.Began) = event_at 3 0 not_over
event_told (Some (event.Left player)) = event_at 4 player not_over
event_told (Some (event.GivenUp player)) = event_at 5 player not_over
event_told (Some (event.Over over)) = event_at 6 0 (over_told over)

-- what has happened first is told, and not again
abbrev pub Tells : Meeting → Meeting → Option Event → Type 0
Tells n k event =
    (event ≡ next_event n.announced n.lobby n.part) × (k ≡ record n { announced = announced_after event n.announced })

-- it has something to do at this time: in its lobby, in the game, or to begin that
abbrev pub acts_at : ℕ → Meeting → Bool
acts_at now m = (acts_in now m.lobby || wants_in now m.part) || is_some (begins_now m)

-- the time from which on it has
abbrev pub IsDue : Meeting → Meeting → Option ℕ → Type 0
IsDue n k due = (k ≡ n) × ((now : ℕ) → now < 2 ^ 32 → has_come now due ≡ acts_at now n)

-- how long it is until then, or the largest number where it only waits for what comes
abbrev pub wait_of : ℕ → Option ℕ → ℕ
wait_of now None = 4294967295
wait_of now (Some due) = due - now
