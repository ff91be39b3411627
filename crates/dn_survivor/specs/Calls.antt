-- What the calls of a survivor do that are not those of a lockstep.
use Rattle.std.specs.Prelude.{◌≡◌, ℕ, true, not, slice_set, if◌then◌else◌, Option, Some, None, ◌⊎◌, zero, suc}
use Rattle.std.specs.Option.{option_map, option_or}
use Rattle.dn_machine.specs.Drops as drops
use Rattle.dn_machine.specs.Limits.{Limits}
use Rattle.dn_machine.specs.Flight.{Flight}
use Rattle.dn_machine.specs.Node as machine
use Rattle.dn_machine.specs.Node.{lowest, got}
use Rattle.dn_remain.specs.Vanished.Calls.{is_heard, can_decide}
use Rattle.dn_remain.specs.Wary.{is_in_game}
use Rattle.dn_remain.specs.Vanished.Node.{decided_end}
use Rattle.dn_lockstep.specs.Sent.{sent_to}
use Rattle.dn_lockstep.specs.Settling.{is_no_peer, on_excuse, on_settle}
use Rattle.dn_lockstep.specs.Steps.{Steps}
use Rattle.dn_lockstep.specs.declared.lockstep.settling.Settled.{Settled}
use Rattle.dn_survivor.specs.declared.report.Report.{Report}
use Rattle.dn_survivor.specs.declared.others.Others.{Others}
use Rattle.dn_survivor.specs.declared.others.hearing.Reported as others
use Rattle.dn_survivor.specs.OfOthers.{has, nodes_of, own_of, reported_as, with_newest, commands_of, first_of, teller_of, told_of}
use Rattle.dn_survivor.specs.declared.answers.Ends.{Ends}
use Rattle.dn_survivor.specs.declared.answers.GivenUp.{GivenUp}
use Rattle.dn_survivor.specs.declared.answers.Reported.{Reported}
use Rattle.dn_survivor.specs.Surviving.{Surviving, has_given_up, has_gone, is_unsettled}

-- The ends of those who are given up: one call of the lockstep after another.

-- where the commands of a player end, by what is kept of the others and those that the node has
abbrev pub end_by : Limits → ℕ → Others → ℕ → machine.Node → ℕ
end_by limits me others player m =
    decided_end limits.players me (own_of others (λ other. got m player)) (told_of others) player

-- the lockstep is told this end, and the last commands before it
abbrev pub settled_by : Limits → ℕ → Others → ℕ → machine.Node → machine.Node × Settled
settled_by limits me others player m =
    on_settle limits me m player (end_by limits me others player m) (first_of limits.players me others player)
    (commands_of limits.players me others player)

-- what has become of the ends so far, and of one more: of several that are not taken the first is told
abbrev pub ends_with : Ends → ℕ → Settled → Ends
ends_with Ends.Taken player (Settled.Taken count) = Ends.Taken
ends_with Ends.Taken player reason = Ends.Untaken player reason
ends_with Ends.Awaited player settled = Ends.Awaited
ends_with (Ends.Untaken first reason) player settled = Ends.Untaken first reason

-- the reasons for which the end of one who is given up may be refused: commands before it are missing and were
-- not told, there is no room for them, one of them would end a demo, or another end is known
abbrev pub IsRefusal : Settled → Type 0
IsRefusal reason = (reason ≡ Settled.Gap) ⊎ ((reason ≡ Settled.Overrun) ⊎ ((reason ≡ Settled.Stopper)
    ⊎ (reason ≡ Settled.OtherEnd)))

-- one player more, if that one is given up
abbrev pub settled_with : Limits → ℕ → Others → ℕ → machine.Node × Ends → machine.Node × Ends
settled_with limits me others player before =
    if has others.gone player
    then (
      (settled_by limits me others player before.0).0,
      ends_with before.1 player (settled_by limits me others player before.0).1,
    )
    else before

-- the ends of the players below the bound who are given up, from the lowest on
unfoldable pub settled_below : Limits → ℕ → Others → ℕ → machine.Node → machine.Node × Ends
settled_below limits me others zero m = (m, Ends.Taken)
settled_below limits me others (suc player) m =
    settled_with limits me others player (settled_below limits me others player m)

-- all of them, if all reports are there
abbrev pub decided_by : Limits → ℕ → Others → machine.Node → machine.Node × Ends
decided_by limits me others m =
    if can_decide limits.players me (own_of others (λ player. 0)) (nodes_of others)
    then settled_below limits me others limits.players m
    else (m, Ends.Awaited)

-- The calls.

-- why a player is not given up, if so: the first reason counts
abbrev pub refused_give_up : Surviving → ℕ → Option GivenUp
refused_give_up now player =
    if is_no_peer now.lockstep.players now.lockstep.me player then Some GivenUp.NotAPlayer else (
    if not (is_in_game now.lockstep.phase) then Some GivenUp.NotPlaying else (
    if has_given_up now player then Some GivenUp.Already else None))

-- one player more is given up
abbrev pub with_gone : Others → ℕ → Others
with_gone others player = record others { gone = slice_set others.gone player true }

-- the answer of a give-up, by what has become of the ends
abbrev pub given_up_as : Ends → GivenUp
given_up_as Ends.Awaited = GivenUp.Waiting
given_up_as Ends.Taken = GivenUp.Decided
given_up_as (Ends.Untaken player reason) = GivenUp.Untaken player reason

-- the calls on the lockstep: it waits no longer for the player before the start; and, if all reports are there,
-- it is told the end of each player who is given up
abbrev pub given_up_by : Limits → ℕ → Others → ℕ → machine.Node → machine.Node × GivenUp
given_up_by limits me others player m =
    let after = decided_by limits me (with_gone others player) (on_excuse limits me m player).0 in
    (after.0, given_up_as after.1)

-- what is refused changes nothing
abbrev pub GivesUpUnless : Option GivenUp → ℕ → Surviving → Surviving → GivenUp → Type 0
GivesUpUnless (Some reason) player old new result = (result ≡ reason) × (new ≡ old)
GivesUpUnless None player old new result = (new.others ≡ with_gone old.others player)
    × Steps old.lockstep new.lockstep (λ limits me m. given_up_by limits me old.others player m)
    (λ answer. result ≡ answer)

-- a player is given up
abbrev pub GivesUp : ℕ → Surviving → Surviving → GivenUp → Type 0
GivesUp player old new result = GivesUpUnless (refused_give_up old player) player old new result

-- why a report is not kept, by what is kept of the others
abbrev pub unkept : others.Reported → Option Reported
unkept others.Reported.Kept = None
unkept others.Reported.GivenUp = Some (Reported.Dropped drops.given_up)
unkept others.Reported.Excluded = Some Reported.Excluded
unkept others.Reported.Improper = Some Reported.Improper
unkept others.Reported.Stale = Some Reported.Stale

-- why a report is not kept, if so: the first reason counts
abbrev pub refused_report : Surviving → ℕ → Report → Option Reported
refused_report now from report =
    if not (is_in_game now.lockstep.phase) then Some (Reported.Dropped drops.not_playing) else (
    if is_no_peer now.lockstep.players now.lockstep.me from then Some (Reported.Dropped drops.stranger) else
    unkept (reported_as now.lockstep.players now.lockstep.me now.others from report))

-- the answer to a report that is kept, by what has become of the ends
abbrev pub reported_by : Ends → Reported
reported_by Ends.Awaited = Reported.Kept
reported_by Ends.Taken = Reported.Decided
reported_by (Ends.Untaken player reason) = Reported.Untaken player reason

-- the calls on the lockstep, if all reports are there with this one
abbrev pub heard_by : Limits → ℕ → Others → machine.Node → machine.Node × Reported
heard_by limits me others m =
    let after = decided_by limits me others m in (after.0, reported_by after.1)

abbrev pub HearsReportUnless : Option Reported → ℕ → Report → Surviving → Surviving → Reported → Type 0
HearsReportUnless (Some reason) from report old new result = (result ≡ reason) × (new ≡ old)
HearsReportUnless None from report old new result = (new.others ≡ with_newest old.others from report)
    × Steps old.lockstep new.lockstep (λ limits me m. heard_by limits me (with_newest old.others from report) m)
    (λ answer. result ≡ answer)

-- a report comes
abbrev pub HearsReport : ℕ → Report → Surviving → Surviving → Reported → Type 0
HearsReport from report old new result =
    HearsReportUnless (refused_report old from report) from report old new result

-- of the players whose report is missing the one with the lowest number
abbrev pub undecided_in : Surviving → Option ℕ
undecided_in now =
    lowest now.lockstep.players
    (λ player. not (is_heard now.lockstep.players now.lockstep.me (own_of now.others (λ other. 0))
    (nodes_of now.others) player))

-- of those who are given up the one with the lowest number whose end is not settled
abbrev pub unsettled_in : Surviving → Option ℕ
unsettled_in now = lowest now.lockstep.players (is_unsettled now)

-- while somebody is given up, the report of one player is awaited: of the lowest whose report is missing; or else,
-- where an end that follows from the reports could not be taken, of the one who told of the most commands before it
abbrev pub awaits_report_of : Surviving → Option ℕ
awaits_report_of now =
    if has_gone now
    then option_or (undecided_in now)
    (option_map (teller_of now.lockstep.players now.lockstep.me now.others) (unsettled_in now))
    else None

-- nothing is sent to one who is given up
abbrev pub sent_unless : Others → ℕ → Limits → ℕ → machine.Node → machine.Node × Option Flight
sent_unless others to limits me m = if has others.gone to then (m, None) else sent_to to limits me m
