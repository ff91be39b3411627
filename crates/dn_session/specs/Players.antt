-- What a player sees of the others in its game: by its link, and by how long it was silent there.
use Rattle.std.specs.{Prelude.{ℕ, ◌+◌, ◌==◌, ◌&&◌, ◌||◌, Bool, not, false, nat_le, nat_lt, if◌then◌else◌, List, [], ◌∷◌, map, slice_index_or, Option, Some, None}, List.{list_any, list_all}}
use Rattle.dn_machine.specs.declared.answers.Phase.{Phase}
use Rattle.dn_lockstep.specs.{Contents.Contents, Told.got, Told.made}
use Rattle.dn_survivor.specs.Calls.{awaits_report_of}
use Rattle.dn_link.specs.{Linked.Linked, Linked.end_known, Linked.has_given_up, Linked.remains, Linked.surviving_of, Surviving.reports_gone}
use Rattle.dn_session.specs.{Cookies.is_one, Watch.silence, Watch.stalled, declared.lead.Seen.Seen, declared.lead.Standing.Standing, declared.lead.View.View, declared.watch.Watch.Watch, declared.lead.Standing.TheVariants.{Closed, Gone, Open}}
use Rattle.dn_machine.specs.declared.answers.Phase.TheVariants as phase

abbrev pub four : List ℕ
four = 0 ∷ 1 ∷ 2 ∷ 3 ∷ []

-- its own player plays, or has left
abbrev pub own_standing : Phase → Standing
own_standing phase.Playing = Open
own_standing phase = Closed

-- how many commands of a player are here
abbrev pub count_in : Contents → ℕ → ℕ
count_in n player = if nat_lt player n.players then got n player else 0

-- all commands before an end are here, if it is known
abbrev pub ends_by : Option ℕ → ℕ → Bool
ends_by None count = false
ends_by (Some end) count = nat_le end count

-- another player's last command is known, and all before it are here
abbrev pub is_whole : Linked → ℕ → Bool
is_whole link player = ends_by (end_known link.node player) (count_in link.node player)

-- no other player has this number, or it is given up
abbrev pub is_gone_from : Linked → ℕ → Bool
is_gone_from link player = not (remains link player)

-- another one is gone once it is given up, and has left once it is whole
abbrev pub standing_beside : Linked → ℕ → Standing
standing_beside link player =
    if is_gone_from link player then Gone else (if is_whole link player then Closed else Open)

abbrev pub standing_of : Linked → ℕ → Standing
standing_of link player =
    if player == link.node.me then own_standing link.node.phase else standing_beside link player

-- the own command of the next tic is there, and this player's is not
abbrev pub lacks : Contents → ℕ → Bool
lacks n player = nat_lt n.ran (made n) && nat_le (count_in n player) n.ran

-- a player's command of the tic after the next is there
abbrev pub has_second : Contents → ℕ → Bool
has_second n player = nat_lt (n.ran + 1) (count_in n player)

-- the row of the tic after the next is complete here: the own command, and that of each other who gives one
abbrev pub has_row_behind : Linked → Bool
has_row_behind link =
    has_second link.node link.node.me
    && list_all (λ player. is_gone_from link player || (is_whole link player || has_second link.node player)) four

-- somebody is given up
abbrev pub has_gone : Linked → Bool
has_gone link = list_any (has_given_up link) four

-- then reports of all others are needed. They are awaited one by one, the lowest first; and where all are there, and
-- cannot be true, a better one is
abbrev pub owes_report : Linked → ℕ → Bool
owes_report link player = is_one (λ other. player == other) (awaits_report_of (surviving_of link))

-- a command or a report of another is awaited, who is not given up
abbrev pub is_awaited : Linked → ℕ → Bool
is_awaited link player =
    not (is_gone_from link player)
    && ((not (is_whole link player) && lacks link.node player) || owes_report link player)

abbrev pub is_any_awaited : Linked → Bool
is_any_awaited link = list_any (is_awaited link) four

-- a player has told that it has given up another, or this one: those are the excluders
abbrev pub names_by : Linked → List Bool → ℕ → ℕ → Bool
names_by link excluders player other =
    if other == link.node.me then slice_index_or excluders player false else reports_gone link player other

-- one is awaited since no tic was run and nobody went: the next command of each is that of the next tic
abbrev pub seen_of : Linked → List Bool → Watch → ℕ → ℕ → Seen
seen_of link excluders watch now player = record {
  standing = standing_of link player;
  awaited = if is_awaited link player then stalled now watch else 0;
  owes_report = owes_report link player;
  silent = silence player now watch;
  names = map (names_by link excluders player) four;
}

abbrev pub view_of : Linked → List Bool → Watch → ℕ → View
view_of link excluders watch now = record {
  me = link.node.me;
  players = map (seen_of link excluders watch now) four;
  stalled = stalled now watch;
}

-- all others are given up
abbrev pub is_abandoned : Linked → Bool
is_abandoned link = list_all (is_gone_from link) four
