-- What is known of a session and of its players, as plain numbers.
use Rattle.std.specs.Prelude.{ℕ, ◌-◌, ◌==◌, pos, nat_lt, if◌then◌else◌, List, [], replicate, slice_get, slice_index_or, Option, Some, None}
use Rattle.std.specs.Option.{option_map}
use Rattle.dn_setup.specs.Settings.{bit}
use Rattle.dn_lockstep.specs.Tables.{count_of}
use Rattle.dn_link.specs.Linked.{figures_of, is_peer, may_leave, unacknowledged, Linked}
use Rattle.dn_link.specs.Linking.{linked}
use Rattle.dn_link.specs.Pacing.{pace_of}
use Rattle.dn_link.specs.declared.link.Link.{Link}
use Rattle.dn_session.specs.declared.ending.Progress.{Progress}
use Rattle.dn_session.specs.declared.ending.Progress.TheVariants as progress
use Rattle.dn_session.specs.declared.greeting.Holder.{Holder}
use Rattle.dn_session.specs.declared.greeting.Seating.{Seating}
use Rattle.dn_session.specs.declared.greeting.Shown.{Shown}
use Rattle.dn_session.specs.declared.joiner.Stage.{Stage}
use Rattle.dn_session.specs.declared.joiner.Stage.TheVariants as stage
use Rattle.dn_session.specs.declared.lead.Seen.{Seen}
use Rattle.dn_session.specs.declared.lead.Standing.{Standing}
use Rattle.dn_session.specs.declared.lead.Standing.TheVariants as standing
use Rattle.dn_session.specs.declared.part.Part.{Part}
use Rattle.dn_session.specs.declared.seats.Seat.{Seat}
use Rattle.dn_session.specs.declared.seats.Seat.TheVariants as seat
use Rattle.dn_session.specs.declared.side.Side.{Side}
use Rattle.dn_session.specs.declared.side.Side.TheVariants as side
use Rattle.dn_session.specs.declared.terms.Terms.{Terms}
use Rattle.dn_session.specs.Hosting.{lobby}
use Rattle.dn_session.specs.Joining.{joining}
use Rattle.dn_session.specs.Playing.{playing, view}
use Rattle.dn_session.specs.Session.{Meeting}
use Rattle.zirmegat.specs.declared.over.OverAnswer.{OverAnswer}
use Rattle.zirmegat.specs.declared.session_player.PlayerAnswer.{PlayerAnswer}
use Rattle.zirmegat.specs.declared.session_player.PlayerInGame.{PlayerInGame}
use Rattle.zirmegat.specs.declared.session_player.SeatAnswer.{SeatAnswer}
use Rattle.zirmegat.specs.declared.session_state.GameAnswer.{GameAnswer}
use Rattle.zirmegat.specs.declared.session_state.SessionAnswer.{SessionAnswer}
use Rattle.zirmegat.specs.Commands.{end_of, got_of}
use Rattle.zirmegat.specs.Lines.{end_told, got_told, line_told}
use Rattle.zirmegat.specs.Over.{ending_told, hint_told, not_over, refusal_told}
use Rattle.zirmegat.specs.Phases.{phase_told}
use Rattle.zirmegat.specs.Terms.{no_name, terms_told}

-- its player's demo, once it plays
abbrev pub demo_of : Option Part → List ℕ
demo_of None = []
demo_of (Some part) = (linked (playing part).link).node.demo.bytes

-- The terms.

-- a host knows them, and one who joins once it was told them
abbrev pub terms_of : Side → Option Terms
terms_of (side.Host host) = Some (lobby host).terms
terms_of (side.Joiner joiner) = option_map (λ s. s.terms) (joining joiner).seating

-- the number of its player, as far as it was told
abbrev pub me_of : Side → ℕ
me_of (side.Host host) = 0
me_of (side.Joiner joiner) = elim (joining joiner).seating [ None ↦ 0 | Some s ↦ s.seat ]

-- Where it stands.

abbrev pub stage_code : Stage → ℕ
stage_code stage.Calling = 2
stage_code stage.Waiting = 3
stage_code stage.Seated = 4
stage_code stage.Playing = 4
stage_code (stage.Refused refusal) = 7
stage_code (stage.Hinted hint) = 7

abbrev pub side_code : Side → ℕ
side_code (side.Host host) = 1
side_code (side.Joiner joiner) = stage_code (joining joiner).stage

abbrev pub progress_code : Progress → ℕ
progress_code progress.Playing = 5
progress_code (progress.Leaving ending since free) = 6
progress_code (progress.Over ending) = 7

-- in its lobby, and then in its game; 0 is for no session
abbrev pub where_of : Side → Option Part → ℕ
where_of side None = side_code side
where_of side (Some part) = progress_code (playing part).progress

-- why it is over, or will be

abbrev pub stage_over : Stage → OverAnswer
stage_over (stage.Refused refusal) = refusal_told refusal
stage_over (stage.Hinted hint) = hint_told hint
stage_over stage = not_over

abbrev pub side_over : Side → OverAnswer
side_over (side.Host host) = not_over
side_over (side.Joiner joiner) = stage_over (joining joiner).stage

abbrev pub progress_over : Progress → OverAnswer
progress_over progress.Playing = not_over
progress_over (progress.Leaving ending since free) = ending_told ending
progress_over (progress.Over ending) = ending_told ending

abbrev pub why_of : Side → Option Part → OverAnswer
why_of side None = side_over side
why_of side (Some part) = progress_over (playing part).progress

-- Its game.

abbrev pub no_game : GameAnswer
no_game = record { made = 0; ran = 0; unacknowledged = 0; may_leave = 0; was = pos 0; should = pos 0 }

abbrev pub game_in : Linked → GameAnswer
game_in link =
    record {
      made = count_of link.node.rings link.node.me;
      ran = link.node.ran;
      unacknowledged = unacknowledged link;
      may_leave = bit (may_leave link);
      was = (phase_told link.node.phase).was;
      should = (phase_told link.node.phase).should;
    }

abbrev pub game_of : Option Part → GameAnswer
game_of None = no_game
game_of (Some part) = game_in (linked (playing part).link)

-- all that is known of it
abbrev pub state_told : Meeting → SessionAnswer
state_told m =
    record {
      stage = where_of m.lobby m.part;
      why = why_of m.lobby m.part;
      game = game_of m.part;
      me = me_of m.lobby;
      terms = terms_told (terms_of m.lobby);
    }

-- A player: its seat in the lobby.

abbrev pub no_seat : ℕ → SeatAnswer
no_seat state = record { state = state; known = 0; address = replicate 32 0; name = no_name }

abbrev pub holder_told : ℕ → Holder → SeatAnswer
holder_told state holder = record { state = state; known = 1; address = holder.address.bytes; name = holder.name }

abbrev pub seat_told : ℕ → Seat → SeatAnswer
seat_told now seat.Absent = no_seat 0
seat_told now seat.Free = no_seat 1
seat_told now (seat.Taken held) = holder_told (if nat_lt 2000 (now - held.heard) then 3 else 2) held.holder

-- as the host told, in a game of so many players
abbrev pub shown_told : ℕ → ℕ → Option Shown → SeatAnswer
shown_told players seat None = no_seat (if nat_lt seat players then 1 else 0)
shown_told players seat (Some shown) = holder_told (if shown.heard then 2 else 3) shown.holder

-- the seat 0 is the host's
abbrev pub seat_here : ℕ → List Seat → ℕ → SeatAnswer
seat_here now seats player =
    if player == 0 then no_seat 2 else seat_told now (slice_index_or seats (player - 1) seat.Absent)

abbrev pub seat_there : Seating → ℕ → SeatAnswer
seat_there s player =
    if player == 0 then record (no_seat 2) { name = s.name }
    else shown_told s.terms.players player (slice_index_or s.seats (player - 1) None)

abbrev pub seat_in : ℕ → Side → ℕ → SeatAnswer
seat_in now (side.Host host) player = seat_here now (lobby host).seats player
seat_in now (side.Joiner joiner) player = elim (joining joiner).seating [ None ↦ no_seat 0 | Some s ↦ seat_there s player ]

-- And what it is in the game.

abbrev pub standing_code : Standing → ℕ
standing_code standing.Open = 1
standing_code standing.Closed = 2
standing_code standing.Gone = 3

-- what is seen of it, where the game has it
abbrev pub seen_in : ℕ → Part → ℕ → Option Seen
seen_in now part player =
    if nat_lt player (linked (playing part).link).node.players
    then slice_get (view now (playing part)).players player
    else None

abbrev pub not_seen : PlayerInGame
not_seen =
    record { standing = 0; awaited = 0; silent = 0; got = 0; end = end_told None; line = line_told None }

-- with how many commands of it are here, where they end, and the line to it
abbrev pub seen_told : Link → ℕ → Option Seen → PlayerInGame
seen_told link player None = not_seen
seen_told link player (Some seen) =
    record {
      standing = standing_code seen.standing;
      awaited = seen.awaited;
      silent = seen.silent;
      got = got_told (got_of (linked link).node player);
      end = end_told (end_of (linked link).node player);
      line = line_told (if is_peer (linked link).node player then Some (figures_of ((pace_of link).lines player)) else None);
    }

abbrev pub in_game : ℕ → Option Part → ℕ → PlayerInGame
in_game now None player = not_seen
in_game now (Some part) player = seen_told (playing part).link player (seen_in now part player)

abbrev pub player_told : ℕ → ℕ → Meeting → PlayerAnswer
player_told player now m = record { seat = seat_in now m.lobby player; game = in_game now m.part player }
