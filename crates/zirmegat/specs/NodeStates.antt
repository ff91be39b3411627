-- What is known of a node and of its players, as plain numbers.
use Rattle.std.specs.Prelude.{ℕ, List, map, replicate, length, Option, Some, None, is_some}
use Rattle.dn_setup.specs.Settings.{bit}
use Rattle.dn_lockstep.specs.Contents.{Contents}
use Rattle.dn_lockstep.specs.Tables.{count_of}
use Rattle.dn_lockstep.specs.Told.{can_make}
use Rattle.dn_survivor.specs.Calls.{undecided_in}
use Rattle.dn_link.specs.Linked.{has_given_up, may_leave, surviving_of, unacknowledged, Linked}
use Rattle.dn_link.specs.Pace.{is_resting, wants_second}
use Rattle.dn_link.specs.Surviving.{reports_gone}
use Rattle.dn_session.specs.Players.{four}
use Rattle.zirmegat.specs.declared.node_player.NodePlayer.{NodePlayer}
use Rattle.zirmegat.specs.declared.node_state.NodeAnswer.{NodeAnswer}
use Rattle.zirmegat.specs.declared.node_state.Undecided.{Undecided}
use Rattle.zirmegat.specs.{Choice.settings_told, Commands.end_of, Commands.got_of, Joined.Joined, Lines.end_told, Lines.got_told, Lines.line_told, Links.figures_at, Links.left_of, Phases.phase_told}

-- of those who are not given up the lowest player whose report is missing
abbrev pub undecided_told : Option ℕ → Undecided
undecided_told (Some player) = record { known = 1; player = player }
undecided_told None = record { known = 0; player = 0 }

abbrev pub lockstep_told : Contents → NodeAnswer
lockstep_told n =
    record {
      demo_length = length n.demo.bytes;
      phase = phase_told n.phase;
      me = n.me;
      players = n.players;
      made = count_of n.rings n.me;
      ran = n.ran;
      can_give = bit (can_make n);
      knows_settings = bit (is_some n.settings);
      unacknowledged = 0;
      refused = 0;
      may_leave = 0;
      undecided = undecided_told None;
      settings = settings_told n.settings;
    }

-- with what a link alone knows
abbrev pub link_told : Joined → NodeAnswer
link_told n =
    record (lockstep_told n.link.node) {
      unacknowledged = unacknowledged n.link;
      refused = n.pace.refused;
      may_leave = bit (may_leave n.link);
      undecided = undecided_told (undecided_in (surviving_of n.link));
    }

abbrev pub lockstep_player : ℕ → Contents → NodePlayer
lockstep_player player n =
    record {
      got = got_told (got_of n player);
      end = end_told (end_of n player);
      left = 0;
      given_up = 0;
      is_resting = 0;
      wants_second = 0;
      reports = replicate 4 0;
      line = line_told None;
    }

-- why a player has left, if its datagrams told
abbrev pub left_told : Option ℕ → ℕ
left_told (Some cause) = cause
left_told None = 0

-- 1 for each player whom the newest report of another names
abbrev pub reports_told : Linked → ℕ → List ℕ
reports_told link teller = map (λ player. bit (reports_gone link teller player)) four

-- with what a link alone knows
abbrev pub player_of : ℕ → Joined → NodePlayer
player_of player n =
    record (lockstep_player player n.link.node) {
      left = left_told (left_of player n.link);
      given_up = bit (has_given_up n.link player);
      is_resting = bit (is_resting n.link n.pace player);
      wants_second = bit (wants_second n.link n.pace player);
      reports = reports_told n.link player;
      line = line_told (figures_at player n);
    }
