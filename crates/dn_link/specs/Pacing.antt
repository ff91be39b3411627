-- What a link keeps for its pace.
use Rattle.std.specs.{Prelude.{ℕ, Bool, ◌||◌, nat_lt, false, None, pos, Option, get_or}, Prelude.{Bool, false, ◌||◌}}
use Rattle.dn_tic.specs.declared.input.Input.{Input}
use Rattle.dn_link.specs.{declared.{line.Line.Line, link.Link.Link, pace.Pace.Pace, leaning.Leaning.Leaning, stretching.Stretching.Stretching}, Line.new_line, Leaning.{LeaningState, StretchingState}, Congestion.{between, new_congestion}, Leaning.{TrimState}, declared.congestion.Congestion.{Congestion}, declared.trimming.Trim.{Trim}}

-- the line from each player, who was given a datagram since the last tick, how many brief ones each was given in a
-- row, the input of which a command is owed, how the ticks lean and stretch, how full the line is, and how many bytes
-- came that were no datagram
pub record PaceState : Type 0 where
  pub lines : ℕ → Line
  pub given : ℕ → Bool
  pub briefs : ℕ → ℕ
  pub owed : Option Input
  pub leaning : LeaningState
  pub stretching : StretchingState
  pub congestion : Congestion
  pub refused : ℕ

-- what each of these is, of what the link holds
abbrev pub trim_state : Trim → TrimState
trim_state t = record { by = t.by; carried = t.carried }

abbrev pub leaning_of : Leaning → LeaningState
leaning_of l =
    record { rest = l.rest; looked = l.looked; sum = l.sum; left = l.left; trim = trim_state l.trim }

abbrev pub stretching_of : Stretching → StretchingState
stretching_of s = record { ticks = s.ticks; dropped = s.dropped; blocks = s.blocks; slow = s.slow }

abbrev pub state_of : Pace → PaceState
state_of p =
    record {
      lines = λ player. get_or p.lines player new_line;
      given = λ player. get_or p.given player false;
      briefs = λ player. get_or p.briefs player 2;
      owed = p.owed;
      leaning = leaning_of p.leaning;
      stretching = stretching_of p.stretching;
      congestion = p.congestion;
      refused = p.refused;
    }

-- the next datagram to a peer is a brief one, which carries the newest commands alone: another was given to the peer
-- since the last tick, or by the level more brief ones go there in a row
abbrev pub is_brief : PaceState → ℕ → Bool
is_brief pace to = pace.given to || nat_lt (pace.briefs to) (between pace.congestion)

-- the pace at first
abbrev pub new_pace : PaceState
new_pace =
    record {
      lines = λ player. new_line;
      given = λ player. false;
      briefs = λ player. 2;
      owed = None;
      leaning = record {
        rest = 0;
        looked = 0;
        sum = pos 0;
        left = pos 0;
        trim = record { by = pos 0; carried = pos 0 };
      };
      stretching = record { ticks = 0; dropped = 0; blocks = 0; slow = 0 };
      congestion = new_congestion;
      refused = 0;
    }

abbrev pub pace_of : Link → PaceState
pace_of link = state_of link.pace
