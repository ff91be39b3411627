-- How a player's datagrams come: what is a sign of life of it, and of where it is.
use Rattle.std.specs.Prelude.{ℕ, ◌==◌, ◌&&◌, ◌||◌, Bool, false, nat_lt, if◌then◌else◌, List, map, Option, Some, None, slice_index_or}
use Rattle.dn_link.specs.{Linked.Linked, Linked.figures_of, Linked.is_peer, Pacing.PaceState, declared.received.Received.Received, declared.received.Received.TheVariants.Heard, declared.tally.Figures.Figures}
use Rattle.dn_lockstep.specs.{Contents.Contents}
use Rattle.dn_session.specs.{Players.count_in, Players.four, declared.places.News.News}

-- what a link reports of the line of a player
abbrev pub figures_in : Linked → PaceState → ℕ → Option Figures
figures_in link pace player =
    if is_peer link.node player then Some (figures_of (pace.lines player)) else None

-- of four players
abbrev pub lines_in : Linked → PaceState → List (Option Figures)
lines_in link pace = map (figures_in link pace) four

abbrev pub line_of : List (Option Figures) → ℕ → Option Figures
line_of lines player = slice_index_or lines player None

-- the newest echo of its player
abbrev pub echo_of : Option Figures → ℕ
echo_of None = 0
echo_of (Some figures) = figures.echo

-- it is one of the last 64, and came for the first time or again
abbrev pub is_current_in : (before after : Option Figures) → Bool
is_current_in (Some before) (Some after) = nat_lt before.came after.came || nat_lt before.repeated after.repeated
is_current_in before after = false

abbrev pub news_of : (before after : Option Figures) → News
news_of before after =
    record {
      is_current = is_current_in before after;
      is_answer = nat_lt (echo_of before) (echo_of after);
      echo = echo_of after;
    }

-- whose datagram was heard
abbrev pub heard_of : Received → Option ℕ
heard_of (Heard from) = Some from
heard_of received = None

-- a datagram of this player was heard that has a newer echo
abbrev pub is_answer_of : Option ℕ → (before after : List (Option Figures)) → ℕ → Bool
is_answer_of None before after player = false
is_answer_of (Some from) before after player =
    (player == from) && (news_of (line_of before from) (line_of after from)).is_answer

-- how many commands of each player are there
abbrev pub counts_in : Contents → List ℕ
counts_in n = map (count_in n) four

-- more commands of this player are there than before, whoever brought them
abbrev pub has_more : (before after : List ℕ) → ℕ → Bool
has_more before after player = nat_lt (slice_index_or before player 0) (slice_index_or after player 0)
