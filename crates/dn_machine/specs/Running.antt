-- What a run and a quit do to a node (d_net.c, TryRunTics; g_game.c, G_Ticker).
use Rattle.std.specs.Prelude.{ℕ, ℤ, pos, Bool, true, false, not, ◌&&◌, List, [], ◌∷◌, ◌++◌, nat_lt, nat_le, ◌==◌, if◌then◌else◌, Option, Some, None}
use Rattle.std.specs.Ordering.{int_eq}
use Rattle.dn_tic.specs.declared.command.Move.{Move}
use Rattle.dn_machine.specs.declared.answers.Cause.TheVariants as Cause
use Rattle.dn_machine.specs.declared.answers.Phase.{Phase}
use Rattle.dn_machine.specs.declared.answers.Phase.TheVariants.{Listening, Gathering, Playing, Ended}
use Rattle.dn_machine.specs.declared.answers.Ran.{Ran}
use Rattle.dn_machine.specs.Limits.{Limits, row_of}
use Rattle.dn_machine.specs.Node.{Node, put, ends_of, got, ran, held_at, own_mark, lowest, is_whole}

-- the most tics that a node runs by rows that lack a player; whole rows are bounded by the capacity
abbrev pub tic_limit : ℕ
tic_limit = 2097150

-- the tic at which a node ends instead of running this row: a whole row needs room in the demo; a row that
-- lacks a player goes into no demo, and only the limit of tics stops it
abbrev pub full_at : Limits → List (Option Move) → ℕ
full_at limits row = if is_whole limits.players row then limits.capacity else tic_limit

-- there is an end, and the tic is not before it
abbrev pub is_over : Option ℕ → ℕ → Bool
is_over None tic = false
is_over (Some end) tic = nat_le end tic

-- the next tic is not before the player's known end, so it is run without the player
abbrev pub is_absent : Node → ℕ → Bool
is_absent node player = is_over (ends_of node player) (ran node)

-- a present player's command for the next tic is not there yet
abbrev pub is_awaited : Node → ℕ → Bool
is_awaited node player = not (is_absent node player) && nat_le (got node player) (ran node)

-- a present player's command for the next tic carries another mark than the node was told twelve tics before
abbrev pub is_off : Node → ℕ → Bool
is_off node player =
    not (is_absent node player) && not (int_eq (held_at node player (ran node)).mark
    (own_mark node player (ran node)))

-- the player whose mark is off in the next tic; none is looked at up to tic 12
abbrev pub first_off : Limits → Node → Option ℕ
first_off limits node = if nat_lt 12 (ran node) then lowest limits.players (is_off node) else None

-- the row of the commands that a node has of the present players for the next tic
abbrev pub row_held : Limits → Node → List (Option Move)
row_held limits node =
    row_of limits.players (λ player. if is_absent node player then None
    else Some (held_at node player (ran node)))

-- of the marks that it is told it keeps those of the present players
abbrev pub marks_kept : Limits → Node → (ℕ → ℤ) → ℕ → ℤ
marks_kept limits node marks player =
    if nat_lt player limits.players && not (is_absent node player) then marks player else pos 0

-- A playing node is asked to run a tic. `awaited` is the first player whose command it lacks, and `off` the
-- first player whose mark is off, if there are such; `marks` are the players' marks in the world as it stands
abbrev pub on_run_playing : Limits → Node → (ℕ → ℤ) → Option ℕ → Option ℕ → Node × Ran
on_run_playing limits node marks (Some awaited) off = (node, Ran.Waiting awaited)
on_run_playing limits node marks None (Some off) =
    let was = (held_at node off (ran node)).mark in
    let should = own_mark node off (ran node) in
    (record node { phase = Ended (Cause.Inconsistent off was should) }, Ran.Inconsistent off was should)
on_run_playing limits node marks None None =
    if ran node == full_at limits (row_held limits node)
    then (record node { phase = Ended Cause.Full }, Ran.DemoFull)
    else (
      record node {
        rows = node.rows ++ row_held limits node ∷ [];
        marks = put node.marks (ran node) (marks_kept limits node marks);
      },
      Ran.Ran (ran node),
    )

-- the same of a node in any phase: one that does not play stays as it is
abbrev pub on_run_in : Limits → Node → (ℕ → ℤ) → Option ℕ → Phase → Node × Ran
on_run_in limits node marks off Playing =
    on_run_playing limits node marks (lowest limits.players (is_awaited node)) off
on_run_in limits node marks off Listening = (node, Ran.NotPlaying)
on_run_in limits node marks off Gathering = (node, Ran.NotPlaying)
on_run_in limits node marks off (Ended cause) = (node, Ran.NotPlaying)

-- a node is asked to run a tic, by the marks in the world as it stands: the node after it, and the answer
unfoldable pub on_run : Limits → Node → (ℕ → ℤ) → Node × Ran
on_run limits node marks = on_run_in limits node marks (first_off limits node) node.phase

-- a node quits in this phase
abbrev pub on_quit_in : Node → Phase → Node × Bool
on_quit_in node (Ended cause) = (node, false)
on_quit_in node Listening = (record node { phase = Ended Cause.Quit }, true)
on_quit_in node Gathering = (record node { phase = Ended Cause.Quit }, true)
on_quit_in node Playing = (record node { phase = Ended Cause.Quit }, true)

-- a node quits: the node after it, and whether it had not ended
unfoldable pub on_quit : Node → Node × Bool
on_quit node = on_quit_in node node.phase
