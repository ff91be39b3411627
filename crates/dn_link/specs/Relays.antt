-- The commands of third players that a player hands on, and which these are.
use Rattle.std.specs.{Prelude.{◌≡◌, ◌≢◌, ◌<◌, ◌≤◌, ℕ, ◌+◌, ◌⊎◌, ◌^◌, negsuc, List, [], ◌∷◌, length, slice_index, Some, ◌-◌, ◌/◌, ◌&&◌, ◌||◌, ◌==◌, not, if◌then◌else◌, nat_lt, nat_le, min, max, Bool, slice_get, get_or, Option, None}, List.{flat_map}}
use Rattle.dn_tic.specs.{Command.IsCommand, Command.command_bytes, declared.command.TicCmd.TicCmd}
use Rattle.dn_machine.specs.{Flight.Flight, Relaying.packet_of_one}
use Rattle.dn_lockstep.specs.{Contents.Contents, Told.command_told, Told.made}
use Rattle.dn_link.specs.{declared.bundle.Part.Part, declared.bundle.Part.TheVariants.Relay, declared.bundle.Run.Run, declared.lag.Had.Had, declared.lag.Lag.Lag}

-- whose commands, from which tic on, and these
pub record Handed : Type 0 where
  pub player : ℕ
  pub start : ℕ
  pub commands : List TicCmd

-- as a part of a datagram
abbrev pub handed_part : Handed → Part
handed_part handed =
    Relay (record {
      player = handed.player;
      run = record {
        start = handed.start;
        commands = record { items = flat_map command_bytes handed.commands };
      };
    })

-- the packets of these commands, of their maker to another
abbrev pub run_flights : (player to start : ℕ) → List TicCmd → List Flight
run_flights player to start [] = []
run_flights player to start (command ∷ commands) =
    packet_of_one player to start command ∷ run_flights player to (start + 1) commands

abbrev pub flights_of : ℕ → List Handed → List Flight
flights_of to handed = flat_map (λ h. run_flights h.player to h.start h.commands) handed

-- each is the command that the lockstep tells of the player for its tic, and one that a packet can carry
abbrev pub AreTold : Contents → (player start : ℕ) → List TicCmd → Type 0
AreTold n player start [] = Unit {0}
AreTold n player start (command ∷ commands) =
    (command_told n player start ≡ Some command) × IsCommand command × (command.forward ≢ negsuc 127)
    × AreTold n player (start + 1) commands

-- it is handed on to another player: commands that are not that player's own, as the lockstep has them
pub record IsHandedOn (n : Contents) (to : ℕ) (handed : Handed) : Type 0 where
  pub player : handed.player < n.players
  pub there : to < n.players
  pub small : handed.player < 4
  pub third : handed.player ≢ to
  pub low : handed.start + length handed.commands ≤ 2 ^ 32
  pub told : AreTold n handed.player handed.start handed.commands

abbrev pub AreHandedOn : Contents → ℕ → List Handed → Type 0
AreHandedOn n to [] = Unit {0}
AreHandedOn n to (one ∷ handed) = IsHandedOn n to one × AreHandedOn n to handed

-- each is of a player above the one before, and of commands from what a peer has reported of the player on
abbrev pub AreLacked : List ℕ → ℕ → List Handed → Type 0
AreLacked reported low [] = Unit {0}
AreLacked reported low (one ∷ handed) =
    (low ≤ one.player) × (slice_index reported one.player ≤ one.start) × (1 ≤ length one.commands)
    × (length one.commands ≤ 24) × AreLacked reported (one.player + 1) handed

-- from which on the newest four of the node's own commands are that a peer has not reported
abbrev pub newest_from : List ℕ → Contents → ℕ
newest_from reported n = max (slice_index reported n.me) (made n - 4)

-- commands of a player from a tic on: so many, or all up to one that is not told
abbrev pub IsFrom : Contents → (player start most : ℕ) → List TicCmd → Type 0
IsFrom n player start most commands =
    (length commands ≤ most)
    × ((length commands ≡ most) ⊎ (command_told n player (start + length commands) ≡ None))

-- they are the newest of its own
pub record IsNewest (n : Contents) (from : ℕ) (handed : Handed) : Type 0 where
  pub own : handed.player ≡ n.me
  pub start : handed.start ≡ from
  pub all : IsFrom n n.me from 4 handed.commands

-- Which commands of third players are handed on.

-- how many commands of a player it had so many ticks before the last
abbrev pub had : List Had → (age player : ℕ) → ℕ
had history age player = elim (slice_get history age) [ None ↦ 0 | Some tick ↦ slice_index tick.counts player ]

-- a lag in eighths of a tick, after a command that took longer, or less long
abbrev pub moved : (longer shorter : Bool) → ℕ → ℕ
moved longer shorter usual =
    if longer then min (usual + 1) 224 else (if shorter then usual - 1 else usual)

-- a peer has reported so many commands of a player. If these are more than before, the newest of them had been
-- here for longer than usual, for as long, or less long
abbrev pub learned : List Had → (player reported : ℕ) → Lag → Lag
learned history player reported lag =
    if nat_le reported lag.told
    then lag
    else record lag {
      usual = moved (nat_le reported (had history (lag.usual / 8 + 1) player))
          (nat_lt (had history (lag.usual / 8) player) reported) lag.usual;
      told = reported;
    }

-- the oldest command that a peer has not reported was here three ticks longer than usual, or more
abbrev pub is_overdue : List Had → (player reported : ℕ) → Lag → Bool
is_overdue history player reported lag = nat_lt reported (had history (lag.usual / 8 + 3) player)

-- what is handed on comes before the player's own datagrams: the peer reports commands of the player as late as
-- those of this one, and two ticks late or more
abbrev pub is_slow : (round_trip lag : Lag) → Bool
is_slow round_trip lag = nat_le round_trip.usual lag.usual && nat_le 16 lag.usual

-- a tick: from one at which commands are overdue or slow on, they are handed on for 2,048 ticks
abbrev pub counted_down : Bool → Lag → Lag
counted_down is_on lag = record lag { left = if is_on then 2048 else lag.left - 1 }

-- the first command that is handed on: the oldest that the peer has not reported if it is overdue; else, for as
-- long, the first that was not handed on before, or one of the newest two, if more than what is overdue is
abbrev pub handed_from : List Had → (player reported got : ℕ) → (more : Bool) → Lag → Option ℕ
handed_from history player reported got more lag =
    if is_overdue history player reported lag
    then Some reported
    else (if more && nat_lt 0 lag.left then Some (max reported (min (got - 2) lag.end)) else None)

-- commands of a run are handed on
abbrev pub handed : Run → Lag → Lag
handed run lag = record lag { end = min (run.start + min (length run.commands.items / 8) 24) (2 ^ 32 - 1) }

-- what is known of how late a peer reports the commands of a player
abbrev pub lag_of : List Lag → ℕ → Lag
lag_of lags player = get_or lags player (record { usual = 0; told = 0; left = 0; end = 0 })

abbrev pub is_on : List Had → ℕ → Had → List Lag → ℕ → Bool
is_on history me reported lags player =
    is_overdue history player (slice_index reported.counts player) (lag_of lags player)
    || is_slow (lag_of lags me) (lag_of lags player)

abbrev pub four_of : (ℕ → Lag) → List Lag
four_of lag = lag 0 ∷ lag 1 ∷ lag 2 ∷ lag 3 ∷ []

-- how late a peer is taken to report the commands of each player at first, in eighths of a tick: of the player itself
-- that is the round trip
abbrev pub new_lag : (me player : ℕ) → Lag
new_lag me player = record { usual = if player == me then 224 else 64; told = 0; left = 0; end = 0 }

-- what a peer's reports make of its lags at a tick, by what the player had before it, and with it
abbrev pub learned_from : List Had → Had → List Lag → List Lag
learned_from before reported lags =
    four_of (λ player. learned before player (slice_index reported.counts player) (lag_of lags player))

abbrev pub counted_by : List Had → ℕ → Had → List Lag → List Lag
counted_by with_it me reported lags =
    four_of (λ player. counted_down (is_on with_it me reported lags player) (lag_of lags player))

-- commands of a player are handed on to a peer though not overdue: on a tight line only if they come earlier so
abbrev pub hands_more : ℕ → (player : ℕ) → (is_tight : Bool) → List Lag → Bool
hands_more me player is_tight lags = not is_tight || is_slow (lag_of lags me) (lag_of lags player)
