-- A line in memory: what its queues do.
use Rattle.std.specs.Prelude.{◌≡◌, ℕ, Bool, not, ◌&&◌, ◌==◌, nat_lt, if◌then◌else◌, List, [], ◌∷◌, ◌++◌, length, take, replicate, slice_index_or, slice_set, Option, Some, None, Result, Ok, Err}
use Rattle.dn_netgame.specs.Lines.{Done, count_after}
use Rattle.dn_netgame.specs.declared.line.Datagram.{Datagram}
use Rattle.dn_netgame.specs.declared.line.LineFault.{LineFault}
use Rattle.dn_netgame.specs.declared.line.LineFault.TheVariants.{Send, Poll}

-- the datagrams that wait for each player, the oldest first, and how many calls failed
pub record Hub : Type 0 where
  pub queues : List (List Datagram)
  pub failed : ℕ

abbrev pub empty_hub : ℕ → Hub
empty_hub players = record { queues = replicate players []; failed = 0 }

abbrev pub players_of : Hub → ℕ
players_of hub = length hub.queues

-- what waits for a player
abbrev pub queue : Hub → ℕ → List Datagram
queue hub player = slice_index_or hub.queues player []

-- at most the first 105 bytes are kept
abbrev pub front : ℕ → List ℕ → Datagram
front from bytes = record { from = from; bytes = record { items = take 105 bytes } }

-- two players, and the receiver's queue has room
abbrev pub is_taken : Hub → ℕ → ℕ → Bool
is_taken hub me to =
    nat_lt me (players_of hub)
    && (nat_lt to (players_of hub) && (not (me == to) && nat_lt (length (queue hub to)) 64))

-- another queue for a player
abbrev pub with_queue : Hub → ℕ → List Datagram → Hub
with_queue hub player waiting = record hub { queues = slice_set hub.queues player waiting }

-- the hub after a send, but for its count, and the answer
abbrev pub hub_taken : Hub → ℕ → ℕ → List ℕ → Hub × Result Done LineFault
hub_taken hub me to bytes =
    if is_taken hub me to then (with_queue hub to (queue hub to ++ front me bytes ∷ []), Ok tt)
    else (hub, Err Send)

-- the first of a queue is given, if there is one
abbrev pub first_given : Hub → ℕ → List Datagram → Hub × Result (Option Datagram) LineFault
first_given hub me [] = (hub, Ok None)
first_given hub me (datagram ∷ rest) = (with_queue hub me rest, Ok (Some datagram))

-- the hub after a poll, but for its count, and the answer
abbrev pub hub_given : Hub → ℕ → Hub × Result (Option Datagram) LineFault
hub_given hub me = if nat_lt me (players_of hub) then first_given hub me (queue hub me) else (hub, Err Poll)

-- a call that failed is counted
abbrev pub counted : {A : Type 0} → Hub × Result A LineFault → Hub
counted after = record after.0 { failed = count_after after.1 after.0.failed }

abbrev pub HubSends : Hub → ℕ → ℕ → List ℕ → Result Done LineFault → Hub → Type 0
HubSends old me to bytes answer new = (answer ≡ (hub_taken old me to bytes).1)
    × (new ≡ counted (hub_taken old me to bytes))

abbrev pub HubPolls : Hub → ℕ → Result (Option Datagram) LineFault → Hub → Type 0
HubPolls old me answer new = (answer ≡ (hub_given old me).1) × (new ≡ counted (hub_given old me))
