-- By what a player seals and opens, what a packet is opened as, and how small each lockstep is.
use Rattle.std.specs.Prelude.{ℕ, ◌≤◌}
use Rattle.dn_seal.specs.declared.opened.Opened.{Opened}
use Rattle.dn_seal.specs.declared.seal.Seal.{Seal}
use Rattle.dn_seal.specs.Opening.{Sealing}
use Rattle.dn_machine.specs.Flight.{Flight}
use Rattle.dn_machine.specs.Running.{tic_limit}
use Rattle.dn_lockstep.specs.Sent.{bytes_of}
use Rattle.dn_lockstep.specs.Contents.{Contents}

-- by this player `me` of the game with this seal seals and opens
abbrev pub sealing_of : Seal → ℕ → Sealing
sealing_of seal me = record { seal = seal; me = me }

-- a packet as its receiver opens it: the datagram, with its sender and its exact numbers beside it
abbrev pub opened_of : Flight → Opened
opened_of sent =
    record { from = sent.from; start = sent.start; ask = sent.request; datagram = record { items = bytes_of sent } }

-- a lockstep has at most four players, and its demo has room for no more tics than may be run. Every lockstep
-- is so
abbrev pub IsSmall : Contents → Type 0
IsSmall n = (n.players ≤ 4) × (n.capacity ≤ tic_limit)
