-- A line over UDP: what can be said of it without the network.
use Rattle.std.specs.Prelude.{◌≡◌, ◌⊎◌, ℕ, ◌<◌, ◌≤◌, Bool, false, not, ◌&&◌, ◌==◌, nat_lt, nat_le, List, Option, Result, IsErr, IfErr, IfOk, IfSome}
use Rattle.dn_netgame.specs.Lines.{Done, count_after}
use Rattle.dn_netgame.specs.declared.line.Datagram.{Datagram}
use Rattle.dn_netgame.specs.declared.line.LineFault.{LineFault}
use Rattle.dn_netgame.specs.declared.line.LineFault.TheVariants.{Send, Poll}

-- where player 0 may be: not below 1024, and with room above for the ports of three more players
abbrev pub IsBase : ℕ → Type 0
IsBase port = (1024 ≤ port) × (port ≤ 65532)

-- the players' ports, from a base on, which of them are bound here, and how many calls failed
pub record Ports : Type 0 where
  pub base : ℕ
  pub first : ℕ
  pub last : ℕ
  pub players : ℕ
  pub failed : ℕ

abbrev pub is_bound : Ports → ℕ → Bool
is_bound ports player = nat_le ports.first player && nat_le player ports.last

-- a bound player may send to any other
abbrev pub is_route : Ports → ℕ → ℕ → Bool
is_route ports me to = is_bound ports me && (nat_lt to ports.players && not (me == to))

abbrev pub counted : {A : Type 0} → Ports → Result A LineFault → Ports
counted ports answer = record ports { failed = count_after answer ports.failed }

-- where the numbers are no route, the send fails; else it may
abbrev pub UdpSends : Ports → ℕ → ℕ → List ℕ → Result Done LineFault → Ports → Type 0
UdpSends old me to bytes answer new =
    (new ≡ counted old answer)
    × (is_route old me to ≡ false → IsErr answer)
    × IfErr answer (λ fault. fault ≡ Send)

-- where the number is not bound, the poll fails; else it may. A datagram is a player's, or a stranger's
abbrev pub UdpPolls : Ports → ℕ → Result (Option Datagram) LineFault → Ports → Type 0
UdpPolls old me answer new =
    (new ≡ counted old answer)
    × (is_bound old me ≡ false → IsErr answer)
    × IfErr answer (λ fault. fault ≡ Poll)
    × IfOk answer (λ found. IfSome found (λ datagram. (datagram.from < old.players) ⊎ (datagram.from ≡ 255)))
