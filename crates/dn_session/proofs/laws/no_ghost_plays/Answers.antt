use Rattle.std.proofs.Common.{◌≡◌, ℕ, List, sym, subst, Result, Ok, Err, true, false}
use Rattle.std.specs.List.{list_all}
use Rattle.dn_session.specs.{Hosting.Lobby, Hosting.on_call, Seats.is_ready, declared.greeting.Address.Address, declared.greeting.Call.Call, declared.greeting.GreetingFault.GreetingFault}
use Rattle.dn_session.proofs.Lobbies.{each_call}
use Rattle.dn_session.proofs.laws.no_ghost_plays.Goals as goal

-- a game that has begun has all its players
abbrev IsFull : ℕ → Lobby → Type 0
IsFull now l = l.begun ≡ true → list_all (is_ready now l.filled) l.seats ≡ true

-- a lobby whose game has not begun has that too
idle : (now : ℕ) (l : Lobby) → l.begun ≡ false → IsFull now l
idle now l lobby begun = absurd (cc)

called : (from : Address) (bytes : List ℕ) (now : ℕ) (l : Lobby) (read : Result Call GreetingFault) → l.begun ≡ false
    → IsFull now (on_call from bytes now l read).0
called from bytes now l (Ok call) lobby =
    each_call from call now l (λ after. IsFull now after.0) (λ why. idle now l lobby) (λ n game some. idle now l lobby)
    (λ n lobby good none some begun. begun) (λ n lobby good some begun. begun)
called from bytes now l (Err fault) lobby = idle now l lobby

pub returns : goal.returns
returns c = λ from bytes now old new reply lobby begun hears.
    subst (IsFull now) (sym hears.2) (called from bytes now old hears.0 lobby) begun
