-- What is kept of a peer after a packet, a node that keeps it, and ends that are not strange.
use Rattle.std.proofs.Common.{◌≡◌, ◌≤◌, ℕ, Bool, true, cond, Option, Some, arith}
use Rattle.dn_machine.specs.{declared.peer.Peer.Peer, Flight.{Flight, is_exit, end_of}, Node.{Node, with_peer, ends_of}, Hearing.{is_strange_end, after_request, after_flight}}
use Rattle.dn_machine.proofs.Put.{view_kept}

pub asked_low : (places made : ℕ) (peer : Peer) (request : Option ℕ) → peer.resend ≤ made
    → (after_request places made peer request).resend ≤ made
asked_low places made peer request low = grind arith

-- a request leaves the known end
pub asked_end : (places made : ℕ) (peer : Peer) (request : Option ℕ)
    → (after_request places made peer request).end ≡ peer.end
asked_end places made peer request = grind arith

-- after a packet of commands
pub flight_low : (places made : ℕ) (peer : Peer) (flight : Flight) → peer.resend ≤ made
    → (after_flight places made peer flight).resend ≤ made
flight_low places made peer flight low = grind arith

pub flight_end : (places made : ℕ) (peer : Peer) (flight : Flight)
    → (after_flight places made peer flight).end ≡ cond (is_exit flight.kind) (Some (end_of flight)) peer.end
flight_end places made peer flight = grind arith

-- the ends after another peer was put, which has the end that the old one had
pub same_ends : (node : Node) (player : ℕ) (peer : Peer) → peer.end ≡ ends_of node player
    → ends_of (with_peer node player peer) ≡ ends_of node
same_ends node player peer same = view_kept (λ (p : Peer). p.end) node.peers player peer same

-- An end is not strange that is not before what the node has, nor past a known end, and which of an EXIT
-- packet is the known one.
pub no_strange_end : (exit : Bool) (got : ℕ) (known : Option ℕ) (end : ℕ) → (exit ≡ true → got ≤ end)
    → ((k : ℕ) → known ≡ Some k → (end ≤ k) × (exit ≡ true → end ≡ k))
    → is_strange_end exit got known end ≡ true → ⊥
no_strange_end exit got known end low is h = grind arith
