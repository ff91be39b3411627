-- What a link is, with what is kept for a peer.
use Rattle.std.specs.Prelude.{ℕ, List, [], ◌∷◌, None, get_or, map}
use Rattle.dn_seal.specs.{declared.seal.Seal.Seal, Sealing.sealing}
use Rattle.dn_survivor.specs.Surviving.{surviving}
use Rattle.dn_link.specs.{declared.{overdue.Overdue.Overdue, link.Link.Link, peer.Peer.Peer, kept.Kept.Kept}, Linked.{Linked, PeerState}, Kept.Unacknowledged}

-- what is kept for a peer
abbrev pub kept : Kept → Unacknowledged
kept k = record { packets = k.packets.items; covered = k.covered; done = k.done }

abbrev pub state_of : Peer → PeerState
state_of peer =
    record {
      kept = kept peer.kept;
      reported = peer.reported.counts;
      left = peer.left;
      number = peer.number;
    }

-- a peer of which nothing is known
abbrev pub new_peer : PeerState
new_peer =
    record {
      kept = record { packets = []; covered = 0; done = 0 };
      reported = 0 ∷ 0 ∷ 0 ∷ 0 ∷ [];
      left = None;
      number = 0;
    }

abbrev pub peers_of : List Peer → ℕ → PeerState
peers_of peers place = get_or (map state_of peers) place new_peer

abbrev pub linked : Link → Linked
linked link =
    record {
      node = (surviving link.survivor).lockstep;
      others = (surviving link.survivor).others;
      peers = peers_of link.peers;
    }

-- what it keeps to decide what it hands on
abbrev pub overdue_of : Link → Overdue
overdue_of link = link.overdue

-- what it has in common with the others of its game
abbrev pub seal_of : Link → Seal
seal_of link = (sealing link.sealer).seal
