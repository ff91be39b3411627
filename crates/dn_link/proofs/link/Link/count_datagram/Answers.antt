use Rattle.std.proofs.Common.{rules, ◌≡◌, ◌<◌, ◌+◌, ◌%◌, ◌^◌, ℕ, length, ap, ◌∙◌, arith}
use Rattle.dn_machine.specs.Node.{put}
use Rattle.dn_link.specs.{Linked.PeerState, Linking.linked, Linking.peers_of}
use Rattle.dn_link.proofs.Places.{peer_at, peers_put}
use Rattle.dn_link.proofs.link.Link.count_datagram.Goals as goal

pub returns-clause-link : goal.returns-clause-link
returns-clause-link c =
    let peers = c.args.self.now.peers in
    let to = c.args.to in
    let four : length peers ≡ 4 = search rules in
    let below : to < length peers = omega (arith, four, c.requires) in
    let here = peer_at peers to c.index-self-to.result below in
    let next = c.next_number.ensures.next ∙ (λ i. record (here i) { number = ((here i).number + 1) % 2 ^ 32 }) in
    ap (λ (f : ℕ → PeerState). record (linked c.args.self.now) { peers = f })
    (peers_put peers to c.next_number.new.self below ∙ ap (put (peers_of peers) to) next)
