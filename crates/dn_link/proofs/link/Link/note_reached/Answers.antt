use Rattle.std.proofs.Common.{rules, ◌≡◌, ◌<◌, ℕ, length, ap, ◌∙◌, arith}
use Rattle.dn_machine.specs.Node.{put}
use Rattle.dn_lockstep.specs.Contents.{Contents}
use Rattle.dn_link.specs.{Counting.reached, Kept.acknowledged, Linked.PeerState, Linking.linked, Linking.peers_of}
use Rattle.dn_link.proofs.Places.{peer_at, peers_put}
use Rattle.dn_link.proofs.link.Link.note_reached.Goals as goal

pub returns-clause-link : goal.returns-clause-link
returns-clause-link c =
    let peers = c.args.self.now.peers in
    let player = c.args.player in
    let four : length peers ≡ 4 = search rules in
    let below : player < length peers = omega (arith, four, c.requires) in
    let here = peer_at peers player c.index-self-player.result below in
    let count = c.reached-count.ensures ∙ ap (λ (n : Contents). reached n player) c.lockstep.ensures in
    let kept = c.has_reached.ensures ∙ (λ i. record (here i) { kept = acknowledged (here i).kept (count i) }) in
    ap (λ (f : ℕ → PeerState). record (linked c.args.self.now) { peers = f })
    (peers_put peers player c.has_reached.new.self below ∙ ap (put (peers_of peers) player) kept)
