use Rattle.std.proofs.Common.{rules, ◌≡◌, ◌<◌, ℕ, length, ap, ◌∙◌, arith}
use Rattle.std.specs.Prelude.{slice_index}
use Rattle.dn_machine.specs.Node.{put}
use Rattle.dn_link.specs.{Ends.left_by, Kept.acknowledged, Linked.PeerState, Linked.done_with, Linked.larger, Linking.linked, Linking.peers_of}
use Rattle.dn_link.proofs.Places.{peer_at, peers_put}
use Rattle.dn_link.proofs.link.Link.meet.Goals as goal

pub returns-clause-link : goal.returns-clause-link
returns-clause-link c =
    let peers = c.args.self.now.peers in
    let bundle = c.args.bundle.now in
    let n = (linked c.args.self.now).node in
    let me : c.me-me.result ≡ n.me = c.me-me.ensures in
    let four : length peers ≡ 4 = search rules in
    let below : bundle.from < length peers = omega (arith, four, c.requires) in
    let here = peer_at peers bundle.from c.index-self-bundle.result below in
    let left : c.left_by-left.result ≡ left_by bundle (peers_of peers bundle.from).left =
    c.left_by-left.ensures ∙ ap (left_by bundle) (ap (λ (t : PeerState). t.left) c.peer.ensures) in
    let done = c.done_with-done.ensures
    ∙ (λ i. done_with (left i) n (slice_index bundle.counts.got (me i))) in
    let tells = c.tells.ensures ∙ (λ i. record {
      kept = acknowledged (here i).kept (done i);
      reported = larger (here i).reported bundle.counts.got;
      left = left i;
      number = (here i).number;
    }) in
    ap (λ (f : ℕ → PeerState). record (linked c.args.self.now) { peers = f })
    (peers_put peers bundle.from c.tells.new.self below ∙ ap (put (peers_of peers) bundle.from) tells)
