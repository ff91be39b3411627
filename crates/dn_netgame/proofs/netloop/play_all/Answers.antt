use Rattle.std.proofs.Common.{◌≡◌, inr, ℕ, List, length, refl, ap, sym, ◌∙◌, subst}
use Rattle.dn_world.specs.Plane.{Spots, walking}
use Rattle.dn_netgame.specs.{Lines.Udp.{Ports, UdpSends, UdpPolls}, Turning.{AreSeated, TakeRounds}, PlayShown.{new_seats, HavePlayed, failures}}
use Rattle.dn_node.specs.declared.node.Node.{Node}
use Rattle.dn_netgame.proofs.Seated.{together}
use Rattle.dn_netgame.proofs.netloop.play_all.Goals as goal

pub returns-clause-played : goal.returns-clause-played
returns-clause-played g c =
    let config = c.args.config in
    let players = c.args.players in
    let State : Spots → Spots = λ spots. spots in
    let walks : length c.in_ok-walks.walks.items ≡ players = c.in_ok-walks.ensures in
    let slice = c.as_mut_slice.result.now in
    let own : slice ≡ c.in-Ok.nodes.items = c.as_mut_slice.ensures.value in
    let Seated : List (Node Spots) → Type 0 =
    λ nodes. AreSeated State walking nodes (new_seats config players) in
    let seated =
    subst Seated (sym own) (together State walking config players (length c.in_ok-walks.walks.items)
    c.in-Ok.nodes.items walks c.in-Ok.ensures.opened) in
    let out = c.play_rounds.ensures.rounds (new_seats config players) seated in
    let many : length slice ≡ players = ap (λ (nodes : List (Node Spots)). length nodes) own
    ∙ c.in-Ok.ensures.one_each ∙ walks in
    let P : Ports → Type 0 = λ ports. TakeRounds UdpSends UdpPolls failures walking c.args.net.seed players
    c.args.net.count (new_seats config players, ports) (out.after, c.play_rounds.new.line) in
    let N : ℕ → Type 0 = λ n. TakeRounds UdpSends UdpPolls failures walking c.args.net.seed n c.args.net.count
    (new_seats config players, c.in-Ok-bind.line) (out.after, c.play_rounds.new.line) in
    let last : HavePlayed config players c.args.net.base c.args.net.seed c.args.net.count c.play_rounds.new.nodes =
    record {
      last = (out.after, c.play_rounds.new.line);
      rounds = subst P c.in-Ok-bind.ensures.line (subst N many out.leads);
      seated = out.seated;
      each = c.play_rounds.ensures.each ∙ many;
    } in
    inr (c.play_rounds.new.nodes, last, c.in_ok-text.ensures.text, refl)
