use Rattle.std.proofs.{Common.{◌≡◌, ◌<◌, length, slice_index_or, ◌∙◌, subst, arith}, lemmas.Option.slice_get-get_or}
use Rattle.dn_world.specs.Plane.{Spots, walking}
use Rattle.dn_netgame.specs.{Lines.Udp.{Ports, UdpSends, UdpPolls}, Turning.Seat, PlayShown.{failures, new_seat, PlaysOut}}
use Rattle.dn_netgame.proofs.Seated.{alone}
use Rattle.dn_netgame.proofs.netplay.play.Goals as goal

pub returns-clause-played : goal.returns-clause-played
returns-clause-played g c settings keyed =
    let config = c.args.config in
    let seat : Seat = new_seat config settings in
    let State : Spots → Spots = λ spots. spots in
    let seated = alone State walking c.from_mut.result.now c.in-Ok.node seat c.from_mut.ensures.value
    (c.in-Ok.ensures.opened settings keyed) in
    let out = c.play_out.ensures.played (λ place. seat) seated in
    let nodes = c.play_out.new.nodes in
    let one : length nodes ≡ 1 = c.play_out.auto.nodes ∙ c.from_mut.ensures.len in
    let below : 0 < length nodes = omega (arith, one) in
    let P : Ports → Type 0 = λ ports. PlaysOut UdpSends UdpPolls failures walking c.args.net.seed c.args.net.count
    ((λ place. seat), ports) (out.after, c.play_out.new.line) in
    record {
      last = (out.after, c.play_out.new.line);
      plays = subst P c.in-Ok-bind.ensures.line out.leads;
      node = out.seated 0 (slice_index_or nodes 0 c.in-Ok.node) (slice_get-get_or nodes 0 c.in-Ok.node below);
    }
