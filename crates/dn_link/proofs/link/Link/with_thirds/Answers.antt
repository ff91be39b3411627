use Rattle.std.proofs.{Common.rules, Common.◌<◌, lemmas.Bool.and_parts, lemmas.Bool.not-true, lemmas.Bool.eq-eqb, lemmas.Bool.both_ways, lemmas.Bool.true≢false, Common.sym}
use Rattle.std.specs.Prelude.{nat_lt, not, false, ◌==◌}
use Rattle.dn_link.specs.Linking.{linked}
use Rattle.dn_link.proofs.Handing.{at_most_two, joins, may_relay, none_behind, nothing_behind}
use Rattle.dn_link.proofs.link.Link.with_thirds.Goals as goal

pub returns-clause-behind : goal.returns-clause-behind
returns-clause-behind c =
    let link = linked c.args.self.now in
    let to = c.args.to in
    let may = may_relay link to (c.hands_on.ensures.may c.if-not-hands_on.false) in
    let peer = and_parts (nat_lt to link.node.players) (not (to == link.node.me))
    (c.hands_on.ensures.peer c.if-not-hands_on.false) in
    let me_low : link.node.me < 4 = search rules in
    let all = joins link to 0 _ _ _ c.hand.result may c.hand.ensures.handed c.hand.ensures.third c.with_relay-first.ensures.added
    (joins link to 1 _ _ _ c.hand-2.result may c.hand-2.ensures.handed c.hand-2.ensures.third c.with_relay-second.ensures.added
    (joins link to 2 _ _ _ c.hand-3.result may c.hand-3.ensures.handed c.hand-3.ensures.third c.with_relay-third.ensures.added
    (joins link to 3 _ _ _ c.hand-4.result may c.hand-4.ensures.handed c.hand-4.ensures.third c.with_relay.ensures.added
    (none_behind link to 4 false c.with_relay.result.items)))) in (
      all,
      at_most_two link.node to (link.peers to).reported all.handed me_low c.requires.few
          (λ e. both_ways (to == link.node.me) (not-true (to == link.node.me) peer.1)
          (eq-eqb to link.node.me e)) all.on all.lacked all.makers,
      λ brief. absurd (true≢false (sym brief)),
    )

pub returns-then-not-hands_on-clause-behind : goal.returns-then-not-hands_on-clause-behind
returns-then-not-hands_on-clause-behind c = nothing_behind (linked c.args.self.now) c.args.to c.args.own.items
