use Rattle.std.proofs.Common.{ap, sym, ◌∙◌, subst}
use Rattle.dn_link.specs.{Hearing.HearsAll, Linking.linked, Pace.after_datagram, Packets.heard_in, Linked.{Linked, TakesPackets, takes, with_reached}}
use Rattle.dn_link.proofs.link.Link.take_packets.Goals as goal

pub returns-clause-heard : goal.returns-clause-heard
returns-clause-heard c =
    let b = c.args.bundle.now in
    let old = linked c.args.self.now in
    let mid = linked c.hear_packets.new.self in
    let node = mid.node in
    subst (λ (l : Linked). TakesPackets b old l) (sym c.note_all_reached.ensures.link) (record {
      heard = subst (λ (l : Linked). HearsAll (heard_in (takes l) b) l.node node)
          c.meet.ensures.link c.hear_packets.ensures.heard;
      others = c.hear_packets.ensures.others ∙ ap (λ (l : Linked). l.others) c.meet.ensures.link;
      peers = ap (with_reached node) (c.hear_packets.ensures.peers ∙ ap (λ (l : Linked). l.peers) c.meet.ensures.link);
    })

pub returns-clause-pace : goal.returns-clause-pace
returns-clause-pace c =
    c.note_all_reached.ensures.pace ∙ c.hear_packets.ensures.pace ∙ c.hear.ensures
    ∙ ap (after_datagram c.args.bundle.now) c.meet.ensures.pace
