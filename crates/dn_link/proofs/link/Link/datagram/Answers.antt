use Rattle.std.proofs.Common.{rules, ◌≡◌, ◌<◌, ◌+◌, List, ◌%◌, ◌^◌, ℕ, length, get_or, set, Bool, w8, to_z, of_z, refl, ap, ◌∙◌, subst, arith}
use Rattle.std.specs.Prelude.{IfSome}
use Rattle.dn_survivor.specs.{ReportBytes.IsReport, Surviving.Surviving}
use Rattle.dn_link.specs.{Linked.{report_beside, written, PeerState}, declared.{bundle.Part.Part, line.Line.Line}, Counting.counts_of, Ends.told_cause, Hearing.SendsCarried, Line.{missing, own_echo}}
use Rattle.dn_link.specs.{Kept.{going, kept_after, taken_by}, Linking.{linked, peers_of, state_of}, Packing.ArePacked}
use Rattle.dn_machine.specs.Node.{put}
use Rattle.dn_lockstep.specs.Contents.{Contents, contents}
use Rattle.dn_link.proofs.Places.{peer_at, peers_put}
use Rattle.dn_link.specs.Pacing.{PaceState, is_brief, pace_of}
use Rattle.dn_link.specs.Surviving.{HasTwoBehind}
use Rattle.dn_link.proofs.link.Link.datagram.Goals as goal

pub returns-clause-gives : goal.returns-clause-gives
returns-clause-gives c =
    let peers = c.args.self.now.peers in
    let packet = c.next_packet-packet.result in
    let n = (linked c.args.self.now).node in
    let lent = contents c.lockstep_mut.result.now in
    let after_it = contents c.next_packet-packet.new.lockstep in
    let is_lent : lent ≡ n = c.lockstep_mut.ensures.value in
    let me : c.me-me.result ≡ n.me = c.me-me.ensures in
    let four : length peers ≡ 4 = search rules in
    let below : c.args.to < length peers = omega (arith, four, c.remains.ensures.few c.if-not-remains.false) in
    let here = peer_at peers c.args.to c.index-self-to.result below in
    let after = c.parts-number.ensures in
    let line = c.line-line.result.now in
    let new_peers = peers_put peers c.args.to c.parts-number.new.self below
    ∙ ap (put (peers_of peers) c.args.to) (after.peer ∙ (λ i. record (here i) {
      kept = kept_after (here i).kept (taken_by (here i).left packet);
      number = ((here i).number + 1) % 2 ^ 32;
    })) in
    let now : Surviving = record { lockstep = after_it; others = (linked c.args.self.now).others } in
    let brief : c.is_brief-brief.result ≡ is_brief (pace_of c.args.self.now) c.args.to = c.is_brief-brief.ensures in
    let behind = subst (λ (b : Bool). HasTwoBehind (record (linked c.args.self.now) {
      node = after_it;
      peers = peers_of (set peers c.args.to c.parts-number.new.self);
    }) c.args.to b c.parts-number.result.1.items c.with_handed-parts.result.items) brief c.with_handed-parts.ensures.behind in
    let same_line = c.line-line.ensures ∙ ap (λ (p : PaceState). p.lines c.args.to) c.give.ensures in
    let led : to_z w8 (of_z w8 line.own_lead) ≡ line.own_lead = search rules in
    record {
      given = packet;
      step = subst (λ (m : Contents). SendsCarried c.args.to m after_it packet) is_lent c.next_packet-packet.ensures.step;
      idle = λ none. c.next_packet-packet.ensures.idle none ∙ is_lent;
      bundle = record {
        from = c.me-me.result;
        to = c.args.to;
        number = c.parts-number.result.0;
        lead = to_z w8 (of_z w8 line.own_lead);
        holes = c.missing.result;
        cause = c.told_cause-cause.result;
        counts = c.counts_of.result;
        report = c.report_beside-report.result;
        parts = c.with_handed-parts.result;
      };
      is = c.seal_bundle.ensures.text;
      fits = c.seal_bundle.ensures.fits;
      from = me;
      goes = refl;
      number = after.number ∙ ap (λ (t : PeerState). t.number) here;
      lead = led ∙ ap (λ (l : Line). l.own_lead) same_line;
      holes = c.missing.ensures ∙ ap missing same_line;
      cause = c.told_cause-cause.ensures ∙ ap told_cause
          (c.phase.ensures ∙ ap (λ (n : Contents). n.phase) c.lockstep.ensures);
      counts = c.counts_of.ensures ∙ (λ i. counts_of (c.lockstep-2.ensures i)
          ((c.own_echo.ensures ∙ ap own_echo same_line) i));
      report = subst (λ (parts : List Part). c.report_beside-report.result.items ≡ written (report_beside now c.args.to parts))
          c.as_slice-2.ensures.value c.report_beside-report.ensures.bytes;
      proper = subst (λ (parts : List Part). IfSome (report_beside now c.args.to parts) IsReport)
          c.as_slice-2.ensures.value c.report_beside-report.ensures.proper;
      own = c.parts-number.result.1.items;
      behind = behind.0;
      few = behind.1;
      newest = behind.2;
      none = λ b. after.none (brief ∙ b);
      packed = λ full. subst (λ (t : PeerState). ArePacked n.me
          (going t.kept (taken_by t.left packet)) c.parts-number.result.1.items) here
          (subst (λ (k : ℕ). ArePacked k (going (state_of (get_or peers c.args.to c.index-self-to.result)).kept
          (taken_by (state_of (get_or peers c.args.to c.index-self-to.result)).left packet))
          c.parts-number.result.1.items) me (after.packed (brief ∙ full)));
      others = refl;
      peers = new_peers;
    }
