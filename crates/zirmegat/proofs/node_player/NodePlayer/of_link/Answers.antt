use Rattle.std.proofs.Common.{rules, ◌≡◌, ◌∙◌, ap}
use Rattle.dn_setup.specs.Settings.{bit}
use Rattle.dn_link.specs.Linked.{has_given_up}
use Rattle.dn_link.specs.Linking.{linked}
use Rattle.dn_link.specs.Pace.{is_resting, wants_second}
use Rattle.dn_link.specs.Pacing.{pace_of}
use Rattle.zirmegat.specs.{Joined.joined_of, Lines.line_told, Links.figures_at, Links.left_of, NodeStates.left_told, NodeStates.lockstep_player}
use Rattle.zirmegat.proofs.node_player.NodePlayer.of_link.Goals as goal

pub returns : goal.returns
returns c =
    let p = c.args.player in let link = linked c.args.link.now in let pace = pace_of c.args.link.now in
    let base : c.of_lockstep.result ≡ lockstep_player p link.node =
    c.of_lockstep.ensures ∙ ap (lockstep_player p) c.lockstep.ensures in
    let left : c.left_of.result ≡ left_told (left_of p link) = search rules in
    let gone : c.from.result ≡ bit (has_given_up link p) = search rules in
    let rests : c.from-2.result ≡ bit (is_resting link pace p) = search rules in
    let second : c.from-3.result ≡ bit (wants_second link pace p) = search rules in
    let line : c.of.result ≡ line_told (figures_at p (joined_of c.args.link.now)) = search rules in
    λ i. record {
      got = (base i).got;
      end = (base i).end;
      left = left i;
      given_up = gone i;
      is_resting = rests i;
      wants_second = second i;
      reports = c.reports_of.ensures i;
      line = line i;
    }
