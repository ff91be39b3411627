use Rattle.std.proofs.Common.{◌≡◌, ap, ◌∙◌}
use Rattle.dn_lockstep.specs.Contents.{Contents}
use Rattle.dn_link.specs.{Linked.end_known, Linking.linked}
use Rattle.dn_session.specs.{Players.count_in, Players.ends_by}
use Rattle.dn_session.proofs.players.is_whole.Goals as goal

pub returns : goal.returns
returns c =
    let end : c.end.result ≡ end_known (linked c.args.link.now).node c.args.player =
    c.end.ensures.value ∙ ap (λ (n : Contents). end_known n c.args.player) c.lockstep-lockstep.ensures in
    let count : c.count_in.result ≡ count_in (linked c.args.link.now).node c.args.player =
    c.count_in.ensures ∙ ap (λ (n : Contents). count_in n c.args.player) c.lockstep-lockstep.ensures in
    c.ends_by.ensures ∙ (λ i. ends_by (end i) (count i))
