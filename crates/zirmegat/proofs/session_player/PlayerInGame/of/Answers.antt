use Rattle.std.proofs.Common.{rules, ◌≡◌, ◌∙◌, ap, sym}
use Rattle.dn_lockstep.specs.Contents.{Contents}
use Rattle.dn_link.specs.Linking.{linked}
use Rattle.dn_link.specs.Pacing.{pace_of}
use Rattle.dn_link.specs.Linked.{figures_of, is_peer}
use Rattle.std.specs.Prelude.{Some, None, if◌then◌else◌}
use Rattle.zirmegat.specs.{Commands.end_of, Commands.got_of, Lines.end_told, Lines.got_told, Lines.line_told, SessionStates.seen_told}
use Rattle.zirmegat.proofs.session_player.PlayerInGame.of.Goals as goal

pub returns-in-Some : goal.returns-in-Some
returns-in-Some c =
    let p = c.args.player in let link = linked c.args.link.now in let same = c.lockstep-lockstep.ensures in
    let got : c.got_of.result ≡ got_told (got_of link.node p) =
    c.got_of.ensures ∙ ap (λ (n : Contents). got_told (got_of n p)) same in
    let end : c.end_of.result ≡ end_told (end_of link.node p) =
    c.end_of.ensures ∙ ap (λ (n : Contents). end_told (end_of n p)) same in
    let line : c.of.result
    ≡ line_told (if is_peer link.node p then Some (figures_of ((pace_of c.args.link.now).lines p)) else None) =
    search rules in
    let told : _ ≡ seen_told c.args.link.now p (Some c.in-Some.seen) =
    λ i. record {
      standing = c.standing_code.ensures i;
      awaited = c.in-Some.seen.awaited;
      silent = c.in-Some.seen.silent;
      got = got i;
      end = end i;
      line = line i;
    } in
    told ∙ ap (seen_told c.args.link.now p) (sym c.in-Some.is)
