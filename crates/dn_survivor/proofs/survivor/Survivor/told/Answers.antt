use Rattle.std.proofs.Common.{◌≡◌, ◌<◌, ◌+◌, ◌∙◌, ◌++◌, ℕ, length, sym, ap, refl, arith, Option, option_to_list, length-append}
use Rattle.std.specs.List.{filter_map, range_with_len}
use Rattle.dn_survivor.specs.{declared.report.Tail.Tail, ReportBytes.IsTail, Telling.told_in}
use Rattle.dn_lockstep.specs.Contents.{contents}
use Rattle.dn_survivor.proofs.{Lists.{all_more, picks_more}, Reports.{are_told, few_tails}}
use Rattle.dn_survivor.proofs.survivor.Survivor.told.Goals as goal

pub push_some-requires : goal.push_some-requires
push_some-requires c =
    let n = contents c.args.self.now.lockstep in
    let player = c.loop-player.player in
    let lockstep = c.args.self.now.lockstep in
    let low : player < n.players = omega (arith, c.loop-player-test.true, c.players-player-end.ensures) in
    let more = ap length (picks_more (told_in n c.args.to) 0 player (player + 1) player refl (omega arith)) in
    let parts = length-append (filter_map (told_in n c.args.to) (range_with_len 0 player))
    (option_to_list (told_in n c.args.to player)) in
    let few = few_tails n c.args.to player n.players low lockstep.few lockstep.me_below c.requires.below c.requires.other in
    let now = ap length c.loop-player.invariant.told in
    let one = ap (λ (o : Option Tail). length (option_to_list o)) c.tail.ensures.told in
    omega (arith, more, parts, few, now, one)

pub loop-player-preserved : goal.loop-player-preserved
loop-player-preserved c =
    let n = contents c.args.self.now.lockstep in
    let player = c.loop-player.player in
    record {
      told = c.push_some.ensures
          ∙ (λ i. c.loop-player.invariant.told i ++ option_to_list (c.tail.ensures.told i))
          ∙ sym (picks_more (told_in n c.args.to) 0 player (player + 1) player refl (omega arith));
      proper = all_more IsTail _ _ _ c.loop-player.invariant.proper c.tail.ensures.proper c.push_some.ensures;
    }

pub returns-clause-proper : goal.returns-clause-proper
returns-clause-proper c =
    let n = contents c.args.self.now.lockstep in
    let lockstep = c.args.self.now.lockstep in
    let most = c.loop-player.auto.player-end in
    let done : c.loop-player.player ≡ n.players =
    omega (arith, most, c.loop-player-test.false, c.players-player-end.ensures) in
    let told = c.loop-player.invariant.told
    ∙ ap (λ (k : ℕ). filter_map (told_in n c.args.to) (range_with_len 0 k)) done in
    are_told n c.args.to c.loop-player.told.items told lockstep.few lockstep.me_below c.requires.below c.requires.other
    c.loop-player.invariant.proper
