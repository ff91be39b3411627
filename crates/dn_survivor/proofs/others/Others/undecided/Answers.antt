use Rattle.std.proofs.{Common.{◌≡◌, ℕ, sym, ◌∙◌, ap, arith, inl, inr}, lemmas.Bool.cases_lt}
use Rattle.dn_remain.specs.Vanished.Calls.{is_heard}
use Rattle.dn_survivor.specs.OfOthers.{nodes_of, own_of}
use Rattle.dn_survivor.proofs.Lowest.{every_from}
use Rattle.dn_survivor.proofs.others.Others.undecided.Goals as goal

pub loop-player-preserved : goal.loop-player-preserved
loop-player-preserved c =
    let n : ℕ = c.loop-player.player in
    record {
      heard = λ got lower below. elim (cases_lt lower n) [
        | inl before ↦ c.loop-player.invariant.heard got lower before
        | inr after ↦
            let same : lower ≡ n = omega (arith, below, after) in
            ap (is_heard c.args.players c.args.me (own_of c.args.self.now got) (nodes_of c.args.self.now)) same
            ∙ sym (c.is_heard.ensures got) ∙ c.if-not-is_heard.false
      ];
    }

pub returns-then-not-is_heard-clause-lacks : goal.returns-then-not-is_heard-clause-lacks
returns-then-not-is_heard-clause-lacks c = λ got. (
  c.loop-player-test.true,
  sym (c.is_heard.ensures got) ∙ c.if-not-is_heard.true,
  c.loop-player.invariant.heard got,
)

pub returns-clause-none : goal.returns-clause-none
returns-clause-none c = λ got same.
    every_from c.args.players (is_heard c.args.players c.args.me (own_of c.args.self.now got) (nodes_of c.args.self.now))
    (λ lower below. c.loop-player.invariant.heard got lower (omega (arith, below, c.loop-player-test.false)))
