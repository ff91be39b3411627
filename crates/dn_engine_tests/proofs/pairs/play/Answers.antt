use Rattle.std.proofs.Common.{◌≡◌, ◌<◌, List, [], ◌∷◌, ◌++◌, take, get_or, refl, sym, subst, arith}
use Rattle.std.proofs.lemmas.List.{take_more, take_all}
use Rattle.dn_tic.specs.declared.input.Command.{Command}
use Rattle.dn_lockstep.specs.Contents.{Contents, contents}
use Rattle.dn_engine_tests.specs.Calls.{counting}
use Rattle.dn_engine_tests.specs.Pairs.{HaveAgreed, Round, Rounds}
use Rattle.dn_engine_tests.specs.declared.pairs.Pair.{Pair}
use Rattle.dn_engine_tests.proofs.pairs.play.Goals as goal

-- one more round
one_more : (done : List (List Command)) (commands : List Command) (old mid new : Pair) → Rounds done old mid
    → Round commands mid new → Rounds (done ++ commands ∷ []) old new
one_more [] commands old mid new rounds round =
    (new, subst (λ (pair : Pair). Round commands pair new) rounds round, refl)
one_more (first ∷ done) commands old mid new rounds round =
    (rounds.0, rounds.1, one_more done commands rounds.0 mid new rounds.2 round)

pub returns-clause-one_game : goal.returns-clause-one_game
returns-clause-one_game c = c.leave.ensures.one_game c.args.settings c.loop-both.invariant.game

pub returns-clause-agree : goal.returns-clause-agree
returns-clause-agree c =
    let one = returns-clause-one_game c in
    let agreed = c.locksteps_agree.ensures.agreed counting one.limits c.args.settings one.session one.game in
    let low : 0 < one.limits.players = omega (arith, one.two) in
    let high : 1 < one.limits.players = omega (arith, one.two) in
    subst (λ (n : Contents). HaveAgreed n (contents c.leave.new.self.second)) one.first
    (subst (λ (n : Contents). HaveAgreed (one.session.locksteps 0) n) one.second (
      agreed.demos.prefixes 0 1 low high,
      λ player tic one other. agreed.told_same 0 1 player tic one other low high,
    ))

pub returns-clause-played : goal.returns-clause-played
returns-clause-played c =
    let all : take c.loop-both.both-index c.args.commands.now ≡ c.args.commands.now =
    take_all c.loop-both.both-index c.args.commands.now c.loop-both-test.false in (
      c.in_ok-pair.pair,
      c.loop-both.pair,
      c.in_ok-pair.ensures.opened,
      subst (λ (rounds : List (List Command)). Rounds rounds c.in_ok-pair.pair c.loop-both.pair) all
          c.loop-both.invariant.rounds,
      c.leave.ensures.step,
    )

pub loop-both-preserved : goal.loop-both-preserved
loop-both-preserved c =
    let rounds = one_more (take c.loop-both.both-index c.args.commands.now)
    (get_or c.args.commands.now c.loop-both.both-index []) c.in_ok-pair.pair c.loop-both.pair c.round.new.self
    c.loop-both.invariant.rounds c.round.ensures.step in
    record {
      game = c.round.ensures.one_game c.args.settings c.loop-both.invariant.game;
      rounds = subst (λ (rounds : List (List Command)). Rounds rounds c.in_ok-pair.pair c.round.new.self)
          (sym (take_more c.args.commands.now c.loop-both.both-index [] (omega arith))) rounds;
    }
