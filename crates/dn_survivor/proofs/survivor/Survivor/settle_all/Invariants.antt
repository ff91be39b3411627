use Rattle.std.proofs.Common.{◌≡◌, ◌≢◌, ℕ, false}
use Rattle.dn_lockstep.specs.{Contents.contents, Steps.Steps}
use Rattle.dn_survivor.specs.{declared.answers.Ends.Ends, Calls.settled_below, Surviving.{has_given_up, surviving}}
use Rattle.dn_survivor.proofs.survivor.Survivor.settle_all.Given as goal

abbrev pub invariant-loop-player : goal.invariant-loop-player
invariant-loop-player l = record {
  step : Steps (contents l.fn.self.lockstep) (contents l.self.lockstep)
      (λ limits me m. settled_below limits me l.fn.self.others l.player m) (λ ends. l.ends ≡ ends);
  others : l.self.others ≡ l.fn.self.others;
  decides : l.ends ≢ Ends.Awaited;
  quiet : ((player : ℕ) → has_given_up (surviving l.fn.self) player ≡ false)
      → surviving l.self ≡ surviving l.fn.self;
}
