use Rattle.std.proofs.{Common.{◌-◌, arith}, lemmas.Bool.{lt-ltb, le-ltb}}
use Rattle.dn_measure.proofs.{Counting.{after_gap, after_calm, longest_more}, runs.Runs.wait.Goals.{then-time-gt-GAP, else-time-gt-GAP}}
use Rattle.dn_measure.proofs.runs.Runs.wait.Goals as goal

pub returns-clause-gaps : goal.returns-clause-gaps
returns-clause-gaps c = grind (arith, then-time-gt-GAP, after_gap, lt-ltb, else-time-gt-GAP, after_calm, le-ltb)

pub returns-clause-longest : goal.returns-clause-longest
returns-clause-longest c = grind (arith, then-time-gt-GAP, else-time-gt-GAP, longest_more)
