use Rattle.std.proofs.Common.{◌∙◌, ap}
use Rattle.dn_session.specs.{Playing.after_catching_up, Playing.playing, declared.steady.Steady.Steady}
use Rattle.dn_session.proofs.part.Part.run.Goals as goal

pub returns-clause-runs : goal.returns-clause-runs
returns-clause-runs c = (
  c.run_into-ran.new.self,
  c.catch_up.ensures.0,
  (
    c.run_into-ran.ensures.seal,
    c.run_into-ran.ensures.but,
    c.run_into-ran.ensures.others,
    c.run_into-ran.ensures.peers,
    c.run_into-ran.ensures.pace,
  ),
  c.catch_up.ensures.1,
  c.catch_up.ensures.2 ∙ ap (λ (steady : Steady). after_catching_up c.catch_up.ensures.0
      (record (playing c.args.self.now) { link = (playing c.catch_up.new.self).link; steady = steady }))
      c.after_answer-self.ensures,
)
