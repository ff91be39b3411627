use Rattle.std.proofs.Common.{◌-◌, ◌∙◌, ◌++◌, ℕ, sym, arith, Option, option_to_list}
use Rattle.dn_tic.specs.{declared.command.TicCmd.TicCmd, Command.IsCommand}
use Rattle.dn_lockstep.specs.{Contents.contents, Told.command_told}
use Rattle.dn_survivor.proofs.Lists.{all_more, picks_more}
use Rattle.dn_survivor.proofs.survivor.Survivor.last_commands.Goals as goal

pub loop-tic-preserved : goal.loop-tic-preserved
loop-tic-preserved c =
    let n = contents c.args.self.now.lockstep in
    let count = c.unwrap_or-count.result in
    let f : ℕ → Option TicCmd = command_told n c.args.player in
    let from = c.loop-tic.invariant.from in
    record {
      from = omega (arith, from);
      commands = c.push_command.ensures.more
          ∙ (λ i. c.loop-tic.invariant.commands i ++ option_to_list (c.command.ensures.value i))
          ∙ sym (picks_more f (count - 24) (c.loop-tic.tic - (count - 24)) _ c.loop-tic.tic (omega (arith, from))
          (omega (arith, from)));
      valid = all_more IsCommand _ _ _ c.loop-tic.invariant.valid c.push_command.ensures.valid c.push_command.ensures.more;
    }
