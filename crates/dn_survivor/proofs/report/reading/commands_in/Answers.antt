use Rattle.std.proofs.Common.{rules, ◌≡◌, ◌++◌, ◌∷◌, ◌∙◌, [], ℕ, List, length, ap, sym, arith}
use Rattle.std.proofs.lemmas.List.{length_push, length-append, Elements.All-push}
use Rattle.dn_tic.specs.{Command.{command_bytes, IsCommand}, declared.command.TicCmd.TicCmd}
use Rattle.dn_survivor.proofs.ReportBytes.{one_read}
use Rattle.dn_survivor.proofs.report.reading.commands_in.Goals as goal

pub loop-command-preserved : goal.loop-command-preserved
loop-command-preserved c =
    let inv = c.loop-command.invariant in
    let items : List TicCmd = c.loop-command.found.items in
    let next : TicCmd = c.from_bytes.result in
    let front : c.loop-command.rest.now ≡ c.in-Some.command.now ++ c.in-Some.after.now = search rules in
    let eight : length c.in-Some.command.now ≡ 8 = search rules in
    let pushed : c.push.new.self.items ≡ items ++ next ∷ [] = c.push.ensures.items in
    let one = ap (length {A = TicCmd}) pushed ∙ length_push items next in
    let both = ap (length {A = ℕ}) front ∙ length-append c.in-Some.command.now c.in-Some.after.now in
    record {
      spelled = one_read command_bytes _ _ c.in-Some.after.now items _ next inv.spelled
          (front ∙ ap (λ (bs : List ℕ). bs ++ c.in-Some.after.now) (sym c.from_bytes.ensures.spelled)) pushed;
      valid = rw pushed (All-push IsCommand items next inv.valid c.from_bytes.ensures.valid);
      counted = omega (arith, inv.counted, one, both, eight);
    }
