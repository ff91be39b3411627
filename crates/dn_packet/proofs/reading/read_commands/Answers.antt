use Rattle.std.proofs.{Common.{rules, ◌≡◌, ◌+◌, ◌%◌, ◌^◌, ◌++◌, ◌∙◌, ℕ, List, length, ap, sym, arith}, lemmas.List.length_push}
use Rattle.dn_tic.specs.declared.command.TicCmd.{TicCmd}
use Rattle.dn_packet.specs.Text.{words, weighted}
use Rattle.dn_packet.proofs.Pairs.{sum_goes_on, one_more_read}
use Rattle.dn_packet.proofs.reading.read_commands.Goals as goal

pub loop-command-preserved : goal.loop-command-preserved
loop-command-preserved c =
    let inv = c.loop-command.invariant in
    let k : ℕ = c.loop-command.factor in
    let front : c.loop-command.rest.now ≡ c.in-Some.command.now ++ c.in-Some.after.now = search rules in
    let eight : length c.in-Some.command.now ≡ 8 = search rules in
    let more = one_more_read c.args.bytes.now _ _ _ _ _ c.from_bytes.result
    (record { spelled = inv.spelled; valid = inv.valid; counted = inv.counted }) front eight
    c.from_bytes.ensures.spelled c.from_bytes.ensures.valid c.push.ensures.items in
    record {
      spelled = more.spelled;
      valid = more.valid;
      counted = more.counted;
      factor = omega (arith, inv.factor, ap (length {A = TicCmd}) c.push.ensures.items, length_push c.loop-command.found.items c.from_bytes.result);
      small = omega (arith, c.add_words-sum.ensures);
      summed = ap (λ (s : ℕ). (s + weighted (k + 2) (words c.in-Some.after.now)) % 2 ^ 32)
          c.add_words-sum.ensures
          ∙ sum_goes_on c.loop-command.sum k c.in-Some.command.now c.in-Some.after.now eight
          ∙ ap (λ (xs : List ℕ). (c.loop-command.sum + weighted k (words xs)) % 2 ^ 32) (sym front)
          ∙ inv.summed;
    }
