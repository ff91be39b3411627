use Rattle.std.proofs.{Common.{◌≡◌, ◌+◌, ◌%◌, ◌^◌, ℕ, List, length, take, ap, sym, ◌∙◌, subst, arith}, lemmas.List.take_rest}
use Rattle.dn_lockstep.specs.Contents.{contents}
use Rattle.dn_open.specs.Arrivals.{HearsOpened}
use Rattle.dn_link.specs.{declared.bundle.Carried.Carried, Packets.{opened_from, short_packet}}
use Rattle.dn_link.proofs.Hearings.{InRun, run_goes_on}
use Rattle.dn_link.proofs.hearing.hear_run.Goals as goal

pub commands-preserved : goal.commands-preserved
commands-preserved c =
    let command : c.copy_from_slice.new.self ≡ take 8 c.commands.rest.now = c.copy_from_slice.ensures.after in
    let packet : c.short_packet.result ≡ short_packet c.args.from c.commands.start (take 8 c.commands.rest.now) =
    c.short_packet.ensures ∙ ap (short_packet c.args.from c.commands.start) command in
    let heard = c.hear_packet.ensures in
    subst (λ (xs : List ℕ). InRun c.args.from c.args.run.now (contents c.args.lockstep.now) (c.commands.done + 1)
    ((c.commands.start + 1) % 2 ^ 32) xs (contents c.hear_packet.new.lockstep)) (sym (take_rest c.commands.rest.now 8))
    (run_goes_on c.args.from c.args.run.now (contents c.args.lockstep.now) c.commands.done c.commands.start
    c.commands.rest.now (contents c.commands.lockstep) c.commands.invariant
    (omega (arith, c.commands-test.true, ap (length {A = ℕ}) c.as_slice-rest.ensures.value))
    (contents c.hear_packet.new.lockstep) heard.0
    (subst (λ (p : Carried). HearsOpened (opened_from c.args.from p) (contents c.commands.lockstep)
    (contents c.hear_packet.new.lockstep) heard.0) packet heard.1) heard.2)
