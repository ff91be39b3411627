use Rattle.std.proofs.Common.{ℕ, refl, ap, sym, ◌∙◌}
use Rattle.dn_netgame.specs.Turning.{risen}
use Rattle.dn_netgame.proofs.Turning.{risen_add}
use Rattle.dn_netgame.proofs.turns.turn_with.Goals as goal

pub returns-clause-turned : goal.returns-clause-turned
returns-clause-turned g c limits me m r =
    let built = c.make-made.ensures.step _ me m r in
    let given = c.give_all-given.ensures.given limits me _ built.node in
    let heard = c.hear_all-polled.ensures.heard limits me given.after given.node in
    let run = c.run_all-ran.ensures.run limits me heard.after heard.node in
    record {
      after = run.after;
      node = run.node;
      leads = record {
        given = (given.after, c.give_all-given.new.line);
        heard = heard.after;
        unsent = c.give_all-given.result.failed;
        unpolled = c.hear_all-polled.result.failed;
        made = built.answer;
        gives = given.leads;
        hears = heard.leads;
        runs = run.leads;
        failed = refl;
      };
    }

pub returns-clause-counted : goal.returns-clause-counted
returns-clause-counted g c =
    c.hear_all-polled.ensures.counted ∙ ap (λ (n : ℕ). risen c.hear_all-polled.result.failed n)
    c.give_all-given.ensures.counted
    ∙ sym (risen_add c.give_all-given.result.failed c.hear_all-polled.result.failed
    (g.L.Line.failed c.args.line.now))

pub returns-clause-whose : goal.returns-clause-whose
returns-clause-whose g c =
    c.run_all-ran.ensures.whose ∙ c.hear_all-polled.ensures.whose ∙ c.give_all-given.ensures.whose
    ∙ c.make-made.ensures.same
