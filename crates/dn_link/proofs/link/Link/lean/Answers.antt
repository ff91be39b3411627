use Rattle.std.proofs.Common.{rules, ◌≡◌, ◌+ℤ◌, w8, w32, to_z, of_z, ap, ◌∙◌}
use Rattle.std.specs.Prelude.{pos, false}
use Rattle.dn_link.specs.{Leaning.looks, Leaning.step_of, Leaning.worked_off, Pace.congested, Pace.with_leads, Leaning.stretches, Linked.Linked}
use Rattle.dn_link.proofs.link.Link.lean.Goals as goal

pub returns-clause-leans : goal.returns-clause-leans
returns-clause-leans c =
    let back = c.look_back.ensures.pace in
    let link = c.look_back.ensures.link in
    let old = c.time.ensures.pace ∙ (λ i. record (back i) { congestion = congested (link i) (back i) }) in
    let same : to_z w8 (of_z w8 c.tick.result) ≡ c.tick.result = search rules in
    let seen : to_z w32 (of_z w32 c.differences-differences.result) ≡ c.differences-differences.result = search rules in
    same ∙ c.tick.ensures.leans ∙ (λ i. step_of (looks ((seen ∙ c.differences-differences.ensures.value) i)
    (c.playing-playing.ensures.value i) (old i).leaning) +ℤ pos (stretches (c.is_lossy-lossy.ensures i) (old i).stretching).slow)

pub returns-clause-pace : goal.returns-clause-pace
returns-clause-pace c =
    let back = c.look_back.ensures.pace in
    let link = c.look_back.ensures.link in
    let old = c.time.ensures.pace ∙ (λ i. record (back i) { congestion = congested (link i) (back i) }) in
    let seen : to_z w32 (of_z w32 c.differences-differences.result) ≡ c.differences-differences.result = search rules in
    let node = c.lockstep.ensures ∙ ap (λ (l : Linked). l.node) (c.time.ensures.link ∙ link) in
    c.tick.ensures.next ∙ (λ i. record (with_leads (node i) (old i)) {
      given = λ player. false;
      leaning = worked_off (looks ((seen ∙ c.differences-differences.ensures.value) i)
          (c.playing-playing.ensures.value i) (old i).leaning);
      stretching = stretches (c.is_lossy-lossy.ensures i) (old i).stretching;
    })
