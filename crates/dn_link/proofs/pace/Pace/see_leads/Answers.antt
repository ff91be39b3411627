use Rattle.std.proofs.{Common.{rules, ◌≡◌, ◌≤◌, ℕ, zero, suc, ◌∷◌, [], length, refl, ap, sym, ◌∙◌, arith, get_or}, lemmas.List.get_or_past}
use Rattle.std.specs.Prelude.{false, nat_lt, pos}
use Rattle.dn_machine.proofs.Put.{same_functions}
use Rattle.dn_lockstep.specs.Contents.{contents}
use Rattle.dn_link.specs.{declared.line.Line.Line, Line.{lead_over, new_line}, Pacing.state_of}
use Rattle.dn_link.specs.Line.{older}
use Rattle.dn_link.proofs.pace.Pace.see_leads.Goals as goal

not_below : (one other : ℕ) → other ≤ one → nat_lt one other ≡ false
not_below one other past = grind (arith, past)

pub returns : goal.returns
returns c =
    let old = state_of c.args.self.now in
    let n = contents c.args.lockstep.now in
    let four : length c.args.self.now.lines ≡ 4 = search rules in
    let new : ℕ → Line = (λ player. get_or (c.at_tick.result ∷ c.at_tick-2.result ∷ c.at_tick-3.result ∷ c.at_tick-4.result ∷ []) player new_line) in
    let seen : ℕ → Line = (λ player. record (old.lines player) { own_lead = lead_over n player; age = older (old.lines player) }) in
    let past : (player : ℕ) → 4 ≤ player → new_line ≡ seen player =
    (λ player beyond.
    let none : nat_lt player n.players ≡ false = not_below player n.players (omega (arith, beyond, c.args.lockstep.now.few)) in
    let unled : lead_over n player ≡ pos 0 = rw none refl in
    (λ i. record (sym (get_or_past c.args.self.now.lines player new_line (omega (arith, four, beyond))) i) {
      own_lead = sym unled i;
      age = older (sym (get_or_past c.args.self.now.lines player new_line (omega (arith, four, beyond))) i);
    })) in
    let go : (player : ℕ) → new player ≡ seen player = (λ player. elim player as (λ k. new k ≡ seen k) [
      | zero ↦ c.at_tick.ensures ∙ (λ i. record (c.line.ensures i) { own_lead = lead_over n 0; age = older (c.line.ensures i) })
      | suc zero ↦ c.at_tick-2.ensures ∙ (λ i. record (c.line-2.ensures i) { own_lead = lead_over n 1; age = older (c.line-2.ensures i) })
      | suc (suc zero) ↦ c.at_tick-3.ensures ∙ (λ i. record (c.line-3.ensures i) { own_lead = lead_over n 2; age = older (c.line-3.ensures i) })
      | suc (suc (suc zero)) ↦ c.at_tick-4.ensures ∙ (λ i. record (c.line-4.ensures i) { own_lead = lead_over n 3; age = older (c.line-4.ensures i) })
      | suc (suc (suc (suc player))) ↦ past (suc (suc (suc (suc player)))) (omega arith)
    ]) in
    ap (λ (f : ℕ → Line). record old { lines = f }) (same_functions go)
