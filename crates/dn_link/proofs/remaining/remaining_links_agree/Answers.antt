use Rattle.std.proofs.Common.{◌≡◌, ◌++◌, ℕ, List, take, drop, ap, sym, ◌∙◌}
use Rattle.std.specs.Prelude.{slice_get}
use Rattle.dn_setup.specs.Settings.{start_of}
use Rattle.dn_lockstep.proofs.DemosAgreeing.{headers_same, view_of_text}
use Rattle.dn_lockstep.specs.{Contents.{Contents, end_in}, Told.made}
use Rattle.dn_survivor.specs.{Agreed.{is_closed, rows_whole}, OfOthers.has, Surviving.Surviving}
use Rattle.dn_link.proofs.Leaving.{own_end}
use Rattle.dn_link.proofs.remaining.remaining_links_agree.Goals as goal

pub returns-clause-agreed : goal.returns-clause-agreed
returns-clause-agreed c = λ marking limits settings session links linked.
    c.survivors_agree.ensures.agreed marking limits settings session linked.game

pub returns-clause-fit : goal.returns-clause-fit
returns-clause-fit c = λ marking limits settings session links linked.
    c.survivors_agree.ensures.fit marking limits settings session linked.game

pub returns-clause-demos : goal.returns-clause-demos
returns-clause-demos c = λ marking limits settings session links linked.
    c.survivors_agree.ensures.demos marking limits settings session linked.game

pub returns-clause-headers : goal.returns-clause-headers
returns-clause-headers c = λ marking limits settings session links linked.
    let texts = (c.survivors_agree.ensures.demos marking limits settings session linked.game).texts in
    record {
      headers = λ q r l m one other.
          ap (λ (b : List ℕ). take 8 b ++ take 4 (drop 9 b)) (texts q l one)
          ∙ headers_same (start_of settings) q r limits.players (rows_whole limits.players session q)
          (rows_whole limits.players session r)
          (is_closed limits.players session q (session.survivors q).lockstep)
          (is_closed limits.players session r (session.survivors r).lockstep)
          ∙ sym (ap (λ (b : List ℕ). take 8 b ++ take 4 (drop 9 b)) (texts r m other));
      views = λ p l started.
          ap (λ (b : List ℕ). slice_get b 8) (texts p l started)
          ∙ view_of_text (start_of settings) p limits.players (rows_whole limits.players session p)
          (is_closed limits.players session p (session.survivors p).lockstep);
    }

pub returns-clause-ends : goal.returns-clause-ends
returns-clause-ends c = λ marking limits settings session links q p end linked l k free is.
    let agree = c.survivors_agree.ensures.agreed marking limits settings session linked.game in
    let here : (links q).node ≡ (session.survivors q).lockstep = ap (λ (s : Surviving). s.lockstep) (linked.survivors q l) in
    let there : (links p).node ≡ (session.survivors p).lockstep = ap (λ (s : Surviving). s.lockstep) (linked.survivors p k) in
    let own = agree.ends q p end l k (ap (λ (s : Surviving). has s.others.gone p) (sym (linked.survivors q l)) ∙ free)
    (ap (λ (n : Contents). end_in n p) (sym here) ∙ is) in (
      ap (λ (n : Contents). end_in n p) there ∙ own,
      own_end (session.survivors p).lockstep p end (agree.numbers p k) own ∙ ap made (sym there),
    )
