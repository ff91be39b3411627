use Rattle.std.proofs.Common.{rules, ◌≡◌, w8, to_z, of_z, ap, ◌∙◌}
use Rattle.dn_link.specs.{Linked.PeerState, declared.line.Line.Line, Counting.counts_of, Line.{missing, own_echo}}
use Rattle.dn_link.proofs.link.Link.empty.Goals as goal

pub returns-clause-is : goal.returns-clause-is
returns-clause-is c =
    let line = c.line-line.ensures in
    let its = c.line-line.result.now in
    let is = c.exclusion.ensures.is in
    let led : to_z w8 (of_z w8 its.own_lead) ≡ its.own_lead = search rules in
    let lead = led ∙ ap (λ (l : Line). l.own_lead) line in
    let number = ap (λ (t : PeerState). t.number) c.peer.ensures in
    let holes = c.missing.ensures ∙ ap missing line in
    let counts = c.counts_of.ensures ∙ (λ i. counts_of (c.lockstep.ensures i)
    ((c.own_echo.ensures ∙ ap own_echo line) i)) in
    λ i. record {
      from = (is i).from;
      to = (is i).to;
      number = number i;
      lead = lead i;
      holes = holes i;
      cause = 5;
      counts = counts i;
      report = (is i).report;
      parts = (is i).parts;
    }
