use Rattle.std.proofs.Common.{rules, ◌≡◌, ◌∙◌, List, [], ◌∷◌, ◌++◌, length, take, ap, arith, append-nil, slice_set, Some}
use Rattle.std.proofs.lemmas.List.{drop_all}
use Rattle.std.specs.List.{copy_within}
use Rattle.dn_session.specs.declared.places.Probe.{Probe}
use Rattle.dn_session.proofs.places.Place.note_probe.Goals as goal

-- all but the last move by one, and a new one is before them
shifted : (x : Probe) (ps : List Probe) → length ps ≡ 16 → slice_set (copy_within ps 0 15 1) 0 x ≡ take 16 (x ∷ ps)
shifted x [] none = absurd (cc)
shifted x (p ∷ ps) all =
    ap (λ (l : List Probe). x ∷ l)
    (ap (λ (l : List Probe). take 15 (p ∷ ps) ++ l) (drop_all 15 ps (omega (arith, all))) ∙ append-nil (take 15 (p ∷ ps)))

pub returns : goal.returns
returns c =
    let probe : Probe = record { echo = c.args.echo; to = Some c.args.to.now } in
    let moved = ap (λ (l : List Probe). slice_set l 0 probe) c.copy_within.ensures.after
    ∙ shifted probe c.args.self.now.probes (search rules) in
    search (rules, moved)
