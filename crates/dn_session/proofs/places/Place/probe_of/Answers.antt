use Rattle.std.proofs.Common.{rules, ◌∙◌}
use Rattle.std.proofs.lemmas.Iterator.{Search.find_from_yields_List, YieldsList-from_slice}
use Rattle.dn_session.specs.Places.{is_echoed}
use Rattle.dn_session.proofs.places.Place.probe_of.Goals as goal

pub returns : goal.returns
returns c = c.copied.ensures ∙ find_from_yields_List (is_echoed c.args.echo) _ _ _ c.find.ensures.ran
    (YieldsList-from_slice c.args.self.now.probes cc) (λ x b q k. search rules)
