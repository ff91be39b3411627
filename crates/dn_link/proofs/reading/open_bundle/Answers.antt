use Rattle.std.proofs.Common.{◌≡◌, ◌≤◌, rules, sym, ◌∙◌, arith, length}
use Rattle.dn_seal.specs.{Sealing.sealing, Opening.IsTagged}
use Rattle.dn_link.specs.Reading.{bundles}
use Rattle.dn_link.proofs.Wholes.{only_bundle, formless, datagram_is, eight_long}
use Rattle.dn_link.proofs.reading.open_bundle.Goals as goal

opens : goal.returns-in-Some-clause-opens
opens c =
    let s = sealing c.args.sealer.now in
    let bytes = c.args.bytes.now in
    let tests : IsTagged bundles s bytes = search rules in
    let ten : length c.front.result ≡ 10 = search rules in
    let game : 8 ≤ length s.seal.game = eight_long _ _ s.seal.game c.front.result c.front.ensures ten in
    datagram_is s bytes game (λ i. omega (arith, c.type_inv.bytes i)) tests c.in-Some.bundle
    (sym c.bundle_in.ensures ∙ c.in-Some.is)

pub returns-in-Some-clause-opens : goal.returns-in-Some-clause-opens
returns-in-Some-clause-opens c = opens c

pub returns-in-Some-clause-only : goal.returns-in-Some-clause-only
returns-in-Some-clause-only c = only_bundle _ _ _ (opens c)

pub returns-in-None-clause-opens : goal.returns-in-None-clause-opens
returns-in-None-clause-opens c =
    let tests : IsTagged bundles (sealing c.args.sealer.now) c.args.bytes.now = search rules in
    formless (sealing c.args.sealer.now) c.args.bytes.now tests (sym c.bundle_in.ensures ∙ c.in-None.is)
