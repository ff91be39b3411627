use Rattle.std.proofs.Common.{◌≡◌, ◌/◌, ◌∙◌, sym, ap, rules}
use Rattle.dn_demo.specs.{Layout.layout_of, Text.player_count, Places.{commands_in, seats_in}, Reading.Recording}
use Rattle.dn_demo.proofs.Fronts.{length-rows}
use Rattle.dn_demo.proofs.demo.Demo.tics.Goals as goal

pub returns : goal.returns
returns c =
    let demo = c.self.inside in
    let commands : c.commands.result ≡ commands_in (layout_of demo.layout) demo.bytes.items = search rules in
    let seats : c.present.result ≡ seats_in demo.bytes.items =
    c.present.ensures.value ∙ sym (ap (λ (d : Recording). d.present) c.self.view_is) in
    let players = c.players-players.ensures.value ∙ ap player_count seats in
    (λ i. commands i / players i) ∙ sym (length-rows (layout_of demo.layout) _ _ _ c.self.view_is)
