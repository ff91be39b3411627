use Rattle.std.proofs.Common.{List, Ok, subst, string_bytes}
use Rattle.dn_machine.specs.declared.events.Event.{Event}
use Rattle.dn_netgame.specs.SimShown.{ArePlayed}
use Rattle.dn_netgame.proofs.sim.text_of.Goals as goal

pub returns-in_ok-text-in-Ok-clause-shown : goal.returns-in_ok-text-in-Ok-clause-shown
returns-in_ok-text-in-Ok-clause-shown g c =
    let a = c.args in
    let Shown : List Event → Type 0 =
    λ events. ArePlayed g.T.Teller.account a.config a.players events (string_bytes c.in_ok-text-in-Ok.text) 0 in
    (Ok c.in-Ok.events.items, c.in-Ok.ensures.reads, subst Shown c.as_slice.ensures.value c.in_ok-text-in-Ok.ensures)
