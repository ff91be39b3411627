use Rattle.std.proofs.Common.{◌≡◌, ℕ, List, Option, true, ap, sym, ◌∙◌, subst}
use Rattle.dn_machine.specs.Flight.{Flight, is_near}
use Rattle.dn_lockstep.specs.Contents.{Contents, contents}
use Rattle.dn_lockstep.specs.Hearing.{HearsNear}
use Rattle.dn_lockstep.specs.OneGame.{AreOneGame}
use Rattle.dn_lockstep.specs.Sent.{bytes_of}
use Rattle.dn_lockstep.specs.OneGame.{with_lockstep}
use Rattle.dn_lockstep.specs.Told.{made}
use Rattle.dn_engine_tests.specs.Calls.{counting, IsFor, AreFor}
use Rattle.dn_engine_tests.specs.declared.calls.Parcel.{Parcel}
use Rattle.dn_engine_tests.proofs.calls.hand.Goals as goal

pub returns-then-is_near-clause-one_game : goal.returns-then-is_near-clause-one_game
returns-then-is_near-clause-one_game c limits settings session game below here late =
    let are : IsFor session.given c.args.to c.in-Some.parcel =
    subst (λ (o : Option Parcel). AreFor session.given c.args.to o) c.in-Some.is late in
    let flight : Flight = are.flight in
    let old : Contents = contents c.args.lockstep.now in
    let after : Contents = contents c.receive.new.self in
    let there : session.locksteps flight.to ≡ old = ap session.locksteps are.receiver ∙ here in
    let near : is_near (made (session.locksteps flight.to)) flight ≡ true =
    ap (λ (n : Contents). is_near (made n) flight) there
    ∙ ap (λ (count : ℕ). is_near count flight) (sym c.made.ensures)
    ∙ sym (c.is_near.ensures.near flight are.aim) ∙ c.if-is_near.true in
    subst (λ (p : ℕ). AreOneGame counting limits settings (with_lockstep session p after)) are.receiver
    (c.one_game_goes_on.ensures.heard counting limits settings session are.which flight after c.receive.result game
    are.found near
    (subst (λ (n : Contents). HearsNear flight.from (bytes_of flight) n after c.receive.result) (sym there)
    (subst (λ (spelled : List ℕ). HearsNear flight.from spelled old after c.receive.result)
    (c.as_slice.ensures.value ∙ are.bytes)
    (subst (λ (from : ℕ). HearsNear from c.as_slice.result.now old after c.receive.result) (sym are.sender)
    c.receive.ensures.near))))
