use Rattle.std.proofs.Common.{◌≡◌, ℕ, List, refl, ap, ◌∙◌, Option, Some, Ok, true}
use Rattle.std.specs.Prelude.{position}
use Rattle.dn_session.specs.{Hosting.Lobby, Hosting.on_call, Hosting.on_opened, Hosting.seating, Seats.is_of, declared.greeting.Address.Address, declared.greeting.Call.Call}
use Rattle.dn_session.proofs.Readings.{one_call}
use Rattle.dn_session.proofs.laws.players_are_told_as_often_as_they_call.Goals as goal

told : (from : Address) (call : Call) (now n : ℕ) (old : Lobby) → old.begun ≡ true
    → position (is_of call.number) old.seats ≡ Some n → on_opened from call now old ≡ (old, seating from call now n old)
told from call now n old game some = rw (game, some) refl

pub returns : goal.returns
returns c = λ from bytes call now n old new reply opens game some hears.
    let read : hears.0 ≡ Ok call = one_call old.seal bytes hears.0 (Ok call) hears.1 opens in
    hears.3 ∙ ap (λ (after : Lobby × Option (List ℕ)). after.1) (ap (on_call from bytes now old) read
    ∙ ap (λ (after : Lobby × List ℕ). (after.0, Some after.1)) (told from call now n old game some))
