use Rattle.std.proofs.Common.{◌≡◌, ℕ, List, Bool, refl, ap, ◌∙◌, Option, Some, None, Ok, true, false}
use Rattle.std.specs.Prelude.{position}
use Rattle.dn_session.specs.{Cookies.is_good, Hosting.Lobby, Hosting.on_call, Hosting.on_opened, Hosting.refused, Seats.is_of, declared.greeting.Address.Address}
use Rattle.dn_session.specs.{declared.greeting.Call.Call, declared.greeting.Refusal.TheVariants.Cookie}
use Rattle.dn_session.proofs.Readings.{one_call}
use Rattle.dn_session.proofs.laws.calls_without_a_cookie_change_nothing.Goals as goal

-- what is made of such a call, in the lobby and in the game
told_again : (from : Address) (call : Call) (now : ℕ) (old : Lobby) (begun : Bool) → old.begun ≡ begun
    → (begun ≡ true → position (is_of call.number) old.seats ≡ None)
    → is_good old.random from now call.cookie ≡ false
    → on_opened from call now old ≡ (old, refused from call now Cookie old)
told_again from call now old false lobby other without = rw (lobby, without) refl
told_again from call now old true game other without = let none = other refl in rw (game, none, without) refl

pub returns : goal.returns
returns c = λ from bytes call now old new reply opens other without hears.
    let read : hears.0 ≡ Ok call = one_call old.seal bytes hears.0 (Ok call) hears.1 opens in
    let made = ap (on_call from bytes now old) read
    ∙ ap (λ (after : Lobby × List ℕ). (after.0, Some after.1))
    (told_again from call now old old.begun refl other without) in (
      hears.2 ∙ ap (λ (after : Lobby × Option (List ℕ)). after.0) made,
      hears.3 ∙ ap (λ (after : Lobby × Option (List ℕ)). after.1) made,
    )
