use Rattle.std.proofs.Common.{ℕ, Option, ap, sym, ◌∙◌}
use Rattle.std.specs.Prelude.{slice_index_or}
use Rattle.dn_session.specs.{Hosting.Lobby, Hosting.lobby, Hosting.on_player, Hosting.seating, Hosting.with_seat, Seats.taken_again, declared.seats.Seat.Seat, declared.seats.Seat.TheVariants.Absent}
use Rattle.dn_session.proofs.host.Host.take.Goals as goal

pub returns-in-Some-clause-reply : goal.returns-in-Some-clause-reply
returns-in-Some-clause-reply c =
    let from = c.args.from.now in
    let call = c.args.call.now in
    let now = c.args.now in
    let old = lobby c.args.self.now in
    let n = c.in-Some.n in
    let seat = c.taken_again-seat.ensures
    ∙ ap (λ (time : ℕ). taken_again from now time (slice_index_or old.seats n Absent)) c.time_of.ensures in
    c.seating.ensures.value ∙ ap (λ (l : Lobby). seating from call now n l) c.put.ensures
    ∙ ap (λ (s : Seat). seating from call now n (with_seat now n s old)) seat
    ∙ sym (ap (λ (s : Option ℕ). (on_player from call now s old).1) (sym c.held_by.ensures.value ∙ c.in-Some.is))
