use Rattle.std.proofs.Common.{◌≡◌, ℕ, List, [], ◌∷◌, refl, ap}
use Rattle.std.specs.Prelude.{map}
use Rattle.dn_session.specs.{Cookies.game_of, Joining.number_of, Seats.number_in, Seats.shown_at, declared.seats.Seat.Seat}
use Rattle.dn_session.specs.declared.seats.Seat.TheVariants as seat
use Rattle.dn_session.proofs.laws.players_are_told_one_game.Goals as goal

-- who holds a seat is told by its number
told : (now : ℕ) (s : Seat) → number_of (shown_at now s) ≡ number_in s
told now seat.Absent = refl
told now seat.Free = refl
told now (seat.Taken held) = refl

all_told : (now : ℕ) (seats : List Seat) → map number_of (map (shown_at now) seats) ≡ map number_in seats
all_told now [] = refl
all_told now (s ∷ rest) = λ i. told now s i ∷ all_told now rest i

pub returns : goal.returns
returns c = λ from call now n l. ap (game_of l.seal.key l.number l.terms) (all_told now l.seats)
