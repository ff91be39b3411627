-- Which session a game gives a place to.
use Rattle.std.proofs.Common.{◌≡◌, ◌≤◌, ◌<◌, ◌-◌, ◌+◌, ℕ, List, [], ◌∷◌, length, get_or, refl, ap, sym, subst, ◌∙◌, arith, Option, Some, None, Bool, true, false}
use Rattle.std.proofs.{Math.ListN.get_or-map, lemmas.Bool.and_parts, lemmas.Bool.eqb-true, lemmas.Bool.leb-true, lemmas.Option.same_Some}
use Rattle.std.proofs.lemmas.Slice.Eq.{bytes_eq-Decides}
use Rattle.std.specs.Prelude.{IfSome, nat_le, nat_lt, map, if◌then◌else◌, ◌==◌}
use Rattle.std.specs.Option.{option_map}
use Rattle.dn_session.specs.Hosting.{IsLobby, IsSeat, Lobby, game, lobby}
use Rattle.dn_session.specs.Joining.{Joining, game_by, game_in, holds, is_own, joining, number_of}
use Rattle.dn_session.specs.Roster.{Fixed, IsSide, Place, key_of, number_of_game, own_number, place_by, place_here, place_in, place_told, session_at, text_of_game}
use Rattle.dn_session.specs.{Cookies.game_text, Seats.number_in, Session.begun_here, Session.begun_in, Session.begun_there, Session.begun_with, Terms.IsTerms}
use Rattle.dn_session.specs.{Text.IsHolder, Text.IsSeating, declared.greeting.Seating.Seating, declared.greeting.Shown.Shown}
use Rattle.dn_session.specs.{declared.joiner.Stage.Stage, declared.seats.Seat.Seat, declared.side.Begun.Begun, declared.side.Side.Side}
use Rattle.dn_session.specs.declared.joiner.Stage.TheVariants as stage
use Rattle.dn_session.specs.declared.seats.Seat.TheVariants as seat
use Rattle.dn_session.specs.declared.side.Side.TheVariants as side
use Rattle.dn_session.proofs.Numbers.{same_game}

some_then : {A : Type 0} (test : Bool) (x y : A) → (if test then Some x else None) ≡ Some y → (test ≡ true) × (x ≡ y)
some_then true x y e = (refl, same_Some x y e)
some_then false x y e = absurd (cc)

-- the host's game has begun only where its lobby says so
here : (l : Lobby) (test : Bool) (begun : Begun)
    → option_map (begun_here l) (if test then Some (game l) else None) ≡ Some begun
    → (test ≡ true) × (begun_here l (game l) ≡ begun)
here l true begun e = (refl, same_Some (begun_here l (game l)) begun e)
here l false begun e = absurd (cc)

-- a joiner's game has begun only where it plays, by what it was told
there : (j : Joining) (at : Stage) (seating : Option Seating) (begun : Begun)
    → begun_with j (game_by at seating j) seating ≡ Some begun
    → (s : Seating) × (at ≡ stage.Playing) × (seating ≡ Some s) × (begun_there j (game_in j.seal s) s ≡ begun)
there j stage.Playing (Some s) begun e = (s, refl, refl, same_Some (begun_there j (game_in j.seal s) s) begun e)
there j _ _ begun e = absurd (cc)

placed : (at : Stage) (seating : Option Seating) (place : Place) → place_by at seating ≡ Some place
    → (s : Seating) × (seating ≡ Some s) × (place_told s ≡ place)
placed stage.Playing (Some s) place e = (s, refl, same_Some (place_told s) place e)
placed _ _ place e = absurd (cc)

-- the game of a session is that of its place
pub ones_game : (side : Side) (begun : Begun) → begun_in side ≡ Some begun → (place : Place)
    × (place_in side ≡ Some place) × (begun.game ≡ number_of_game (key_of side) place.game)
    × (begun.terms ≡ place.game.terms) × (begun.me ≡ place.me)
ones_game (side.Host host) begun e =
    let both = here (lobby host) (lobby host).begun begun e in (
      place_here (lobby host),
      ap (λ (t : Bool). if t then Some (place_here (lobby host)) else None) both.0,
      sym (ap (λ (b : Begun). b.game) both.1),
      sym (ap (λ (b : Begun). b.terms) both.1),
      sym (ap (λ (b : Begun). b.me) both.1),
    )
ones_game (side.Joiner joiner) begun e =
    let told = there (joining joiner) (joining joiner).stage (joining joiner).seating begun e in (
      place_told told.0,
      (λ i. place_by (told.1 i) (told.2 i)),
      sym (ap (λ (b : Begun). b.game) told.3),
      sym (ap (λ (b : Begun). b.terms) told.3),
      sym (ap (λ (b : Begun). b.me) told.3),
    )

-- who holds a seat that is held by a number has that number
held_by : (number : List ℕ) (shown : Option Shown) → holds number shown ≡ true → number_of shown ≡ number
held_by number (Some shown) e = (bytes_eq-Decides shown.holder.number number).0 e
held_by number None e = absurd (cc)

past_host : (n : ℕ) (host rest : List ℕ) → 1 ≤ n → (if n == 0 then host else rest) ≡ rest
past_host n host rest some = grind (arith, eqb-true)

-- a joiner's seat is that of its own session
own_seat : (j : Joining) (s : Seating) → IsSeating s → is_own s j ≡ true → session_at (place_told s) ≡ j.number
own_seat j s fits own =
    past_host s.seat s.host _ (leb-true 1 s.seat (and_parts (nat_le 1 s.seat) (nat_lt s.seat s.terms.players) fits.seat).0)
    ∙ get_or-map number_of s.seats (s.seat - 1) None ∙ held_by j.number _ own

-- a game gives a session its place
pub ones_own : (side : Side) (place : Place) → IsSide side → place_in side ≡ Some place
    → session_at place ≡ own_number side
ones_own (side.Host host) place fits e =
    sym (ap session_at (some_then (lobby host).begun (place_here (lobby host)) place e).1)
ones_own (side.Joiner joiner) place fits e =
    let told = placed (joining joiner).stage (joining joiner).seating place e in
    sym (ap session_at told.2) ∙ own_seat (joining joiner) told.0
    (subst (λ (o : Option Seating). IfSome o IsSeating) told.1 fits.seating)
    (subst (λ (o : Option Seating). IfSome o (λ s. is_own s (joining joiner) ≡ true)) told.1 fits.own)

-- what a game is fixed as, with numbers of sixteen bytes in three seats
pub record IsFixed (game : Fixed) : Type 0 where
  pub host : length game.host ≡ 16
  pub terms : IsTerms game.terms
  pub one : List ℕ
  pub two : List ℕ
  pub three : List ℕ
  pub is : game.roster ≡ one ∷ two ∷ three ∷ []
  pub first : length one ≡ 16
  pub second : length two ≡ 16
  pub third : length three ≡ 16

long_in : (players n : ℕ) (s : Seat) → IsSeat players n s → length (number_in s) ≡ 16
long_in players n s is = grind arith

long_told : (shown : Option Shown) → IfSome shown (λ s. IsHolder s.holder) → length (number_of shown) ≡ 16
long_told None is = refl
long_told (Some shown) is = is.number

-- a game with three seats
fixed_by : {A : Type 0} (game : Fixed) (number : A → List ℕ) (seats : List A) (none : A) → length game.host ≡ 16
    → IsTerms game.terms → game.roster ≡ map number seats → length seats ≡ 3
    → ((n : ℕ) → n < 3 → length (number (get_or seats n none)) ≡ 16) → IsFixed game
fixed_by game number (a ∷ b ∷ c ∷ []) none host terms roster three long = record {
  host = host;
  terms = terms;
  one = number a;
  two = number b;
  three = number c;
  is = roster;
  first = long 0 (omega arith);
  second = long 1 (omega arith);
  third = long 2 (omega arith);
}
fixed_by game number _ none host terms roster three long = absurd (omega (arith, three))

fixed_here : (l : Lobby) → IsLobby l → IsFixed (place_here l).game
fixed_here l fits =
    fixed_by (place_here l).game number_in l.seats seat.Absent fits.number fits.terms refl fits.three
    (λ n less. long_in l.terms.players (n + 1) (get_or l.seats n seat.Absent) (fits.seats n less))

fixed_there : (s : Seating) → IsSeating s → IsFixed (place_told s).game
fixed_there s fits = fixed_by (place_told s).game number_of s.seats None fits.host fits.terms refl fits.three
    (λ n less. let three = fits.three in long_told (get_or s.seats n None) (fits.seats n None (omega arith)))

pub fixed : (side : Side) (place : Place) → IsSide side → place_in side ≡ Some place → IsFixed place.game
fixed (side.Host host) place fits e =
    subst (λ (p : Place). IsFixed p.game) (some_then (lobby host).begun (place_here (lobby host)) place e).1
    (fixed_here (lobby host) fits)
fixed (side.Joiner joiner) place fits e =
    let told = placed (joining joiner).stage (joining joiner).seating place e in
    subst (λ (p : Place). IsFixed p.game) told.2
    (fixed_there told.0 (subst (λ (o : Option Seating). IfSome o IsSeating) told.1 fits.seating))

-- games that are fixed with one text are one
one_game : (a b : Fixed) → IsFixed a → IsFixed b → text_of_game a ≡ text_of_game b → a ≡ b
one_game a b fa fb e =
    let here : game_text a.host a.terms (fa.one ∷ fa.two ∷ fa.three ∷ []) ≡ game_text b.host b.terms (fb.one ∷ fb.two ∷ fb.three ∷ []) =
    sym (ap (game_text a.host a.terms) fa.is) ∙ e ∙ ap (game_text b.host b.terms) fb.is in
    let same = same_game a.host b.host a.terms b.terms fa.one fa.two fa.three fb.one fb.two fb.three fa.host fb.host
    fa.terms fb.terms fa.first fa.second fa.third fb.first fb.second fb.third here in
    let rosters : a.roster ≡ b.roster = fa.is ∙ (λ i. same.2 i ∷ same.3 i ∷ same.4 i ∷ []) ∙ sym fb.is in
    λ i. record { host = same.0 i; terms = same.1 i; roster = rosters i }

-- two sessions of one number of game play one game; and if they have one place of it, they have one number
pub one_link : (one two : Side) (a b : Place) → IsSide one → IsSide two → key_of one ≡ key_of two
    → place_in one ≡ Some a → place_in two ≡ Some b
    → (number_of_game (key_of one) a.game ≡ number_of_game (key_of two) b.game
    → text_of_game a.game ≡ text_of_game b.game)
    → number_of_game (key_of one) a.game ≡ number_of_game (key_of two) b.game
    → (a.game ≡ b.game) × (a.me ≡ b.me → own_number one ≡ own_number two)
one_link one two a b f1 f2 key pa pb apart same =
    let game : a.game ≡ b.game = one_game a.game b.game (fixed one a f1 pa) (fixed two b f2 pb) (apart same) in (
      game,
      λ me. sym (ones_own one a f1 pa)
          ∙ (λ i. session_at (record { game = game i; me = me i })) ∙ ones_own two b f2 pb,
    )
