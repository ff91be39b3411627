-- What each call leaves as it was of a session.
use Rattle.std.proofs.Common.{◌≡◌, ◌⊎◌, ℕ, ℤ, List, refl, ap, sym, subst, ◌∙◌, Option, Some, None, Result, Ok, Err, Bool, true, false, inl, inr, arith}
use Rattle.std.specs.Prelude.{IfSome, if◌then◌else◌, position}
use Rattle.std.specs.Option.{option_map, option_or}
use Rattle.dn_tic.specs.{declared.command.Move.Move, declared.input.Input.Input}
use Rattle.dn_machine.specs.declared.answers.Ran.{Ran}
use Rattle.dn_lockstep.specs.declared.config.NodeFault.{NodeFault}
use Rattle.dn_link.specs.{Linked.Linked, declared.received.Received.Received}
use Rattle.dn_session.specs.Hosting.{HearsCall, Lobby, game_told, hint_for, hint_to, holder_of, kicked_from, lobby, on_call}
use Rattle.dn_session.specs.Joining.{Joining, is_heard, joining, on_reply, on_time}
use Rattle.dn_session.specs.Roster.{Place, key_of, place_here, place_in}
use Rattle.dn_session.specs.{Passing.passed_on, Reading.is_greeting, Playing.Playing, Playing.playing, Playing.EndsNow, Playing.GivesUpNow, Playing.GivesWhen, Playing.HearsBytes, Playing.PassesTime, Playing.PlaysOn, Playing.Polls, Playing.QuitsBy, Playing.RunsNext, Playing.TicksWhen}
use Rattle.dn_session.specs.{Seats.is_of}
use Rattle.dn_session.specs.Sent.{Excludes, ProbesFirst, SendsFirst, SendsOn}
use Rattle.dn_session.specs.Session.{BeginsAs, Calls, HearsGreeting, HearsReply, HearsWhen, IfPlaying, KicksFrom, Meeting, PassesTo, SendsCall, SendsPart, SendsReply, begun_here, begun_in, kicked_as, passing_in, reply_to}
use Rattle.dn_session.specs.Sessions.{Greets, Has, Keeps, KeepsOut}
use Rattle.dn_session.specs.declared.{ending.Ending.Ending, ending.Progress.Progress, greeting.Address.Address, greeting.Call.Call, greeting.GreetingFault.GreetingFault, greeting.Hint.Hint, greeting.Hinted.Hinted, greeting.Refused.Refused, greeting.Seating.Seating, host.Host.Host, joiner.Joiner.Joiner, part.Part.Part, places.Places.Places, side.Begun.Begun, side.Side.Side}
use Rattle.dn_session.specs.declared.joiner.Stage.TheVariants as stage
use Rattle.dn_session.specs.declared.side.Side.TheVariants as side
use Rattle.dn_session.proofs.{Lobbies.each_call, Rosters.ones_game}

-- Of a lobby.

abbrev pub GreetsIf : Option (List ℕ) → Type 0
GreetsIf bytes = IfSome bytes Greets

-- a host's key stays, and what it replies is a greeting
abbrev Fine : Lobby → Lobby × Option (List ℕ) → Type 0
Fine old after = (after.0.seal ≡ old.seal) × GreetsIf after.1

hinted : (bytes : List ℕ) (hint : Option Hint) → GreetsIf (option_map (hint_to bytes) hint)
hinted bytes hint = grind arith

answered : (from : Address) (bytes : List ℕ) (now : ℕ) (l : Lobby) (read : Result Call GreetingFault)
    → Fine l (on_call from bytes now l read)
answered from bytes now l (Ok call) =
    each_call from call now l (λ after. (after.0.seal ≡ l.seal) × (is_greeting after.1 ≡ true)) (λ why. (refl, refl))
    (λ n game some. (refl, refl)) (λ n lobby good none some. (refl, refl)) (λ n lobby good some. (refl, refl))
answered from bytes now l (Err fault) = (refl, hinted bytes (hint_for fault))

-- and so does a joiner's
abbrev Sealed : Joining → Joining → Type 0
Sealed old new = new.seal ≡ old.seal

replied : (s : Result Seating GreetingFault) (r : Result Refused GreetingFault) (h : Result Hinted GreetingFault)
    (now : ℕ) (j : Joining) → Sealed j (on_reply s r h now j)
replied s r h now j = grind arith

timed : (now : ℕ) (j : Joining) → Sealed j (on_time now j).0 × GreetsIf (on_time now j).1
timed now j = grind arith

-- it has a place in a game only where that has begun
abbrev pub HasBegun : Side → Type 0
HasBegun (side.Host host) = (lobby host).begun ≡ true
HasBegun (side.Joiner joiner) = (joining joiner).stage ≡ stage.Playing

has_begun : (s : Side) (p : Place) → place_in s ≡ Some p → HasBegun s
has_begun s p e = grind arith

-- of a lobby whose game stays as it was once it has begun, game and place stay
pub record Settled (old new : Side) : Type 0 where
  pub key : key_of new ≡ key_of old
  pub same : HasBegun old → (begun_in new ≡ begun_in old) × (place_in new ≡ place_in old)

unmoved : (s : Side) → Settled s s
unmoved s = record { key = refl; same = λ begun. (refl, refl) }

-- a host's lobby that stays the same, or a joiner's
host_settled : (old new : Host) → key_of (side.Host new) ≡ key_of (side.Host old)
    → (HasBegun (side.Host old) → lobby new ≡ lobby old) → Settled (side.Host old) (side.Host new)
host_settled old new key same = record {
  key = key;
  same = λ begun. (
    ap (λ l. option_map (begun_here l) (game_told l)) (same begun),
    ap (λ l. if l.begun then Some (place_here l) else None) (same begun),
  );
}

joiner_settled : (old new : Joiner) → key_of (side.Joiner new) ≡ key_of (side.Joiner old)
    → (HasBegun (side.Joiner old) → joining new ≡ joining old) → Settled (side.Joiner old) (side.Joiner new)
joiner_settled old new key same = grind arith

-- the law that a game that has begun stays, of a host, of one who joined, and as time goes
abbrev pub BegunOnce : Type 0
BegunOnce =
    ((from : Address) (bytes : List ℕ) (now : ℕ) (old new : Lobby) (reply : Option (List ℕ)) → old.begun ≡ true
    → HearsCall from bytes now old new reply → new ≡ old)
    × ((from : Address) (bytes : List ℕ) (now : ℕ) (old new : Joining) → old.stage ≡ stage.Playing
    → HearsReply (is_heard from old) bytes now old new → new ≡ old)
    × ((now : ℕ) (j : Joining) → j.stage ≡ stage.Playing → on_time now j ≡ (j, None))

hears_side : (c : BegunOnce) (from : Address) (bytes : List ℕ) (now : ℕ) (old new : Side) (reply : Option (List ℕ))
    → HearsGreeting from bytes now old new reply → Settled old new × GreetsIf reply
hears_side c from bytes now (side.Host old) (side.Host new) reply hears =
    let after = answered from bytes now (lobby old) hears.0 in (
      host_settled old new (ap (λ l. l.seal.key) hears.2 ∙ ap (λ s. s.key) after.0)
          (λ begun. c.0 from bytes now (lobby old) (lobby new) reply begun hears),
      subst GreetsIf (sym hears.3) after.1,
    )
hears_side c from bytes now (side.Joiner old) (side.Joiner new) reply (hears, none) = (
  joiner_settled old new (ap (λ s. s.key) (heard (is_heard from (joining old)) hears))
      (λ begun. c.1 from bytes now (joining old) (joining new) begun hears),
  subst GreetsIf (sym none) tt,
)
  where
    heard : (test : Bool) → HearsReply test bytes now (joining old) (joining new) → Sealed (joining old) (joining new)
    heard true (s, r, h, a, b, d, is) = ap (λ j. j.seal) is ∙ replied s r h now (joining old)
    heard false is = ap (λ j. j.seal) is
hears_side c from bytes now _ _ reply hears = absurd hears

-- Of what is to be sent.

abbrev pub Kept : Option (Address × List ℕ) → Option (Address × List ℕ) → Type 0
Kept old new = (new ≡ old) ⊎ Has Greets new

has_to : (to : Address) (bytes : Option (List ℕ)) → GreetsIf bytes → Has Greets (reply_to to bytes)
has_to to bytes greets = grind arith

or_had : (P : List ℕ → Type 0) (sent old : Option (Address × List ℕ)) → Has P sent
    → (option_or sent old ≡ old) ⊎ Has P (option_or sent old)
or_had P sent old has = grind arith

polls_side : (c : BegunOnce) (now : ℕ) (old new : Side) (call : Option (Address × List ℕ)) → Calls now old new call
    → Settled old new × Has Greets call
polls_side c now (side.Host old) new call (is, none) =
    (subst (Settled (side.Host old)) (sym is) (unmoved (side.Host old)), subst (Has Greets) (sym none) tt)
polls_side c now (side.Joiner old) (side.Joiner new) call (is, called) =
    let time = timed now (joining old) in (
      joiner_settled old new (ap (λ j. j.seal.key) is ∙ ap (λ s. s.key) time.0)
          (λ begun. is ∙ ap (λ r. r.0) (c.2 now (joining old) begun)),
      subst (Has Greets) (sym called) (has_to (joining old).config.host (on_time now (joining old)).1 time.1),
    )
polls_side c now (side.Joiner old) (side.Host new) call calls = absurd calls

kicks_side : (seat : ℕ) (old new : Side) → KicksFrom seat old new → Settled old new
kicks_side seat (side.Host old) (side.Host new) is = go (holder_of (lobby old) seat) is
  where
    key : (number : List ℕ) (begun : Bool) (place : Option ℕ)
        → (if begun then lobby old else kicked_from place number (lobby old)).seal.key ≡ (lobby old).seal.key
    key number true place = refl
    key number false None = refl
    key number false (Some n) = refl

    go : (holder : Option (List ℕ)) → lobby new ≡ kicked_as holder (lobby old)
        → Settled (side.Host old) (side.Host new)
    go None is = host_settled old new (ap (λ l. l.seal.key) is) (λ begun. is)
    go (Some number) is = host_settled old new
        (ap (λ l. l.seal.key) is ∙ key number (lobby old).begun (position (is_of number) (lobby old).seats))
        (λ begun. is ∙ rw begun refl)
kicks_side seat (side.Joiner old) new is =
    subst (Settled (side.Joiner old)) (sym is) (unmoved (side.Joiner old))
kicks_side seat (side.Host old) (side.Joiner new) is = absurd is

-- Of a part.

module _ (came : Option (List ℕ)) where
  abbrev pub Passes : Option (Address × List ℕ) → Option (Address × List ℕ) → Type 0
  Passes old new = (new ≡ old) ⊎ Has (λ bytes. came ≡ Some bytes) new

  -- no part comes or goes, and what it passes on was there before, or came
  abbrev pub Moves : Option Part → Option Part → Type 0
  Moves old new = (old ≡ None → new ≡ None) × (new ≡ None → old ≡ None) × Passes (passing_in old) (passing_in new)

  unchanged : (part : Option Part) → Moves part part
  unchanged part = (λ none. none, λ none. none, inl refl)

  pub moves : (Does : Option Part → Option Part → Type 0) → ((after : Option Part) → Does None after → after ≡ None)
      → ((one : Part) → Does (Some one) None → ⊥)
      → ((one next : Part) → Does (Some one) (Some next) → Passes (playing one).passing (playing next).passing)
      → (old new : Option Part) → Does old new → Moves old new
  moves Does none lost step old new does = grind arith

  pub if_playing : (Does : Playing → Playing → Type 0) → ((p q : Playing) → Does p q → Passes p.passing q.passing)
      → (old new : Option Part) → IfPlaying Does old new → Moves old new
  if_playing Does step old new does = grind arith

  -- what a call keeps, whatever it puts in the place of what
  module _ (old new : Meeting) {lobby : Side} {part : Option Part} {reply call : Option (Address × List ℕ)}
      (is : new ≡ record old { lobby = lobby; part = part; reply = reply; call = call })
      (settled : Settled old.lobby lobby) (replies : Kept old.reply reply) (calls : Kept old.call call) where
    pub kept : Passes (passing_in old.part) (passing_in part) → Keeps came old new
    kept passing = subst (Keeps came old) (sym is) (record {
      secret = refl;
      key = settled.key;
      begun = λ b has. let place = ones_game old.lobby b has in
          (settled.same (has_begun old.lobby place.0 place.1)).0 ∙ has;
      place = λ p has. (settled.same (has_begun old.lobby p has)).1 ∙ has;
      reply = replies;
      call = calls;
      passing = passing;
    })

    pub kept_out : Moves old.part part → KeepsOut came old new
    kept_out moves = record {
      keeps = kept moves.2;
      out = λ none. ap (λ m. m.part) is ∙ moves.0 none;
      stays = λ none. moves.1 (sym (ap (λ m. m.part) is) ∙ none);
    }

  -- where the lobby is the same
  kept_lobby : (old new : Meeting) → new ≡ record old { part = new.part } → Moves old.part new.part
      → KeepsOut came old new
  kept_lobby old new is = kept_out old new is (unmoved old.lobby) (inl refl) (inl refl)

-- What is to be passed on, after each call on a part.

-- of bytes that came
came_on : (answer : Received) (from : Address) (bytes : List ℕ) (link : Linked) (places : Places)
    → Has (λ b. Some bytes ≡ Some b) (passed_on answer from bytes link places)
came_on answer from bytes link places = grind arith

hears_on : (from : Address) (bytes : List ℕ) (now : ℕ) (p q : Playing) → HearsBytes from bytes now p q
    → Passes (Some bytes) p.passing q.passing
hears_on from bytes now p q hears = grind (arith, came_on)

-- of the others
abbrev Still : Playing → Playing → Type 0
Still p q = q.passing ≡ p.passing

pub gives_on : (test : Bool) (now : ℕ) (input : Input) (p q : Playing) → GivesWhen test now input p q → Still p q
gives_on test now input p q gives = grind arith

pub runs_on : (marks : List ℤ) (p q : Playing) (ran : Ran) (row : Option (List (Option Move))) → RunsNext marks p q ran row
    → Still p q
runs_on marks p q ran row runs = grind arith

ends_on : (end : Option Ending) (now : ℕ) (p q : Playing) → EndsNow end now p q → Still p q
ends_on end now p q ends = grind arith

pub gone_on : (player : Option ℕ) (p q : Playing) → GivesUpNow player p q → Still p q
gone_on player p q gone = grind arith

plays_on : (end : Option Ending) (now : ℕ) (p q : Playing) → PlaysOn end now p q → Still p q
plays_on end now p q plays = grind (arith, ends_on, gone_on)

ticks_on : (test : Bool) (now : ℕ) (p q : Playing) → TicksWhen test now p q → Still p q
ticks_on test now p q ticks = grind arith

time_on : (at : Progress) (now : ℕ) (p q : Playing) → PassesTime at now p q → Still p q
time_on at now p q time = grind (arith, plays_on, ticks_on)

polls_on : (now : ℕ) (p q : Playing) → Polls now p q → Still p q
polls_on now p q polls = grind (arith, time_on)

-- and of what is sent: it was to be passed on, and is not any more; or there was nothing
excludes_on : (first : Option ℕ) (p q : Playing) (sent : Option (Address × List ℕ)) → Excludes first p q sent → Still p q
excludes_on first p q sent excludes = grind arith

probes_on : (first : Option ℕ) (p q : Playing) (sent : Option (Address × List ℕ)) → ProbesFirst first p q sent → Still p q
probes_on first p q sent probes = grind (arith, excludes_on)

first_on : (first : Option ℕ) (p q : Playing) (sent : Option (Address × List ℕ)) → SendsFirst first p q sent → Still p q
first_on first p q sent sends = grind (arith, probes_on)

sends_on : (passing : Option (Address × List ℕ)) (p q : Playing) (sent : Option (Address × List ℕ))
    → SendsOn passing p q sent → Passes None p.passing q.passing
sends_on passing p q sent sends = grind (arith, first_on)

-- Of a session.

pub hears_kept : BegunOnce → (from : Address) (bytes : List ℕ) (now : ℕ) (old new : Meeting) (test : Bool)
    → HearsWhen test from bytes now old new → KeepsOut (Some bytes) old new
hears_kept c from bytes now old new true (lobby, reply, greeting, is) =
    let both = hears_side c from bytes now old.lobby lobby reply greeting in
    kept_out (Some bytes) old new is both.0
    (or_had Greets (reply_to from reply) old.reply (has_to from reply both.1)) (inl refl) (unchanged (Some bytes) old.part)
hears_kept c from bytes now old new false (plays, is) =
    kept_lobby (Some bytes) old new is
    (if_playing (Some bytes) (HearsBytes from bytes now) (hears_on from bytes now) old.part new.part plays)

pub begins_kept : (now : ℕ) (old new : Meeting) (which : Option Begun) (result : Result Bool NodeFault)
    → BeginsAs which now old new result → Keeps None old new
begins_kept now old new None result (idle, is) =
    kept None old new is (unmoved old.lobby) (inl refl) (inl refl) (inl refl)
begins_kept now old new (Some b) (Err fault) (why, is) =
    kept None old new is (unmoved old.lobby) (inl refl) (inl refl) (inl refl)
begins_kept now old new (Some b) (Ok began) (part, made, yes_it, is) =
    kept None old new is (unmoved old.lobby) (inl refl) (inl refl)
    (inr (subst (Has (λ b. None ≡ Some b)) (sym made.passing) tt))

pub passes_kept : BegunOnce → (now : ℕ) (old new : Meeting) → PassesTo now old new → KeepsOut None old new
passes_kept c now old new (call, calls, polls, is) =
    let both = polls_side c now old.lobby new.lobby call calls in
    kept_out None old new is both.0 (inl refl) (or_had Greets call old.call both.1)
    (if_playing None (Polls now) (λ p q does. inl (polls_on now p q does)) old.part new.part polls)

-- what of three a call does to a part, or nothing where there is none
pub on_part : (Does : Option Part → Option Part → Type 0) → ((after : Option Part) → Does None after → after ≡ None)
    → ((one : Part) → Does (Some one) None → ⊥)
    → ((one next : Part) → Does (Some one) (Some next) → (playing next).passing ≡ (playing one).passing)
    → (old new : Meeting) → Does old.part new.part → new ≡ record old { part = new.part } → KeepsOut None old new
on_part Does none lost step old new does is =
    kept_lobby None old new is (moves None Does none lost
    (λ one next d. inl (step one next d)) old.part new.part does)

pub quits_kept : (now : ℕ) (old new : Meeting) → IfPlaying (QuitsBy now) old.part new.part
    → new ≡ record old { part = new.part } → KeepsOut None old new
quits_kept now old new quits is =
    kept_lobby None old new is (if_playing None (QuitsBy now)
    (λ p q does. inl (ends_on _ now p q does)) old.part new.part quits)

pub kicks_kept : (seat : ℕ) (old new : Meeting) → KicksFrom seat old.lobby new.lobby
    → new ≡ record old { lobby = new.lobby } → KeepsOut None old new
kicks_kept seat old new kicks is =
    kept_out None old new is (kicks_side seat old.lobby new.lobby kicks) (inl refl) (inl refl)
    (unchanged None old.part)

module _ (old new : Meeting) (sent : Option (Address × List ℕ)) where
  call_kept : (call : Option (Address × List ℕ)) → SendsCall call old new sent
      → KeepsOut None old new × (new.lobby ≡ old.lobby)
  call_kept (Some one) (which, is) =
      let keeps = kept_out None old new is (unmoved old.lobby) (inl refl) (inr tt) (unchanged None old.part) in
      (keeps, ap (λ m. m.lobby) is)
  call_kept None (part, is) = (
    kept_lobby None old new is (moves None (λ had after. SendsPart had after sent) (λ after s. s.0) (λ one s. s)
        (λ one next s. sends_on (playing one).passing (playing one) (playing next) sent s)
        old.part new.part part),
    ap (λ m. m.lobby) is,
  )

  pub reply_kept : (reply : Option (Address × List ℕ)) → SendsReply reply old new sent
      → KeepsOut None old new × (new.lobby ≡ old.lobby)
  reply_kept (Some one) (which, is) =
      let keeps = kept_out None old new is (unmoved old.lobby) (inr tt) (inl refl) (unchanged None old.part) in
      (keeps, ap (λ m. m.lobby) is)
  reply_kept None sends = call_kept old.call sends

  -- a reply goes first, then a call, and then what the part sends
  abbrev pub FromCall : Type 0
  FromCall = (sent ≡ old.call) ⊎ ((old.call ≡ None) × SendsPart old.part new.part sent)

  pub in_turn : (reply : Option (Address × List ℕ)) → old.reply ≡ reply → SendsReply reply old new sent
      → (sent ≡ old.reply) ⊎ ((old.reply ≡ None) × FromCall)
  in_turn reply at sends = grind arith
