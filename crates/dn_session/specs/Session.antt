-- A session: its lobby, and its part in the game once that has begun.
use Rattle.std.specs.{Prelude.{⊤, ◌≡◌, ℕ, ℤ, if◌then◌else◌, Bool, true, false, is_some, List, map, replicate, Option, Some, None, Result, Ok, Err}, Option.{option_map, option_or}}
use Rattle.dn_machine.specs.{Started.started_node, declared.answers.Ran.Ran}
use Rattle.dn_tic.specs.declared.{command.Move.Move, input.Input.Input}
use Rattle.dn_lockstep.specs.{Contents.whose, Opening.IsAdmittedWithin, Opening.keyed, Opening.limits_within, Opening.whose_within, Represents.Represents, declared.{config.Config.Config, config.NodeFault.NodeFault}}
use Rattle.dn_survivor.specs.OfOthers.{nothing_kept}
use Rattle.dn_link.specs.{Linking.linked, Linking.new_peer, Linking.seal_of, Pacing.new_pace, Pacing.pace_of, declared.link.Link.Link}
use Rattle.dn_session.specs.{Playing.{GivesUpBy, GivesWhen, HearsBytes, Playing, Polls, QuitsBy, RunsNext, WritesRow, given_up_at, holds_back, may_give, owes_nobody, playing}, Hosting.{HearsCall, IsHostOf, Lobby, game_told, holder_of, kicked, lobby}, Events.none_announced, Joining.HearsHost, Joining.IsJoinerOf, Joining.Joining, Joining.game_now, Joining.is_heard, Joining.joining, Joining.on_time, Places.places_of, declared.{seats.Seat.Seat, session.Session.Session, side.Begun.Begun, side.Side.Side, terms.LobbyFault.LobbyFault, terms.Terms.Terms}, Reading.is_greeting, Sent.SendsNext, Passing.sent_of, Steady.new_steady, Text.game_seal, Ticks.new_ticks, Watch.new_watch, declared.event.Announced.Announced, declared.greeting.Address.Address, declared.{greeting.Seating.Seating, greeting.Shown.Shown, host.Host.Host, host.HostConfig.HostConfig, joiner.JoinConfig.JoinConfig, joiner.Joiner.Joiner, part.Part.Part}}
use Rattle.dn_machine.specs.declared.answers.Ran.TheVariants as ran
use Rattle.dn_session.specs.declared.ending.Progress.TheVariants as progress
use Rattle.dn_session.specs.declared.seats.Seat.TheVariants as seat
use Rattle.dn_session.specs.declared.side.Side.TheVariants as side

-- The game that a lobby begins.

abbrev pub address_in : Seat → Option Address
address_in (seat.Taken held) = Some held.holder.address
address_in seat = None

abbrev pub address_shown : Option Shown → Option Address
address_shown None = None
address_shown (Some shown) = Some shown.holder.address

-- what the host begins, in a game of this number
abbrev pub begun_here : Lobby → List ℕ → Begun
begun_here l game = record {
  game = game;
  terms = l.terms;
  me = 0;
  host = None;
  seats = map address_in l.seats;
}

-- what one who joins begins, by what it was told
abbrev pub begun_there : Joining → List ℕ → Seating → Begun
begun_there j game s = record {
  game = game;
  terms = s.terms;
  me = s.seat;
  host = Some j.config.host;
  seats = map address_shown s.seats;
}

abbrev pub begun_with : Joining → Option (List ℕ) → Option Seating → Option Begun
begun_with j (Some game) (Some s) = Some (begun_there j game s)
begun_with j game seating = None

-- the game of a lobby, once it has begun
abbrev pub begun_in : Side → Option Begun
begun_in (side.Host host) = option_map (begun_here (lobby host)) (game_told (lobby host))
begun_in (side.Joiner joiner) =
    begun_with (joining joiner) (game_now (joining joiner)) (joining joiner).seating

-- The link of a game.

-- how it is made: that of the first player of a game of these terms, and that of a session's own
abbrev pub config_for : Terms → Config
config_for terms =
    record { players = terms.players; me = 0; extra = terms.extra; limit = terms.limit; settings = None }

abbrev pub config_of : Begun → Config
config_of b = record (config_for b.terms) { me = b.me }

-- a link that plays from the beginning on, and has no history
pub record IsLinkOf (secret : Option (List ℕ)) (b : Begun) (link : Link) : Type 0 where
  pub sealed : seal_of link ≡ game_seal secret b.game
  pub whose_is : whose (linked link).node ≡ whose_within (config_of b) b.terms.ahead
  pub opened : Represents (limits_within (config_of b) b.terms.ahead) b.me (linked link).node
      (started_node b.terms.players b.terms.settings b.me)
  pub others : (linked link).others ≡ nothing_kept
  pub peers : (player : ℕ) → (linked link).peers player ≡ new_peer
  pub pace : pace_of link ≡ new_pace

-- a part in the game from now on
pub record IsPartOf (secret : Option (List ℕ)) (b : Begun) (now : ℕ) (p : Playing) : Type 0 where
  pub link : IsLinkOf secret b p.link
  pub ticks : p.ticks ≡ new_ticks b.terms.rate now
  pub watch : p.watch ≡ new_watch now
  pub places : p.places ≡ places_of b.host b.seats now
  pub excluders : p.excluders ≡ replicate 4 false
  pub exclusions : p.exclusions ≡ replicate 4 (record { to = None; told = None })
  pub owed : p.owed ≡ owes_nobody
  pub turn : p.turn ≡ 0
  pub steady : p.steady ≡ new_steady
  pub passing : p.passing ≡ None
  pub progress : p.progress ≡ progress.Playing
  pub policy : p.policy ≡ b.terms.policy

-- The session.

-- its lobby; the secret; its part; a reply and a call that are to be sent; and what was announced of what happened
pub record Meeting : Type 0 where
  pub lobby : Side
  pub secret : Option (List ℕ)
  pub part : Option Part
  pub reply : Option (Address × List ℕ)
  pub call : Option (Address × List ℕ)
  pub announced : Announced

abbrev pub meeting : Session → Meeting
meeting session = record {
  lobby = session.side;
  secret = session.secret;
  part = session.part;
  reply = option_map sent_of session.reply;
  call = option_map sent_of session.call;
  announced = session.announced;
}

abbrev pub new_meeting : Side → Option (List ℕ) → Meeting
new_meeting side secret =
    record { lobby = side; secret = secret; part = None; reply = None; call = None; announced = none_announced }

-- a session is made as its lobby is, or refused as that is
abbrev pub IsHostSession : HostConfig → Result Session LobbyFault → Type 0
IsHostSession config (Ok session) =
    (host : Host) × IsHostOf config (Ok host) × (meeting session ≡ new_meeting (side.Host host) config.secret)
IsHostSession config (Err fault) = IsHostOf config (Err fault)

abbrev pub IsJoinSession : JoinConfig → ℕ → Result Session LobbyFault → Type 0
IsJoinSession config now (Ok session) =
    (joiner : Joiner) × IsJoinerOf config now (Ok joiner)
    × (meeting session ≡ new_meeting (side.Joiner joiner) config.secret)
IsJoinSession config now (Err fault) = IsJoinerOf config now (Err fault)

-- what a part does, if there is one
abbrev pub IfPlaying : (Playing → Playing → Type 0) → Option Part → Option Part → Type 0
IfPlaying Does None None = ⊤
IfPlaying Does (Some old) (Some new) = Does (playing old) (playing new)
IfPlaying Does old new = ⊥

-- what comes

abbrev pub reply_to : Address → Option (List ℕ) → Option (Address × List ℕ)
reply_to from reply = option_map (λ bytes. (from, bytes)) reply

-- a joiner hears its host alone
abbrev pub HearsReply : Bool → List ℕ → ℕ → Joining → Joining → Type 0
HearsReply true bytes now old new = HearsHost bytes now old new
HearsReply false bytes now old new = new ≡ old

abbrev pub HearsGreeting : Address → List ℕ → ℕ → Side → Side → Option (List ℕ) → Type 0
HearsGreeting from bytes now (side.Host old) (side.Host new) reply =
    HearsCall from bytes now (lobby old) (lobby new) reply
HearsGreeting from bytes now (side.Joiner old) (side.Joiner new) reply =
    HearsReply (is_heard from (joining old)) bytes now (joining old) (joining new) × (reply ≡ None)
HearsGreeting from bytes now old new reply = ⊥

-- a greeting goes to the lobby, and its reply, if it has one, takes the place of one that was not sent; all else goes
-- to the part
abbrev pub HearsWhen : Bool → Address → List ℕ → ℕ → Meeting → Meeting → Type 0
HearsWhen true from bytes now old new =
    (side : Side) × (reply : Option (List ℕ)) × HearsGreeting from bytes now old.lobby side reply
    × (new ≡ record old { lobby = side; reply = option_or (reply_to from reply) old.reply })
HearsWhen false from bytes now old new =
    IfPlaying (HearsBytes from bytes now) old.part new.part × (new ≡ record old { part = new.part })

abbrev pub HearsAny : Address → List ℕ → ℕ → Meeting → Meeting → Type 0
HearsAny from bytes now old new = HearsWhen (is_greeting bytes) from bytes now old new

-- the game begins for it

-- a part is made, or refused as its link is: for want of memory, or for terms that are no game's
abbrev pub IsMadeAs : Option (List ℕ) → Begun → ℕ → Result Part NodeFault → Type 0
IsMadeAs secret b now (Ok part) = IsPartOf secret b now (playing part)
IsMadeAs secret b now (Err fault) =
    IsAdmittedWithin {A = Part} (keyed (config_of b) b.terms.settings) b.terms.ahead (Err fault)

abbrev pub BeginsAs : Option Begun → ℕ → Meeting → Meeting → Result Bool NodeFault → Type 0
BeginsAs None now old new result = (result ≡ Ok false) × (new ≡ old)
BeginsAs (Some b) now old new (Ok began) =
    (part : Part) × IsMadeAs old.secret b now (Ok part) × (began ≡ true) × (new ≡ record old { part = Some part })
BeginsAs (Some b) now old new (Err fault) = IsMadeAs old.secret b now (Err fault) × (new ≡ old)

-- the game that begins, where there is no part yet
abbrev pub begins_now : Meeting → Option Begun
begins_now m = if is_some m.part then None else begun_in m.lobby

abbrev pub Begins : ℕ → Meeting → Meeting → Result Bool NodeFault → Type 0
Begins now old new result = BeginsAs (begins_now old) now old new result

-- time

-- a joiner calls its host, where a call is due
abbrev pub Calls : ℕ → Side → Side → Option (Address × List ℕ) → Type 0
Calls now (side.Host old) new call = (new ≡ side.Host old) × (call ≡ None)
Calls now (side.Joiner old) (side.Joiner new) call =
    (joining new ≡ (on_time now (joining old)).0)
    × (call ≡ reply_to (joining old).config.host (on_time now (joining old)).1)
Calls now old new call = ⊥

abbrev pub PassesTo : ℕ → Meeting → Meeting → Type 0
PassesTo now old new =
    (call : Option (Address × List ℕ)) × Calls now old.lobby new.lobby call × IfPlaying (Polls now) old.part new.part
    × (new ≡ record old { lobby = new.lobby; call = option_or call old.call; part = new.part })

-- what is sent: a reply goes first, and then a call

abbrev pub SendsPart : Option Part → Option Part → Option (Address × List ℕ) → Type 0
SendsPart None new sent = (new ≡ None) × (sent ≡ None)
SendsPart (Some old) None sent = ⊥
SendsPart (Some old) (Some new) sent = SendsNext (playing old) (playing new) sent

abbrev pub SendsCall : Option (Address × List ℕ) → Meeting → Meeting → Option (Address × List ℕ) → Type 0
SendsCall (Some call) old new sent = (sent ≡ Some call) × (new ≡ record old { call = None })
SendsCall None old new sent = SendsPart old.part new.part sent × (new ≡ record old { part = new.part })

abbrev pub SendsReply : Option (Address × List ℕ) → Meeting → Meeting → Option (Address × List ℕ) → Type 0
SendsReply (Some reply) old new sent = (sent ≡ Some reply) × (new ≡ record old { reply = None })
SendsReply None old new sent = SendsCall old.call old new sent

abbrev pub Sends : Meeting → Meeting → Option (Address × List ℕ) → Type 0
Sends old new sent = SendsReply old.reply old new sent

-- what its player does in the game

abbrev pub GivesPart : ℕ → Input → Option Part → Option Part → Bool → Type 0
GivesPart now input None new given = (new ≡ None) × (given ≡ false)
GivesPart now input (Some old) None given = ⊥
GivesPart now input (Some old) (Some new) given =
    GivesWhen (may_give now (playing old)) now input (playing old) (playing new) × (given ≡ may_give now (playing old))

abbrev pub RunsPart : List ℤ → Option Part → Option Part → Ran → Option (List (Option Move)) → Type 0
RunsPart marks None new answer row = (new ≡ None) × (answer ≡ ran.NotPlaying) × (row ≡ None)
RunsPart marks (Some old) None answer row = ⊥
RunsPart marks (Some old) (Some new) answer row = RunsNext marks (playing old) (playing new) answer row

-- the next tic should wait for the next tick
abbrev pub holds_back_in : Option Part → Bool
holds_back_in None = false
holds_back_in (Some part) = holds_back (playing part)

-- a part that was to run has the row of the next tic
abbrev pub HasRow : List (Option Move) → Option Part → Type 0
HasRow row None = ⊤
HasRow row (Some part) = WritesRow row (playing part)

abbrev pub can_give : ℕ → Option Part → Bool
can_give now None = false
can_give now (Some part) = may_give now (playing part)

abbrev pub QuitsPart : ℕ → Option Part → Option Part → Type 0
QuitsPart now old new = IfPlaying (QuitsBy now) old new

abbrev pub GivesUpPart : ℕ → ℕ → Option Part → Option Part → Bool → Type 0
GivesUpPart player now None new gave = (new ≡ None) × (gave ≡ false)
GivesUpPart player now (Some old) None gave = ⊥
GivesUpPart player now (Some old) (Some new) gave =
    GivesUpBy now player (playing old) (playing new)
    × (gave ≡ is_some (given_up_at now player (playing old)))

-- its link
abbrev pub link_in : Option Part → Option Link
link_in part = option_map (λ part. (playing part).link) part

-- what it is to pass on
abbrev pub passing_in : Option Part → Option (Address × List ℕ)
passing_in None = None
passing_in (Some part) = (playing part).passing

-- what the host does in the lobby

abbrev pub kicked_as : Option (List ℕ) → Lobby → Lobby
kicked_as None l = l
kicked_as (Some number) l = kicked number l

abbrev pub KicksFrom : ℕ → Side → Side → Type 0
KicksFrom player (side.Host old) (side.Host new) = lobby new ≡ kicked_as (holder_of (lobby old) player) (lobby old)
KicksFrom player (side.Joiner old) new = new ≡ side.Joiner old
KicksFrom player old new = ⊥

abbrev pub Kicks : ℕ → Meeting → Meeting → Type 0
Kicks player old new = KicksFrom player old.lobby new.lobby × (new ≡ record old { lobby = new.lobby })
