-- A game that goes on, where those that stay play and the others have left: what each event leaves of it,
-- and an exchange.
use Rattle.std.proofs.{Common.{◌≡◌, ℕ, ◌+◌, ◌<◌, ◌≤◌, Bool, true, false, ◌∙◌, ap, arith, suc, true≢false, refl, sym, inl, inr, ◌-◌, ◌≢◌, min, cond, List, [], ◌∷◌, ◌++◌, length, Option, Some, None, rules, slice_get, ◌⊎◌, length-drop, length-take}, lemmas.Bool.{and_right, cond_both}}
use Rattle.std.proofs.lemmas.Option.{slice_get_past}
use Rattle.dn_tic.specs.declared.input.Input.{Input}
use Rattle.dn_setup.specs.Settings.{Settings}
use Rattle.dn_machine.specs.{declared.answers.Phase.TheVariants.Playing, declared.events.Event.Event, Worlds.Rules, Node.{Node, ran, is_ended, has_left, made, is_whole, put, got}, Game.{Game, applied, with_node, refused_at, refused, on_event, applied_if}, Progress.{IsSwift, after, exchange, build_of}}
use Rattle.dn_machine.specs.{Sending.{on_build, on_build_by, on_send, lag, left_kind, commands_flight, after_sent}, Hearing.on_packet, Running.{tic_limit, full_at, is_absent, row_held, on_run, on_quit}}
use Rattle.dn_machine.specs.{declared.events.{Event.TheVariants.Deliver, Refusal.Refusal}, Promise.Fits}
use Rattle.dn_machine.specs.Flight.{Kind, Play, Exit, Flight, is_exit, end_of, is_near}
use Rattle.dn_machine.proofs.{Invariant.{IsKept, history_of}, EachEvent.{is_of_round, after_event}, Games.applied_keeps, Growth.{IsPatient, applied_grows}, Demos.whole_has}
use Rattle.dn_machine.proofs.Invariant
use Rattle.dn_machine.proofs.OwnKeeps
use Rattle.dn_machine.proofs.Promises

-- How much room a game has: that of its demos; or, once every tic to come lacks a player who has left, as
-- many tics as a node runs. No event takes it back.

-- who has left is as it was, and has made no more
record Stays (old new : Node) : Type 0 where
  phase : new.phase ≡ old.phase
  played : new.played ≡ old.played
  held : new.held ≡ old.held

stays_same : (node : Node) → Stays node node
stays_same node = record { phase = refl; played = refl; held = refl }

event_stays : {S : Type 0} (rules : Rules S) (game : Game) (q : ℕ) → is_ended (game.nodes q).phase ≡ true
    → (event : Event) → Stays (game.nodes q) ((applied rules game event).0.nodes q)
unfolding on_build_by on_send on_packet on_run on_quit
event_stays rules game q ended event =
    after_event rules (λ (old new : Node). is_ended old.phase ≡ true → Stays old new)
    (λ node e. stays_same node) game q (λ i input node e. grind arith)
    (λ i to node e. grind arith) (λ i flight node e. grind arith)
    (λ node marks e. grind arith) (λ node e. grind arith) event ended

-- hence who has left still has, and made no more
module _ {S : Type 0} (rules : Rules S) (q : ℕ) where
  left_after : (event : Event) (game : Game) → has_left (game.nodes q) ≡ true
      → has_left ((after rules event game).nodes q) ≡ true
  left_after event game left = grind (arith, event_stays)

  pub made_after : (event : Event) (game : Game) → has_left (game.nodes q) ≡ true
      → made q ((after rules event game).nodes q) ≡ made q (game.nodes q)
  made_after event game left = grind (arith, event_stays)

  pub exchange_made : (i j : ℕ) (game : Game) → has_left (game.nodes q) ≡ true
      → made q ((exchange rules i game j).nodes q) ≡ made q (game.nodes q)
  unfolding exchange
  exchange_made i j game left = grind (arith, made_after, left_after)

-- room for `cap` tics, where all who stay have run the first `tic`
pub data IsRoomy {S : Type 0} (rules : Rules S) (cap tic : ℕ) (game : Game) : Type 0 where
  InDemos : cap ≤ rules.capacity → cap ≤ tic_limit → IsRoomy rules cap tic game
  Without : (p : ℕ) → p < rules.players → has_left (game.nodes p) ≡ true → made p (game.nodes p) ≤ tic
      → cap ≤ tic_limit → IsRoomy rules cap tic game

module _ {S : Type 0} (rules : Rules S) (cap tic : ℕ) (game : Game) where
  pub roomy_after : (event : Event) → IsRoomy rules cap tic game → IsRoomy rules cap tic (after rules event game)
  roomy_after event (InDemos a b) = InDemos a b
  roomy_after event (Without p l left few b) =
      let same = made_after rules p event game left in
      Without p l (left_after rules p event game left) (omega arith) b

  pub roomy_on : IsRoomy rules cap tic game → IsRoomy rules cap (suc tic) game
  roomy_on (InDemos a b) = InDemos a b
  roomy_on (Without p l left few b) = Without p l left (omega arith) b

  -- the row that a node runs next, with all that it needs, has room
  pub row_fits : (settings : Settings) (kept : IsKept rules settings game) (r : ℕ) (mine : r < rules.players)
      → tic ≤ ran (game.nodes r) → OwnKeeps.IsThere rules settings game kept r mine → IsRoomy rules cap tic game
      → cap ≤ full_at rules.limits (row_held rules.limits (game.nodes r))
  row_fits settings kept r mine far there (InDemos a b) = grind arith
  row_fits settings kept r mine far there (Without p l left few b) =
      cond_both (is_whole rules.players (row_held rules.limits (game.nodes r))) rules.capacity tic_limit
      (λ (n : ℕ). cap ≤ n)
      (λ whole.
      absurd (true≢false
      (sym (grind arith)
      ∙ whole_has rules.players _ whole p l)))
      (λ lacks. b)
    where
      absent : is_absent (game.nodes r) p ≡ true
      absent = elim (there p l) [
        | inl held ↦ grind arith
        | inr h ↦ grind arith
      ]

-- a game that goes on: what every event keeps, packets carry commands, and no node is stopped
pub record IsLive {S : Type 0} (rules : Rules S) (settings : Settings) (game : Game) : Type 0 where
  pub swift : IsSwift rules.limits
  pub carries : 1 ≤ rules.most
  pub kept : IsKept rules settings game
  pub patient : IsPatient game
  pub running : (q : ℕ) → q < rules.players → game.stopped q ≡ false

-- every demo is as good as full, as far as the nodes that stay go
abbrev pub IsFar : {S : Type 0} → Rules S → ℕ → (ℕ → Bool) → Game → Type 0
IsFar rules cap stay game = (q : ℕ) → q < rules.players → stay q ≡ true → cap ≤ ran (game.nodes q) + rules.ahead

-- those that stay have run this many tics
abbrev pub StayRan : {S : Type 0} → Rules S → (ℕ → Bool) → Game → ℕ → Type 0
StayRan rules stay game tics = (q : ℕ) → q < rules.players → stay q ≡ true → tics ≤ ran (game.nodes q)

-- a game that goes on, where those that stay play and have run `tic` tics, and the others have left
pub record IsOn {S : Type 0} (rules : Rules S) (settings : Settings) (cap : ℕ) (stay : ℕ → Bool) (tic : ℕ)
    (game : Game) : Type 0 where
  pub live : IsLive rules settings game
  pub plays : (q : ℕ) → q < rules.players → stay q ≡ true → (game.nodes q).phase ≡ Playing
  pub left : (q : ℕ) → q < rules.players → stay q ≡ false → has_left (game.nodes q) ≡ true
  pub ran : StayRan rules stay game tic
  pub room : IsRoomy rules cap tic game

pub far_after : {S : Type 0} (rules : Rules S) (cap : ℕ) (stay : ℕ → Bool) (event : Event) (game : Game)
    → IsFar rules cap stay game → IsFar rules cap stay (after rules event game)
far_after rules cap stay event game far q l s = grind (arith, applied_grows)

pub ran_after : {S : Type 0} (rules : Rules S) (stay : ℕ → Bool) (event : Event) (game : Game) (tic : ℕ)
    → StayRan rules stay game tic → StayRan rules stay (after rules event game) tic
ran_after rules stay event game tic far q l s = grind (arith, applied_grows)

-- an event of a round stops nobody
stopped_after : {S : Type 0} (rules : Rules S) (event : Event) (game : Game) → is_of_round event ≡ true
    → (after rules event game).stopped ≡ game.stopped
unfolding applied
stopped_after rules event game round = grind arith

pub live_after : {S : Type 0} (rules : Rules S) (settings : Settings) (event : Event) (game : Game)
    → is_of_round event ≡ true → IsLive rules settings game → IsLive rules settings (after rules event game)
live_after rules settings event game round live = record {
  swift = live.swift;
  carries = live.carries;
  kept = applied_keeps rules settings game live.kept event;
  patient = λ q s. (applied_grows rules game q event).pause s (live.patient q s);
  running = λ q l. ap (λ (f : ℕ → Bool). f q) (stopped_after rules event game round) ∙ live.running q l;
}

pub exchange_far : {S : Type 0} (rules : Rules S) (cap : ℕ) (stay : ℕ → Bool) (i j : ℕ) (game : Game)
    → IsFar rules cap stay game → IsFar rules cap stay (exchange rules i game j)
unfolding exchange
exchange_far rules cap stay i j game far = search (rules, far_after)

-- a game goes on where each node looks as it did
pub on_alike : {S : Type 0} (rules : Rules S) (settings : Settings) (cap : ℕ) (stay : ℕ → Bool) (tic : ℕ)
    (old new : Game) → IsOn rules settings cap stay tic old → ((q : ℕ) → (new.nodes q).phase ≡ (old.nodes q).phase)
    → ((q : ℕ) → (new.nodes q).played ≡ (old.nodes q).played) → IsLive rules settings new
    → StayRan rules stay new tic → IsRoomy rules cap tic new → IsOn rules settings cap stay tic new
on_alike rules settings cap stay tic old new on phases played live ran room = record {
  live = live;
  plays = λ q l s. phases q ∙ on.plays q l s;
  left = grind arith;
  ran = ran;
  room = room;
}

pub stays_in : (node : Node) (stays : Bool) → (stays ≡ false → has_left node ≡ true) → node.phase ≡ Playing
    → stays ≡ true
stays_in node stays left plays = grind arith

-- where one demo is full, every demo is as good as full
pub full_far : {S : Type 0} (rules : Rules S) (settings : Settings) (cap : ℕ) (stay : ℕ → Bool) (game : Game)
    (live : IsLive rules settings game)
    → ((q : ℕ) → q < rules.players → stay q ≡ true → is_ended (game.nodes q).phase ≡ false)
    → (r : ℕ) → r < rules.players → cap ≤ ran (game.nodes r) → IsFar rules cap stay game
full_far rules settings cap stay game live there r mine full q l s =
    let a = Invariant.ran_below rules settings (history_of game) game.flights live.kept.from_inputs r q mine l
    (and_right (game.nodes q).played (is_ended (game.nodes q).phase) (there q l s)) in grind arith

-- What an exchange makes of it: a node gives another a packet, and just this packet comes to it.

-- the last of a list
pub last_get : {A : Type 0} (xs : List A) (y : A) → slice_get (xs ++ y ∷ []) (length xs) ≡ Some y
last_get [] y = refl
last_get (x ∷ xs) y = last_get xs y

pub accepted : {S : Type 0} (rules : Rules S) (game : Game) (event : Event)
    → refused rules.players game event ≡ None → after rules event game ≡ (on_event rules game event).0
unfolding applied
accepted rules game event h = ap (λ (o : Option Refusal). (applied_if rules game event o).0) h

pub accepted_build : {S : Type 0} (rules : Rules S) (game : Game) (i : ℕ) (input : Input)
    → refused_at rules.players game i ≡ None
    → after rules (build_of i input) game ≡ with_node game i (on_build rules.limits i (game.nodes i) input).0
accepted_build rules game i input h = grind (arith, accepted)

-- a packet with the next number is not there
nothing : {S : Type 0} (rules : Rules S) (game : Game) → slice_get game.flights (length game.flights) ≡ None
    → after rules (Deliver (length game.flights)) game ≡ game
unfolding applied
nothing rules game e = grind arith

-- the kind of a packet of commands, of one who has left and of one who plays
abbrev pub kind_of : {S : Type 0} → Rules S → Game → ℕ → ℕ → Bool → Kind
kind_of rules game i j true = left_kind rules.limits i (game.nodes i) j
kind_of rules game i j false = Play

-- a node gives another a packet of commands, as one who has left or as one who plays, with a request or none
abbrev pub Gives : {S : Type 0} → Rules S → Game → ℕ → ℕ → Bool → Bool → Type 0
Gives rules game i j gone asks_it =
    on_send rules.limits i (game.nodes i) j
    ≡ (
      after_sent rules.limits i (game.nodes i) j,
      Some (commands_flight rules.limits i (game.nodes i) j (kind_of rules game i j gone)
          (cond asks_it (Some (got (game.nodes i) j)) None)),
    )

module _ {S : Type 0} (rules : Rules S) (settings : Settings) (game : Game) (live : IsLive rules settings game) where
  pub stays : (q : ℕ) → is_ended (game.nodes q).phase ≡ false → has_left (game.nodes q) ≡ false
  stays = Promises.stays_in rules settings game live.kept

  pub fits : Fits rules game
  fits = Promises.fits rules settings game live.kept

  pub accepts : (node : ℕ) → node < rules.players → refused_at rules.players game node ≡ None
  accepts node l = grind arith

  -- to itself a node gives nothing
  pub exchange_own : (i : ℕ) → i < rules.players → exchange rules i game i ≡ game
  unfolding exchange on_send
  exchange_own i l = grind (arith, accepted, nothing, slice_get_past)

  -- a node gives another a packet
  module _ (i j : ℕ) (mine : i < rules.players) (its : j < rules.players) (apart : i ≢ j) (sender : Node)
      (given : Flight) (for_j : given.to ≡ j)
      (gives : on_send rules.limits i (game.nodes i) j ≡ (sender, Some given)) where
    -- the game with it under way
    abbrev pub under_way : Game
    under_way = record {
      nodes = put game.nodes i sender;
      stopped = game.stopped;
      flights = game.flights ++ given ∷ [];
    }

    -- it comes to the other, or is refused
    pub arrives : is_near (made j (game.nodes j)) given ≡ true
        → exchange rules i game j ≡ with_node under_way j (on_packet rules.limits j (game.nodes j) given).0
    unfolding exchange
    arrives close = grind (arith, accepted, last_get)

    pub strays : is_near (made j (game.nodes j)) given ≡ false → exchange rules i game j ≡ under_way
    unfolding exchange applied
    strays far = grind (arith, last_get)

  module _ (i : ℕ) (j : ℕ) (mine : i < rules.players) (its : j < rules.players) (apart : i ≢ j)
      (gone asks_it : Bool) (sends : Gives rules game i j gone asks_it) where
    abbrev pub packet : Flight
    packet = commands_flight rules.limits i (game.nodes i) j (kind_of rules game i j gone)
        (cond asks_it (Some (got (game.nodes i) j)) None)

    abbrev pub sender : Node
    sender = after_sent rules.limits i (game.nodes i) j

    abbrev pub sent : Game
    sent = record { nodes = put game.nodes i sender; stopped = game.stopped; flights = game.flights ++ packet ∷ [] }

    abbrev pub receiver : Node
    receiver = (on_packet rules.limits j (game.nodes j) packet).0

    -- it ends with the last command, or where it is full
    pub end_is : end_of packet ≡ min (made i (game.nodes i)) (packet.start + rules.most)
    end_is = grind (arith, length-drop, length-take)

    -- an EXIT packet ends with the last command, and one of a player who has left that does so is one
    pub exits : is_exit packet.kind ≡ true → end_of packet ≡ made i (game.nodes i)
    exits e = grind (arith, end_is)

    pub tells : gone ≡ true → made i (game.nodes i) ≤ end_of packet → is_exit packet.kind ≡ true
    tells e all = grind (arith, end_is)

    pub is_word : (packet.kind ≡ Play) ⊎ (packet.kind ≡ Exit)
    is_word = grind arith

    -- one that is cut begins with the resend, which is no further back than a node keeps commands; the next one
    -- begins where it ends, or the lag before
    pub moves : packet.start + rules.most < made i (game.nodes i)
        → (packet.start ≡ ((game.nodes i).peers j).resend) × (made i (game.nodes i) ≤ packet.start + rules.places)
        × ((sender.peers j).resend ≡ packet.start + rules.most - lag rules.limits)
    moves cut = grind arith

    -- the packet is near where the made counts are, and the request is
    pub near : made i (game.nodes i) ≤ made j (game.nodes j) + rules.ahead
        → made j (game.nodes j) ≤ made i (game.nodes i) + rules.ahead
        → (asks_it ≡ true → (got (game.nodes i) j ≤ made j (game.nodes j))
        × (made j (game.nodes j) ≤ got (game.nodes i) j + (rules.ahead + rules.ahead)))
        → is_near (made j (game.nodes j)) packet ≡ true
    near a b request = grind (arith, is_word)

    pub exchanged : is_near (made j (game.nodes j)) packet ≡ true
        → exchange rules i game j ≡ with_node sent j receiver
    exchanged close = arrives i j mine its apart sender packet refl sends close

    pub not_exchanged : is_near (made j (game.nodes j)) packet ≡ false → exchange rules i game j ≡ sent
    not_exchanged far = strays i j mine its apart sender packet refl sends far

  -- what a node sends that plays, and what one sends that has left
  pub sends_playing : (i j : ℕ) → i ≢ j → (game.nodes i).phase ≡ Playing
      → Gives rules game i j false ((game.nodes i).peers j).want
  unfolding on_send
  sends_playing i j apart plays = grind arith

  pub sends_left : (i j : ℕ) → i ≢ j → has_left (game.nodes i) ≡ true → Gives rules game i j true false
  unfolding on_send
  sends_left i j apart left = grind arith
