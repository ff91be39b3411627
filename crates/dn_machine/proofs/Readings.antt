-- Readings of definitions that no test and no contract settles: when a row asks for room in the demo, that an
-- EXIT packet may be far, and how soon good rounds start a game of which only a part has begun. The world only
-- counts the tics.
use Rattle.dn_setup.specs.Settings.{Settings}
use Rattle.dn_machine.specs.{declared.events.Event.Event, declared.events.Event.TheVariants.{Send, Deliver}, Flight.{Exit, Flight, is_near, Kind, Play}, Limits.{vanilla_limits, row_of, Limits, IsWindow}, Worlds.{Rules, world_after}}
use Rattle.dn_machine.specs.{Node.{ran, lowest, blank, Node, with_peer, no_peer}, Game.{Game, opening_game, applied, fresh}, Sending.{on_build, on_build_by, on_send}, Hearing.{on_packet, is_within}, Running.{on_run, full_at}}
use Rattle.dn_machine.specs.{Progress.{after, in_order, exchange, turn, good_round, good_rounds, IsSwift, GoesInto}, declared.answers.Made.Made, declared.answers.Phase.TheVariants.{Playing, Ended}}
use Rattle.dn_tic.specs.{Pressed.pressed, Inputs.made_by, Command.used, declared.input.Input.TheVariants.Pressed}
use Rattle.std.proofs.Common.{arith, ℕ, ◌+◌, ◌==◌, true, false, List, [], ◌∷◌, ◌≡◌, refl, pos, map, take, fold, Some, None, if◌then◌else◌, Bool, length, replicate, Option}
use Rattle.dn_machine.specs.declared.answers.Cause.TheVariants as Cause
use Rattle.dn_machine.specs.declared.answers.Heard.TheVariants as Heard

counting : (players : ℕ) → Rules ℕ
counting players = record {
  physics = record { begin = λ start present. 0; step = λ world row. world + 1; mark = λ world player. pos world };
  limits = vanilla_limits players false 8738;
}

pub settings : Settings
settings = record { skill = 2; deathmatch = 0; no_monsters = false; respawn = false; episode = 1; map = 1 }

-- a row of both players needs room in the demo, and one that lacks a player ends at the limit of tics: the two
-- seats without a player do not count
room_asked : (full_at (counting 2).limits (row_of 2 (λ p. Some blank)) ≡ 8738)
    × (full_at (counting 2).limits (row_of 2 (λ p. if p == 0 then Some blank else None)) ≡ 2097150)
unfolding counting row_of lowest used
room_asked = (refl, refl)

-- an EXIT packet that starts at tic 0 is near a node that made 64 commands, and far from one that made 65
parting : Flight
parting = record { from = 1; to = 0; kind = Exit; start = 0; request = None; commands = [] }

exit_far : (is_near 64 parting ≡ true) × (is_near 65 parting ≡ false)
unfolding parting
exit_far = (refl, refl)

-- how many tics each of so many nodes has run in the first four good rounds after these events, round by round
first_rounds : ℕ → List ℕ → List Event → List (List ℕ)
first_rounds players numbers events =
    let rules = counting players in
    let begun : Game = fold (λ game event. after rules event game) (opening_game settings) events in
    map (λ (count : ℕ). map (λ (p : ℕ).
    ran ((good_rounds rules (λ round node. Pressed 0) count begun).nodes p)) numbers) (1 ∷ 2 ∷ 3 ∷ 4 ∷ [])

-- the key player's set-up packet starts node 1, and its packet starts the key player
start : List Event
start = Send 0 1 ∷ Deliver 0 ∷ Send 1 0 ∷ Deliver 1 ∷ []

-- nothing was sent; the set-up packet was sent, and lost; it has come, and node 1 plays; node 1's first
-- packet is lost: each time both play after the first round, and node 0 has what it missed in the fourth
stages_so : map (λ (count : ℕ). first_rounds 2 (0 ∷ 1 ∷ []) (take count start)) (0 ∷ 1 ∷ 2 ∷ 3 ∷ [])
    ≡ map (λ (count : ℕ). (0 ∷ 0 ∷ []) ∷ (0 ∷ 1 ∷ []) ∷ (0 ∷ 2 ∷ []) ∷ (1 ∷ 3 ∷ []) ∷ []) (0 ∷ 1 ∷ 2 ∷ 3 ∷ [])
unfolding counting first_rounds start good_rounds good_round turn exchange in_order opening_game applied
    on_build_by on_send on_packet on_run made_by pressed row_of lowest world_after used
stages_so = refl

-- both play; and of three players node 1 plays and was noted, and node 2 still listens
both_so : first_rounds 2 (0 ∷ 1 ∷ []) start ≡ (0 ∷ 1 ∷ []) ∷ (1 ∷ 2 ∷ []) ∷ (2 ∷ 3 ∷ []) ∷ (3 ∷ 4 ∷ []) ∷ []
unfolding counting first_rounds start good_rounds good_round turn exchange in_order opening_game applied
    on_build_by on_send on_packet on_run made_by pressed row_of lowest world_after used
both_so = refl

three_so : first_rounds 3 (0 ∷ 1 ∷ 2 ∷ []) start
    ≡ (0 ∷ 0 ∷ 0 ∷ []) ∷ (0 ∷ 1 ∷ 1 ∷ []) ∷ (0 ∷ 2 ∷ 2 ∷ []) ∷ (1 ∷ 3 ∷ 3 ∷ []) ∷ []
unfolding counting first_rounds start good_rounds good_round turn exchange in_order opening_game applied
    on_build_by on_send on_packet on_run made_by pressed row_of lowest world_after used
three_so = refl

-- Windows worked out: six ahead over twelve places, nine over eighteen, twelve over twenty-four; how packets
-- are cut; and that less than twice the window is too few: seven over twelve.

-- with packets of twelve commands
abbrev wide : Bool → ℕ → ℕ → Limits
wide extra ahead places =
    record { players = 2; extra = extra; capacity = 13105; ahead = ahead; places = places; most = 12 }

six : IsWindow (wide false 6 12)
six = record { twice = omega arith; back = omega arith }

nine : IsWindow (wide false 9 18)
nine = record { twice = omega arith; back = omega arith }

nine_swift : IsSwift (wide false 9 18)
nine_swift = record { some = omega arith; near = omega arith }

twelve : IsWindow (wide false 12 24)
twelve = record { twice = omega arith; back = omega arith }

twelve_swift : IsSwift (wide false 12 24)
twelve_swift = record { some = omega arith; near = omega arith }

-- twelve commands go into one packet, eighteen into two, and so do twenty-four; but into three where each
-- packet repeats a command
packets : GoesInto (wide true 6 12) 1 × GoesInto (wide true 9 18) 2 × GoesInto (wide false 12 24) 2
    × GoesInto (wide true 12 24) 3
packets = (omega arith, omega arith, omega arith, omega arith)

too_few : (GoesInto (wide false 9 18) 1 → ⊥) × (GoesInto (wide true 12 24) 2 → ⊥)
too_few = ((λ h. omega arith), (λ h. omega arith))

-- a node of player 0 that made some commands, ran some tics, and holds as many of each other player
unfoldable playing : ℕ → ℕ → Node
playing made ran = record (fresh settings 0) {
  phase = Playing;
  played = true;
  inputs = replicate made (Pressed 0);
  held = λ p. replicate made blank;
  rows = replicate ran [];
  marks = λ tic player. pos tic;
}

unfoldable packet : ℕ → Option ℕ → ℕ → Flight
packet start request count = record {
  from = 1;
  to = 0;
  kind = Play;
  start = start;
  request = request;
  commands = replicate count blank;
}

-- the first tic of a packet, and how many commands it has
unfoldable shape : Option Flight → ℕ × ℕ
shape None = (99, 99)
shape (Some f) = (f.start, length f.commands)

-- and from where on the next one begins
unfoldable next_start : Node → ℕ
next_start node = (node.peers 1).resend

-- nine builds of a node that ran nothing, and no tenth
ten_builds : map (λ (n : ℕ). (on_build (wide false 9 18) 0 (playing n 0) (Pressed 0)).1) (0 ∷ 8 ∷ 9 ∷ [])
    ≡ Made.Made 0 ∷ Made.Made 8 ∷ Made.Full ∷ []
unfolding playing on_build_by made_by pressed
ten_builds = refl

-- eighteen commands are due from tic 12 on: a packet carries twelve, and the next one goes on behind them, or
-- repeats the last
due : Node
due = with_peer (playing 30 21) 1 (record no_peer { resend = 12 })

cut : (shape (on_send (wide false 9 18) 0 due 1).1 ≡ (12, 12))
    × (next_start (on_send (wide false 9 18) 0 due 1).0 ≡ 24)
    × (shape (on_send (wide true 9 18) 0 (on_send (wide true 9 18) 0 due 1).0 1).1 ≡ (23, 7))
unfolding playing due on_send shape next_start
cut = (refl, refl, refl)

-- of one who has left the second of them tells the end
gone : Node
gone = record due { phase = Ended Cause.Quit }

unfoldable kind_sent : Option Flight → Option Kind
kind_sent None = None
kind_sent (Some f) = Some f.kind

tells_end : (kind_sent (on_send (wide false 9 18) 0 gone 1).1 ≡ Some Play)
    × (kind_sent (on_send (wide false 9 18) 0 (on_send (wide false 9 18) 0 gone 1).0 1).1 ≡ Some Exit)
    × (shape (on_send (wide false 9 18) 0 (on_send (wide false 9 18) 0 gone 1).0 1).1 ≡ (24, 6))
unfolding playing due gone on_send shape kind_sent
tells_end = (refl, refl, refl)

-- a node that ran nothing takes what ends eighteen tics on, and nothing further
takes_all : ((on_packet (wide false 9 18) 0 (record (playing 9 0) { held = λ p. replicate 6 blank }) (packet 6 None 12)).1
    ≡ Heard.Taken 12)
    × ((on_packet (wide false 9 18) 0 (record (playing 9 0) { held = λ p. replicate 7 blank }) (packet 7 None 12)).1
    ≡ Heard.Dropped 12)
unfolding playing on_packet packet
takes_all = (refl, refl)

-- seven ahead, a node may lack fourteen: of twelve places its request for the first cannot be met, and a packet
-- that ends with the last is an overrun
too_small : (is_within 12 14 (Some 0) ≡ false) × (is_within 14 14 (Some 0) ≡ true)
    × ((on_packet (wide false 7 12) 0 (record (playing 7 0) { held = λ p. [] }) (packet 2 None 12)).1
    ≡ Heard.Dropped 12)
    × (shape (on_send (wide false 7 12) 0 (playing 14 7) 1).1 ≡ (14, 0))
unfolding playing on_packet on_send packet shape
too_small = (refl, refl, refl, refl)
