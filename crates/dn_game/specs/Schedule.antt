-- The event that a schedule gives next, by three words of its generator and by who has stopped.
use Rattle.std.specs.Prelude.{◌≡◌, ◌<◌, ℕ, true, false, length, slice_index_or, ◌+◌, ◌-◌, ◌%◌, ◌^◌, min, Bool, not, ◌&&◌, nat_lt, slice_get, if◌then◌else◌, Option, is_none}
use Rattle.std.specs.Option.{option_map}
use Rattle.rand_pcg.specs.Lcg.{Lcg, started, increment_of}
use Rattle.rand_pcg.specs.Pcg.{multiplier_64, pcg32}
use Rattle.dn_machine.specs.declared.events.Event.{Event}
use Rattle.dn_machine.specs.declared.events.Event.TheVariants.{Build, Send, Deliver, Run}
use Rattle.dn_machine.specs.Game.{Game, refused_flight}
use Rattle.dn_machine.specs.Node.{lowest}
use Rattle.dn_game.specs.Contents.{Contents}

-- a player who has not stopped
pub record IsMoving {W : Type 0} (g : Contents W) (node : ℕ) : Type 0 where
  pub below : node < length g.nodes
  pub moves : slice_index_or g.stopped node false ≡ false

-- all players have stopped
abbrev pub AllStopped : {W : Type 0} → Contents W → Type 0
AllStopped g = (node : ℕ) → node < length g.nodes → slice_index_or g.stopped node false ≡ true

-- the generator of a seed: the PCG of 64 bits and stream 54
abbrev pub generator_of : ℕ → Lcg
generator_of seed = started 64 multiplier_64 seed (increment_of 64 54)

-- its next word, and the generator behind it
abbrev pub word : Lcg → ℕ
word generator = (pcg32 generator).0

abbrev pub behind : Lcg → Lcg
behind generator = (pcg32 generator).1

-- the first player from this number on, going round, who has not stopped
abbrev pub first_moving : ℕ → (ℕ → Bool) → ℕ → Option ℕ
first_moving players stopped from =
    option_map (λ i. (from + i) % players) (lowest players (λ i. not (stopped ((from + i) % players))))

-- one of the last 32 packets, counted from the end
abbrev pub recent : ℕ → ℕ → ℕ
recent count c = count - 1 - c % min count 32

-- the delivery of a recent packet, where there is one, its number fits an event, and it is not refused; and
-- else a run
abbrev pub delivery_or_run : Game → ℕ → ℕ → Event
delivery_or_run game node c =
    let count = length game.flights in
    let which = recent count c in
    if nat_lt 0
    count && (nat_lt which (2 ^ 32) && is_none (refused_flight game (slice_get game.flights which)))
    then Deliver which
    else Run node

-- the event of a node, by two words
abbrev pub event_of : ℕ → Game → ℕ → ℕ → ℕ → Event
event_of players game a c node =
    if nat_lt (a % 16) 5
    then Build node (c % 2 ^ 18)
    else (
    if nat_lt (a % 16) 9
    then Send node ((node + 1 + c % (players - 1)) % players)
    else (if nat_lt (a % 16) 14 then delivery_or_run game node c else Run node))

-- none where every player has stopped
abbrev pub next_event : ℕ → Game → ℕ → ℕ → ℕ → Option Event
next_event players game a b c = option_map (event_of players game a c)
    (first_moving players game.stopped (b % players))

-- the event that the generator gives, by its next three words
abbrev pub scheduled : ℕ → Game → Lcg → Option Event
scheduled players game generator =
    next_event players game (word generator) (word (behind generator)) (word (behind (behind generator)))

abbrev pub behind_three : Lcg → Lcg
behind_three generator = behind (behind (behind generator))
