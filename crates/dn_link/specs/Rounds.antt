-- Rounds of the links of a game, of those who play.
use Rattle.std.specs.Prelude.{◌≡◌, ◌≢◌, ◌<◌, ◌≤◌, ◌+◌, ◌⊎◌, ℕ, suc, Bool, false, true, ℤ, List, Option, Some, length}
use Rattle.dn_tic.specs.{declared.command.Move.Move, declared.input.Input.Input}
use Rattle.dn_setup.specs.Settings.{Settings}
use Rattle.dn_machine.specs.{declared.answers.Made.Made, declared.answers.Phase.TheVariants.Playing, declared.answers.Ran.Ran, Limits.Limits}
use Rattle.dn_lockstep.specs.{Told.Builds, Told.got, Told.made, Marking.Marking}
use Rattle.dn_survivor.specs.OneGame.{Session}
use Rattle.dn_seal.specs.declared.seal.Seal.{Seal}
use Rattle.dn_link.specs.{declared.received.Received.Received, Counting.has_ended, Counting.has_of, RemainingLinks.AreRemainingLinks, RemainingLinks.IsGenuineIn, RemainingLinks.IsLater, Surviving.RunsBut, CaughtUp.AreCaughtUp, CaughtUp.HasGrown, CaughtUp.IsInStepTo, CaughtUp.next_to, Linked.Gives, Linked.Linked, Linked.Receives, Pacing.PaceState, Pacing.{is_brief}}

-- the links of a game from one moment to another, in which each player plays, still at the last moment, or has left
-- before. From each moment to the next they grow, as they do by any calls on them (`links_stay_caught_up`), in a later
-- session
pub record Stretch (marking : Marking) (limits : Limits) (settings : Settings) (last : ℕ) : Type 0 where
  pub sessions : ℕ → Session
  pub links : ℕ → ℕ → Linked
  pub left : ℕ → Bool
  pub are : (moment : ℕ) → moment ≤ last → AreRemainingLinks marking limits settings (sessions moment) (links moment)
  pub caught_up : (moment : ℕ) → moment ≤ last → AreCaughtUp limits (links moment)
  pub grows : (moment : ℕ) → moment < last → HasGrown limits (links moment) (links (suc moment))
  pub plays : (player : ℕ) → player < limits.players → left player ≡ false → (links last player).node.phase ≡ Playing
  pub ended : (player : ℕ) → player < limits.players → left player ≡ true → has_ended (links 0 player).node ≡ true
  pub later : (moment : ℕ) → moment < last → IsLater (sessions moment) (sessions (suc moment))

-- one of its players plays
abbrev pub Plays : {marking : Marking} {limits : Limits} {settings : Settings} {last : ℕ}
    → Stretch marking limits settings last → ℕ → Type 0
Plays {marking} {limits} {settings} {last} stretch player = (player < limits.players) × (stretch.left player ≡ false)

-- at a moment a player's link is asked for a command
abbrev pub MakesAt : (ℕ → ℕ → Linked) → ℕ → ℕ → Type 0
MakesAt links moment player =
    (input : Input) × (made : Made)
    × Builds (links moment player).node (links (suc moment) player).node input made

-- it is asked to run a tic, and waits for a player
abbrev pub WaitsAt : (ℕ → ℕ → Linked) → ℕ → ℕ → Type 0
WaitsAt links moment player =
    (marks : List ℤ) × (other : ℕ) × (row : Option (List (Option Move)))
    × RunsBut marks (links moment player) (links (suc moment) player)
    (λ answer told. (Ran.Waiting other ≡ answer) × (row ≡ told))

-- in each of its rounds the link of a player that plays is asked for a command, and later runs tics until it waits
pub record AreRounds {marking : Marking} {limits : Limits} {settings : Settings} {last : ℕ}
    (stretch : Stretch marking limits settings last) (rounds : ℕ) : Type 0 where
  pub built : ℕ → ℕ → ℕ
  pub waited : ℕ → ℕ → ℕ
  pub builds : (round player : ℕ) → round < rounds → Plays stretch player → MakesAt stretch.links (built round player) player
  pub waits : (round player : ℕ) → round < rounds → Plays stretch player → WaitsAt stretch.links (waited round player) player
  pub within : (round player : ℕ) → round < rounds → Plays stretch player
      → (built round player < waited round player) × (waited round player < last)
  pub later : (round player : ℕ) → suc round < rounds → Plays stretch player
      → waited round player < built (suc round) player

-- datagrams that a player gives a peer, one after the other. From one to the next it makes eleven commands at most, and
-- at the first one it has made twelve at most from the tic on from which the peer is to be sent them
pub record Datagrams {marking : Marking} {limits : Limits} {settings : Settings} {last : ℕ}
    (stretch : Stretch marking limits settings last) (seal : Seal) (player peer : ℕ) : Type 0 where
  pub count : ℕ
  pub given : ℕ → ℕ
  pub pace : ℕ → PaceState
  pub bytes : ℕ → List ℕ
  pub inside : (which : ℕ) → which < count → given which < last
  pub later : (which : ℕ) → suc which < count → given which < given (suc which)
  pub gives : (which : ℕ) → which < count → Gives seal (pace which) peer (stretch.links (given which) player)
      (stretch.links (suc (given which)) player) (bytes which)
  pub first : 0 < count
      → made (stretch.links (given 0) player).node ≤ next_to (stretch.links (given 0) player).node peer + 12
  pub few : (which : ℕ) → suc which < count
      → made (stretch.links (given (suc which)) player).node ≤ made (stretch.links (given which) player).node + 11

-- of these one of k rounds, from this one on, is taken in by the peer before it waits in its round d later. It is no
-- brief one; and what comes was sealed in this game in step
pub record Arrives {marking : Marking} {limits : Limits} {settings : Settings} {last : ℕ}
    {stretch : Stretch marking limits settings last} {count : ℕ} (rounds : AreRounds stretch count) {seal : Seal}
    {player peer : ℕ} (datagrams : Datagrams stretch seal player peer) (k d first : ℕ) : Type 0 where
  pub round : ℕ
  pub which : ℕ
  pub taken : ℕ
  pub from : first ≤ round
  pub below : round < first + k
  pub one : which < datagrams.count
  pub built : rounds.built round player < datagrams.given which
  pub comes : datagrams.given which < taken
  pub waited : taken < rounds.waited (round + d) peer
  pub full : is_brief (datagrams.pace which) peer ≡ false
  pub size : length (datagrams.bytes which) ≤ 1200
  pub answer : Received
  pub genuine : IsGenuineIn seal (stretch.sessions taken) peer (datagrams.bytes which)
  pub in_step : IsInStepTo seal limits (stretch.links taken) peer (datagrams.bytes which)
  pub takes : Receives seal (datagrams.bytes which) (stretch.links taken peer) (stretch.links (suc taken) peer) answer

-- the line to a peer lets one datagram of any k rounds through, at most d rounds late
abbrev pub IsFairLine : {marking : Marking} {limits : Limits} {settings : Settings} {last : ℕ}
    {stretch : Stretch marking limits settings last} {count : ℕ} → AreRounds stretch count → Seal
    → (k d player peer : ℕ) → Type 0
IsFairLine {marking} {limits} {settings} {last} {stretch} {count} rounds seal k d player peer =
    (datagrams : Datagrams stretch seal player peer)
    × ((first : ℕ) → first + k + d ≤ count → Arrives rounds datagrams k d first)

-- a player has left, and a peer had all of its commands, and its end, at the first moment
abbrev pub IsKnown : {marking : Marking} {limits : Limits} {settings : Settings} {last : ℕ}
    → Stretch marking limits settings last → (player peer : ℕ) → Type 0
IsKnown {marking} {limits} {settings} {last} stretch player peer =
    (stretch.left player ≡ true)
    × (got (stretch.links 0 player).node player + 1 ≤ has_of (stretch.links 0 peer).node player)

-- the lines to those who play do, but from whom they know to have left; and if any other has left, the window is
-- eleven at most
abbrev pub AreFairLines : {marking : Marking} {limits : Limits} {settings : Settings} {last : ℕ}
    {stretch : Stretch marking limits settings last} {count : ℕ} → AreRounds stretch count → Seal → ℕ → ℕ → Type 0
AreFairLines {marking} {limits} {settings} {last} {stretch} {count} rounds seal k d =
    (player peer : ℕ) → player < limits.players → Plays stretch peer → peer ≢ player → IsKnown stretch player peer
    ⊎ ((stretch.left player ≡ true → limits.ahead ≤ 11) × IsFairLine rounds seal k d player peer)
