-- What becomes of a link that gives up a player: of its peers, of its runs, and of what it hands on.
use Rattle.std.specs.Prelude.{◌≡◌, ℕ, ◌&&◌, Bool, false, true, not, Option, Some, None, ℤ, List, [], ◌∷◌, ◌≤◌, ◌||◌, length, slice_index}
use Rattle.dn_tic.specs.declared.command.Move.{Move}
use Rattle.dn_machine.specs.{declared.answers.Ran.Ran, Sparing.on_run_but}
use Rattle.dn_lockstep.specs.{Steps.{RunsBy}, Told.{command_told}}
use Rattle.dn_survivor.specs.{declared.{report.Report.Report, answers.GivenUp.GivenUp}, OfOthers.{has, newest_of}, Calls.GivesUp, Surviving.Surviving, Telling.{MayRelay}}
use Rattle.dn_link.specs.{Relays.{Handed, IsHandedOn, handed_part}, Linked.{Linked, has_given_up, surviving_of}, declared.bundle.Part.{Part, TheVariants.Relay}, Text.IsRun, Linked.{HandsNewest, HasBehind}, Relays.{IsFrom}}
use Rattle.dn_link.specs.declared.bundle.Relay as relay

-- a run of a link, in which no mark is compared of players who are given up
abbrev pub RunsBut : List ℤ → Linked → Linked → (Ran → Option (List (Option Move)) → Type 0) → Type 0
RunsBut marks old new IsAnswer =
    RunsBy marks old.node new.node (λ limits m marks. on_run_but limits (has_given_up old) m marks) IsAnswer

-- a player is given up, or is not
abbrev pub GivesUpPeer : ℕ → Linked → Linked → GivenUp → Type 0
GivesUpPeer player old new answer =
    (now : Surviving) × GivesUp player (surviving_of old) now answer
    × (new ≡ record old { node = now.lockstep; others = now.others })

-- a report, if there is one, names a player as given up
abbrev pub names : Option Report → ℕ → Bool
names None player = false
names (Some report) player = has report.gone player

-- another has given up a player, as far as it reported; of one who is given up itself nothing counts
abbrev pub reports_gone : Linked → ℕ → ℕ → Bool
reports_gone link teller player = not (has_given_up link teller) && names (newest_of link.others teller) player

-- What a link hands on to a peer.

-- a player is not given up, or another has reported to have given it up too
abbrev pub shares_gone : Linked → ℕ → ℕ → Bool
shares_gone link to player = not (has_given_up link player) || reports_gone link to player

-- commands may be handed on to a peer
abbrev pub may_hand : Linked → ℕ → Bool
may_hand link to =
    not (has_given_up link to)
    && (shares_gone link to 0 && (shares_gone link to 1 && (shares_gone link to 2 && shares_gone link to 3)))

-- a run of a player who is not given up, of commands that the link has and the peer has not reported
pub record IsHandedFor (link : Linked) (to player : ℕ) (relay : relay.Relay) : Type 0 where
  pub handed : Handed
  pub is : Relay relay ≡ handed_part handed
  pub its : handed.player ≡ player
  pub on : IsHandedOn link.node to handed
  pub lacked : slice_index (link.peers to).reported handed.player ≤ handed.start
  pub some : 1 ≤ length handed.commands
  pub few : length handed.commands ≤ 24
  pub stays : has_given_up link handed.player ≡ false
  pub run : IsRun relay.run

-- a run is such a one, of a tic on, and has so many commands, or all up to one that is not told; or there is none
abbrev pub IsRunFor : Linked → (to player start most : ℕ) → Option relay.Relay → Type 0
IsRunFor link to player start most None = 1 ≤ most → command_told link.node player start ≡ None
IsRunFor link to player start most (Some relay) =
    (is : IsHandedFor link to player relay) × (is.handed.start ≡ start)
    × IsFrom link.node player start most is.handed.commands

-- it is the newest of the node's own commands
abbrev pub IsNewestFor : Linked → ℕ → Option relay.Relay → Type 0
IsNewestFor link to None = HandsNewest link to []
IsNewestFor link to (Some relay) =
    (is : IsHandedFor link to link.node.me relay) × HandsNewest link to (is.handed ∷ []) × MayRelay (surviving_of link) to

-- behind its own parts a datagram has runs of two players at most, and a brief one the newest of the node
abbrev pub HasTwoBehind : Linked → ℕ → Bool → (own all : List Part) → Type 0
HasTwoBehind link to brief own all =
    (behind : HasBehind link to 0 brief own all) × (length behind.handed ≤ 2)
    × (brief ≡ true → HandsNewest link to behind.handed)
