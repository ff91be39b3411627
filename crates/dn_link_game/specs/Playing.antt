-- A player of a game of links, in whatever session of the game its link is, and what its caller has seen of it.
use Rattle.std.specs.Prelude.{◌≡◌, ◌<◌, ℕ, List, [], Option, Some, None, IfSome, fold, Bool, false, true, if◌then◌else◌}
use Rattle.arrayvec.specs.ArrayVec.{ArrayVec}
use Rattle.dn_tic.specs.declared.{command.Move.Move, input.Input.Input}
use Rattle.dn_setup.specs.Settings.{Settings}
use Rattle.dn_world.specs.Physics.{Physics}
use Rattle.dn_machine.specs.{declared.answers.Made.Made, Limits.Limits, Node.put}
use Rattle.dn_lockstep.specs.{Marking.{History, Marking}, OneGame.{world_told, taken_on, told_on}}
use Rattle.dn_survivor.specs.{OneGame.Session, declared.answers.GivenUp.GivenUp}
use Rattle.dn_link.specs.{Linked.{Linked, has_given_up}, Linking.{linked, seal_of}, Pace.still_owed, Pacing.pace_of, RemainingLinks.{AreRemainingLinks, IsGenuineIn, StayRemaining, WasSealedIn}}
use Rattle.dn_link_game.specs.declared.{calls.{LinkCall.{LinkCall, TheVariants.{Build, CatchUp, GiveUp, Receive, Run, Send}}, LinkDone.LinkDone}, player.Player.Player}

-- the world that began so, with these seats taken, and was stepped by these rows
abbrev pub world_by : {S : Type 0} → Physics S → History → S
world_by physics history = fold physics.step (physics.begin history.start history.present) history.rows

-- and its marks
abbrev pub marking_of : {S : Type 0} → Physics S → Marking
marking_of physics history player = physics.mark (world_by physics history) player

-- What a player's caller has seen: the inputs of which commands were made, in order, the one of which a command is
-- owed, the rows that were told, and which players were given up.
pub record Seen : Type 0 where
  pub inputs : List Input
  pub owed : Option Input
  pub rows : List (List (Option Move))
  pub gone : ℕ → Bool

abbrev pub nothing_seen : Seen
nothing_seen = record { inputs = []; owed = None; rows = []; gone = λ player. false }

-- an input came: a command was made of it, or is owed, for want of room; an earlier one that was owed is dropped
abbrev pub taking : Input → Made → Seen → Seen
taking input made seen =
    record seen { inputs = taken_on seen.inputs input made; owed = still_owed made (Some input) }

-- the input that is owed comes again, if one is
abbrev pub taking_owed : Option Input → Option Made → Seen → Seen
taking_owed (Some input) (Some made) seen = taking input made seen
taking_owed _ _ seen = seen

-- a row was told, if one was
abbrev pub telling : Option (List (Option Move)) → Seen → Seen
telling row seen = record seen { rows = told_on seen.rows row }

-- a give-up with this answer was taken; one that is refused changes nothing
abbrev pub is_taken : GivenUp → Bool
is_taken GivenUp.Waiting = true
is_taken GivenUp.Decided = true
is_taken (GivenUp.Untaken player reason) = true
is_taken refused = false

-- whom its player gave up is given up for good. That another reports to have given up somebody does not count here
abbrev pub giving_up : ℕ → GivenUp → Seen → Seen
giving_up player answer seen =
    record seen { gone = if is_taken answer then put seen.gone player true else seen.gone }

-- what is seen after a call with this answer
abbrev pub sees : LinkCall → LinkDone → Seen → Seen
sees (Build input) (LinkDone.Built made) seen = taking input made seen
sees CatchUp (LinkDone.CaughtUp made) seen = taking_owed seen.owed made seen
sees Run (LinkDone.Ran ran row) seen = telling row seen
sees (GiveUp player) (LinkDone.GivenUp answer) seen = giving_up player answer seen
sees _ _ seen = seen

-- a call asks for a datagram
abbrev pub is_send : LinkCall → Bool
is_send (Send to what) = true
is_send call = false

-- the answer tells that a datagram was given
abbrev pub gives : LinkDone → Bool
gives (LinkDone.Sent given) = given
gives _ = false

-- the inputs and rows of a session are those that the players' callers have seen
pub record IsAsSeen (session : Session) (seen : ℕ → Seen) : Type 0 where
  pub inputs : session.inputs ≡ (λ player. (seen player).inputs)
  pub rows : session.told ≡ (λ player. (seen player).rows)

-- a player has this link, which owes what was seen and has given up whom it was seen to, and its world began with the
-- settings' start and was stepped by the rows that were seen
pub record IsPlayer {W S : Type 0} (state : W → S) (physics : Physics S) (limits : Limits) (settings : Settings)
    (seen : Seen) (its : Linked) (p : Player W) : Type 0 where
  pub link : its ≡ linked p.link
  pub owed : (pace_of p.link).owed ≡ seen.owed
  pub gone : (other : ℕ) → has_given_up (linked p.link) other ≡ seen.gone other
  pub world : state p.world ≡ world_by physics (world_told limits settings seen.rows)

-- what is asked where bytes come in: if the player opens them, they were sealed in this session before
abbrev pub Asked : {W : Type 0} → LinkCall → Player W → Session → ℕ → Type 0
Asked (Receive bytes) p session me = IsGenuineIn (seal_of p.link) session me bytes.now
Asked call p session me = Unit {0}

-- a player is one of the same game in a later session, in which it gave this datagram, if it gave one, and in which
-- nobody else is seen to have done anything
pub record GoesTo {W S : Type 0} (state : W → S) (physics : Physics S) (limits : Limits) (settings : Settings)
    (session : Session) (links : ℕ → Linked) (me : ℕ) (seen : ℕ → Seen) (new : Player W)
    (given : Option (ArrayVec ℕ)) (after : Seen) : Type 0 where
  pub later : Session
  pub as_seen : IsAsSeen later (put seen me after)
  pub sealed : IfSome given (λ bytes. WasSealedIn (seal_of new.link) later bytes.items)
  pub stays : StayRemaining (marking_of physics) limits settings session links me (linked new.link) later
  pub player : IsPlayer state physics limits settings after (linked new.link) new

-- a call goes on so with whatever game the player's link was in, if this held before
abbrev pub GoesOnIf : {W S : Type 0} → (W → S) → Physics S → Player W → Player W → (Session → ℕ → Type 0)
    → Option (ArrayVec ℕ) → (Seen → Seen) → Type 0
GoesOnIf state physics old new Holds given after =
    (limits : Limits) (settings : Settings) (session : Session) (links : ℕ → Linked) (me : ℕ) (seen : ℕ → Seen)
    → AreRemainingLinks (marking_of physics) limits settings session links → me < limits.players
    → IsAsSeen session seen → IsPlayer state physics limits settings (seen me) (links me) old → Holds session me
    → GoesTo state physics limits settings session links me seen new given (after (seen me))

abbrev pub GoesOn : {W S : Type 0} → (W → S) → Physics S → Player W → Player W → Option (ArrayVec ℕ) → (Seen → Seen)
    → Type 0
GoesOn state physics old new = GoesOnIf state physics old new (λ session me. Unit {0})
