-- What a call on a player does: it is that of its link, and its world is stepped by the row that a run tells.
use Rattle.std.specs.Prelude.{◌≡◌, ◌<◌, ℕ, ℤ, pos, List, [], ◌∷◌, ◌++◌, Option, Some, None, IfSome, Result, Ok, if◌then◌else◌, get_or, is_some, set, slice_get}
use Rattle.std.specs.Option.{option_map}
use Rattle.arrayvec.specs.ArrayVec.{ArrayVec}
use Rattle.dn_tic.specs.declared.{command.Move.Move, input.Input.Input}
use Rattle.dn_world.specs.Physics.{Physics}
use Rattle.dn_machine.specs.{Running.on_quit, declared.answers.{Made.Made, Ran.Ran}}
use Rattle.dn_lockstep.specs.{Steps.Steps, Told.Builds}
use Rattle.dn_link.specs.{Linked.{Gives, Receives, exclusion_for, probe_for, probed, remains}, Linking.{linked, seal_of}, Pace.{Paces, after_giving, after_input, after_tick, lean, still_owed}, Pacing.pace_of, Surviving.{GivesUpPeer, RunsBut}}
use Rattle.dn_link_game.specs.declared.calls.{LinkCall.{LinkCall, TheVariants.{Build, CatchUp, GiveUp, Quit, Receive, Run, Send, Tick}}, LinkDone.LinkDone, Sending.TheVariants.{Datagram, Probe, Exclusion}}
use Rattle.dn_link.specs.declared.received.Received.{Received}
use Rattle.dn_link_game.specs.{Headline.HasPlayer, declared.{calls.{LinkEvent.{LinkEvent, TheVariants.{Call, Deliver}}, LinkRefusal.LinkRefusal}, game.LinkGame.LinkGame, player.Player.Player}}

-- a step of the link's lockstep alone, beside its pace
abbrev pub IsAlone : {W : Type 0} → Player W → Player W → Type 0
IsAlone old new = ((linked new.link).others ≡ (linked old.link).others)
    × ((linked new.link).peers ≡ (linked old.link).peers) × (new.world ≡ old.world)

-- the command that is owed is made, or there is no room for it yet, or the link plays no more; or none is owed
abbrev pub CatchesUp : {W : Type 0} → Option Made → Player W → Player W → Type 0
CatchesUp answer old new =
    ((pace_of old.link).owed ≡ None
    → (answer ≡ None) × (linked new.link ≡ linked old.link) × (pace_of new.link ≡ pace_of old.link))
    × ((input : Input) → (pace_of old.link).owed ≡ Some input → (made : Made) × (answer ≡ Some made)
    × Builds (linked old.link).node (linked new.link).node input made
    × (pace_of new.link ≡ record (pace_of old.link) { owed = still_owed made (pace_of old.link).owed }))

-- a tic is run, or not, by the marks of the world, which is stepped by the row that is told
abbrev pub Runs : {W S : Type 0} → (W → S) → Physics S → Ran → Option (List (Option Move)) → Player W → Player W → Type 0
Runs state physics ran row old new =
    (marks : List ℤ) × ((player : ℕ) → player < 4 → get_or marks player (pos 0) ≡ physics.mark (state old.world) player)
    × RunsBut marks (linked old.link) (linked new.link) (λ answer told. (ran ≡ answer) × (row ≡ told))
    × ((linked new.link).others ≡ (linked old.link).others) × ((linked new.link).peers ≡ (linked old.link).peers)
    × (pace_of new.link ≡ pace_of old.link) × (row ≡ None → new.world ≡ old.world)
    × ((told : List (Option Move)) → row ≡ Some told → state new.world ≡ physics.step (state old.world) told)

-- bytes are received
abbrev pub Hears : {W : Type 0} → List ℕ → Received → Player W → Player W → Type 0
Hears bytes answer old new = Receives (seal_of old.link) bytes (linked old.link) (linked new.link) answer
    × Paces (seal_of old.link) bytes (linked old.link) (pace_of old.link) (pace_of new.link) × (new.world ≡ old.world)

-- what a call does to a player, with this answer, and with this datagram if it gave one
abbrev pub Does : {W S : Type 0} → (W → S) → Physics S → LinkCall → LinkDone → Option (ArrayVec ℕ) → Player W → Player W
    → Type 0
Does state physics (Build input) (LinkDone.Built made) given old new =
    Builds (linked old.link).node (linked new.link).node input made
    × (pace_of new.link ≡ after_input input made (pace_of old.link)) × IsAlone old new
Does state physics CatchUp (LinkDone.CaughtUp answer) given old new = CatchesUp answer old new × IsAlone old new
Does state physics Tick (LinkDone.Ticked by) given old new =
    (by ≡ lean (linked old.link) (pace_of old.link)) × (linked new.link ≡ linked old.link)
    × (pace_of new.link ≡ after_tick (linked old.link) (pace_of old.link)) × (new.world ≡ old.world)
Does state physics Run (LinkDone.Ran ran row) given old new = Runs state physics ran row old new
Does state physics (Send to Datagram) (LinkDone.Sent sent) given old new =
    IfSome given (λ bytes. Gives (seal_of old.link) (pace_of old.link) to (linked old.link) (linked new.link) bytes.items)
    × (is_some given ≡ remains (linked old.link) to) × (given ≡ None → linked new.link ≡ linked old.link)
    × (pace_of new.link ≡ after_giving (linked old.link) to (pace_of old.link)) × (new.world ≡ old.world)
Does state physics (Send to Probe) (LinkDone.Sent sent) given old new =
    (option_map (λ (bytes : ArrayVec ℕ). bytes.items) given
    ≡ probe_for (seal_of old.link) (pace_of old.link) (linked old.link) to)
    × (linked new.link ≡ (if remains (linked old.link) to then probed (linked old.link) to else linked old.link))
    × (pace_of new.link ≡ pace_of old.link) × (new.world ≡ old.world)
Does state physics (Send to Exclusion) (LinkDone.Sent sent) given old new =
    (option_map (λ (bytes : ArrayVec ℕ). bytes.items) given ≡ exclusion_for (seal_of old.link) (linked old.link) to)
    × (new ≡ old)
Does state physics (Receive bytes) (LinkDone.Received answer) given old new =
    Hears bytes.now answer old new
Does state physics (GiveUp peer) (LinkDone.GivenUp answer) given old new =
    GivesUpPeer peer (linked old.link) (linked new.link) answer × (pace_of new.link ≡ pace_of old.link)
    × (new.world ≡ old.world)
Does state physics Quit (LinkDone.Quit quit) given old new =
    Steps (linked old.link).node (linked new.link).node (λ limits me m. on_quit m) (λ answer. quit ≡ answer)
    × (pace_of new.link ≡ pace_of old.link) × IsAlone old new
Does state physics call answer given old new = ⊥

-- in a game this is done to one player, and the others stay as they are
abbrev pub IsDoneTo : {W : Type 0} → ℕ → (Player W → Player W → Type 0) → LinkGame W → LinkGame W → Type 0
IsDoneTo {W} player Done old new = (before after : Player W) × HasPlayer old player before
    × (new.players.items ≡ set old.players.items player after) × (seal_of after.link ≡ seal_of before.link)
    × Done before after

-- one datagram more was given, or none
abbrev pub with_one : List (ArrayVec ℕ) → Option (ArrayVec ℕ) → List (ArrayVec ℕ)
with_one given None = given
with_one given (Some bytes) = given ++ bytes ∷ []

-- what an event does, if it is not refused
abbrev pub DoesEvent : {W S : Type 0} → (W → S) → Physics S → LinkEvent → Result LinkDone LinkRefusal → LinkGame W
    → LinkGame W → Type 0
DoesEvent state physics (Call player call) (Ok done) old new =
    (given : Option (ArrayVec ℕ)) × (new.given.items ≡ with_one old.given.items given)
    × IsDoneTo player (Does state physics call done given) old new
DoesEvent state physics (Deliver player which) (Ok done) old new =
    (bytes : ArrayVec ℕ) × (slice_get old.given.items which ≡ Some bytes) × (new.given.items ≡ old.given.items)
    × (answer : Received) × (done ≡ LinkDone.Received answer)
    × IsDoneTo player (Hears bytes.items answer) old new
DoesEvent state physics event refused old new = Unit {0}
