-- A packet that was opened comes to a lockstep.
use Rattle.std.specs.Prelude.{◌≡◌, ℕ, Some, slice_get}
use Rattle.dn_setup.specs.Settings.{Settings}
use Rattle.dn_machine.specs.Flight.{Flight}
use Rattle.dn_machine.specs.Limits.{Limits}
use Rattle.dn_lockstep.specs.Contents.{Contents}
use Rattle.dn_lockstep.specs.Marking.{Marking}
use Rattle.dn_lockstep.specs.OneGame.{AreOneGame, Session, beside, with_lockstep}
use Rattle.dn_lockstep.specs.Told.{made}
use Rattle.dn_seal.specs.declared.opened.Opened.{Opened}
use Rattle.dn_open.specs.Arrivals.{IsDeliveredAs}
use Rattle.dn_open.specs.Sealed.{opened_of}
use Rattle.dn_open.specs.declared.hearing.Arrived.{Arrived}

-- whatever session the lockstep was in, if the packet was given in it to this player, the session goes on
abbrev pub OpensOn : Opened → Contents → Contents → Type 0
OpensOn opened old new =
    (marking : Marking) (limits : Limits) (settings : Settings) (session : Session) (which : ℕ) (flight : Flight)
    → AreOneGame marking limits settings session → slice_get session.given which ≡ Some flight
    → session.locksteps flight.to ≡ old → opened_of flight ≡ opened
    → AreOneGame marking limits settings (with_lockstep session flight.to new)

-- and the answer is that of the packet's delivery in the game, or that it is late
abbrev pub AnswersAs : Opened → Contents → Arrived → Type 0
AnswersAs opened old answer =
    (marking : Marking) (limits : Limits) (settings : Settings) (session : Session) (which : ℕ) (flight : Flight)
    → (game : AreOneGame marking limits settings session) → slice_get session.given which ≡ Some flight
    → session.locksteps flight.to ≡ old → opened_of flight ≡ opened
    → IsDeliveredAs (beside marking limits) game.last (made old) which flight answer
