-- What a call on a lockstep does, and what it leads to, whatever session of two the lockstep was in.
use Rattle.std.specs.Prelude.{◌≡◌, ◌≢◌, ◌<◌, ◌≤◌, ◌++◌, ◌+◌, ℕ, ◌%◌, ◌==◌, ◌||◌, ◌&&◌, ℤ, pos, Bool, true, false, not, bit_and, List, [], ◌∷◌, length, Option, Some, None, IfSome, slice_get}
use Rattle.std.specs.Option.{option_map}
use Rattle.dn_tic.specs.declared.command.Move.{Move}
use Rattle.dn_tic.specs.declared.input.Command.{Command}
use Rattle.dn_tic.specs.declared.input.Input.TheVariants.{Given}
use Rattle.dn_packet.specs.Flags as flag
use Rattle.dn_setup.specs.Settings.{Settings}
use Rattle.dn_machine.specs.declared.answers.Heard.{Heard}
use Rattle.dn_machine.specs.declared.answers.Made.{Made}
use Rattle.dn_machine.specs.declared.answers.Ran.{Ran}
use Rattle.dn_machine.specs.Sending.{on_build}
use Rattle.dn_machine.specs.Flight.{Flight, is_close, is_request_close}
use Rattle.dn_machine.specs.Limits.{Limits}
use Rattle.dn_machine.specs.Node.{put}
use Rattle.dn_machine.specs.Running.{on_run, on_quit}
use Rattle.dn_lockstep.specs.declared.lockstep.aiming.Aim.{Aim}
use Rattle.dn_lockstep.specs.Contents.{Contents}
use Rattle.dn_lockstep.specs.Giving.{Gives, gives}
use Rattle.dn_lockstep.specs.Hearing.{HearsAny, HearsNear, Spares}
use Rattle.dn_lockstep.specs.Marking.{Marking}
use Rattle.dn_lockstep.specs.OneGame.{AreOneGame}
use Rattle.dn_lockstep.specs.Steps.{RunsBy}
use Rattle.dn_lockstep.specs.Sent.{sent_to, aim_of, bytes_of}
use Rattle.dn_lockstep.specs.OneGame.{Session}
use Rattle.dn_lockstep.specs.Steps.{Steps}
use Rattle.dn_lockstep.specs.Told.{made}
use Rattle.dn_engine_tests.specs.declared.calls.Parcel.{Parcel}

-- the callers' worlds count their rows, and each player's mark is what the count leaves by 128
abbrev pub counting : Marking
counting history player = pos (length history.rows % 128)

-- so these are the marks that they hand in at a run, once they counted so many rows
abbrev pub marks_at : ℕ → List ℤ
marks_at rows = pos (rows % 128) ∷ pos (rows % 128) ∷ pos (rows % 128) ∷ pos (rows % 128) ∷ []

-- a command is taken as the machine's node takes it; where none is made, nothing changes
pub record Takes (command : Command) (old new : Contents) (answer : Made) : Type 0 where
  pub step : Steps old new (λ limits me m. on_build limits me m (Given command)) (λ made. answer ≡ made)
  pub full : answer ≡ Made.Full → new ≡ old
  pub idle : answer ≡ Made.NotPlaying → new ≡ old

-- a tic is run as the machine's node runs it, by the marks of a world that counts its rows, and its row is
-- told; a lockstep that waits or does not play stays as it is
pub record RunsOn (old new : Contents) (answer : Ran) (row : Option (List (Option Move))) : Type 0 where
  pub step : RunsBy (marks_at old.ran) old new (λ limits m marks. on_run limits m marks)
      (λ ran told. (answer ≡ ran) × (row ≡ told))
  pub further : (tic : ℕ) → answer ≡ Ran.Ran tic → new.ran ≡ old.ran + 1
  pub waits : (player : ℕ) → answer ≡ Ran.Waiting player → (new ≡ old) × (row ≡ None)
  pub idle : answer ≡ Ran.NotPlaying → (new ≡ old) × (row ≡ None)

-- it leaves as the machine's node quits; one that had ended stays as it is
pub record Leaves (old new : Contents) (answer : Bool) : Type 0 where
  pub step : Steps old new (λ limits me m. on_quit m) (λ quit. answer ≡ quit)
  pub idle : answer ≡ false → new ≡ old

-- a packet as its sender's caller has it
abbrev pub parcel_of : ℕ → Flight → Parcel
parcel_of from flight =
    record { from = from; aim = aim_of flight; bytes = record { items = bytes_of flight } }

-- the bytes of a parcel, if there is one
abbrev pub bytes_in : Option Parcel → List ℕ
bytes_in None = []
bytes_in (Some parcel) = parcel.bytes.items

-- the packet that the machine's node sends is given to its caller, and nothing changes where there is none
pub record Sends (from to : ℕ) (old new : Contents) (parcel : Option Parcel) : Type 0 where
  pub step : Steps old new (λ limits me m. sent_to to limits me m)
      (λ flight. parcel ≡ option_map (parcel_of from) flight)
  pub peer : IfSome parcel (λ parcel. Gives old to)
  -- a packet has its head of eight bytes at least
  pub there : gives old to ≡ true → 8 ≤ length (bytes_in parcel)
  pub silent : gives old to ≡ false → (bytes_in parcel ≡ []) × (new ≡ old)

-- numbers that are near a lockstep that made so many commands: within 64, or those of a set-up packet
abbrev pub is_near_aim : ℕ → Aim → Bool
is_near_aim count aim = not (bit_and aim.flags flag.set_up == 0)
    || (is_close count aim.start && is_request_close count aim.ask)

-- bytes are heard as from this player, and what is dropped changes nothing
pub record Hears (from : ℕ) (bytes : List ℕ) (old new : Contents) (answer : Heard) : Type 0 where
  pub any : HearsAny from bytes old new answer
  pub near : HearsNear from bytes old new answer
  pub dropped : Spares old new answer

-- a parcel that is near is heard, and one that is far changes nothing
pub record HandsIn (parcel : Parcel) (old new : Contents) : Type 0 where
  pub near : is_near_aim (made old) parcel.aim ≡ true
      → (answer : Heard) × Hears parcel.from parcel.bytes.items old new answer
  pub far : is_near_aim (made old) parcel.aim ≡ false → new ≡ old

-- and where there is none, nothing changes
abbrev pub Hands : Option Parcel → Contents → Contents → Type 0
Hands None old new = new ≡ old
Hands (Some parcel) old new = HandsIn parcel old new

-- the sender's next packet is handed in, then the late one, and then the next one again, which is the late one
-- from then on
pub record Passes (from to : ℕ) (sender sender_after receiver receiver_after : Contents)
    (late late_after : Option Parcel) : Type 0 where
  pub sends : Sends from to sender sender_after late_after
  pub one : Contents
  pub two : Contents
  pub first : Hands late_after receiver one
  pub second : Hands late one two
  pub third : Hands late_after two receiver_after

-- the session goes on to this one
abbrev pub LeadsTo : Contents → (Session → ℕ → Session) → Type 0
LeadsTo old next =
    (limits : Limits) (settings : Settings) (session : Session) (player : ℕ)
    → AreOneGame counting limits settings session → limits.players ≡ 2 → player < limits.players
    → session.locksteps player ≡ old → AreOneGame counting limits settings (next session player)

-- the parcel has one of the packets that were given, and it is for this player
pub record IsFor (given : List Flight) (to : ℕ) (parcel : Parcel) : Type 0 where
  pub which : ℕ
  pub flight : Flight
  pub found : slice_get given which ≡ Some flight
  pub sender : flight.from ≡ parcel.from
  pub receiver : flight.to ≡ to
  pub aim : parcel.aim ≡ aim_of flight
  pub bytes : parcel.bytes.items ≡ bytes_of flight

abbrev pub AreFor : List Flight → ℕ → Option Parcel → Type 0
AreFor given to parcel = IfSome parcel (λ parcel. IsFor given to parcel)

-- what is so of a session after packets passed: no input was taken and no row told, and what was given before
-- is found where it was
pub record PassesTo (session next : Session) : Type 0 where
  pub inputs : next.inputs ≡ session.inputs
  pub told : next.told ≡ session.told
  pub given : (more : List Flight) × (next.given ≡ session.given ++ more)

-- one lockstep's packets go to another, in whatever session the two were
abbrev pub PassesOn : (from to : ℕ) (sender sender_after receiver receiver_after : Contents)
    (late late_after : Option Parcel) → Type 0
PassesOn from to sender sender_after receiver receiver_after late late_after =
    (limits : Limits) (settings : Settings) (session : Session)
    → AreOneGame counting limits settings session → from < limits.players → to < limits.players → from ≢ to
    → session.locksteps from ≡ sender → session.locksteps to ≡ receiver → AreFor session.given to late
    → (next : Session) × AreOneGame counting limits settings next × PassesTo session next
    × (next.locksteps ≡ put (put session.locksteps from sender_after) to receiver_after)
    × AreFor next.given to late_after
