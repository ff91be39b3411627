-- What the calls on a link do.
use Rattle.std.specs.Prelude.{◌≡◌, ℕ, ℤ, List, Option, None, Some, IfSome, is_some, if◌then◌else◌}
use Rattle.arrayvec.specs.ArrayVec.{ArrayVec}
use Rattle.dn_lockstep.specs.Contents.{Contents}
use Rattle.dn_lockstep.specs.Sent.{IsFair, sent_to}
use Rattle.dn_lockstep.specs.Steps.{Steps, Tells}
use Rattle.dn_lockstep.specs.declared.lockstep.settling.Settled.{Settled}
use Rattle.dn_machine.specs.declared.answers.Made.{Made}
use Rattle.dn_machine.specs.declared.answers.Made.TheVariants.{Full, NotPlaying}
use Rattle.dn_machine.specs.declared.answers.Ran.{Ran}
use Rattle.dn_machine.specs.Sending.{on_build}
use Rattle.dn_tic.specs.declared.input.Input.{Input}
use Rattle.dn_tic.specs.declared.command.Move.{Move}
use Rattle.dn_survivor.specs.declared.answers.GivenUp.{GivenUp}
use Rattle.dn_link.specs.declared.bundle.BundleFault.{BundleFault}
use Rattle.dn_link.specs.declared.received.Received.{Received}
use Rattle.dn_link.specs.declared.tally.Figures.{Figures}
use Rattle.dn_link.specs.Leaning.{IsLean}
use Rattle.dn_link.specs.Linked.{figures_of, IsWhole, Linked, Gives, Receives, has_given_up, is_peer, remains}
use Rattle.dn_link.specs.Pace.{Paces, after_giving, after_input, after_tick, lean, still_owed}
use Rattle.dn_link.specs.Pacing.{PaceState}
use Rattle.dn_link.specs.Surviving.{GivesUpPeer}
use Rattle.zirmegat.specs.declared.link_answers.GiveUpAnswer.{GiveUpAnswer}
use Rattle.zirmegat.specs.declared.link_answers.ReceivedAnswer.{ReceivedAnswer}
use Rattle.zirmegat.specs.{Calls.IsPut, Going.Builds, Going.Runs, Going.RunsBut, Joined.Joined, Locksteps.made_code}

-- what it has in common with the others stays
abbrev pub StaysOf : Joined → Joined → Type 0
StaysOf n k = k.seal ≡ n.seal

-- its lockstep takes a step, and its pace another; whom it has given up and what it keeps of its peers stay
abbrev pub Moves : (Contents → Contents → Type 0) → (PaceState → PaceState → Type 0) → Joined → Joined → Type 0
Moves Step Paced n k =
    Step n.link.node k.link.node × (k.link.others ≡ n.link.others) × (k.link.peers ≡ n.link.peers)
    × Paced n.pace k.pace × StaysOf n k

-- it makes the command of an input, owes it, or does not play
abbrev pub BuildsOf : Input → Joined → Joined → Made → Type 0
BuildsOf input n k made =
    Moves (λ n k. Builds input n k made) (λ old new. new ≡ after_input input made old) n k

-- it makes the command that is owed, if one is; where it makes none, its lockstep stays as it is
abbrev pub CatchesUp : Joined → Joined → Option Made → Type 0
CatchesUp n k answer =
    (n.pace.owed ≡ None → (answer ≡ None) × (k.link ≡ n.link) × (k.pace ≡ n.pace))
    × ((input : Input) → n.pace.owed ≡ Some input → (made : Made) × (answer ≡ Some made)
    × Steps n.link.node k.link.node (λ limits me m. on_build limits me m input) (λ told. made ≡ told)
    × (k.pace ≡ record n.pace { owed = still_owed made n.pace.owed }))
    × (answer ≡ Some Full → k.link.node ≡ n.link.node) × (answer ≡ Some NotPlaying → k.link.node ≡ n.link.node)
    × (k.link.others ≡ n.link.others) × (k.link.peers ≡ n.link.peers) × StaysOf n k

-- it runs a tic, but compares no mark of players who are given up: as any node, where nobody is
abbrev pub RunsOf : List ℤ → Linked → Contents → Contents → Ran → Option (List (Option Move)) → Type 0
RunsOf marks link old new ran row =
    (IsWhole link → Runs marks old new ran row) × RunsBut (has_given_up link) marks old new ran row

-- it gives each peer who is not given up a datagram, which no other number gets, and for which it stays as it
-- is
abbrev pub GivesOut : ℕ → List ℕ → List ℕ → ℕ → Joined → Joined → Type 0
GivesOut to room written count n k =
    (given : Option (ArrayVec ℕ)) × (is_some given ≡ remains n.link to)
    × IfSome given (λ bytes. Gives n.seal n.pace to n.link k.link bytes.items
    × Tells n.link.node (λ limits me m. IfSome (sent_to to limits me m).1 IsFair))
    × (given ≡ None → k.link ≡ n.link) × IsPut given room written count × (k.pace ≡ after_giving n.link to n.pace) × StaysOf n k

-- it takes in any bytes
abbrev pub TakesBytes : List ℕ → Joined → Joined → Received → Type 0
TakesBytes bytes n k answer =
    Receives n.seal bytes n.link k.link answer × Paces n.seal bytes n.link n.pace k.pace × StaysOf n k

-- a tick goes by
abbrev pub Leans : Joined → Joined → ℤ → Type 0
Leans n k answer =
    (answer ≡ lean n.link n.pace) × IsLean answer × (k.link ≡ n.link) × (k.pace ≡ after_tick n.link n.pace) × StaysOf n k

-- a player is given up for good
abbrev pub GivesUpIn : ℕ → Joined → Joined → GivenUp → Type 0
GivesUpIn player n k answer = GivesUpPeer player n.link k.link answer × (k.pace ≡ n.pace) × StaysOf n k

-- why bytes are no datagram of a link; 0 is for no link
abbrev pub bundle_code : BundleFault → ℕ
bundle_code BundleFault.Short = 1
bundle_code BundleFault.Long = 2
bundle_code BundleFault.Suite = 3
bundle_code BundleFault.Kind = 4
bundle_code BundleFault.Game = 5
bundle_code BundleFault.Receiver = 6
bundle_code BundleFault.Tag = 7
bundle_code BundleFault.Form = 8

abbrev pub received_at : ℕ → ℕ → ℕ → ReceivedAnswer
received_at code reason player = record { code = code; reason = reason; player = player }

abbrev pub received_told : Received → ReceivedAnswer
received_told (Received.Heard player) = received_at 1 0 player
received_told (Received.Stranger player) = received_at 2 0 player
received_told (Received.GivenUp player) = received_at 3 0 player
received_told (Received.Excluded player) = received_at 4 0 player
received_told (Received.Unopened fault) = received_at 0 (bundle_code fault) 0

-- what came of a command that was owed: it is not possible to make none
abbrev pub owed_code : Option Made → ℕ
owed_code None = 5
owed_code (Some made) = made_code made

-- why an end cannot be taken
abbrev pub settled_code : Settled → ℕ
settled_code (Settled.Taken count) = 0
settled_code Settled.NotAPlayer = 1
settled_code Settled.NotPlaying = 2
settled_code Settled.Gap = 3
settled_code Settled.Behind = 4
settled_code Settled.Overrun = 5
settled_code Settled.Stopper = 6
settled_code Settled.OtherEnd = 7

abbrev pub give_up_at : ℕ → ℕ → ℕ → GiveUpAnswer
give_up_at code reason player = record { code = code; reason = reason; player = player }

abbrev pub give_up_told : GivenUp → GiveUpAnswer
give_up_told GivenUp.NotPlaying = give_up_at 0 0 0
give_up_told GivenUp.Waiting = give_up_at 1 0 0
give_up_told GivenUp.Decided = give_up_at 2 0 0
give_up_told (GivenUp.Untaken player reason) = give_up_at 3 (settled_code reason) player
give_up_told GivenUp.Already = give_up_at 4 0 0
give_up_told GivenUp.NotAPlayer = give_up_at 5 0 0

-- why a peer has left, if its datagrams told
abbrev pub left_of : ℕ → Linked → Option ℕ
left_of player link = if is_peer link.node player then (link.peers player).left else None

abbrev pub figures_at : ℕ → Joined → Option Figures
figures_at player n =
    if is_peer n.link.node player then Some (figures_of (n.pace.lines player)) else None
