-- What a call does to a handle, by what it does to what the handle held.
use Rattle.std.proofs.Common.{◌≡◌, ℕ, ◌+◌, ap, refl, sym, subst}
use Rattle.std.specs.Prelude.{Option, Some}
use Rattle.std.specs.Option.{option_map}
use Rattle.dn_tic.specs.declared.input.Input.{Input}
use Rattle.dn_machine.specs.{declared.answers.Made.Made, declared.answers.Ran.Ran}
use Rattle.dn_lockstep.specs.Contents.{Contents}
use Rattle.dn_link.specs.declared.link.Link.{Link}
use Rattle.dn_session.specs.{Session.meeting, Session.Meeting, declared.session.Session.Session}
use Rattle.zirmegat.specs.{Calls.Calls, Calls.CallsBy, Calls.WhenBy, Calls.session_of, Joined.joined_of, Kinds.session_in, Lends.holding, Links.BuildsOf, declared.handle.Handle.Handle}
use Rattle.zirmegat.specs.declared.held.Held.TheVariants as kind

-- a handle that held something is called as what it held
pub lent : {A : Type 0} {before after : Option A} (h k : Handle) (n m : A) (Step : A → A → Type 0) (Other : Type 0)
    → before ≡ Some n → after ≡ Some m → Step n m → CallsBy before after h k Step Other
lent {A} {before} {after} h k n m Step Other held left step =
    subst (λ (o : Option A). CallsBy o after h k Step Other) (sym held) (m, left, step)

pub when : {A : Type 0} {before after : Option A} (n m : A) (Step : A → A → Type 0)
    → before ≡ Some n → after ≡ Some m → Step n m → WhenBy before after Step
when {A} {before} {after} n m Step held left step =
    subst (λ (o : Option A). WhenBy o after Step) (sym held) (m, left, step)

-- a session is called so
pub session_lent : (h : Handle) (n m : Session) (Step : Meeting → Meeting → Type 0) (Other : Type 0)
    → session_in h.held ≡ Some n → Step (meeting n) (meeting m)
    → Calls session_of h (holding h (kind.Session m)) Step Other
session_lent h n m Step Other held step =
    lent h (holding h (kind.Session m)) (meeting n) (meeting m) Step Other (ap (option_map meeting) held) refl step

-- the same input is built the same
pub builds_of_same : (n m : Link) {made : Made} {input other : Input} → input ≡ other
    → BuildsOf input (joined_of n) (joined_of m) made → BuildsOf other (joined_of n) (joined_of m) made
builds_of_same n m {made} same builds =
    subst (λ (input : Input). BuildsOf input (joined_of n) (joined_of m) made) same builds

-- a run counts the tic that it ran; one that waits, or does not play, leaves the node and the row as they were
pub runs : {Step R : Type 0} {old new : Contents} {ran : Ran} → Step
    → ((tic : ℕ) → ran ≡ Ran.Ran tic → new.ran ≡ old.ran + 1)
    → ((player : ℕ) → ran ≡ Ran.Waiting player → (new ≡ old) × R) → (ran ≡ Ran.NotPlaying → (new ≡ old) × R)
    → Step × ((tic : ℕ) → ran ≡ Ran.Ran tic → new.ran ≡ old.ran + 1)
    × ((player : ℕ) → ran ≡ Ran.Waiting player → new ≡ old) × (ran ≡ Ran.NotPlaying → new ≡ old)
runs step further waits idle = (step, further, λ player e. (waits player e).0, λ e. (idle e).0)
