-- The parts of the players of one game go on.
use Rattle.std.proofs.Common.{◌≡◌, ◌<◌, ℕ, ℤ, List, Option, Some, None, Bool, true, false, refl, ap, sym, subst, ◌∙◌, inl, inr, arith}
use Rattle.std.proofs.{lemmas.Bool.cases_Bool}
use Rattle.dn_tic.specs.{declared.command.Move.Move, declared.input.Input.Input}
use Rattle.dn_setup.specs.Settings.{Settings}
use Rattle.dn_machine.specs.{Limits.Limits, Node.put, declared.answers.Made.Made, declared.answers.Ran.Ran}
use Rattle.dn_machine.proofs.Put.{put_at, view_put}
use Rattle.dn_lockstep.specs.{Marking.Marking, OneGame.told_on}
use Rattle.dn_seal.specs.declared.seal.Seal.{Seal}
use Rattle.dn_survivor.specs.OneGame.{Session, after_build, after_run, with_survivor}
use Rattle.dn_link.specs.{Linked.surviving_of, Linking.linked, Linking.seal_of, Pacing.pace_of, RemainingLinks.AreRemainingLinks}
use Rattle.dn_link.specs.{Linked.Receives, RemainingLinks.IsGenuineIn, RemainingLinks.IsLater, RemainingLinks.StayRemaining, declared.link.Link.Link}
use Rattle.dn_link.proofs.Knowing.{later_on}
use Rattle.dn_link.proofs.RemainingCalls as calls
use Rattle.dn_link.proofs.RemainingReceives.{received}
use Rattle.dn_session.specs.Playing.{Builds, CatchesUp, EndsNow, GivesUpNow, GivesWhen, HearsBytes, LeavesGame, PassesTime, Playing, PlaysOn, Polls, RunsNext, RunsTic, TicksWhen, after_half, looks, view}
use Rattle.dn_session.specs.{Ending.ending_of, Ending.patience, Joining.has_come, Lead.due, Parts.AreMarksOf, Parts.AreParts, Parts.links_of, Ticks.is_due}
use Rattle.dn_session.specs.declared.{ending.Ending.Ending, ending.Progress.Progress, greeting.Address.Address}
use Rattle.dn_session.specs.declared.ending.Progress.TheVariants as progress

-- rows, as a player's runs told them
abbrev Rows : Type 0
Rows = List (List (Option Move))

-- a part in its place has its link there
links_put : (parts : ℕ → Playing) (p : ℕ) (new : Playing)
    → links_of (put parts p new) ≡ put (links_of parts) p (linked new.link)
links_put parts p new = view_put (λ (q : Playing). linked q.link) parts p new

-- of two in one place the second is there
pub twice : {A : Type 0} (f : ℕ → A) (p : ℕ) (one two : A) → put (put f p one) p two ≡ put f p two
twice f p one two = grind arith

-- where no row was told all is as it was
pub untold : (told : ℕ → Rows) (p other : ℕ) → told other ≡ put told p (told p) other
untold told p other = grind arith

-- what is so in each place is so with another in one, of one or of two
pub one_put : {A : Type 0} (P : ℕ → A → Type 0) (f : ℕ → A) (i : ℕ) (x : A) → P i x → (j : ℕ) → P j (f j)
    → P j (put f i x j)
one_put P f i x new j old = grind arith

pub both_put : {A B : Type 0} (P : ℕ → A → B → Type 0) (f : ℕ → A) (g : ℕ → B) (i : ℕ) (x : A) (y : B) → P i x y
    → (j : ℕ) → P j (f j) (g j) → P j (put f i x j) (put g i y j)
both_put P f g i x y new j old = grind arith

-- with a new part of a player they are those of the game in a later session, in which nothing that was given is
-- gone, and this player's run told this row, if there is one
pub record GoOn (marking : Marking) (limits : Limits) (settings : Settings) (seal : Seal) (session : Session)
    (parts : ℕ → Playing) (player : ℕ) (new : Playing) (row : Option (List (Option Move))) : Type 0 where
  pub later : Session
  pub stay : AreParts marking limits settings seal later (put parts player new)
  pub given : IsLater session later
  pub told : (other : ℕ) → later.told other ≡ put session.told player (told_on (session.told player) row) other

module _ (marking : Marking) (limits : Limits) (settings : Settings) (seal : Seal) where
  abbrev pub Are : Session → (ℕ → Playing) → Type 0
  Are session parts = AreParts marking limits settings seal session parts

  abbrev pub On : Session → (ℕ → Playing) → ℕ → Playing → Option (List (Option Move)) → Type 0
  On session parts p new row = GoOn marking limits settings seal session parts p new row

  module _ (session : Session) (parts : ℕ → Playing) (p : ℕ) (are : Are session parts) (few : p < limits.players) where
    -- its link goes on
    pub stepped : (new : Playing) (row : Option (List (Option Move))) (later : Session)
        → seal_of new.link ≡ seal_of (parts p).link
        → StayRemaining marking limits settings session (links_of parts) p (linked new.link) later
        → ((other : ℕ) → later.told other ≡ put session.told p (told_on (session.told p) row) other)
        → On session parts p new row
    stepped new row later own stays told = record {
      later = later;
      stay = record {
        links = subst (AreRemainingLinks marking limits settings later) (sym (links_put parts p new)) stays.0;
        sealed = λ other below. grind arith;
      };
      given = stays.1;
      told = told;
    }

    -- and tells no row
    pub silently : (new : Playing) (later : Session) → seal_of new.link ≡ seal_of (parts p).link
        → StayRemaining marking limits settings session (links_of parts) p (linked new.link) later
        → later.told ≡ session.told → On session parts p new None
    silently new later own stays same = stepped new None later own stays
        (λ other. ap (λ (told : ℕ → Rows). told other) same ∙ untold session.told p other)

    -- and of the later session this holds
    pub silently_and : (P : Session → Type 0) (new : Playing) (later : Session)
        → seal_of new.link ≡ seal_of (parts p).link
        → StayRemaining marking limits settings session (links_of parts) p (linked new.link) later
        → later.told ≡ session.told → P later → (on : On session parts p new None) × P on.later
    unfolding silently stepped
    silently_and P new later own stays same holds = (silently new later own stays same, holds)

    -- nothing changes of it
    pub kept : (new : Playing) → linked new.link ≡ linked (parts p).link → seal_of new.link ≡ seal_of (parts p).link
        → On session parts p new None
    kept new same own = silently new (with_survivor session p (surviving_of (linked new.link))) own
        (calls.same_link marking limits settings session (links_of parts) are.links p few (linked new.link) same) refl

    -- what else a part is does not matter
    pub alike : (mid new : Playing) (row : Option (List (Option Move))) → linked new.link ≡ linked mid.link
        → seal_of new.link ≡ seal_of mid.link → On session parts p mid row → On session parts p new row
    alike mid new row same own on = record {
      later = on.later;
      stay = record {
        links = subst (AreRemainingLinks marking limits settings on.later) (links_put parts p mid
            ∙ ap (put (links_of parts) p) (sym same) ∙ sym (links_put parts p new)) on.stay.links;
        sealed = λ other below. let was = on.stay.sealed other below in grind arith;
      };
      given = on.given;
      told = on.told;
    }

    -- one call after another
    pub andthen : (mid new : Playing) (row : Option (List (Option Move))) (first : On session parts p mid row)
        → On first.later (put parts p mid) p new None → On session parts p new row
    andthen mid new row first second = record {
      later = second.later;
      stay = subst (Are second.later) (twice parts p mid new) second.stay;
      given = later_on session first.later second.later first.given second.given;
      told = λ other. second.told other ∙ sym (untold first.later.told p other) ∙ first.told other;
    }

    -- The calls.

    pub hears : (from : Address) (bytes : List ℕ) (now : ℕ) (new : Playing) → IsGenuineIn seal session p bytes
        → HearsBytes from bytes now (parts p) new → On session parts p new None
    hears from bytes now new genuine took =
        silently new (with_survivor session p (surviving_of (linked new.link))) took.1.0
        (received marking limits settings session (links_of parts) are.links p few seal bytes (linked new.link) took.0
        genuine (subst (λ (s : Seal). Receives s bytes (links_of parts p) (linked new.link) took.0) (are.sealed p few)
        took.1.1)) refl

    pub builds : (input : Input) (made : Made) (new : Playing) → Builds input (parts p).link new.link made
        → On session parts p new None
    builds input made new b = silently new (after_build session p input made (surviving_of (linked new.link))) b.0
        (calls.built marking limits settings session (links_of parts) are.links p few (linked new.link) input made
        b.1.0 b.2 b.3) refl

    pub runs : (marks : List ℤ) (ran : Ran) (row : Option (List (Option Move))) (new : Playing)
        → AreMarksOf marking limits settings session p (links_of parts p).node marks ran
        → RunsTic marks (parts p).link new.link ran row → On session parts p new row
    runs marks ran row new honest r = stepped new row (after_run session p row (surviving_of (linked new.link)))
        r.0 (calls.runs marking limits settings session (links_of parts) are.links p few (linked new.link) marks
        ran row honest r.1 r.2 r.3) (λ other. refl)

    pub catches : (made : Option Made) (new : Playing) → CatchesUp (parts p).link new.link made
        → On session parts p new None
    catches made new c = go (pace_of (parts p).link).owed refl
      where
        go : (owed : Option Input) → (pace_of (parts p).link).owed ≡ owed → On session parts p new None
        go None is = kept new (c.3 is).1 c.0
        go (Some input) is =
            let b = c.4 input is in
            silently new (after_build session p input b.0 (surviving_of (linked new.link))) c.0
            (calls.built marking limits settings session (links_of parts) are.links p few (linked new.link) input b.0
            b.2 c.1 c.2) refl

    pub gives_up : (player : Option ℕ) (before new : Playing) → before.link ≡ (parts p).link
        → GivesUpNow player before new → On session parts p new None
    gives_up None before new own same = kept new (ap (λ (q : Playing). linked q.link) same ∙ ap linked own)
        (ap (λ (q : Playing). seal_of q.link) same ∙ ap seal_of own)
    gives_up (Some player) before new own g =
        let now = subst (λ (l : Link). GivesUpNow (Some player) (record before { link = l }) new) own g in
        silently new (with_survivor session p (surviving_of (linked new.link))) (g.1 ∙ ap seal_of own)
        (calls.gives_up marking limits settings session (links_of parts) are.links p few player (linked new.link)
        now.0.0 now.0.1) refl

    -- its player leaves

    quits : (new : Playing) → LeavesGame (parts p).link new.link → On session parts p new None
    quits new l = silently new (with_survivor session p (surviving_of (linked new.link))) l.0
        (calls.quits marking limits settings session (links_of parts) are.links p few (linked new.link) l.2.0 l.2.1
        l.3 l.4) refl

    pub ends : (end : Option Ending) (now : ℕ) (before new : Playing) → before.link ≡ (parts p).link
        → EndsNow end now before new → On session parts p new None
    ends None now before new own same = gives_up None before new own same
    ends (Some end) now before new own e =
        quits new (subst (λ (l : Link). LeavesGame l new.link) own e.0)

    -- time

    pub plays_on : (end : Option Ending) (now : ℕ) (before new : Playing) → before.link ≡ (parts p).link
        → PlaysOn end now before new → On session parts p new None
    plays_on (Some end) now before new own e = ends (Some end) now before new own e
    plays_on None now before new own g =
        gives_up (due (patience before.policy) (view now before)) before new own g

    pub ticks : (test : Bool) (now : ℕ) (before new : Playing) → before.link ≡ (parts p).link
        → TicksWhen test now before new → On session parts p new None
    ticks false now before new own same = gives_up None before new own same
    ticks true now before new own t = kept new (t.1.1 ∙ ap linked own) (t.1.0 ∙ ap seal_of own)

    passes : (progress : Progress) (now : ℕ) (new : Playing) → PassesTime progress now (parts p) new
        → On session parts p new None
    passes progress.Playing now new plays =
        plays_on (ending_of (parts p).policy (view now (looks now (parts p))) (linked (parts p).link)) now
        (looks now (parts p)) new refl plays
    passes (progress.Leaving end since free) now new (mid, t, is) =
        alike mid new None (ap (λ (q : Playing). linked q.link) is) (ap (λ (q : Playing). seal_of q.link) is)
        (ticks (is_due now (parts p).ticks) now (looks now (parts p)) mid refl t)
    passes (progress.Over end) now new same =
        kept new (ap (λ (q : Playing). linked q.link) same) (ap (λ (q : Playing). seal_of q.link) same)

    pub polls : (now : ℕ) (new : Playing) → Polls now (parts p) new → On session parts p new None
    polls now new (mid, time, is) =
        let half : (after_half now mid).link ≡ mid.link = elim (cases_Bool (has_come now mid.ticks.half)) [
          | inl due ↦ rw due refl
          | inr early ↦ rw early refl
        ] in
        let own : new.link ≡ mid.link = ap (λ (q : Playing). q.link) is ∙ half in
        alike mid new None (ap linked own) (ap seal_of own) (passes (parts p).progress now mid time)

    pub gives : (test : Bool) (now : ℕ) (input : Input) (new : Playing) → GivesWhen test now input (parts p) new
        → On session parts p new None
    gives false now input new same =
        kept new (ap (λ (q : Playing). linked q.link) same) (ap (λ (q : Playing). seal_of q.link) same)
    gives true now input new (mid, made, b, t) =
        alike (record (parts p) { link = mid }) new None t.1.1 t.1.0
        (builds input made (record (parts p) { link = mid }) b)

    pub runs_next : (marks : List ℤ) (ran : Ran) (row : Option (List (Option Move))) (new : Playing)
        → AreMarksOf marking limits settings session p (links_of parts p).node marks ran
        → RunsNext marks (parts p) new ran row → ((mid : Playing) (first : On session parts p mid row)
        → (made : Option Made) → CatchesUp mid.link new.link made → On first.later (put parts p mid) p new None)
        → On session parts p new row
    runs_next marks ran row new honest (mid, made, r, c, is) next =
        let here : Playing = record (parts p) { link = mid } in
        let first = runs marks ran row here honest r in
        andthen here new row first (next here first made c)

  -- a command that was owed is built after a run
  pub then_catches : (session : Session) (parts : ℕ → Playing) (p : ℕ) → p < limits.players → (new : Playing)
      (row : Option (List (Option Move))) (mid : Playing) (first : On session parts p mid row) (made : Option Made)
      → CatchesUp mid.link new.link made → On first.later (put parts p mid) p new None
  then_catches session parts p few new row mid first made c =
      catches first.later (put parts p mid) p first.stay few made new
      (subst (λ (q : Playing). CatchesUp q.link new.link made) (sym (put_at parts p p mid refl)) c)
