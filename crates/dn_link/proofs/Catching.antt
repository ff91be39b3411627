-- The links of a game stay caught up where one is another now.
use Rattle.std.proofs.Common.{ℤ, ◌≡◌, ◌≢◌, ◌<◌, ◌≤◌, ◌++◌, [], ◌∷◌, ℕ, Bool, true, false, List, length, refl, ap, sym, ◌∙◌, subst, arith, inl, inr}
use Rattle.std.proofs.lemmas.{Bool.{and_parts, cases_eq, true≢false}, List.length-append}
use Rattle.dn_tic.specs.declared.{command.TicCmd.TicCmd, input.Input.Input}
use Rattle.dn_machine.specs.{Sending.{lag, on_build}, Limits.Limits, Node.{is_ended, put}, Running.{on_quit, row_held}, Sparing.on_run_but}
use Rattle.dn_machine.proofs.{Calls.{build_cases, quit_cases}, Put.{put_at, put_off}}
use Rattle.dn_remain.proofs.{Each.run_but_cases, Vanished.Put.at_put}
use Rattle.dn_lockstep.specs.{Represents.Represents, Told.got}
use Rattle.dn_survivor.specs.{OneGame.Session}
use Rattle.dn_lockstep.proofs.Shown.{has}
use Rattle.dn_link.specs.{CaughtUp.{AreCaughtUp, IsCaughtUp, IsClose, IsKeptChain, StayCaughtUp, next_to}, Counting.has_ended, Kept.{IsKeptRising, Unacknowledged}, Linked.{IsWhole, Linked, surviving_of}, RemainingLinks.IsLater}
use Rattle.dn_link.proofs.{Growing.ended_is, Relinking.still_whole}
use Rattle.dn_machine.specs.Node as machine

-- one who has not ended had not
pub not_yet : {old new : Bool} → (old ≡ true → new ≡ true) → new ≡ false → old ≡ false
not_yet {old} {new} stays is = grind (arith, true≢false)

-- who had ended has, in a later session
pub ends_on : (session later : Session) (player : ℕ) (old new : Linked) → surviving_of old ≡ session.survivors player
    → later.survivors ≡ put session.survivors player (surviving_of new) → IsLater session later
    → has_ended old.node ≡ true → has_ended new.node ≡ true
ends_on session later player old new at placed is was = grind (arith, put_at)

grown : (held : ℕ → List TicCmd) (player : ℕ) (more : List TicCmd)
    → length (held player) ≤ length (put held player (held player ++ more) player)
grown held player more = grind (arith, put_at, length-append)

module _ (limits : Limits) (links : ℕ → Linked) (player : ℕ) (new : Linked) (mine : player < limits.players)
    (were : AreCaughtUp limits links) where
  abbrev old : Linked
  old = links player

  -- a player's link is another now
  pub relinked : IsWhole new
      → ((peer : ℕ) → peer < limits.players → peer ≢ player → IsCaughtUp limits player peer new (links peer))
      → ((which : ℕ) → which < limits.players → got old.node which ≤ got new.node which)
      → old.node.ran ≤ new.node.ran
      → ((which : ℕ) → which < limits.players → which ≢ player → has_ended (links which).node ≡ false
      → next_to old.node which ≤ next_to new.node which)
      → (has_ended old.node ≡ true → has_ended new.node ≡ true)
      → (has_ended old.node ≡ true → got new.node player ≡ got old.node player)
      → (is_ended new.node.phase ≡ false → is_ended old.node.phase ≡ false) → StayCaughtUp limits links player new
  relinked whole pairs more further sends_on stays no_more plays_on = (
    record {
      whole = at_put (λ (k : ℕ) (l : Linked). k < limits.players → IsWhole l) links player new (λ inside. whole)
          (λ k off. were.whole k);
      pairs = λ one other one_in other_in. at_put (λ (k : ℕ) (l : Linked). k < limits.players → other ≢ k
          → IsCaughtUp limits k other l (put links player new other)) links player new
          (λ inside away. at_put (λ (j : ℕ) (l : Linked). j < limits.players → j ≢ player → IsCaughtUp limits player j new l)
          links player new (λ l n. absurd (n refl)) (λ j off. pairs j) other other_in away)
          (λ k off inside away. at_put (λ (j : ℕ) (l : Linked). j < limits.players → j ≢ k → IsCaughtUp limits k j (links k) l)
          links player new (λ l n. to_it k inside off) (λ j apart l n. were.pairs k j inside l n) other other_in away) one one_in;
    },
    record {
      got = λ one which one_in which_in. at_put (λ (k : ℕ) (l : Linked). got (links k).node which ≤ got l.node which)
          links player new (more which which_in) (λ k off. omega arith) one;
      ran = λ one one_in. at_put (λ (k : ℕ) (l : Linked). (links k).node.ran ≤ l.node.ran) links player new further
          (λ k off. omega arith) one;
      sends = λ one which one_in which_in. at_put (λ (k : ℕ) (l : Linked). which ≢ k → has_ended (links which).node ≡ false
          → next_to (links k).node which ≤ next_to l.node which) links player new (sends_on which which_in)
          (λ k off apart goes_on. omega arith) one;
      ended = λ one one_in. at_put (λ (k : ℕ) (l : Linked). has_ended (links k).node ≡ true → has_ended l.node ≡ true)
          links player new stays (λ k off was. was) one;
      still = λ one one_in. at_put (λ (k : ℕ) (l : Linked). has_ended (links k).node ≡ true → got l.node k ≡ got (links k).node k)
          links player new no_more (λ k off was. refl) one;
      goes_on = λ one one_in. at_put (λ (k : ℕ) (l : Linked). is_ended l.node.phase ≡ false → is_ended (links k).node.phase ≡ false)
          links player new plays_on (λ k off was. was) one;
    },
  )
    where
      -- what another keeps for it
      to_it : (one : ℕ) → one < limits.players → one ≢ player → IsCaughtUp limits one player (links one) new
      to_it one one_in off = grind (arith, not_yet, grown)

  -- a call that hears and sends nothing
  pub record IsStill : Type 0 where
    pub others : (p : ℕ) → p < limits.players → p ≢ player → got new.node p ≡ got old.node p
    pub own : got old.node player ≤ got new.node player
    pub no_more : has_ended old.node ≡ true → got new.node player ≡ got old.node player
    pub sends : (p : ℕ) → p < limits.players → next_to new.node p ≡ next_to old.node p
    pub wants : (p : ℕ) → p < limits.players → (new.node.peers p).want ≡ (old.node.peers p).want
    pub ran : old.node.ran ≤ new.node.ran
    pub plays_on : is_ended new.node.phase ≡ false → is_ended old.node.phase ≡ false

  pub still : IsStill → new.others.gone ≡ old.others.gone → ((peer : ℕ) → (new.peers peer).kept ≡ (old.peers peer).kept)
      → (has_ended old.node ≡ true → has_ended new.node ≡ true) → StayCaughtUp limits links player new
  still is gone kept stays = relinked (still_whole old new gone (were.whole player mine)) (λ peer below apart.
      let was = were.pairs player peer mine below apart in
      let same = kept peer in
      let has_it = is.others peer below apart in
      let next = is.sends peer below in
      record {
        rising = subst IsKeptRising (sym same) was.rising;
        chain = subst IsKeptChain (sym same) was.chain;
        asks = is.wants peer below ∙ was.asks;
        near = omega (arith, was.near, has_it, ap (λ (k : Unacknowledged). k.done) same);
        there = λ goes_on. let then = was.there goes_on in omega (arith, then, ap (λ (k : Unacknowledged). k.done) same);
        next = λ goes_on. let then = was.next goes_on in
            omega (arith, then, next, ap (λ (k : Unacknowledged). k.covered) same);
        least = λ goes_on. let then = was.least goes_on in omega (arith, then, next, is.own);
        close = λ goes_on. subst (λ (k : Unacknowledged). IsClose (lag limits) k.packets (next_to new.node peer)) (sym same)
            (subst (IsClose (lag limits) (old.peers peer).kept.packets) (sym next) (was.close goes_on));
      }) (λ which below. elim (cases_eq which player) [
        | inl at ↦ omega (arith, is.own, ap (got new.node) at, ap (got old.node) at)
        | inr off ↦ let same = is.others which below off in omega (arith, same)
      ]) is.ran (λ which below off goes_on. let same = is.sends which below in omega (arith, same)) stays is.no_more is.plays_on

  -- of the machine's node
  abbrev pub IsQuiet : machine.Node → machine.Node → Type 0
  IsQuiet m after = ((p : ℕ) → p ≢ player → length (after.held p) ≡ length (m.held p))
      × ((length (m.held player) ≤ length (after.held player)) × ((p : ℕ) → after.peers p ≡ m.peers p)
      × (length m.rows ≤ length after.rows)
      × (machine.has_left m ≡ true → length (after.held player) ≡ length (m.held player))
      × (is_ended after.phase ≡ false → is_ended m.phase ≡ false))

  pub shows_still : (m after : machine.Node) → Represents limits player old.node m → Represents limits player new.node after
      → IsQuiet m after → IsStill
  shows_still m after was now quiet = grind (arith, has, ended_is)

  quiet_same : (m : machine.Node) → IsQuiet m m
  quiet_same m = ((λ p n. refl), (omega arith, (λ p. refl), omega arith, (λ left. refl), (λ e. e)))

  pub build_quiet : (m : machine.Node) (input : Input) → IsQuiet m (on_build limits player m input).0
  build_quiet m input = build_cases limits player m (IsQuiet m) input (λ full. quiet_same m)
      (λ plays free. (
        (λ p n. ap (length {A = TicCmd}) (put_off m.held player p _ n)),
        (
          grown m.held player _,
          (λ p. refl),
          omega arith,
          (λ left. absurd (true≢false (sym (and_parts m.played (is_ended m.phase) left).1 ∙ ap is_ended plays))),
          (λ e. e),
        ),
      ))

  pub run_quiet : (m : machine.Node) (gone : ℕ → Bool) (marks : ℕ → ℤ) → IsQuiet m (on_run_but limits gone m marks).0
  run_quiet m gone marks = run_but_cases limits player gone m marks (IsQuiet m) (λ waits. quiet_same m)
      (λ other plays none off. ((λ p n. refl), (omega arith, (λ p. refl), omega arith, (λ left. refl), (λ e. absurd (true≢false e)))))
      (λ plays none full. ((λ p n. refl), (omega arith, (λ p. refl), omega arith, (λ left. refl), (λ e. absurd (true≢false e)))))
      (λ plays none free. (
        (λ p n. refl),
        (omega arith, (λ p. refl), omega (arith, length-append m.rows (row_held limits m ∷ [])), (λ left. refl), (λ e. e)),
      ))

  pub quit_quiet : (m : machine.Node) → IsQuiet m (on_quit m).0
  quit_quiet m = quit_cases limits player m (IsQuiet m) (quiet_same m)
      (λ goes_on. ((λ p n. refl), (omega arith, (λ p. refl), omega arith, (λ left. refl), (λ e. absurd (true≢false e)))))
