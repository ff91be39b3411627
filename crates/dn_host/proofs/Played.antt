-- How a session that is played ends.
use Rattle.std.proofs.Common.{◌≡◌, ◌<◌, ◌≤◌, ◌-◌, ◌^◌, ℕ, Bool, true, false, List, Option, Some, Result, Err, inr, refl, subst}
use Rattle.std.proofs.lemmas.Bool.{false≢true}
use Rattle.dn_measure.specs.declared.status.Status.{Status}
use Rattle.dn_session.specs.declared.{greeting.Address.Address, greeting.Refusal.Refusal, session.Session.Session}
use Rattle.dn_host.specs.declared.{ends.HostFault.HostFault, ends.HostFault.TheVariants.Clock, ends.Outcome.Outcome, plan.Plan.Plan, turns.Turns.Turns}
use Rattle.dn_host.specs.{Outcomes.GoesOn, Outcomes.IsPlayed, Turns.new_turns, Turns.stage_of, Turns.IsTurn, Turns.Repeats, Turns.Stage}
use Rattle.dn_host.proofs.Turned.{all_done, not_done}

module _ {W : Type 0} (sends : W → Address → List ℕ → W → Type 0) (polls : W → Option (Address × List ℕ) → W → Type 0)
    {S : Type 0} (shows : S → Status → S → Type 0) (waits : S → Refusal → S → Type 0) (misses : S → S → Type 0)
    {Y : Type 0} (reads : Y → Option ℕ → Y → Type 0) (naps : Y → Y → Type 0) (plan : Plan)
  where
    -- by the plan, at the time since the start
    pub turned : (same : Plan) (now since : ℕ) (a b : Stage W S) (r : Result Bool HostFault) → same ≡ plan → now ≡ since
        → IsTurn sends polls shows waits misses same now a b r → IsTurn sends polls shows waits misses plan since a b r
    turned same now since a b r planned is turn = subst (λ (n : ℕ). IsTurn sends polls shows waits misses plan n a b r) is
        (subst (λ (p : Plan). IsTurn sends polls shows waits misses p now a b r) planned turn)

    module _ (session : Session) (turns : Turns) (w : W) (s : S) (start taken : ℕ) (r : Result Outcome HostFault) (x z : Y)
        (a : Stage W S) (m : Y) (is : turns ≡ new_turns session plan) (read : reads x (Some start) z)
      where
        -- what may still be done, behind what was, is all of it
        abbrev Goes : Stage W S → Y → Bool → Type 0
        Goes b y all = Repeats (GoesOn sends polls shows waits misses reads naps plan start r) (2 ^ 64 - 1 - taken) a m b y all
            → Repeats (GoesOn sends polls shows waits misses reads naps plan start r) (2 ^ 64 - 1) (stage_of turns w s) z b y all

        played : (b : Stage W S) (y : Y) (all : Bool)
            → Repeats (GoesOn sends polls shows waits misses reads naps plan start r) (2 ^ 64 - 1) (stage_of turns w s) z b y all
            → (all ≡ true → r ≡ Err Clock) → IsPlayed sends polls shows waits misses reads naps plan
            (stage_of (new_turns session plan) w s) x b.scene.wire b.sight.screen y r
        played b y all does late = inr (
          start,
          z,
          read,
          b,
          all,
          subst (λ (t : Turns). Repeats (GoesOn sends polls shows waits misses reads naps plan start r) (2 ^ 64 - 1)
              (stage_of t w s) z b y all) is does,
          late,
          refl,
          refl,
        )

        pub at_last : (b : Stage W S) (y : Y) → taken < 2 ^ 64 - 1 → Goes b y false
            → GoesOn sends polls shows waits misses reads naps plan start r a m false b y
            → IsPlayed sends polls shows waits misses reads naps plan (stage_of (new_turns session plan) w s) x b.scene.wire
            b.sight.screen y r
        at_last b y below goes does = played b y false (goes (not_done
            (GoesOn sends polls shows waits misses reads naps plan start r) (2 ^ 64 - 1) taken a m false b y below refl does))
            (λ done. absurd (false≢true done))

        pub never : 2 ^ 64 - 1 ≤ taken → r ≡ Err Clock → Goes a m true
            → IsPlayed sends polls shows waits misses reads naps plan (stage_of (new_turns session plan) w s) x a.scene.wire
            a.sight.screen m r
        never reached late goes = played a m true (goes (all_done
            (GoesOn sends polls shows waits misses reads naps plan start r) (2 ^ 64 - 1) taken a m reached)) (λ done. late)
