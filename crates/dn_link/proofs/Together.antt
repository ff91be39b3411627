-- What links of one game have in common of which nobody is given up.
use Rattle.std.proofs.{Common.{◌≡◌, ◌<◌, ◌≤◌, ◌+◌, ℕ, ap, sym, ◌∙◌, Some, None, inl, inr}, lemmas.Option.none-some}
use Rattle.dn_setup.specs.Settings.{Settings}
use Rattle.dn_machine.specs.Limits.{Limits}
use Rattle.dn_remain.proofs.Seeing.{reached_cases}
use Rattle.dn_lockstep.specs.{Contents.end_in, Marking.Marking, Told.{got, made}}
use Rattle.dn_survivor.specs.{Agreed.{AreAgreedInPairs, FitInPairs}, OfOthers.has, OneGame.Session, Surviving.Surviving}
use Rattle.dn_survivor.proofs.Pairs.{agreed, fitted}
use Rattle.dn_link.specs.{Linked.{IsWhole, Linked}, RemainingLinks.AreRemainingLinks}

pub record AreTogether (limits : Limits) (session : Session) : Type 0 where
  pub numbers : (p : ℕ) → p < limits.players → (session.survivors p).lockstep.me ≡ p
  pub several : (p : ℕ) → p < limits.players → (session.survivors p).lockstep.players ≡ limits.players
  -- the end of a player that one knows is the one that the player's own tells
  pub ends : (q p end : ℕ) → q < limits.players → p < limits.players
      → end_in (session.survivors q).lockstep p ≡ Some end → end_in (session.survivors p).lockstep p ≡ Some end
  -- of a player who has not ended each has every command of the tics that it ran
  pub run : (q p : ℕ) → q < limits.players → p < limits.players → end_in (session.survivors p).lockstep p ≡ None
      → (session.survivors q).lockstep.ran ≤ got (session.survivors q).lockstep p
  pub held : (q p : ℕ) → q < limits.players → p < limits.players
      → got (session.survivors q).lockstep p ≤ made (session.survivors p).lockstep
  pub ahead : (p : ℕ) → p < limits.players
      → made (session.survivors p).lockstep ≤ (session.survivors p).lockstep.ran + limits.ahead

pub together : (marking : Marking) (limits : Limits) (settings : Settings) (session : Session) (links : ℕ → Linked)
    → AreRemainingLinks marking limits settings session links
    → ((p : ℕ) → p < limits.players → IsWhole (links p)) → AreTogether limits session
together marking limits settings session links linked whole = record {
  numbers = agree.numbers;
  several = agree.several;
  ends = ends;
  run = λ q p l k none. elim (reached_cases (got (session.survivors q).lockstep p) (end_in (session.survivors q).lockstep p)) [
    | inl unknown ↦ fit.run q p l k unknown.0
    | inr known ↦ absurd (none-some known.0 (sym none ∙ ends q p known.0 l k known.1))
  ];
  held = fit.held;
  ahead = fit.ahead;
}
  where
    agree : AreAgreedInPairs limits settings session
    agree = agreed marking limits settings session linked.game

    fit : FitInPairs limits session
    fit = fitted marking limits settings session linked.game

    ends : (q p end : ℕ) → q < limits.players → p < limits.players
        → end_in (session.survivors q).lockstep p ≡ Some end → end_in (session.survivors p).lockstep p ≡ Some end
    ends q p end l k =
        agree.ends q p end l k
        (ap (λ (s : Surviving). has s.others.gone p) (sym (linked.survivors q l)) ∙ whole q l p)
