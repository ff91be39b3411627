-- Whom a survivor has given up after a give-up.
use Rattle.std.proofs.{Common.{◌≡◌, ◌<◌, ◌≤◌, ℕ, Bool, true, false, List, length, Option, Some, None, refl, sym, ap, ◌∙◌, inl, inr, arith, set}, lemmas.Bool.{cases_eq, cases_lt, cond_both, le-ltb}}
use Rattle.std.proofs.lemmas.{List.{get_or-set_other, get_or-set_same}, Option.{none-some, same_Some}}
use Rattle.std.specs.Prelude.{not, nat_lt}
use Rattle.dn_machine.specs.{Limits.Limits, Node.put}
use Rattle.dn_machine.specs.Node as machine
use Rattle.dn_machine.proofs.Put.{put_at, put_off}
use Rattle.dn_lockstep.specs.{Represents.Represents, Settling.is_no_peer}
use Rattle.dn_remain.specs.Wary.{is_in_game}
use Rattle.dn_survivor.specs.{Calls.{GivesUp, GivesUpUnless, given_up_by, refused_give_up}, OfOthers.has, Surviving.{Surviving, has_given_up}}
use Rattle.dn_survivor.specs.declared.{answers.GivenUp.GivenUp, others.Others.Others}
use Rattle.dn_link_game.specs.Playing.{Seen, giving_up, is_taken}

-- one that is refused was not taken
abbrev Untaken : Option GivenUp → Type 0
Untaken refused = (reason : GivenUp) → refused ≡ Some reason → is_taken reason ≡ false

untaken : (one : GivenUp) → is_taken one ≡ false → Untaken (Some one)
untaken one refuses reason e = ap is_taken (sym (same_Some one reason e)) ∙ refuses

unrefused : Untaken None
unrefused reason e = absurd (none-some reason e)

refused_untaken : (now : Surviving) (player : ℕ) → Untaken (refused_give_up now player)
refused_untaken now player = cond_both (is_no_peer now.lockstep.players now.lockstep.me player) _ _ Untaken
    (λ on. untaken GivenUp.NotAPlayer refl)
    (λ off. cond_both (not (is_in_game now.lockstep.phase)) _ _ Untaken (λ on. untaken GivenUp.NotPlaying refl)
    (λ off. cond_both (has_given_up now player) _ _ Untaken (λ on. untaken GivenUp.Already refl) (λ off. unrefused)))

-- and one that is not refused is of a player of the game
known : (now : Surviving) (player : ℕ) → refused_give_up now player ≡ None → player < now.lockstep.players
known now player none = elim (cases_lt player now.lockstep.players) [
  | inl low ↦ low
  | inr high ↦ absurd (none-some GivenUp.NotAPlayer (sym (none_if (le-ltb player now.lockstep.players high) ∙ none)))
]
  where
    none_if : nat_lt player now.lockstep.players ≡ false → Some GivenUp.NotAPlayer ≡ refused_give_up now player
    none_if past = rw past refl

-- and one that is not refused was
taken_by : (limits : Limits) (me : ℕ) (others : Others) (player : ℕ) (m : machine.Node)
    → is_taken (given_up_by limits me others player m).1 ≡ true
taken_by limits me others player m = grind arith

module _ (old new : Surviving) (player : ℕ) (answer : GivenUp) (seen : Seen) (limits : Limits) (me : ℕ)
    (m : machine.Node) (is : Represents limits me old.lockstep m) (few : limits.players ≤ 4)
    (four : length old.others.gone ≡ 4) (before : (other : ℕ) → has_given_up old other ≡ seen.gone other) where
  one_more : player < 4 → new.others.gone ≡ set old.others.gone player true → (other : ℕ)
      → has_given_up new other ≡ put seen.gone player true other
  one_more below more other = elim (cases_eq other player) [
    | inl at ↦ ap (λ (gone : List Bool). has gone other) more
        ∙ ap (has (set old.others.gone player true)) at
        ∙ get_or-set_same old.others.gone player true false (omega (arith, four, below))
        ∙ sym (put_at seen.gone player other true at)
    | inr off ↦ ap (λ (gone : List Bool). has gone other) more
        ∙ get_or-set_other old.others.gone player other true false off ∙ before other
        ∙ sym (put_off seen.gone player other true off)
  ]

  pub given_up : GivesUp player old new answer → (other : ℕ)
      → has_given_up new other ≡ (giving_up player answer seen).gone other
  given_up gives other = go (refused_give_up old player) refl gives
    where
      go : (refused : Option GivenUp) → refused_give_up old player ≡ refused → GivesUpUnless refused player old new answer
          → has_given_up new other ≡ (giving_up player answer seen).gone other
      go (Some reason) e stays =
          let off : is_taken answer ≡ false = ap is_taken stays.0 ∙ refused_untaken old player reason e in
          rw off (ap (λ (s : Surviving). has_given_up s other) stays.1 ∙ before other)
      go None e steps =
          let low = known old player e in
          let few_there = is.whose.players in
          let on : is_taken answer ≡ true = ap is_taken (steps.1.step limits me m is).answer ∙ taken_by limits me old.others player m in
          rw on (one_more (omega (arith, low, few_there, few)) (ap (λ (o : Others). o.gone) steps.0) other)
