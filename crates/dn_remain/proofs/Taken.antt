-- What is decided can be taken.
use Rattle.std.proofs.Common.{◌≡◌, ℕ, ◌+◌, ◌<◌, ◌≤◌, refl, sym, ◌∙◌, ap, subst, arith, inl, inr, List, ◌∷◌, length}
use Rattle.std.proofs.{Common.{drop, true, false, Some}, lemmas.Bool.{both_ways, cond-true}}
use Rattle.dn_tic.specs.declared.command.TicCmd.{TicCmd}
use Rattle.dn_machine.specs.{Game.with_node, Node.{put, ran, has_left}, Promise.IsPrefixOf, Worlds.Rules}
use Rattle.dn_machine.proofs.Put.{put_at, put_off}
use Rattle.dn_remain.specs.Vanished.Commands.{Holder, Had, seen, past_seen, longest, told, on_decision}
use Rattle.dn_remain.specs.{Wary.end_seen, Wary.now_of, Wary.Report, Wary.Wary, Wary.or_fresh, Wary.can_settle, Wary.settled, Remaining.Remaining, Remaining.wary_of, Remaining.with_wary, Promise.CanBeTaken}
use Rattle.dn_remain.proofs.{Vanished.Always.always, Vanished.Lists.begins, Vanished.Windows.fits, Vanished.Handing.handed, Vanished.Invariant.IsKept, Vanished.Lists.own_below, Followed.IsFollowed, Followed.AreFollowed, Followed.anchored, Known.Follows, Followed.there, Seeing.length_rows, Settling.settles}
use Rattle.dn_machine.specs.Node as machine
use Rattle.dn_remain.proofs.Known

module _ {S : Type 0} (known : ℕ → Holder TicCmd → Type 0) (rules : Rules S) (all : Remaining)
    (older : List (ℕ → Holder TicCmd)) (f : IsFollowed known rules all older) (q : ℕ) (mine : q < rules.players)
    (here : has_left (all.game.nodes q) ≡ false) (can : can_settle rules.limits q (wary_of all q) ≡ true) where
  abbrev me : machine.Node
  me = all.game.nodes q

  abbrev past : List (ℕ → Holder TicCmd)
  past = now_of all.game all.gone ∷ older

  abbrev has : Holder TicCmd
  has = now_of all.game all.gone q

  abbrev heard : ℕ → Report
  heard r = or_fresh (all.newest q r)

  abbrev after : machine.Node
  after = settled me (all.gone q) (on_decision rules.players q has heard)

  -- the game after the decision, and its history
  abbrev later : ℕ → Holder TicCmd
  later = now_of (with_node all.game q after) (put all.gone q (all.gone q))

  went : Follows (Had past) rules (with_node all.game q after) (put all.gone q (all.gone q)) past
  went = settles (anchored known rules all older f) q mine here (all.newest q) (f.newest q) can

  node_is : put all.game.nodes q after q ≡ after
  node_is = put_at all.game.nodes q q after refl

  kept : IsKept rules.players (past_seen (later ∷ past))
  kept = always rules.players rules.ahead (past_seen (later ∷ past)) went.run

  other : (p : ℕ) → all.gone q p ≡ true → (p ≡ q → ⊥)
  other p t e = both_ways (all.gone q p) (ap (all.gone q) e ∙ (kept.sound q (seen has) (inr (inl refl))).own) t

  room : (p : ℕ) → length (after.held p) ≤ ran me + (rules.ahead + rules.ahead)
  room p =
      let a = (fits rules.players rules.ahead (past_seen (later ∷ past))
      went.run).unread q p (seen (later q)) mine (inl refl) in
      let b = length_rows (end_seen (put all.game.nodes q after q)) (ran (put all.game.nodes q after q)) in
      omega (arith, ap (λ (n : machine.Node). length (n.held p)) node_is, ap (λ (n : machine.Node). ran n) node_is)

  made : (p : ℕ) → all.gone q p ≡ true → IsPrefixOf (after.held p) ((all.game.nodes p).held p)
  made p t = subst (λ (n : machine.Node). IsPrefixOf (after.held p) (n.held p))
      (put_off all.game.nodes q p after (other p t))
      (subst (λ (n : machine.Node). IsPrefixOf (n.held p) ((put all.game.nodes q after p).held p)) node_is
      (handed (later ∷ past) went.handed q p (later q) (inl refl)))

  front : (p : ℕ) → all.gone q p ≡ true → IsPrefixOf (me.held p) (after.held p)
  front p t =
      let a = own_below rules.players q has heard p mine in
      let b = ap (length {A = TicCmd}) (cond-true (all.gone q p) (longest rules.players (told q has heard p))
      (me.held p) t) in (
        drop (length (me.held p)) (after.held p),
        begins (me.held p) (after.held p) ((all.game.nodes p).held p)
            (handed past f.follows.handed q p has (inl refl)) (made p t) (omega arith),
      )

  same_end : (p end : ℕ) → end_seen me p ≡ Some end → length (after.held p) ≡ end
  same_end p end s = sym (ap (λ (n : machine.Node). length (n.held p)) node_is)
      ∙ (kept.sound q (seen (later q)) (inl refl)).full p end
      ((kept.order q (seen has) (inr (inl refl))).ends p end s)

  pub taken : CanBeTaken rules.limits all q
  taken = grind (arith, front, made, room, same_end)

-- in the place of node `q` one that can decide
pub taken_of : {S : Type 0} (rules : Rules S) (all : Remaining) (q : ℕ) (wary : Wary)
    → AreFollowed Known.known rules (with_wary all q wary) → q < rules.players → has_left wary.node ≡ false
    → can_settle rules.limits q wary ≡ true → CanBeTaken rules.limits (with_wary all q wary) q
taken_of rules all q wary (older, f) mine here can = taken Known.known rules (with_wary all q wary) older f
    q mine (ap (λ (n : machine.Node). has_left n) (put_at all.game.nodes q q wary.node refl) ∙ here)
    (ap (λ (w : Wary). can_settle rules.limits q w) (there all q wary) ∙ can)
