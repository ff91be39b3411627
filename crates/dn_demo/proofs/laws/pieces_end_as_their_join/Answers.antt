-- Pieces end as their join is read, and that in one way.
use Rattle.std.proofs.Common.{◌≡◌, ℕ, List, [], ◌∷◌, ◌++◌, Result, Ok, Err, is_some, refl, sym, ap, ◌∙◌, subst, arith, append_assoc, append-nil}
use Rattle.std.specs.List.{concat}
use Rattle.dn_world.specs.Physics.{Physics}
use Rattle.dn_demo.specs.{Layout.Layout, Places.EndsBehind, Reading.{Recording, IsReadAs}, Feeding.{Feeding, Shows, TakesAll, IsFedAs, PiecesEndAs, IsSameEnd, Summarizes, fault_of}, declared.fed.Fed.Fed, declared.fed.FeedFault.FeedFault}
use Rattle.dn_demo.specs.{declared.fed.FeedFault.TheVariants.{Short, Version, NoPlayers, NoMarker}}
use Rattle.dn_demo.proofs.OneReading.{same_demo, same_layout}
use Rattle.dn_demo.proofs.laws.pieces_end_as_their_join.Goals as goal

shown_all : {S W : Type 0} (state : W → S) (physics : Physics S) (bytes : List ℕ) (pieces : List (List ℕ))
    (f g : Feeding W) → Shows state physics bytes f → TakesAll state physics f pieces g
    → Shows state physics (bytes ++ concat pieces) g
shown_all {W = W} state physics bytes [] f g shown all =
    subst (λ (b : List ℕ). Shows state physics b g) (sym (append-nil bytes))
    (subst (λ (h : Feeding W). Shows state physics bytes h) all shown)
shown_all {W = W} state physics bytes (piece ∷ pieces) f g shown all =
    subst (λ (b : List ℕ). Shows state physics b g) (append_assoc bytes piece (concat pieces))
    (shown_all state physics (bytes ++ piece) pieces all.0 g (all.1 bytes shown) all.2)

joined : {S W : Type 0} (state : W → S) (physics : Physics S) (pieces : List (List ℕ))
    (result : Result (Fed W) FeedFault)
    → PiecesEndAs state physics pieces result → IsFedAs state physics (concat pieces) result
joined state physics pieces result ends =
    ends.4 (concat pieces) (shown_all state physics [] pieces ends.0 ends.1 ends.2 ends.3)

-- a fault is the first that the bytes have
one_fault : (bytes : List ℕ) (a b : FeedFault) → IsReadAs bytes (Err (fault_of a))
    → IsReadAs bytes (Err (fault_of b)) → a ≡ b
one_fault bytes Short Short p q = refl
one_fault bytes Short Version p q = absurd (omega (arith, p, q.0))
one_fault bytes Short NoPlayers p q = absurd (omega (arith, p, q.0))
one_fault bytes Short NoMarker p q = absurd (omega (arith, p, q.1.whole))
one_fault bytes Version Short p q = absurd (omega (arith, q, p.0))
one_fault bytes Version Version p q = refl
one_fault bytes Version NoPlayers p q = absurd (let both = sym (ap is_some p.1) ∙ q.1 in cc)
one_fault bytes Version NoMarker p q = absurd (let both = sym p.1 ∙ q.1.known in cc)
one_fault bytes NoPlayers Short p q = absurd (omega (arith, q, p.0))
one_fault bytes NoPlayers Version p q = absurd (let both = sym (ap is_some q.1) ∙ p.1 in cc)
one_fault bytes NoPlayers NoPlayers p q = refl
one_fault bytes NoPlayers NoMarker p q = absurd (omega (arith, p.2, q.1.somebody))
one_fault bytes NoMarker Short p q = absurd (omega (arith, q, p.1.whole))
one_fault bytes NoMarker Version p q = absurd (let both = sym q.1 ∙ p.1.known in cc)
one_fault bytes NoMarker NoPlayers p q = absurd (omega (arith, q.2, p.1.somebody))
one_fault bytes NoMarker NoMarker p q = refl

no_fault : (bytes : List ℕ) (demo : Recording) (fault : FeedFault) → IsReadAs bytes (Ok demo)
    → IsReadAs bytes (Err (fault_of fault)) → ⊥
no_fault bytes demo Short p q = omega (arith, q, p.1.whole)
no_fault bytes demo Version p q = let both = sym q.1 ∙ p.1.known in cc
no_fault bytes demo NoPlayers p q = omega (arith, q.2, p.1.somebody)
no_fault bytes demo NoMarker p q =
    let layout = same_layout bytes p.0 q.0 p.1.known q.1.known in
    let ends : EndsBehind q.0 bytes p.2.0 = subst (λ (l : Layout). EndsBehind l bytes p.2.0) layout p.2.1 in
    q.2 p.2.0 ends.marked

one_end : {S W : Type 0} (state : W → S) (physics : Physics S) (bytes : List ℕ)
    (one other : Result (Fed W) FeedFault)
    → IsFedAs state physics bytes one → IsFedAs state physics bytes other → IsSameEnd state physics one other
one_end state physics bytes (Ok a) (Ok b) p q =
    let same : q.0 ≡ p.0 = same_demo bytes q.0 p.0 q.1 p.1 in
    (p.0, p.2, subst (λ (d : Recording). Summarizes state physics d b) same q.2)
one_end state physics bytes (Ok a) (Err f) p q = absurd (no_fault bytes p.0 f p.1 q)
one_end state physics bytes (Err f) (Ok b) p q = absurd (no_fault bytes q.0 f q.1 p)
one_end state physics bytes (Err f) (Err e) p q = one_fault bytes f e p q

pieces_same : {S W : Type 0} (state : W → S) (physics : Physics S) (pieces others : List (List ℕ))
    (one other : Result (Fed W) FeedFault) → concat pieces ≡ concat others → PiecesEndAs state physics pieces one
    → PiecesEndAs state physics others other → IsSameEnd state physics one other
pieces_same state physics pieces others one other same p q =
    one_end state physics (concat others) one other
    (subst (λ (b : List ℕ). IsFedAs state physics b one) same (joined state physics pieces one p))
    (joined state physics others other q)

pub returns-clause-read : goal.returns-clause-read
returns-clause-read g c = joined g.W.World.state g.W.World.physics

pub returns-clause-same : goal.returns-clause-same
returns-clause-same g c = pieces_same g.W.World.state g.W.World.physics
