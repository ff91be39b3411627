-- One node more in a game that opens.
use Rattle.std.proofs.Common.{◌≡◌, ℕ, zero, suc, ◌⊎◌, false, List, [], ◌∷◌, ◌++◌, length, map, append-nil, Some, sym, refl, inl, inr, arith, slice_get}
use Rattle.std.proofs.lemmas.{List.{append_assoc, map_push, nil_from_length}, Option.same_Some}
use Rattle.dn_setup.specs.Settings.{Settings}
use Rattle.dn_machine.specs.{Game.opening_game, Worlds.Rules}
use Rattle.dn_node.specs.declared.node.Node.{Node}
use Rattle.dn_game.specs.{Opening.{AreFresh, EachIs}, declared.flight.Flight.Flight}
use Rattle.dn_game.specs.Contents as represents

-- what stands in a list with one more: it stood there before, or it is the last
slice_get-more : {A : Type 0} (xs : List A) (y : A) (k : ℕ) (x : A) → slice_get (xs ++ y ∷ []) k ≡ Some x
    → (slice_get xs k ≡ Some x) ⊎ ((k ≡ length xs) × (x ≡ y))
slice_get-more [] y zero x h = inr (refl, sym (same_Some _ _ h))
slice_get-more [] y (suc k) x h = absurd (cc)
slice_get-more (z ∷ xs) y zero x h = inl h
slice_get-more (z ∷ xs) y (suc k) x h = grind (arith, slice_get-more xs y k x h)

-- what holds of each at its place holds with one more
pub each_more : {A : Type 0} (P : ℕ → A → Type 0) (xs : List A) (y : A)
    → EachIs P xs → P (length xs) y → EachIs P (xs ++ y ∷ [])
each_more P xs y before one k x there = grind (arith, slice_get-more)

pub opens : {W S : Type 0} (state : W → S) (rules : Rules S) (vanilla : represents.IsVanilla rules.limits)
    (settings : Settings) (nodes : List (Node W)) (flights : List Flight)
    → length nodes ≡ rules.players → AreFresh state rules settings nodes → flights ≡ []
    → represents.Represents state rules
    (record { nodes = nodes; stopped = false ∷ false ∷ false ∷ false ∷ []; flights = flights })
    (opening_game settings)
unfolding opening_game
opens state rules vanilla settings nodes flights count nodes_fresh none =
    record {
      players = count;
      vanilla = vanilla;
      nodes = nodes_fresh;
      stopped = λ i. grind arith;
      flights = none;
      carried = λ k d far. absurd (omega arith);
    }

-- each node has the world that was given for it: those so far, and those that are left
module _ {X W : Type 0} (view : X → W) (xs : List X) (rest whole : List W)
    (so_far : map view xs ++ rest ≡ whole) where
  pub given_more : (more : List X) (x : X) (w : W) (left : List W) → more ≡ xs ++ x ∷ [] → view x ≡ w
      → rest ≡ w ∷ left → map view more ++ left ≡ whole
  given_more more x w left pushed is first = grind (arith, map_push {X = X} {Y = W}, append_assoc {A = W})

  pub given_all : length rest ≡ 0 → map view xs ≡ whole
  given_all none = grind (arith, append-nil, nil_from_length)
