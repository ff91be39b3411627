-- The lines of nodes, one after another, and the line of a seat.
use Rattle.std.proofs.Common.{◌≡◌, ◌≤◌, ◌+◌, ℕ, zero, suc, Bool, false, Some, None, List, [], ◌∷◌, ◌++◌, length, drop, append_assoc, append-nil, refl, arith, ℤ, Option, slice_get, slice_index_or, option_map}
use Rattle.std.proofs.lemmas.Option.{slice_get_within}
use Rattle.dn_node.specs.{declared.node.Node.Node, Contents.contents}
use Rattle.dn_netgame.specs.Texts.{node_line, node_lines, player_line, seat_line}
use Rattle.dn_world.specs.{declared.spot.Spot.Spot, Plane.mark_of}

-- what stands at a place, and what stands behind it
drop_at : {X : Type 0} (xs : List X) (i : ℕ) (x : X) → slice_get xs i ≡ Some x → drop i xs ≡ x ∷ drop (i + 1) xs
drop_at [] i x h = absurd (cc)
drop_at (y ∷ xs) zero x h = cc
drop_at (y ∷ xs) (suc i) x h = let e : suc i + 1 ≡ suc (i + 1) = omega arith in rw e (drop_at xs i x h)

drop_past : {X : Type 0} (xs : List X) (i : ℕ) → slice_get xs i ≡ None → drop i xs ≡ []
drop_past [] zero h = refl
drop_past [] (suc i) h = refl
drop_past (y ∷ xs) zero h = absurd (cc)
drop_past (y ∷ xs) (suc i) h = drop_past xs i h

-- one more line behind a text
pub lines_more : {W : Type 0} (stopped : List Bool) (number : ℕ) (nodes : List (Node W)) (n : Node W)
    (old new whole : List ℕ) → slice_get nodes number ≡ Some n
    → (old ++ node_lines stopped number (drop number nodes) ≡ whole) × (number ≤ length nodes)
    → new ≡ old ++ node_line (contents n) (slice_index_or stopped number false)
    → (new ++ node_lines stopped (number + 1) (drop (number + 1) nodes) ≡ whole) × (number + 1 ≤ length nodes)
lines_more {W} stopped number nodes n old new whole there so_far put =
    grind (arith, node_line, slice_index_or, drop_at, append_assoc, slice_get_within)

-- no line is left
pub lines_done : {W : Type 0} (stopped : List Bool) (number : ℕ) (nodes : List (Node W)) (old whole : List ℕ)
    → slice_get nodes number ≡ None
    → (old ++ node_lines stopped number (drop number nodes) ≡ whole) × (number ≤ length nodes) → old ≡ whole
lines_done {W} stopped number nodes old whole gone so_far = grind (arith, drop_past, append-nil)

pub empty_seat : (player : ℕ) (o : Option Spot) → option_map {T = Spot} {U = ℤ} (λ s. s.x) o ≡ None
    → seat_line player o ≡ []
empty_seat player None h = refl
empty_seat player (Some s) h = absurd (cc)

pub taken_seat : (player : ℕ) (o : Option Spot) (x y : ℤ) (angle : ℕ)
    → option_map {T = Spot} {U = ℤ} (λ s. s.x) o ≡ Some x → option_map {T = Spot} {U = ℤ} (λ s. s.y) o ≡ Some y
    → option_map {T = Spot} {U = ℕ} (λ s. s.angle) o ≡ Some angle
    → seat_line player o ≡ player_line player x y angle (mark_of o)
taken_seat player None x y angle h k l = absurd (cc)
taken_seat player (Some s) x y angle h k l = cc
