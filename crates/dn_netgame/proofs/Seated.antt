-- The nodes of a game in their seats: one alone, and all together.
use Rattle.std.proofs.Common.{◌≡◌, inr, ℕ, zero, suc, Bool, false, List, [], ◌∷◌, Option, Some, if◌then◌else◌, refl, ap}
use Rattle.std.proofs.{Common.{sym, ◌∙◌, subst, slice_get, IfSome}, lemmas.Option.same_Some}
use Rattle.dn_world.specs.{Physics.Physics, Plane.Spots}
use Rattle.dn_node.specs.{declared.node.Node.Node, Contents.{contents, Represents}}
use Rattle.dn_netgame.specs.{Turning.{Seat, rules_at, AreSeated}, PlayShown.{HasEverPlayed, IsPlay, new_seats, IsLoop}, Texts.node_line}
use Rattle.dn_lockstep.specs.declared.config.Config.{Config}
use Rattle.dn_game.specs.{declared.config.GameConfig.GameConfig, Opening.{AreFresh, rules_in}}

one_of_one : {X : Type 0} (x y : X) (i : ℕ) → slice_get (x ∷ []) i ≡ Some y → x ≡ y
one_of_one x y zero h = same_Some x y h
one_of_one x y (suc i) h = absurd (cc)

pub alone : {W S : Type 0} (state : W → S) (physics : Physics S) (nodes : List (Node W)) (node : Node W)
    (seat : Seat) → nodes ≡ node ∷ [] → Represents state (rules_at physics seat) seat.me (contents node) seat.node
    → AreSeated state physics nodes (λ place. seat)
alone {W} {S} state physics nodes node seat one is i n there =
    let Q : Node W → Type 0 = λ y. Represents state (rules_at physics seat) seat.me (contents y) seat.node in
    subst Q (one_of_one node n i (ap (λ (ns : List (Node W)). slice_get ns i) (sym one) ∙ there)) is

pub played : (config : Config) (base seed count : ℕ) (raw : Bool) (found : Option (Node Spots))
    (node : Node Spots) (lines : List ℕ)
    → found ≡ Some node → IfSome found (λ n. HasEverPlayed config base seed count (contents n))
    → lines ≡ (if raw then (contents node).demo.bytes else node_line (contents node) false)
    → IsPlay config base seed count raw lines 0
played config base seed count raw found node lines is ever same =
    let P : Option (Node Spots) → Type 0 =
    λ o. IfSome o (λ n. HasEverPlayed config base seed count (contents n)) in
    inr (contents node, subst P is ever, same, refl)

-- nodes of no history are in the seats of new ones
pub together : {W S : Type 0} (state : W → S) (physics : Physics S) (config : GameConfig) (players worlds : ℕ)
    (nodes : List (Node W))
    → worlds ≡ players → AreFresh state (rules_in physics config worlds) config.settings nodes
    → AreSeated state physics nodes (new_seats config players)
together {W} {S} state physics config players worlds nodes same fresh =
    let P : ℕ → Type 0 = λ n. AreSeated state physics nodes (new_seats config n) in
    let here : P worlds = λ i n there. fresh i n there in
    subst P same here

pub all_played : (config : GameConfig) (players base seed count : ℕ) {A : Type 0} (bytes : A → List ℕ)
    (found : Option A) (text : A)
    → found ≡ Some text → IfSome found (λ t. IsLoop config players base seed count (bytes t) 0)
    → IsLoop config players base seed count (bytes text) 0
all_played config players base seed count {A} bytes found text is all =
    let P : Option A → Type 0 = λ o. IfSome o (λ t. IsLoop config players base seed count (bytes t) 0) in
    subst P is all
