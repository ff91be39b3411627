-- What the step of one node leaves as it is, and the limits of demos with it.
use Rattle.std.proofs.Common.{◌≡◌, ◌≢◌, ◌++◌, ℕ, zero, suc, List, [], ◌∷◌, Option, Some, Result, Ok, append-nil, map, set, ap, sym, ◌∙◌, refl, subst, slice_get, slice_index_or, All}
use Rattle.std.proofs.Math.Seq.{map-set_same}
use Rattle.std.proofs.lemmas.List.Elements.{All-nil, All-cons, All-head, All-tail, All-map}
use Rattle.dn_machine.specs.{declared.answers.Ran.Ran, declared.events.Done.Done, declared.events.Event.Event, declared.events.Refusal.Refusal}
use Rattle.dn_lockstep.specs.Contents.{Whose}
use Rattle.dn_node.specs.{declared.node.Node.Node, Contents.{contents, whose, whose_of}}
use Rattle.dn_game.specs.{declared.flight.Flight.Flight, Contents.Contents, Frame.{KeepsRest, MovesNoWorld, named_by}}
use Rattle.dn_game.specs.Opening.{worlds_of, AreLimited}
use Rattle.dn_node.specs.Contents as node

-- what stands elsewhere stays
pub slice_get-set_other : {X : Type 0} (xs : List X) (i j : ℕ) (y : X) → j ≢ i
    → slice_get (set xs i y) j ≡ slice_get xs j
slice_get-set_other [] i j y apart = refl
slice_get-set_other (x ∷ xs) zero zero y apart = absurd (apart refl)
slice_get-set_other (x ∷ xs) zero (suc j) y apart = refl
slice_get-set_other (x ∷ xs) (suc i) zero y apart = refl
slice_get-set_other (x ∷ xs) (suc i) (suc j) y apart = slice_get-set_other xs i j y (λ e. apart (ap suc e))

module _ {W : Type 0} (nodes : List (Node W)) (place : ℕ) (next : Node W) where
  -- every node but the named one
  pub others_step : (named : Option ℕ) → named ≡ Some place → (i : ℕ) → named ≢ Some i
      → slice_get (set nodes place next) i ≡ slice_get nodes i
  others_step named is i apart =
      slice_get-set_other nodes place i next (λ same. apart (is ∙ ap Some (sym same)))

  -- and the worlds, where the step keeps the node's
  pub worlds_step : (old : Node W) → old ≡ slice_index_or nodes place old
      → (node.contents next).world ≡ (node.contents old).world
      → worlds_of (set nodes place next) ≡ worlds_of nodes
  worlds_step old read kept =
      let own = λ (n : Node W). (node.contents n).world in
      map-set_same own nodes place next old (kept ∙ ap own read)

-- where neither the nodes nor the packets change, all is left
pub rest_all : {W : Type 0} (old new : Contents W) (event : Event) (answer : Result Done Refusal)
    → new.nodes ≡ old.nodes → new.flights ≡ old.flights → KeepsRest old new event answer
rest_all {W} old new event answer nodes flights =
    record {
      others = λ i apart. ap (λ (ns : List (Node W)). slice_get ns i) nodes;
      worlds = λ still. ap worlds_of nodes;
      more = ([], flights ∙ sym (append-nil old.flights));
    }

-- the step of the node that is named leaves the others, and the worlds where it keeps its own
pub rest_step : {W : Type 0} (g : Contents W) (place : ℕ) (old next : Node W) (event : Event)
    (answer : Result Done Refusal) → named_by g event ≡ Some place → old ≡ slice_index_or g.nodes place old
    → (MovesNoWorld answer → (node.contents next).world ≡ (node.contents old).world)
    → KeepsRest g (record g { nodes = set g.nodes place next }) event answer
rest_step g place old next event answer is read kept =
    record {
      others = others_step g.nodes place next (named_by g event) is;
      worlds = λ still. worlds_step g.nodes place next old read (kept still);
      more = ([], sym (append-nil g.flights));
    }

-- by the event that it is
pub rest_as : {W : Type 0} (old new : Contents W) (event is : Event) (answer : Result Done Refusal)
    → event ≡ is → KeepsRest old new is answer → KeepsRest old new event answer
rest_as old new event is answer same left = rw same left

-- packets that joined those that were kept
pub sent_after : (old kept new more : List Flight) → new ≡ kept ++ more → kept ≡ old
    → (sent : List Flight) × (new ≡ old ++ sent)
sent_after old kept new more joined same = (more, joined ∙ ap (λ (fs : List Flight). fs ++ more) same)

-- a run that moves no world
pub run_keeps : (ran : Ran) → MovesNoWorld (Ok (Done.Ran ran)) → (tic : ℕ) → ran ≢ Ran.Ran tic
run_keeps ran moves tic is = subst (λ (r : Ran). MovesNoWorld (Ok (Done.Ran r))) is moves

-- A node that stays whose it was keeps the limit of its demo.

module _ {N : Type 0} (own : N → Whose) (limit : ℕ) where
  limited_as : (nodes : List N) → All (λ (w : Whose). w.limit ≡ limit) (map own nodes)
      → All (λ (n : N). (own n).limit ≡ limit) nodes
  limited_as [] all = All-nil (λ (n : N). (own n).limit ≡ limit)
  limited_as (node ∷ nodes) all =
      let P = λ (w : Whose). w.limit ≡ limit in
      All-cons (λ (n : N). (own n).limit ≡ limit) node nodes (All-head P (own node) (map own nodes) all)
      (limited_as nodes (All-tail P (own node) (map own nodes) all))

  -- so each demo has the limit that it had
  pub keep_limits : (old new : List N) → map own new ≡ map own old → All (λ (n : N). (own n).limit ≡ limit) old
      → All (λ (n : N). (own n).limit ≡ limit) new
  keep_limits old new kept before =
      limited_as new (rw kept (All-map (λ (w : Whose). w.limit ≡ limit) own old before))

pub limits_stay : {W : Type 0} (limit : ℕ) (old new : List (Node W)) → whose_of new ≡ whose_of old
    → AreLimited limit old → AreLimited limit new
limits_stay {W} = keep_limits (λ (n : Node W). whose (contents n))
