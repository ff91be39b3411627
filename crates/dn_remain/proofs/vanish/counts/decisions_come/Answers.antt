-- What a decision brings.
use Rattle.std.proofs.Common.{◌≡◌, ℕ, ◌<◌, sym, ◌∙◌, ap, List, ◌∷◌, refl, subst, inl, [], true, false, Option, Some, leb-false}
use Rattle.dn_machine.specs.{Running.is_over, Node.put}
use Rattle.dn_remain.specs.Vanished.{Node.{Node, ran, HasHeard, decided}, Steps.{Decide, Step}}
use Rattle.dn_remain.proofs.Vanished.{Invariant.IsKept, Deciding.{got_in, ends_in}, Always.always}
use Rattle.dn_machine.proofs.Put.{put_at}
use Rattle.dn_remain.proofs.vanish.counts.decisions_come.Goals as goal

-- the end that it knows of a player is the count that it has
known_after : (players : ℕ) (nodes : ℕ → Node) (older : List (ℕ → Node)) (q : ℕ) → q < players
    → (nodes q).left ≡ false → IsKept players (nodes ∷ older) → (heard : ℕ → Node)
    → HasHeard players (nodes ∷ older) q (nodes q) heard → (p : ℕ) → (nodes q).gone p ≡ true
    → (decided players q (nodes q) heard).ends p ≡ Some ((decided players q (nodes q) heard).got p)
known_after players nodes older q l here kept heard hears p t =
    ends_in players nodes older q l here kept heard hears p t
    ∙ ap (λ (i : ℕ). Some i) (sym (got_in players nodes older q l here kept heard hears p t))

-- so what it has is enough for each tic before the end
has_command : (node : Node) (p : ℕ) → node.ends p ≡ Some (node.got p) → is_over (node.ends p) (ran node) ≡ false
    → ran node < node.got p
has_command node p e h = leb-false (node.got p) (ran node) (sym (ap (λ (o : Option ℕ). is_over o (ran node)) e) ∙ h)

pub returns : goal.returns
returns c players ahead [] q run l here stand = absurd run
returns c players ahead (nodes ∷ older) q run l here stand =
    let hears : HasHeard players (nodes ∷ older) q (nodes q) nodes = λ r m n o. (inl refl, stand r m n o) in
    let new : Node = decided players q (nodes q) nodes in
    let step : Step players ahead (nodes ∷ older) (put nodes q new) =
    record {
      q = q;
      act = Decide;
      new = new;
      player = l;
      here = here;
      acts = (nodes, hears, refl);
      next_is = refl;
    } in
    let known : (p : ℕ) → (nodes q).gone p ≡ true
    → (put nodes q new q).ends p ≡ Some ((put nodes q new q).got p) =
    λ p t. subst (λ (n : Node). n.ends p ≡ Some (n.got p)) (sym (put_at nodes q q new refl))
    (known_after players nodes older q l here (always players ahead (nodes ∷ older) run) nodes hears p t) in
    (put nodes q new, (step, run), known, λ p t h. has_command (put nodes q new q) p (known p t) h)
