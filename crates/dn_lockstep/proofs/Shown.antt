-- What a lockstep tells of itself, by the node that it represents, and the counts of such a node.
use Rattle.std.proofs.Common.{◌≡◌, ◌≢◌, ◌<◌, ◌≤◌, ◌+◌, ◌⊎◌, ℕ, ap, ◌∙◌, subst, arith, true, Some, None, refl, if◌then◌else◌, ◌==◌}
use Rattle.std.proofs.lemmas.{Bool.{eq-eqb, cond-true, and_parts, ltb-true}, Option.cond_some}
use Rattle.dn_tic.specs.declared.command.TicCmd.{TicCmd}
use Rattle.dn_setup.specs.Settings.{Settings}
use Rattle.dn_ring.specs.Ring.{Ring}
use Rattle.dn_demo.specs.Text.{demo_text}
use Rattle.dn_machine.specs.{Limits.Limits, Node.{has_left, known_end}}
use Rattle.dn_lockstep.specs.{Contents.{Contents, end_in}, Represents.Represents, Tables.count_of}
use Rattle.dn_lockstep.specs.Told.{HasStarted, got, made, command_told}
use Rattle.dn_lockstep.proofs.Keeping.{get_last}
use Rattle.dn_machine.specs.Node as machine

module _ (limits : Limits) (me : ℕ) (n : Contents) (m : machine.Node) (r : Represents limits me n m) where
  pub below : (p : ℕ) → p < n.players → p < limits.players
  below p h = let P : ℕ → Type 0 = λ k. p < k in subst P r.whose.players h

  pub mine : n.me < n.players → me < limits.players
  mine h = let P : ℕ → Type 0 = λ k. k < limits.players in subst P r.whose.number (below n.me h)

  -- how many commands it has of a player, and how many it made
  pub got_is : (p : ℕ) → p < n.players → count_of n.rings p ≡ machine.got m p
  got_is p h = ap (λ (k : Ring). k.count) (r.commands.rings p (below p h))

  pub made_is : n.me < n.players → count_of n.rings n.me ≡ machine.made me m
  made_is h = got_is n.me h ∙ ap (machine.got m) r.whose.number

-- where one player's ring changed: the player is this one and so is the count, or the count is as before
pub changed : (old new : ℕ → Ring) (player count : ℕ) → count_of new player ≡ count
    → ((p : ℕ) → p ≢ player → new p ≡ old p)
    → (p : ℕ) → ((p ≡ player) × (count_of new p ≡ count)) ⊎ (count_of new p ≡ count_of old p)
changed old new player count is others p = grind arith

-- what one player's ring counted at least, it counts where that ring grew
pub still_counted : (old new : ℕ → Ring) (player more low : ℕ) → count_of new player ≡ count_of old player + more
    → ((p : ℕ) → p ≢ player → new p ≡ old p) → (p : ℕ) → low ≤ count_of old p → low ≤ count_of new p
still_counted old new player more low is others p before = grind (arith, changed)

-- What a lockstep tells.

module _ (limits : Limits) (me : ℕ) (n : Contents) (m : machine.Node) (r : Represents limits me n m) where
  -- how many commands it has
  pub has : (player : ℕ) → player < limits.players → got n player ≡ machine.got m player
  has player below = got_is limits me n m r player (omega (arith, below, r.whose.players))

  -- a command that it tells is one that the node has
  pub tells_held : (player tic : ℕ) (command : TicCmd) → command_told n player tic ≡ Some command
      → (player < limits.players) × (tic < machine.got m player) × (command ≡ machine.held_at m player tic)
  tells_held player tic command e = grind (arith, and_parts, ltb-true, cond_some, get_last)

  pub started : HasStarted n → m.played ≡ true
  started is = grind arith

  -- the demo of one that has played, by these settings
  module _ (settings : Settings) (played : m.played ≡ true) (known : m.settings ≡ Some settings) where
    pub starts : HasStarted n
    unfolding demo_text
    starts none = grind arith

  -- the ends that it tells
  module _ (mine : me < limits.players) where
    pub makes : made n ≡ machine.made me m
    makes = ap (got n) r.whose.number ∙ has me mine

    pub end_is : (player : ℕ) → player < limits.players → end_in n player ≡ known_end me m player
    end_is player below = grind arith

    -- its own player's
    pub own_end_is : end_in n me ≡ (if has_left m then Some (machine.made me m) else None)
    own_end_is = end_is me mine ∙ cond-true (me == me) _ _ (eq-eqb me me refl)
