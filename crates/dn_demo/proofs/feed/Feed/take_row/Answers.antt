use Rattle.std.proofs.Common.{rules, ◌≡◌, ◌<◌, ◌⊎◌, ◌∷◌, false, List, ℕ, length, inl, inr, ap, sym, subst, arith}
use Rattle.dn_demo.specs.{Layout.layout_of, Reading.HasHeader}
use Rattle.dn_demo.proofs.FeedKept.{front_more, front_byte}
use Rattle.dn_demo.proofs.feed.Feed.take_row.Goals as goal

-- what is left is shorter than the piece
shorter : (piece rest behind : List ℕ) (byte : ℕ) → rest ≡ byte ∷ behind
    → (rest ≡ piece) ⊎ (length rest < length piece) → length behind < length piece
shorter piece rest behind byte split (inl same) = omega (arith, ap length split, ap length same)
shorter piece rest behind byte split (inr less) = omega (arith, ap length split, less)

pub returns-then-self-eq0-clause-front : goal.returns-then-self-eq0-clause-front
returns-then-self-eq0-clause-front g c =
    let split : c.loop-byte.rest.now ≡ c.in-Some.byte.now ∷ c.in-Some.behind.now = search rules in
    front_more g.W.World.state g.W.World.physics _ _ _ _ _ _ c.loop-byte.invariant.0
    (front_byte g.W.World.state g.W.World.physics _ _ _ _ c.in-Some.byte.now split
    c.take_command.ensures.count c.take_command.ensures.shown)

pub loop-byte-preserved : goal.loop-byte-preserved
loop-byte-preserved g c =
    let split : c.loop-byte.rest.now ≡ c.in-Some.byte.now ∷ c.in-Some.behind.now = search rules in
    let marked : c.take_command.new.self.marked ≡ false = search rules in (
      front_more g.W.World.state g.W.World.physics _ _ _ _ _ _ c.loop-byte.invariant.0
          (front_byte g.W.World.state g.W.World.physics _ _ _ _ c.in-Some.byte.now split
          c.take_command.ensures.count c.take_command.ensures.shown),
      subst (λ (t : List ℕ). HasHeader (layout_of c.args.layout) t) (sym c.take_command.ensures.header)
          c.loop-byte.invariant.1,
      marked,
      inr (shorter c.args.piece.now _ _ c.in-Some.byte.now split c.loop-byte.invariant.3),
    )
