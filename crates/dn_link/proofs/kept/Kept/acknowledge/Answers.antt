use Rattle.std.proofs.Common.{rules, ◌≡◌, length, arith, ap, sym, subst}
use Rattle.std.specs.Prelude.{max}
use Rattle.dn_link.specs.{declared.bundle.Carried.Carried, Linking.kept, Kept.IsCovering, Kept.IsKeptRising, Kept.Unacknowledged, Kept.acknowledged, Kept.without}
use Rattle.dn_link.proofs.{Covered.covers_less, Covered.fewer, Covered.rises_past}
use Rattle.dn_link.proofs.kept.Kept.acknowledge.Goals as goal

pub invariant_of-self : goal.invariant_of-self
invariant_of-self c =
    let was : Unacknowledged = kept c.args.self.now in
    let left : c.drop_front.new.packets.items ≡ without c.args.count was.packets = c.drop_front.ensures in
    let covered : c.max-self.result ≡ max was.covered c.args.count = search rules in
    let done : c.max-self-2.result ≡ max was.done c.args.count = search rules in
    let same : ◌≡◌ {A = Unacknowledged} (record { packets = c.drop_front.new.packets.items; covered = c.max-self.result; done = c.max-self-2.result })
    (acknowledged was c.args.count) = λ i. record { packets = left i; covered = covered i; done = done i } in
    record {
      few = omega (arith, ap (length {A = Carried}) left, fewer was.packets c.args.count, c.args.self.now.few);
      covers = subst IsCovering (sym same) (covers_less was c.args.count c.args.self.now.covers);
      rising = subst IsKeptRising (sym same)
          (rises_past was.done was.packets was.covered c.args.count c.args.self.now.rising);
    }
