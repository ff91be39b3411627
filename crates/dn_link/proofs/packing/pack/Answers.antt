use Rattle.std.proofs.Common.{rules, ◌≡◌, ◌≤◌, ◌∷◌, [], refl, length, arith}
use Rattle.dn_link.proofs.{Packings.IsFull, Packings.packs_on, Packings.packs_all, packing.pack.Goals.in-Some+then-is_full, packing.pack.Goals.in_default}
use Rattle.dn_link.proofs.packing.pack.Goals as goal

pub packets-init : goal.packets-init
packets-init c = record {
  fits = c.new-packing.ensures.fits;
  done = [];
  split = refl;
  told = c.new-packing.ensures.none c.args.from;
  tight = c.new-packing.ensures.tight c.args.from;
  last = c.new-packing.ensures.last;
}

pub packets-preserved : goal.packets-preserved
packets-preserved c =
    let split : c.packets.rest.now ≡ c.in-Some.packet.now ∷ c.in-Some.after.now = search rules in
    packs_on c.args.from c.args.packets.now c.packets.packing c.packets.rest.now c.packets.invariant c.add.new.self
    c.in-Some.packet.now c.in-Some.after.now split c.add.ensures.fits c.add.ensures.more
    (c.add.ensures.tight c.packets.invariant.tight) c.add.ensures.last

pub returns-clause-packed : goal.returns-clause-packed
returns-clause-packed c =
    let end = c.end_run.ensures in
    let was = c.packets.packing in
    let full : 1 ≤ length c.packets.rest.now → IsFull was =
    elim c.match-split_first.branch [
      | in-Some+then-is_full w ↦ λ some. w.is_full.ensures.full w.if-is_full.true
      | in_default w ↦ λ some. absurd (omega (arith, some, w.in_default.ensures.cases))
    ] in
    packs_all c.args.from c.args.packets.now was c.packets.rest.now c.packets.invariant
    c.end_run.new.self end.none (end.same c.args.from) end.parts full
