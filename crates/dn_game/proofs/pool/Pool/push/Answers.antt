use Rattle.std.proofs.Common.{rules, ◌≡◌, ◌++◌, ◌∷◌, [], ap, ◌∙◌}
use Rattle.dn_game.specs.Pool.{Pool}
use Rattle.dn_game.proofs.Packing.{newest, packs, packs_flight}
use Rattle.dn_game.proofs.pool.Pool.push.Goals as goal

bytes_are : (c : goal.After-push_reserved) → c.append.new.bytes.items
    ≡ c.self.inside.bytes.items ++ c.args.bytes.now
bytes_are c = search rules

records_are : (c : goal.After-push_reserved) → c.push_reserved.new.self.items ≡ c.self.inside.records.items
    ++ newest c.self.inside.bytes.items c.args.from c.args.to c.args.aim c.args.bytes.now ∷ []
records_are c = search rules

pub invariant_of-self : goal.invariant_of-self
invariant_of-self c =
    rw (bytes_are c, records_are c)
    (packs c.self.inside.bytes.items c.self.inside.records.items c.self.invariant c.args.from c.args.to
    c.args.aim c.args.bytes.now c.requires.short)

pub returns-clause-flights : goal.returns-clause-flights
returns-clause-flights c =
    rw (bytes_are c, records_are c)
    (packs_flight c.self.inside.bytes.items c.self.inside.records.items c.self.invariant c.args.from c.args.to
    c.args.aim c.args.bytes.now c.requires.short ∙ ap (λ (p : Pool). p.flights ++ record {
      from = c.args.from;
      to = c.args.to;
      aim = c.args.aim;
      bytes = record { items = c.args.bytes.now };
    } ∷ []) c.self.view_is)
