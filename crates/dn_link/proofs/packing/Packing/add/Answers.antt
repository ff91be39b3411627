use Rattle.std.proofs.Common.{◌++◌, ◌∷◌, [], ap, sym, ◌∙◌}
use Rattle.dn_link.specs.{declared.bundle.Carried.Carried, Packing.packed, Packets.opened_from}
use Rattle.dn_link.proofs.packing.Packing.add.Goals as goal

pub returns-in-Some-clause-more : goal.returns-in-Some-clause-more
returns-in-Some-clause-more c =
    c.add_short.ensures.more c.args.from
    ∙ ap (λ (p : Carried). packed c.args.from c.args.self.now ++ opened_from c.args.from p ∷ []) (sym c.in-Some.ensures.some)

pub returns-in-Some-clause-tight : goal.returns-in-Some-clause-tight
returns-in-Some-clause-tight c = c.add_short.ensures.tight c.args.from

pub returns-in-None-clause-tight : goal.returns-in-None-clause-tight
returns-in-None-clause-tight c = λ tight.
    c.add_whole.ensures.tight c.args.from tight (c.short_command.ensures.none c.in-None.is)
