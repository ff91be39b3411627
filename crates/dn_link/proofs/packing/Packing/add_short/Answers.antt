use Rattle.std.proofs.Common.{◌++◌, ◌∷◌, [], refl, ap, ◌∙◌, List}
use Rattle.dn_seal.specs.declared.opened.Opened.{Opened}
use Rattle.dn_link.specs.Packets.{opened_from, short_packet}
use Rattle.dn_link.proofs.{Packings.run_goes_on}
use Rattle.dn_link.proofs.packing.Packing.add_short.Goals as goal

pub returns-clause-more : goal.returns-clause-more
returns-clause-more c = λ from.
    let was = c.make_way.new.self in
    run_goes_on was (record {
      parts = was.parts;
      bytes = was.bytes;
      run = record { start = was.run.start; commands = c.append.new.bytes };
    }) from c.args.start c.args.command.now c.make_way.ensures.fits c.told-command c.make_way.ensures.few
    c.make_way.ensures.follows refl refl c.append.ensures ∙ ap (λ (ps : List Opened). ps ++ opened_from from
    (short_packet from c.args.start c.args.command.now) ∷ []) (c.make_way.ensures.same from)
