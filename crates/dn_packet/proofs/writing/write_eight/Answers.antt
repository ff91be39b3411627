use Rattle.std.proofs.Common.{arith, length-append}
use Rattle.dn_packet.proofs.Fronts.{sum_more, written_more}
use Rattle.dn_packet.proofs.writing.write_eight.Goals as goal

pub returns-clause-more : goal.returns-clause-more
returns-clause-more c = λ start old w.
    let bytes = c.args.bytes.now in
    record {
      written = written_more start bytes old c.args.room.now _ w.written c.told-bytes _ _ (omega arith)
          c.put_eight.ensures;
      whole = omega (arith, w.whole, length-append start bytes, c.told-bytes);
      total = sum_more start bytes old c.args.room.now _ w.written _ _ w.whole w.total c.add_words.ensures;
    }
