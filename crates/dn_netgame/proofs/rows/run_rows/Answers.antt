use Rattle.std.proofs.Common.{rules, ◌≡◌, ◌++◌, ℕ, List, [], sym, subst, inr, arith, append-nil, Err}
use Rattle.std.proofs.KnownBytes.{Appends-trans}
use Rattle.std.specs.{String.string_bytes, Io.KnownBytes.{Appends, Consumes}}
use Rattle.dn_netgame.specs.{Texts.lines_of_rows, RowsShown.ListsWhole, Transfer.AppendsFront, declared.transfer.RunFault.TheVariants.Write}
use Rattle.dn_netgame.proofs.RowPieces.{are_rows, rows_shown, front_behind}
use Rattle.dn_netgame.proofs.rows.run_rows.Goals as goal

pub returns-in_err-text-clause-fails : goal.returns-in_err-text-clause-fails
returns-in_err-text-clause-fails g c =
    let fed = c.in_ok-feed.ensures.shown in
    let whole : ListsWhole 33554433 (g.R.Read.remaining c.args.input.now) (g.R.Read.remaining c.list_rows.new.input)
    (g.W.Write.contents c.args.output.now) (g.W.Write.contents c.list_rows.new.output) =
    record {
      bytes = fed.0;
      last = [];
      lines = lines_of_rows 0 fed.3.0;
      taken = subst (λ (t : List ℕ). Consumes (g.R.Read.remaining c.args.input.now)
          (g.R.Read.remaining c.list_rows.new.input) t) (sym (append-nil fed.0)) fed.1.taken;
      within = omega (arith, fed.1.within);
      pieces = inr fed.1;
      few = omega arith;
      shown = are_rows fed.0 c.in_ok-feed.feed fed.3.0 fed.2 fed.3.1;
      written = fed.3.2;
    } in
    search rules

pub returns-in_err-put-clause-fails : goal.returns-in_err-put-clause-fails
returns-in_err-put-clause-fails g c =
    let fed = c.in_ok-feed.ensures.shown in
    let front : AppendsFront (g.W.Write.contents c.list_rows.new.output) (g.W.Write.contents c.put.new.output)
    (string_bytes c.in_ok-text.text) = search rules in
    let write : c.from_residual-in_err-put.result ≡ Err Write = search rules in
    rw write (record {
      bytes = fed.0;
      lines = lines_of_rows 0 fed.3.0 ++ string_bytes c.in_ok-text.text;
      taken = fed.1.taken;
      within = fed.1.within;
      shown = inr (
        fed.1,
        (
          c.in_ok-text.status,
          rows_shown fed.0 c.in_ok-feed.feed fed.3.0 _ _ fed.2 fed.3.1 (c.in_ok-text.ensures.shown fed.0 fed.2),
        ),
      );
      written = front_behind _ _ _ _ _ fed.3.2 front;
    })

pub returns-clause-shown : goal.returns-clause-shown
returns-clause-shown g c =
    let fed = c.in_ok-feed.ensures.shown in
    let put : Appends (g.W.Write.contents c.list_rows.new.output) (g.W.Write.contents c.put.new.output)
    (string_bytes c.in_ok-text.text) = search rules in
    record {
      bytes = fed.0;
      lines = lines_of_rows 0 fed.3.0 ++ string_bytes c.in_ok-text.text;
      taken = fed.1;
      shown = rows_shown fed.0 c.in_ok-feed.feed fed.3.0 _ _ fed.2 fed.3.1 (c.in_ok-text.ensures.shown fed.0 fed.2);
      written = Appends-trans _ _ _ _ _ fed.3.2 put;
    }
