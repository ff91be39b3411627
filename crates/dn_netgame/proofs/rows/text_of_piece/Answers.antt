use Rattle.std.proofs.Common.{◌≡◌, ◌++◌, ◌∙◌, ap, string_bytes}
use Rattle.dn_demo.specs.Feeding.{told}
use Rattle.dn_netgame.specs.Texts.{lines_of_rows}
use Rattle.dn_netgame.proofs.RowPieces.{told_more}
use Rattle.dn_netgame.proofs.rows.text_of_piece.Goals as goal

pub loop-rest-preserved : goal.loop-rest-preserved
loop-rest-preserved c =
    let more : string_bytes c.push_told.new.text ≡ string_bytes c.loop-rest.text
    ++ lines_of_rows c.loop-rest.feed.tics (told c.next_row-row.result.0) =
    c.in_ok-push_told.ensures
    ∙ ap (λ n. string_bytes c.loop-rest.text ++ lines_of_rows n (told c.next_row-row.result.0))
    c.tics-tic.ensures in
    told_more _ _ _ _ _ _ c.loop-rest.invariant.0 (told c.next_row-row.result.0)
    (string_bytes c.loop-rest.text) (string_bytes c.push_told.new.text)
    c.loop-rest.invariant.1 c.loop-rest.invariant.2 c.next_row-row.ensures.rows more
