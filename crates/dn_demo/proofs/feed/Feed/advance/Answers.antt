use Rattle.std.proofs.{Common.{◌∷◌, get_or, sym, ap, ◌∙◌}, lemmas.List.take_rest}
use Rattle.dn_demo.proofs.FeedKept.{front_more, front_byte, first_byte}
use Rattle.dn_demo.proofs.feed.Feed.advance.Goals as goal

pub returns-then-self-clause-front : goal.returns-then-self-clause-front
returns-then-self-clause-front g c =
    let piece = c.args.piece.now in
    front_byte g.W.World.state g.W.World.physics _ _ piece _ (get_or piece 0 0)
    (first_byte piece c.requires.some ∙ ap (λ t. get_or piece 0 0 ∷ t) (sym (take_rest piece 1)))
    c.take_header.ensures.count c.take_header.ensures.shown

pub returns-clause-front : goal.returns-clause-front
returns-clause-front g c =
    front_more g.W.World.state g.W.World.physics _ _ _ _ _ _ c.take_rows-rest.ensures.front c.take_row.ensures.front
