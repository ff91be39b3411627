use Rattle.std.proofs.{Common.{rules, ◌≡◌, ◌<◌, ℕ, length, ap, ◌∙◌, arith, get_or}, lemmas.List.get_or_default}
use Rattle.dn_machine.specs.Node.{put}
use Rattle.dn_link.specs.{declared.line.Line.Line, Line.{heard_on, new_line}, Pacing.state_of}
use Rattle.dn_link.proofs.Places.{place_put}
use Rattle.dn_link.proofs.pace.Pace.hear.Goals as goal

pub returns : goal.returns
returns c =
    let lines = c.args.self.now.lines in
    let bundle = c.args.bundle.now in
    let four : length lines ≡ 4 = search rules in
    let below : bundle.from < length lines = omega (arith, four, c.requires) in
    ap (λ (f : ℕ → Line). record (state_of c.args.self.now) { lines = f })
    (place_put new_line lines bundle.from c.hear.new.self below
    ∙ ap (put (λ player. get_or lines player new_line) bundle.from)
    (c.hear.ensures ∙ ap (heard_on bundle) (get_or_default lines bundle.from _ new_line below)))
