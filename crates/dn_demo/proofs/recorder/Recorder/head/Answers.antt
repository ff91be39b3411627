use Rattle.std.proofs.Common.{◌≡◌, ◌∙◌, [], length, append-nil, sym, ap, rules}
use Rattle.dn_demo.specs.{Layout.long_tics, Text.header, Places.seats_in}
use Rattle.dn_demo.proofs.Text.{text-none, header-seats}
use Rattle.dn_demo.proofs.recorder.Recorder.head.Goals as goal

pub returns-clause-written : goal.returns-clause-written
returns-clause-written c = search (rules, text-none)

pub returns-clause-seats : goal.returns-clause-seats
returns-clause-seats c =
    let text : c.append.new.bytes.items ≡ header long_tics c.args.start.now c.args.view c.args.present =
    search rules in
    let four : length c.args.present ≡ 4 = search rules in
    ap seats_in (text ∙ sym (append-nil (header long_tics c.args.start.now c.args.view c.args.present)))
    ∙ header-seats long_tics c.args.start.now c.args.view c.args.present [] four
