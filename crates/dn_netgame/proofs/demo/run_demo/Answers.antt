use Rattle.dn_netgame.specs.DemoShown.{IsDemo}
use Rattle.dn_netgame.proofs.Showing.{shows_such}
use Rattle.dn_netgame.proofs.demo.run_demo.Goals as goal

pub returns-clause-shown : goal.returns-clause-shown
returns-clause-shown g c =
    let fed = c.in_ok-feed.ensures.shown in
    shows_such g.W.Write.contents _ IsDemo _ _ c.args.output.now c.print.new.output fed.0 _ _
    c.in_ok-text.status c.print.result c.print.ensures.printed c.as_bytes.ensures.value fed.1
    (c.in_ok-text.ensures.shown fed.0 fed.2)

pub returns-in_err-text-clause-memory : goal.returns-in_err-text-clause-memory
returns-in_err-text-clause-memory g c =
    λ _. (c.in_ok-feed.ensures.shown.0, c.in_ok-feed.ensures.shown.1)

pub returns-clause-memory : goal.returns-clause-memory
returns-clause-memory g c =
    λ _. (c.in_ok-feed.ensures.shown.0, c.in_ok-feed.ensures.shown.1)
