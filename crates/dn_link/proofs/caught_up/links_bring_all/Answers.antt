use Rattle.dn_link.proofs.{Bringing.brings, Bringing.brings_on, Bringing.in_step_on, CatchingIn.{brought, learnt}, Exiting.exits}
use Rattle.dn_link.proofs.caught_up.links_bring_all.Goals as goal

pub returns-clause-given : goal.returns-clause-given
returns-clause-given c = λ marking limits settings session links player to seal pace new bytes linked
    were mine below apart twelve near plays full gives. brings marking limits settings session links
    linked player mine were to below apart seal pace new bytes gives twelve near plays full

pub returns-clause-stay : goal.returns-clause-stay
returns-clause-stay c = λ limits links later bundle count grown step brings_it. (
  in_step_on limits links later bundle grown step,
  brings_on limits links later bundle count grown step.sender step.receiver brings_it,
)

pub returns-clause-brought : goal.returns-clause-brought
returns-clause-brought c = λ marking limits settings session links player seal bytes new answer bundle count
    linked were mine genuine in_step receives is plays brings_it.
    let later = c.remaining_links_go_on.ensures.received marking limits settings session links player seal
    bytes new answer linked mine genuine receives in
    brought marking limits settings session links linked player mine were new later.0 later.1 seal bytes answer genuine
    in_step c.bundles_are_read_back.ensures bundle is plays receives count brings_it

pub returns-clause-exits : goal.returns-clause-exits
returns-clause-exits c = λ marking limits settings session links player to seal pace new bytes linked were mine below
    apart twelve narrow near left goes_on full gives. exits marking limits settings session links linked player mine were
    to below apart seal pace new bytes gives twelve near left goes_on narrow full

pub returns-clause-learnt : goal.returns-clause-learnt
returns-clause-learnt c = λ marking limits settings session links player seal bytes new answer bundle end linked were mine
    genuine in_step receives is plays has.
    let later = c.remaining_links_go_on.ensures.received marking limits settings session links player seal
    bytes new answer linked mine genuine receives in
    learnt marking limits settings session links linked player mine were new later.0 later.1 seal bytes answer genuine
    in_step c.bundles_are_read_back.ensures bundle is plays receives end has
