use Rattle.dn_link.proofs.{Bringing.sent, CatchingOut.{covered, on_time, two_windows}}
use Rattle.dn_link.proofs.caught_up.caught_up_links_cover.Goals as goal

pub returns-clause-few : goal.returns-clause-few
returns-clause-few c = λ marking limits settings session links player to linked were mine.
    two_windows marking limits settings session links linked player mine were to

pub returns-clause-in_time : goal.returns-clause-in_time
returns-clause-in_time c = λ marking limits settings session links player to linked were mine below apart fits goes_on.
    on_time marking limits settings session links linked player mine were to below apart goes_on fits

pub returns-clause-covered : goal.returns-clause-covered
returns-clause-covered c = λ marking limits settings session links player to seal pace new bytes linked were mine below
    apart goes_on time gives packet took. (covered marking limits settings session links linked player mine were to below
    apart seal pace new bytes gives (λ plays. time) goes_on).1 packet took

pub returns-clause-sent : goal.returns-clause-sent
returns-clause-sent c = λ marking limits settings session links player to seal pace new bytes linked were mine below
    apart twelve near plays gives. sent marking limits settings session links linked player mine were to below apart seal
    pace new bytes gives twelve near plays
