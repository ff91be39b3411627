-- What the tests of a node say, and what they need.
use Rattle.dn_remain.proofs.{Vanished.Tests.heard_from, Vanished.Tests.can}
use Rattle.dn_remain.proofs.vanish.calls.tests_are_exact.Goals as goal

pub returns-clause-suffices : goal.returns-clause-suffices
returns-clause-suffices c players ahead history q newest run known h =
    heard_from players ahead history q newest run known h

pub returns-clause-is_needed : goal.returns-clause-is_needed
returns-clause-is_needed c players q node newest h = can players q node newest h
