use Rattle.dn_survivor.proofs.OfOthers.{decide, heard_alike, reported}
use Rattle.dn_survivor.proofs.others.laws.tests_agree.Goals as goal

pub returns-clause-heard : goal.returns-clause-heard
returns-clause-heard c = λ players places me player others gone newest node got r same.
    heard_alike players places me others gone newest r node got same player

pub returns-clause-decide : goal.returns-clause-decide
returns-clause-decide c = λ players places me others gone newest node got r same.
    decide players places me others gone newest r node got same

pub returns-clause-reported : goal.returns-clause-reported
returns-clause-reported c = λ players places me from others gone newest holder report r here player tells.
    reported players places me others gone newest r from holder report player tells here
