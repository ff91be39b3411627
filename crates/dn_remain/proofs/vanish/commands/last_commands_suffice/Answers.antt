-- The last commands are enough.
use Rattle.dn_remain.proofs.Vanished.Lists.{ready_told, ready_all}
use Rattle.dn_remain.proofs.vanish.commands.last_commands_suffice.Goals as goal

pub returns-clause-told : goal.returns-clause-told
returns-clause-told g c players ahead places history q p r heard h m n f o =
    ready_told players ahead places history q p r heard h m n f o

pub returns-clause-all : goal.returns-clause-all
returns-clause-all g c players ahead places history q p heard h t =
    ready_all players ahead places history q p heard h t
