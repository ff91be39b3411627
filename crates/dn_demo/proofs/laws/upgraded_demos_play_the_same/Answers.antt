use Rattle.dn_demo.proofs.RecordedAnew.{all_bytes, upgraded_read, upgraded_played}
use Rattle.dn_demo.proofs.laws.upgraded_demos_play_the_same.Goals as goal

pub returns-clause-read : goal.returns-clause-read
returns-clause-read g c bytes demo limit recorder fits =
    upgraded_read bytes demo limit recorder (all_bytes bytes fits)

pub returns-clause-played : goal.returns-clause-played
returns-clause-played g c bytes demo new limit recorder fits =
    upgraded_played g.W.World.physics bytes demo new limit recorder (all_bytes bytes fits)
