use Rattle.dn_session.proofs.Numbers.{same_game}
use Rattle.dn_session.proofs.laws.one_game_a_number.Goals as goal

pub returns : goal.returns
returns c = λ key host other terms others one two three four five six h o t u l1 l2 l3 l4 l5 l6 apart same.
    same_game host other terms others one two three four five six h o t u l1 l2 l3 l4 l5 l6 (apart same)
