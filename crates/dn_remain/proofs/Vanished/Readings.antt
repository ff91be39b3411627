-- Readings of the definitions: what the rules say where each of the weaker ones fails. Player 0 is the one who
-- vanishes, and counts are of its commands.
use Rattle.std.specs.Prelude.{ℕ, ◌==◌, Bool, true, false, [], ◌∷◌, ◌≡◌, refl, Option, Some, None, if◌then◌else◌}
use Rattle.dn_machine.specs.Node.{put}
use Rattle.dn_remain.specs.Vanished.Node.{Node, fresh, highest, decided_end, decided}
use Rattle.dn_remain.specs.Vanished.Calls.{every, is_report, can_decide, report_or, may_give_up, is_newer}
use Rattle.dn_remain.specs.Vanished.Commands.{Holder, fresh_holder, commands_to, demo, longest, on_decision, caught_up}

none : ℕ → Bool
none = λ player. false

zero : ℕ → Bool
zero = put (λ player. false) 0 true

zero_and_one : ℕ → Bool
zero_and_one = put (put (λ player. false) 0 true) 1 true

-- a node that has so many commands of player 0, and has given up these
playing : ℕ → (ℕ → Bool) → Node
playing count set = record fresh { got = put (λ player. 0) 0 count; gone = set }

leaver : ℕ → (ℕ → Bool) → Node
leaver count set = record fresh { got = put (λ player. 0) 0 count; gone = set; left = true }

-- the newest report of player 1 alone
of_one : Node → ℕ → Option Node
of_one report = λ player. if player == 1 then Some report else None

-- a report for another set does not stand, larger or smaller, but for the last one of a smaller set
sets_so : (is_report 4 zero (playing 1 zero) ≡ true) × (is_report 4 zero (playing 1 zero_and_one) ≡ false)
    × (is_report 4 zero_and_one (playing 1 zero) ≡ false) × (is_report 4 zero_and_one (leaver 1 zero) ≡ true)
    × (is_report 4 zero (leaver 1 zero_and_one) ≡ false)
unfolding zero zero_and_one playing leaver every
sets_so = (refl, refl, refl, refl, refl)

-- player 2, who has given up 0, cannot decide where nothing came of player 1, who may have left, and where
-- player 1 has not given up 0; it can by a report for the same set, and by a last one
asked_so : (can_decide 3 2 (playing 0 zero) (λ player. None) ≡ false)
    × (can_decide 3 2 (playing 0 zero) (of_one (playing 1 none)) ≡ false)
    × (can_decide 3 2 (playing 0 zero) (of_one (playing 1 zero)) ≡ true)
    × (can_decide 3 2 (playing 0 zero) (of_one (leaver 1 none)) ≡ true)
unfolding none zero playing leaver of_one every
asked_so = (refl, refl, refl, refl)

-- then the end is the largest count, not its own, and it has the commands; the count of one who is given up,
-- who is player 1 in the last case, is not looked at
ends_so : ((decided 3 2 (playing 0 zero) (λ player. report_or (of_one (leaver 7 none) player))).ends 0 ≡ Some 7)
    × ((decided 3 2 (playing 0 zero) (λ player. report_or (of_one (leaver 7 none) player))).got 0 ≡ 7)
    × ((decided 3 2 (playing 9 zero) (λ player. report_or (of_one (playing 7 zero) player))).ends 0 ≡ Some 9)
    × (decided_end 3 2 (playing 4 zero_and_one) (λ player. playing 7 none) 0 ≡ 4)
unfolding none zero zero_and_one playing leaver of_one highest
ends_so = (refl, refl, refl, refl)

-- who may give up whom
may_so : (may_give_up 3 2 (playing 0 none) 0 ≡ true) × (may_give_up 3 2 (playing 0 none) 2 ≡ false)
    × (may_give_up 3 2 (playing 0 none) 3 ≡ false) × (may_give_up 3 2 (leaver 0 none) 0 ≡ false)
unfolding none playing leaver
may_so = (refl, refl, refl, refl)

-- of two reports one that has given up fewer is the older, and one from before a last one
newer_so : (is_newer 3 (Some (playing 0 none)) (playing 0 zero) ≡ true)
    × (is_newer 3 (Some (playing 0 zero)) (playing 0 none) ≡ false)
    × (is_newer 3 (Some (leaver 0 zero)) (playing 0 zero) ≡ false)
unfolding none zero playing leaver every
newer_so = (refl, refl, refl)

-- commands that are numbers: a list of three and the last four of five make five
lists_so : caught_up {C = ℕ} 4 (0 ∷ 1 ∷ 2 ∷ []) (0 ∷ 1 ∷ 2 ∷ 3 ∷ 4 ∷ []) ≡ 0 ∷ 1 ∷ 2 ∷ 3 ∷ 4 ∷ []
lists_so = refl

-- a node that ran a tic with player 0, one without and one with again, and has five commands of all
held : Holder ℕ
held = record fresh_holder {
  held = λ player. 0 ∷ 1 ∷ 2 ∷ 3 ∷ 4 ∷ [];
  gone = put (λ player. false) 0 true;
  rows = (λ player. false) ∷ (λ player. player == 0) ∷ (λ player. false) ∷ [];
}

-- its demo ends before the second tic, and a decision takes the longest list that is told
holders_so : (demo 2 held ≡ commands_to 2 held 1)
    × ((on_decision 2 1 (record held { held = λ player. 0 ∷ [] }) (λ player. held)).held 0 ≡ 0 ∷ [])
    × ((on_decision 3 1 (record held { held = λ player. 0 ∷ [] }) (λ player. held)).held 0 ≡ 0 ∷ 1 ∷ 2 ∷ 3 ∷ 4 ∷ [])
unfolding held commands_to every longest
holders_so = (refl, refl, refl)
