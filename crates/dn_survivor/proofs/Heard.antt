-- What is answered in a game of survivors: what a survivor answers for its node, and in a game.
use Rattle.std.proofs.Common.{◌≡◌, ◌<◌, ℕ, true, false, sym, ◌∙◌, inl, inr, arith, ◌⊎◌, Some, slice_get}
use Rattle.std.proofs.lemmas.Bool.{both_ways, cond-false}
use Rattle.dn_setup.specs.Settings.{Settings}
use Rattle.dn_machine.specs.{declared.answers.Heard.Heard, Flight.{Flight, is_near}, Limits.Limits}
use Rattle.dn_remain.specs.{Remaining.{wary_of, heard_of}, Wary.{Report, on_give_up, on_report, Wary}}
use Rattle.dn_lockstep.specs.{Hearing.HearsNear, Marking.Marking, Sent.bytes_of, Told.made, declared.lockstep.settling.Settled.Settled}
use Rattle.dn_survivor.specs.{Calls.GivesUp, Calls.HearsReport, OneGame.AreRemaining, Represents.reported_is, OneGame.Given, OneGame.Session, Surviving.Surviving, Surviving.has_given_up}
use Rattle.dn_survivor.specs.{declared.answers.GivenUp.GivenUp, declared.answers.Reported.Reported, Represents.given_up_is}
use Rattle.dn_survivor.proofs.Pairs.{steady}
use Rattle.dn_machine.specs.Drops as drops
use Rattle.dn_remain.specs.declared.events.GivenUp as remain_given
use Rattle.dn_remain.specs.declared.events.Reported as remain_reported
use Rattle.dn_survivor.proofs.OneGame as game_of

-- What a survivor answers for its node: each end that the node decides is taken, and no report is improper.

-- no answer of a node is that an end was not taken
module _ (player : ℕ) (reason : Settled) where
  pub taken_given : (answer : remain_given.GivenUp) → GivenUp.Untaken player reason ≡ given_up_is answer → ⊥
  taken_given answer e = grind (arith, e)

  pub taken_reported : (answer : remain_reported.Reported) → Reported.Untaken player reason ≡ reported_is answer → ⊥
  taken_reported answer e = grind (arith, e)

-- nor that a report is improper
pub never_improper : (answer : remain_reported.Reported) → Reported.Improper ≡ reported_is answer → ⊥
never_improper answer e = grind (arith, e)

pub is_excluded : (answer : remain_reported.Reported) → Reported.Excluded ≡ reported_is answer
    → answer ≡ remain_reported.Reported.Excluded
is_excluded answer e = grind (arith, e)

pub is_dropped : (answer : remain_reported.Reported) (number : ℕ) → Reported.Dropped number ≡ reported_is answer
    → answer ≡ remain_reported.Reported.Dropped number
is_dropped answer number e = grind (arith, e)

-- a receiver whom its sender has not given up is not told that it is
pub not_out : (limits : Limits) (me : ℕ) (wary : Wary) (from : ℕ) (report : Report) → report.gone me ≡ false
    → (on_report limits me wary from report).1 ≡ remain_reported.Reported.Excluded → ⊥
unfolding on_report
not_out limits me wary from report free e = grind (arith, free, e)

-- The answers in a game.
module _ (marking : Marking) (limits : Limits) (settings : Settings) (session : Session)
    (game : AreRemaining marking limits settings session) where
  pub given_up_taken : (here : ℕ) → here < limits.players → (player other : ℕ) (new : Surviving) (reason : Settled)
      → GivesUp player (session.survivors here) new (GivenUp.Untaken other reason) → ⊥
  given_up_taken here mine player other new reason by =
      taken_given other reason (on_give_up limits here (wary_of game.last here) player).1
      (game_of.gave_up_is marking limits settings game here mine player new (GivenUp.Untaken other reason) by).1

  module _ (which : ℕ) (given : Given) (at : slice_get session.reports which ≡ Some given) (new : Surviving) where
    is_reported : (answer : Reported) → HearsReport given.from given.report (session.survivors given.to) new answer
        → answer ≡ reported_is (on_report limits given.to (wary_of game.last given.to) given.from
        (game_of.holder marking limits settings game which given at)).1
    is_reported answer by = (game_of.reported marking limits settings game which given at new answer by).1

    pub reported_taken : (other : ℕ) (reason : Settled)
        → HearsReport given.from given.report (session.survivors given.to) new (Reported.Untaken other reason) → ⊥
    reported_taken other reason by = grind (arith, taken_reported, is_reported)

    pub not_excluded : HearsReport given.from given.report (session.survivors given.to) new Reported.Excluded → ⊥
    not_excluded by = grind (arith, not_out, game_of.to_one, is_excluded, is_reported)

    pub proper : HearsReport given.from given.report (session.survivors given.to) new Reported.Improper → ⊥
    proper by = never_improper _ (is_reported Reported.Improper by)

    pub reports_dropped : (number : ℕ)
        → HearsReport given.from given.report (session.survivors given.to) new (Reported.Dropped number)
        → (number ≡ drops.not_playing)
        ⊎ ((number ≡ 15) × (has_given_up (session.survivors given.to) given.from ≡ true))
    reports_dropped number by =
        let told = game_of.told_at marking limits settings game which given at in
        let to_it = (game_of.to_one marking limits settings game which given at).0 in
        grind (arith, steady, game_of.there_at, is_dropped, is_reported)

  -- a packet that was given
  module _ (which : ℕ) (packet : Flight) (at : slice_get session.packets which ≡ Some packet) (new : Surviving)
      (near : is_near (made (session.survivors packet.to).lockstep) packet ≡ true)
      (free : has_given_up (session.survivors packet.to) packet.from ≡ false) where
    pub packets_dropped : (number : ℕ)
        → HearsNear packet.from (bytes_of packet) (session.survivors packet.to).lockstep new.lockstep
        (Heard.Dropped number) → (number ≡ drops.out_of_place) ⊎ (number ≡ drops.not_playing)
    packets_dropped number by =
        let told = game_of.told_there marking limits settings game which packet at in
        let there = game_of.given_there marking limits settings game which packet at in
        let heard = game_of.heard_there marking limits settings game which packet at new (Heard.Dropped number) near
        (λ open_from. by) free in
        let off : game.last.gone packet.to packet.from ≡ false =
        sym ((game.nodes packet.to told.receiver).others.given_up packet.from told.sender) ∙ free in
        let is : heard_of limits game.last packet ≡ Heard.Dropped number =
        cond-false (game.last.gone packet.to packet.from) _ _ off ∙ sym heard.answer in
        elim ((steady marking limits settings session game).kept which packet number there is) [
          | inl place ↦ inl place
          | inr rest ↦ grind (arith, both_ways)
        ]
