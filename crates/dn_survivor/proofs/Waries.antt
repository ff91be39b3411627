-- The calls of a survivor are those of a node of `dn_remain`.
use Rattle.std.proofs.Common.{◌≡◌, ◌≢◌, ◌<◌, ◌≤◌, ℕ, Bool, true, false, refl, ap, subst, ◌∙◌, arith, inl, inr, Option}
use Rattle.std.proofs.{Common.{Some, None, not, if◌then◌else◌}, lemmas.Bool.{cases_Bool, cond_both, true≢false}}
use Rattle.dn_survivor.specs.{declared.report.Report.Report as Told, declared.others.Others.Others, OfOthers.has, OfOthers.reported_as, OfOthers.with_newest, OfOthers.Tells}
use Rattle.dn_survivor.specs.{declared.answers.Ends.Ends, declared.answers.GivenUp.GivenUp, declared.answers.Reported.Reported, Calls.decided_by, Surviving.Surviving, Calls.GivesUp, Calls.GivesUpUnless}
use Rattle.dn_survivor.specs.{Calls.HearsReport, Calls.given_up_as, Calls.given_up_by, Calls.heard_by, Calls.refused_give_up, Calls.refused_report, Calls.reported_by, Represents.CanTakeAll, Represents.Represents}
use Rattle.dn_survivor.specs.{Represents.given_up_is, Represents.reported_is}
use Rattle.dn_machine.specs.{declared.answers.Phase.Phase, Limits.Limits, Node.put}
use Rattle.dn_machine.proofs.Put.{put_off}
use Rattle.dn_lockstep.specs.{Settling.{is_no_peer, on_excuse, on_excuse_in}, Steps.{IsAfter, Steps}}
use Rattle.dn_remain.specs.Wary.{Report, Wary, after_news, can_settle, is_in_game, newest_seen, noted_gone, on_give_up}
use Rattle.dn_remain.specs.{Wary.{on_report, with_gone, with_report}, Vanished.{Calls.is_newer, Commands.seen}}
use Rattle.dn_survivor.proofs.Ends.{decides, tests}
use Rattle.dn_machine.specs.Node as machine
use Rattle.dn_lockstep.specs.Represents as lockstep
use Rattle.dn_survivor.specs.declared.others.hearing.Reported as noted
use Rattle.dn_survivor.specs.OfOthers as others
use Rattle.dn_survivor.proofs.OfOthers as of_others
use Rattle.dn_remain.specs.declared.events.GivenUp as remain_given
use Rattle.dn_remain.specs.declared.events.Reported as remain_reported
use Rattle.dn_survivor.specs.Calls as call

-- what has become of the ends, where all can be taken
abbrev ends_if : Bool → Ends
ends_if can = if can then Ends.Taken else Ends.Awaited

-- as which a node of `dn_remain` answers it
given_is : (can : Bool) → given_up_as (ends_if can)
    ≡ given_up_is (if can then remain_given.GivenUp.Decided else remain_given.GivenUp.Waiting)
given_is true = refl
given_is false = refl

told_is : (can : Bool) → reported_by (ends_if can)
    ≡ reported_is (if can then remain_reported.Reported.Decided else remain_reported.Reported.Kept)
told_is true = refl
told_is false = refl

-- what a node makes of news is what its survivor makes of them
module _ (limits : Limits) (me : ℕ) (kept : Others) (wary : Wary) (mine : me < limits.players)
    (r : others.Represents limits.players limits.places me kept wary.gone wary.newest)
    (peers : (player : ℕ) → wary.gone player ≡ true → is_no_peer limits.players me player ≡ false)
    (here : is_in_game wary.node.phase ≡ true)
    (can : can_settle limits me wary ≡ true → CanTakeAll limits me wary) where
  pub news : decided_by limits me kept wary.node
      ≡ ((after_news limits me wary).node, ends_if (can_settle limits me wary))
  news = grind (arith, tests, decides)

-- and nothing else changes
pub news_gone : (limits : Limits) (me : ℕ) (wary : Wary) → (after_news limits me wary).gone ≡ wary.gone
news_gone limits me wary = grind arith

news_newest : (limits : Limits) (me : ℕ) (wary : Wary) → (after_news limits me wary).newest ≡ wary.newest
news_newest limits me wary = grind arith

-- so a survivor represents the node afterwards, if its lockstep does
shows : (limits : Limits) (me : ℕ) (now : Surviving) (wary : Wary) → me < limits.players → limits.players ≤ 4
    → limits.places ≤ 24 → others.Represents limits.players limits.places me now.others wary.gone wary.newest
    → ((player : ℕ) → wary.gone player ≡ true → is_no_peer limits.players me player ≡ false)
    → lockstep.Represents limits me now.lockstep (after_news limits me wary).node
    → Represents limits me now (after_news limits me wary)
shows limits me now wary mine few room r peers node = grind (arith, news_gone, news_newest)

-- to wait no longer for a player before the start is to have noted it
excused_in : (limits : Limits) (m : machine.Node) (player : ℕ) (phase : Phase)
    → (on_excuse_in limits m player phase).0 ≡ noted_gone limits m player phase
excused_in limits m player phase = grind arith

pub excused : (limits : Limits) (me : ℕ) (m : machine.Node) (player : ℕ)
    → is_no_peer limits.players me player ≡ false
    → (on_excuse limits me m player).0 ≡ noted_gone limits m player m.phase
unfolding on_excuse
excused limits me m player peer = rw peer (excused_in limits m player m.phase)

-- and leaves it in the game
pub still_in : (limits : Limits) (m : machine.Node) (player : ℕ) (phase : Phase) → m.phase ≡ phase
    → is_in_game phase ≡ true → is_in_game (noted_gone limits m player phase).phase ≡ true
still_in limits m player phase e h = grind (arith, true≢false, cond_both)

module _ (limits : Limits) (me : ℕ) (old new : Surviving) (wary : Wary) (r : Represents limits me old wary) where
  same_peer : (player : ℕ) → is_no_peer old.lockstep.players old.lockstep.me player
      ≡ is_no_peer limits.players me player
  same_peer player = λ i. is_no_peer (r.node.whose.players i) (r.node.whose.number i) player

  same_phase : is_in_game old.lockstep.phase ≡ is_in_game wary.node.phase
  same_phase = ap is_in_game r.node.stands.phase

  below : (player : ℕ) → is_no_peer limits.players me player ≡ false → player < limits.players
  below player peer = grind (arith, peer)

  same_gone : (player : ℕ) → is_no_peer limits.players me player ≡ false
      → has old.others.gone player ≡ wary.gone player
  same_gone player peer = r.others.given_up player (below player peer)

  -- after news that it keeps, of which its lockstep makes what the node does
  represented : {A : Type 0} (now : Wary) (kept : Others) {x : machine.Node × A} {is : A} (answer : A)
      → new.others ≡ kept → others.Represents limits.players limits.places me kept now.gone now.newest
      → ((p : ℕ) → now.gone p ≡ true → is_no_peer limits.players me p ≡ false)
      → x ≡ ((after_news limits me now).node, is) → IsAfter limits me new.lockstep x (λ a. answer ≡ a)
      → Represents limits me new (after_news limits me now) × (answer ≡ is)
  represented {A} now kept answer same is_kept peers after step = grind (arith, shows)

  module _ (player : ℕ) (answer : GivenUp) where
    abbrev IsGivenUp : Wary × remain_given.GivenUp → Type 0
    IsGivenUp after = Represents limits me new after.0 × (answer ≡ given_up_is after.1)

    refuses : (reason : remain_given.GivenUp) → refused_give_up old player ≡ Some (given_up_is reason)
        → on_give_up limits me wary player ≡ (wary, reason) → GivesUp player old new answer
        → IsGivenUp (on_give_up limits me wary player)
    refuses reason e is h = grind arith

    module _ (peer : is_no_peer limits.players me player ≡ false) (here : is_in_game wary.node.phase ≡ true)
        (can : can_settle limits me (with_gone limits wary player) ≡ true
        → CanTakeAll limits me (with_gone limits wary player)) where
      abbrev given : Wary
      given = with_gone limits wary player

      peers : (p : ℕ) → given.gone p ≡ true → is_no_peer limits.players me p ≡ false
      peers p h = grind (arith, put_off)

      kept : others.Represents limits.players limits.places me (call.with_gone old.others player) given.gone given.newest
      kept = of_others.given_up limits.players limits.places me old.others wary.gone wary.newest r.others player
          (let low = below player peer in let few = r.few in omega arith)

      after : given_up_by limits me old.others player wary.node
          ≡ ((after_news limits me given).node, given_up_as (ends_if (can_settle limits me given)))
      after =
          ap (λ (m : machine.Node). let x = decided_by limits me (call.with_gone old.others player) m in (x.0, given_up_as x.1))
          (excused limits me wary.node player peer)
          ∙ ap (λ (x : machine.Node × Ends). (x.0, given_up_as x.1))
          (news limits me (call.with_gone old.others player) given r.player kept peers
          (still_in limits wary.node player wary.node.phase refl here) can)

      gives : (new.others ≡ call.with_gone old.others player)
          × Steps old.lockstep new.lockstep (λ limits me m. given_up_by limits me old.others player m)
          (λ a. answer ≡ a)
          → IsGivenUp (
            after_news limits me given,
            if can_settle limits me given then remain_given.GivenUp.Decided else remain_given.GivenUp.Waiting,
          )
      gives h = grind (arith, represented, kept, peers, after, given_is)

    pub gave_up : (is_in_game wary.node.phase ≡ true → is_no_peer limits.players me player ≡ false
        → can_settle limits me (with_gone limits wary player) ≡ true
        → CanTakeAll limits me (with_gone limits wary player)) → GivesUp player old new answer
        → IsGivenUp (on_give_up limits me wary player)
    unfolding on_give_up
    gave_up can h = elim (cases_Bool (is_no_peer limits.players me player)) [
      | inl stranger ↦ grind (arith, same_peer, refuses)
      | inr peer ↦
          let mine = same_peer player ∙ peer in
          elim (cases_Bool (is_in_game wary.node.phase)) [
            | inr out ↦ grind (arith, same_phase, refuses)
            | inl here ↦
                let both = same_phase ∙ here in
                let alike = same_gone player peer in
                elim (cases_Bool (wary.gone player)) [
                  | inl gone ↦ grind (arith, refuses)
                  | inr stays ↦
                      let known = alike ∙ stays in
                      let none : refused_give_up old player ≡ None = rw (mine, both, known) refl in
                      let told = subst (λ (o : Option GivenUp). GivesUpUnless o player old new answer) none h in
                      rw (peer, here, stays) (gives peer here (can here peer) told)
                ]
          ]
    ]

  -- a report comes
  module _ (from : ℕ) (report : Told) (holder : Report) (answer : Reported) (player : from < limits.players)
      (other : from ≢ me) (tells : Tells limits.players limits.places me from holder report)
      (can : is_in_game wary.node.phase ≡ true → can_settle limits me (with_report wary from holder) ≡ true
      → CanTakeAll limits me (with_report wary from holder)) where
    abbrev IsReported : Wary × remain_reported.Reported → Type 0
    IsReported after = Represents limits me new after.0 × (answer ≡ reported_is after.1)

    unheard : (reason : remain_reported.Reported) → refused_report old from report ≡ Some (reported_is reason)
        → on_report limits me wary from holder ≡ (wary, reason) → HearsReport from report old new answer
        → IsReported (on_report limits me wary from holder)
    unheard reason e is h = grind arith

    -- the tests of what is kept of the others
    noted_as : reported_as old.lockstep.players old.lockstep.me old.others from report
        ≡ (if wary.gone from then noted.Reported.GivenUp else (
        if holder.gone me then noted.Reported.Excluded else (
        if not (is_newer limits.players (newest_seen wary from) (seen holder)) then noted.Reported.Stale
        else noted.Reported.Kept)))
    noted_as =
        (λ i. reported_as (r.node.whose.players i) (r.node.whose.number i) old.others from report)
        ∙ of_others.reported limits.players limits.places me old.others wary.gone wary.newest r.others from holder
        report player tells r.player

    peer : is_no_peer old.lockstep.players old.lockstep.me from ≡ false
    peer = same_peer from ∙ grind (arith, player, other)

    abbrev told_now : Wary
    told_now = with_report wary from holder

    newest : others.Represents limits.players limits.places me (with_newest old.others from report) told_now.gone
        told_now.newest
    newest = of_others.heard limits.players limits.places me old.others wary.gone wary.newest r.others from holder report
        (let few = r.few in omega (arith, player, few)) tells

    hears : is_in_game wary.node.phase ≡ true
        → (new.others ≡ with_newest old.others from report)
        × Steps old.lockstep new.lockstep (λ limits me m. heard_by limits me (with_newest old.others from report) m)
        (λ a. answer ≡ a)
        → IsReported (
          after_news limits me told_now,
          if can_settle limits me told_now then remain_reported.Reported.Decided else remain_reported.Reported.Kept,
        )
    hears here h =
        let after : heard_by limits me (with_newest old.others from report) wary.node
        ≡ ((after_news limits me told_now).node, reported_by (ends_if (can_settle limits me told_now))) =
        ap (λ (x : machine.Node × Ends). (x.0, reported_by x.1))
        (news limits me (with_newest old.others from report) told_now r.player newest r.peers here (can here)) in
        let shown = represented told_now (with_newest old.others from report) answer h.0 newest r.peers after
        (h.1.step limits me wary.node r.node) in
        (shown.0, shown.1 ∙ told_is (can_settle limits me told_now))

    pub heard : HearsReport from report old new answer → IsReported (on_report limits me wary from holder)
    unfolding on_report
    heard h = elim (cases_Bool (is_in_game wary.node.phase)) [
      | inr out ↦ grind (arith, same_phase, unheard)
      | inl here ↦ grind (arith, same_phase, peer, noted_as, unheard, hears)
    ]
