-- The links of one game in which players may be given up stay so.
use Rattle.std.proofs.{Common.{◌≡◌, ◌<◌, ℕ, ℤ, pos, Bool, false, List, get_or, refl, ap, sym, ◌∙◌, subst, arith, Option, Some, inl, inr, None, [], ◌∷◌}, lemmas.Bool.cases_eq}
use Rattle.std.specs.Prelude.{slice_get}
use Rattle.dn_tic.specs.declared.{command.Move.Move, input.Input.Input}
use Rattle.dn_setup.specs.Settings.{Settings}
use Rattle.dn_machine.specs.{declared.answers.{Made.Made, Ran.Ran}, Sending.on_build, Limits.Limits, Node.put, Running.{is_over, on_quit}, Sparing.on_run_but}
use Rattle.dn_machine.proofs.Put.{put_at, put_off}
use Rattle.dn_lockstep.specs.{Contents.{Contents, end_in}, Marking.Marking, OneGame.world_told, Represents.Represents, Steps.{RunsBy, Simulates, Steps, marks_in, with_row}}
use Rattle.dn_remain.proofs.Vanished.Put.{at_put}
use Rattle.dn_survivor.specs.{Calls.{GivesUp, HearsReport, GivesUpUnless, HearsReportUnless, given_up_by, heard_by, refused_give_up, refused_report}, OfOthers.with_newest, Surviving.{Surviving, has_given_up}, Telling.report_for}
use Rattle.dn_survivor.specs.OneGame.{AreRemaining, Given, Session, after_build, after_report, after_run, with_survivor, reports_on}
use Rattle.dn_survivor.specs.declared.{report.Report.Report, answers.{GivenUp.GivenUp, Reported.Reported}, others.Others.Others}
use Rattle.dn_link.specs.{Linked.{Linked, probed, surviving_of}, RemainingLinks.{AreRemainingLinks, IsLater, IsTrulyTold}, Surviving.GivesUpPeer}
use Rattle.dn_link.proofs.{Deciding.{give_up_holds, report_holds}, Growing.{HasAsMuch, Holds, as_much, build_holds, grows, quit_holds, run_holds}, Knowing.{nothing_given, put_told, told_on}}
use Rattle.dn_link.proofs.Relinking.{AreKept, all_later, all_put, found_on, put_kept}
use Rattle.dn_machine.specs.Node as machine
use Rattle.dn_survivor.proofs.OneGame as one_game

-- Whose a survivor is stays.

-- and whom it has given up, where it hears a report
pub hears_same : (from : ℕ) (report : Report) (old new : Surviving) (answer : Reported)
    → HearsReport from report old new answer
    → (new.lockstep.me ≡ old.lockstep.me) × (new.others.gone ≡ old.others.gone)
hears_same from report old new answer hears = go (refused_report old from report) hears
  where
    go : (refused : Option Reported) → HearsReportUnless refused from report old new answer
        → (new.lockstep.me ≡ old.lockstep.me) × (new.others.gone ≡ old.others.gone)
    go (Some reason) stays =
        (ap (λ (n : Surviving). n.lockstep.me) stays.1, ap (λ (n : Surviving). n.others.gone) stays.1)
    go None steps = (ap (λ w. w.me) steps.1.same, ap (λ (o : Others). o.gone) steps.0)

pub gives_up_own : (player : ℕ) (old new : Surviving) (answer : GivenUp)
    → GivesUp player old new answer → new.lockstep.me ≡ old.lockstep.me
gives_up_own player old new answer gives = go (refused_give_up old player) gives
  where
    go : (refused : Option GivenUp) → GivesUpUnless refused player old new answer
        → new.lockstep.me ≡ old.lockstep.me
    go (Some reason) stays = ap (λ (n : Surviving). n.lockstep.me) stays.1
    go None steps = ap (λ w. w.me) steps.1.same

-- The calls.

-- a report that was given is, when one more was
pub reports_stay : (reports : List Given) (from to : ℕ) (report : Option Report) (which : ℕ) (given : Given)
    → slice_get reports which ≡ Some given → slice_get (reports_on reports from to report) which ≡ Some given
reports_stay reports from to None which given found = found
reports_stay reports from to (Some report) which given found =
    found_on reports (record { from = from; to = to; report = report } ∷ []) which given found

module _ (marking : Marking) (limits : Limits) (settings : Settings) (session : Session) (links : ℕ → Linked)
    (linked : AreRemainingLinks marking limits settings session links) where
  -- they are those of one game after a call, in a later session
  abbrev pub GoOn : Session → (ℕ → Linked) → Type 0
  GoOn later next = AreRemainingLinks marking limits settings later next × IsLater session later

  -- a link is another now, and the session another
  pub relinked : (later : Session) (player : ℕ) (new : Linked) → AreRemaining marking limits settings later
      → later.survivors ≡ put session.survivors player (surviving_of new) → IsLater session later
      → AreKept later.packets player new.peers → IsTrulyTold later.survivors new.peers → GoOn later (put links player new)
  relinked later player new game placed is kept told = (
    record {
      game = game;
      survivors = λ other below. elim (cases_eq other player) [
        | inl at ↦ ap surviving_of (put_at links player other new at)
            ∙ sym (ap (λ (f : ℕ → Surviving). f other) placed
            ∙ put_at session.survivors player other (surviving_of new) at)
        | inr off ↦ ap surviving_of (put_off links player other new off) ∙ linked.survivors other below
            ∙ sym (ap (λ (f : ℕ → Surviving). f other) placed
            ∙ put_off session.survivors player other (surviving_of new) off)
      ];
      started = λ other below. is.started other (linked.started other below);
      kept = λ other peer below. all_put session.packets later.packets is.packets links player new kept other
          peer (linked.kept other peer below);
      told = at_put (λ (k : ℕ) (l : Linked). k < limits.players → IsTrulyTold later.survivors l.peers) links player new
          (λ below. told) (λ k off below. told_on session later (links k).peers is (linked.told k below));
    },
    is,
  )

  module _ (player : ℕ) (mine : player < limits.players) where
    abbrev pub old : Linked
    old = links player

    pub survivor : surviving_of old ≡ session.survivors player
    survivor = linked.survivors player mine

    abbrev pub m : machine.Node
    m = linked.game.last.game.nodes player

    pub shows : Represents limits player old.node m
    shows = subst (λ (s : Surviving). Represents limits player s.lockstep m) (sym survivor)
        (linked.game.nodes player mine).node

    pub own : old.node.me ≡ player
    own = shows.whose.number

    pub all_kept : AreKept session.packets player old.peers
    all_kept peer = linked.kept player peer mine

    -- it has as much of each other player then
    abbrev pub HasMuch : Contents → Type 0
    HasMuch new = HasAsMuch player (session.survivors player).lockstep new

    pub much_on : (new : Contents) → HasAsMuch player old.node new → HasMuch new
    much_on new = subst (λ (s : Surviving). HasAsMuch player s.lockstep new) survivor

    pub same_much : (new : Contents) → new ≡ old.node → HasMuch new
    same_much new same = much_on new (subst (HasAsMuch player old.node) (sym same) (as_much player old.node))

    pub much_by : {A : Type 0} (new : Contents) (by : Limits → ℕ → machine.Node → machine.Node × A)
        (IsAnswer : A → Type 0) → Simulates old.node new by IsAnswer → Holds m (by limits player m).0 → HasMuch new
    much_by new by IsAnswer step holds =
        much_on new (grows limits player old.node new m _ shows (step limits player m shows).node mine holds)

    gave_up_much : (peer : ℕ) (now : Surviving) (answer : GivenUp) → GivesUp peer (surviving_of old) now answer
        → HasMuch now.lockstep
    gave_up_much peer now answer gives = go (refused_give_up (surviving_of old) peer) gives
      where
        go : (refused : Option GivenUp) → GivesUpUnless refused peer (surviving_of old) now answer → HasMuch now.lockstep
        go (Some reason) stays = same_much now.lockstep (ap (λ (s : Surviving). s.lockstep) stays.1)
        go None steps = much_by now.lockstep (λ limits me m. given_up_by limits me old.others peer m)
            (λ given. answer ≡ given) steps.1.step (give_up_holds limits player old.others peer m)

    heard_much : (from : ℕ) (report : Report) (now : Surviving) (answer : Reported)
        → HearsReport from report (surviving_of old) now answer → HasMuch now.lockstep
    heard_much from report now answer hears = go (refused_report (surviving_of old) from report) hears
      where
        go : (refused : Option Reported) → HearsReportUnless refused from report (surviving_of old) now answer
            → HasMuch now.lockstep
        go (Some reason) stays = same_much now.lockstep (ap (λ (s : Surviving). s.lockstep) stays.1)
        go None steps = much_by now.lockstep (λ limits me m. heard_by limits me (with_newest old.others from report) m)
            (λ told. answer ≡ told) steps.1.step (report_holds limits player (with_newest old.others from report) m)

    -- a call that keeps the peers, and gives nothing
    pub called : (later : Session) (new : Linked) → AreRemaining marking limits settings later
        → later.survivors ≡ put session.survivors player (surviving_of new) → later.packets ≡ session.packets
        → later.reports ≡ session.reports → HasMuch new.node → new.peers ≡ old.peers → GoOn later (put links player new)
    called later new game placed packets reports much peers =
        let is = nothing_given session later player (surviving_of new) placed much packets reports in
        relinked later player new game placed is
        (subst (AreKept later.packets player) (sym peers) (λ peer. all_later session.packets later.packets is.packets
        player peer (old.peers peer).kept.packets (all_kept peer)))
        (subst (IsTrulyTold later.survivors) (sym peers) (told_on session later old.peers is (linked.told player mine)))

    -- and one that changes nothing but who is there, and how far each is known to be
    pub stays : (new : Linked) → surviving_of new ≡ surviving_of old → AreKept session.packets player new.peers
        → IsTrulyTold session.survivors new.peers
        → GoOn (with_survivor session player (surviving_of new)) (put links player new)
    stays new same kept told =
        let later : Session = with_survivor session player (surviving_of new) in
        let is = nothing_given session later player (surviving_of new) refl
        (same_much new.node (ap (λ (s : Surviving). s.lockstep) same)) refl refl in
        relinked later player new
        (one_game.keeps marking limits settings linked.game player (surviving_of new) (same ∙ survivor)) refl is kept
        (told_on session later new.peers is told)

    pub same_link : (new : Linked) → new ≡ old
        → GoOn (with_survivor session player (surviving_of new)) (put links player new)
    same_link new same =
        stays new (ap surviving_of same)
        (subst (λ (l : Linked). AreKept session.packets player l.peers) (sym same) all_kept)
        (subst (λ (l : Linked). IsTrulyTold session.survivors l.peers) (sym same) (linked.told player mine))

    pub counted : (to : ℕ) (new : Linked) → new ≡ probed old to
        → GoOn (with_survivor session player (surviving_of new)) (put links player new)
    counted to new same =
        stays new (ap surviving_of same)
        (subst (λ (l : Linked). AreKept session.packets player l.peers) (sym same)
        (put_kept session.packets player old.peers to _ all_kept (all_kept to)))
        (subst (λ (l : Linked). IsTrulyTold session.survivors l.peers) (sym same)
        (put_told session.survivors old.peers (linked.told player mine) to (old.peers to).kept _))

    pub built : (new : Linked) (input : Input) (made : Made)
        → Steps old.node new.node (λ limits me m. on_build limits me m input) (λ answer. made ≡ answer)
        → new.others ≡ old.others → new.peers ≡ old.peers
        → GoOn (after_build session player input made (surviving_of new)) (put links player new)
    built new input made step others peers =
        called (after_build session player input made (surviving_of new)) new
        (one_game.builds marking limits settings linked.game player mine (surviving_of new) input made
        (subst (λ (s : Surviving). Steps s.lockstep new.node (λ limits me m. on_build limits me m input)
        (λ answer. made ≡ answer)) survivor step) (others ∙ ap (λ (s : Surviving). s.others) survivor)) refl refl refl
        (much_by new.node (λ limits me m. on_build limits me m input) (λ answer. made ≡ answer) step.step
        (build_holds limits player m input)) peers

    pub runs : (new : Linked) (marks : List ℤ) (ran : Ran) (row : Option (List (Option Move)))
        → ((tic other : ℕ) → ran ≡ Ran.Ran tic → other < limits.players
        → is_over (end_in old.node other) old.node.ran ≡ false
        → get_or marks other (pos 0) ≡ marking (world_told limits settings (session.told player)) other)
        → RunsBy marks old.node new.node
        (λ limits m marks. on_run_but limits (has_given_up (surviving_of old)) m marks)
        (λ answer told. (ran ≡ answer) × (row ≡ told)) → new.others ≡ old.others → new.peers ≡ old.peers
        → GoOn (after_run session player row (surviving_of new)) (put links player new)
    runs new marks ran row honest step others peers =
        called (after_run session player row (surviving_of new)) new
        (one_game.runs marking limits settings linked.game player mine (surviving_of new) marks ran row
        (subst (λ (s : Surviving). (tic other : ℕ) → ran ≡ Ran.Ran tic → other < limits.players
        → is_over (end_in s.lockstep other) s.lockstep.ran ≡ false
        → get_or marks other (pos 0) ≡ marking (world_told limits settings (session.told player)) other)
        survivor honest) (subst (λ (s : Surviving). RunsBy marks s.lockstep new.node
        (λ limits m marks. on_run_but limits (has_given_up s) m marks)
        (λ answer told. (ran ≡ answer) × (row ≡ told))) survivor step)
        (others ∙ ap (λ (s : Surviving). s.others) survivor)) refl refl refl
        (much_by new.node
        (λ limits me m. with_row limits m (on_run_but limits (has_given_up (surviving_of old)) m (marks_in marks)))
        (λ answer. (ran ≡ answer.0) × (row ≡ answer.1)) step.step
        (run_holds limits player m (has_given_up (surviving_of old)) (marks_in marks))) peers

    pub quits : (new : Linked) (quit : Bool)
        → Steps old.node new.node (λ limits me m. on_quit m) (λ answer. quit ≡ answer)
        → new.others ≡ old.others → new.peers ≡ old.peers
        → GoOn (with_survivor session player (surviving_of new)) (put links player new)
    quits new quit step others peers =
        called (with_survivor session player (surviving_of new)) new
        (one_game.quits marking limits settings linked.game player mine (surviving_of new) quit
        (subst (λ (s : Surviving). Steps s.lockstep new.node (λ limits me m. on_quit m) (λ answer. quit ≡ answer))
        survivor step) (others ∙ ap (λ (s : Surviving). s.others) survivor)) refl refl refl
        (much_by new.node (λ limits me m. on_quit m) (λ answer. quit ≡ answer) step.step (quit_holds limits player m)) peers

    pub gives_up : (peer : ℕ) (new : Linked) (answer : GivenUp) → GivesUpPeer peer old new answer
        → GoOn (with_survivor session player (surviving_of new)) (put links player new)
    gives_up peer new answer (now, gives, is) =
        let same : surviving_of new ≡ now = ap surviving_of is in
        called (with_survivor session player (surviving_of new)) new
        (subst (λ (s : Surviving). AreRemaining marking limits settings (with_survivor session player s)) (sym same)
        (one_game.gives_up marking limits settings linked.game player mine peer now answer
        (subst (λ (s : Surviving). GivesUp peer s now answer) survivor gives))) refl refl refl
        (subst HasMuch (ap (λ (s : Surviving). s.lockstep) (sym same)) (gave_up_much peer now answer gives))
        (ap (λ (l : Linked). l.peers) is)

    pub told : (to : ℕ) (report : Option Report) → report ≡ report_for (surviving_of old) to
        → GoOn (after_report session player to report) links
    told to report is = (
      record {
        game = one_game.tells marking limits settings linked.game player mine to report
            (is ∙ ap (λ (s : Surviving). report_for s to) survivor);
        survivors = linked.survivors;
        started = linked.started;
        kept = linked.kept;
        told = linked.told;
      },
      record {
        packets = λ which packet found. found;
        reports = λ which given found. reports_stay session.reports player to report which given found;
        got = λ other which apart. omega arith;
        ended = λ other was. was;
        started = λ other was. was;
      },
    )

  -- a report that was given comes to whom it was given
  pub reported : (which : ℕ) (given : Given) (new : Linked) (answer : Reported)
      → slice_get session.reports which ≡ Some given
      → HearsReport given.from given.report (surviving_of (links given.to)) (surviving_of new) answer
      → new.peers ≡ (links given.to).peers
      → GoOn (with_survivor session given.to (surviving_of new)) (put links given.to new)
  reported which given new answer found hears peers =
      let below : given.to < limits.players =
      (one_game.to_one marking limits settings linked.game which given found).0 in
      called given.to below (with_survivor session given.to (surviving_of new)) new
      (one_game.reports marking limits settings linked.game which given found (surviving_of new) answer
      (subst (λ (s : Surviving). HearsReport given.from given.report s (surviving_of new) answer)
      (linked.survivors given.to below) hears)) refl refl refl
      (heard_much given.to below given.from given.report (surviving_of new) answer hears) peers
