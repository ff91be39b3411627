-- What is known of each game that a list of events leads to.
use Rattle.std.proofs.Common.{◌≡◌, ℕ, ◌<◌, refl, inl, inr, List, ◌∷◌, arith, sym, ap, subst, [], ◌⊎◌, Bool, false, Option, Some, None, slice_get, true, ◌≢◌, if◌then◌else◌}
use Rattle.std.proofs.lemmas.{Bool.{ltb-true, and_parts, both_ways, cond-false, cases_eq, true≢false}, Option.none-some}
use Rattle.dn_tic.specs.declared.{command.TicCmd.TicCmd, input.Input.Input}
use Rattle.dn_setup.specs.Settings.{Settings}
use Rattle.dn_machine.specs.Game.{Game, with_node, own_marks, posted, opening_game, refused_at, refused, delivered}
use Rattle.dn_machine.specs.{Game.on_event, declared.answers.Phase.TheVariants.{Ended, Listening, Gathering}}
use Rattle.dn_machine.specs.{declared.{answers.Cause.Cause, events.Event.Event}, Node.{Node, put, got}, Flight.Flight}
use Rattle.dn_machine.specs.{Sparing.on_run_but, Sending.on_build, Limits.Limits, Worlds.Rules}
use Rattle.dn_machine.proofs.{Games.passes, Put.{slice_get_push, put_off, put_at}}
use Rattle.dn_remain.specs.Wary.{now_of, end_seen, Report, Wary, can_settle, after_news, with_gone, with_report}
use Rattle.dn_remain.specs.{Wary.{on_give_up, on_report, report_to}, Vanished.Commands.{Holder, seen, past_seen, Had}}
use Rattle.dn_remain.specs.Remaining.{Remaining, wary_of, NextRemain, with_wary, after_event, opening_remaining}
use Rattle.dn_remain.specs.{Remaining.{LeadsRemain, RunsRemain, Telling}, declared.events.RemainEvent.RemainEvent}
use Rattle.dn_remain.proofs.{Vanished.Always.always, Marked.IsAlike, Marked.alike_sent, Marked.alike_quit, Marked.alike_heard, Marked.alike_give_up, Marked.alike_report, Each.IsNoRun, Each.each_event}
use Rattle.dn_remain.proofs.{Each.each_remain, Followed.IsFollowed, Followed.named, Answering.settled_at, Each.give_up_cases, Each.report_cases, Followed.there, Seeing.reached_some, Vanished.Handing.was_seen}
use Rattle.dn_remain.proofs.{Vanished.Invariant.IsKept, Followed.AreFollowed, Followed.anchored, Marked.IsMarked, Marked.alike_keeps, Marked.build_keeps, RunMarks.run_keeps, Settings.AreSet, Followed.own_place}
use Rattle.dn_remain.proofs.{Followed.owns, News.{tells, news_there, here, noted, gives, keeps}}
use Rattle.dn_machine.specs.Node as machine
use Rattle.dn_remain.proofs.Known
use Rattle.dn_remain.proofs.Settings

-- A report is told to a player of the game whom its sender has not given up.
abbrev pub AreTold : ℕ → List Telling → Type 0
AreTold players reports = (which : ℕ) (t : Telling) → slice_get reports which ≡ Some t
    → (t.to < players) × (t.report.gone t.to ≡ false)

told_open : (limits : Limits) (me : ℕ) (wary : Wary) (to : ℕ) (report : Report)
    → report_to limits me wary to ≡ Some report → report.gone to ≡ false
told_open limits me wary to report h = grind arith

module _ {S : Type 0} (rules : Rules S) (all : Remaining) (h : AreTold rules.players all.reports) where
  pub told_after : (event : RemainEvent) (next : Remaining) → NextRemain rules all event next
      → AreTold rules.players next.reports
  told_after = each_remain rules all (λ r. AreTold rules.players r.reports) h (λ event goes. h) (λ node player none. h)
      (λ node to low report is which t e.
      elim (slice_get_push all.reports (record { from = node; to = to; report = report }) which t e) [
        | inl old ↦ h which t old
        | inr new ↦ subst (λ (s : Telling). (s.to < rules.players) × (s.report.gone s.to ≡ false)) (sym new)
            (low, told_open rules.limits node (wary_of all node) to report is)
      ]) (λ which t e none. h)

-- Every list of events in which players may be given up leads to a game whose nodes have a history.
module _ {S : Type 0} (known : ℕ → Holder TicCmd → Type 0) (rules : Rules S) where
  module _ (all : Remaining) (older : List (ℕ → Holder TicCmd)) (f : IsFollowed known rules all older) where
    stays : (q : ℕ) → AreFollowed known rules (with_wary all q (wary_of all q))
    stays q = subst (λ (r : Remaining). AreFollowed known rules r) (sym (own_place all q)) (older, f)

    keeps_give_up : (q player : ℕ) → q < rules.players
        → AreFollowed known rules (with_wary all q (on_give_up rules.limits q (wary_of all q) player).0)
    keeps_give_up q player mine = give_up_cases rules.limits q (wary_of all q) (λ (w : Wary). AreFollowed known rules (with_wary all q w))
        player (stays q)
        (λ phase low apart new. news_there known rules all q (with_gone rules.limits (wary_of all q) player) mine
        (noted known rules all older f q mine phase player).left (gives known rules all older f q mine phase player low apart))

    hears_report : (t : Telling) → t.to < rules.players → Had (now_of all.game all.gone ∷ older) t.from t.report
        → AreFollowed known rules (with_wary all t.to (on_report rules.limits t.to (wary_of all t.to) t.from t.report).0)
    hears_report t mine had = report_cases rules.limits t.to (wary_of all t.to)
        (λ (w : Wary). AreFollowed known rules (with_wary all t.to w)) t.from t.report (stays t.to)
        (λ phase from_open to_open newer. news_there known rules all t.to (with_report (wary_of all t.to) t.from t.report) mine
        (here known rules all older f t.to mine phase) (keeps known rules all older f t.to mine phase t.from t.report had))

    pub followed_after : (event : RemainEvent) (next : Remaining) → NextRemain rules all event next → AreFollowed known rules next
    followed_after = each_remain rules all (λ r. AreFollowed known rules r) (older, f) (owns known rules all older f)
        (λ node player none. keeps_give_up node player (named known rules all older f node none))
        (λ node to low report is. tells known rules all older f node to report is)
        (λ which t e none. hears_report t (named known rules all older f t.to none) (f.reports which t e))

pub followed_at_first : {S : Type 0} (rules : Rules S) (settings : Settings)
    → IsFollowed Known.known rules (opening_remaining settings) []
unfolding opening_remaining
followed_at_first rules settings = record {
  follows = Known.opens rules settings;
  newest = λ q r report h. absurd (none-some report h);
  reports = λ which t h. absurd (none-some t h);
}

-- Each event changes one node at most: by a build, a run, or a call that leaves what it made and ran.

abbrev pub IsCalled : {S : Type 0} → Rules S → (ℕ → Bool) → ℕ → Node → Node → Type 0
IsCalled rules gone q old new = IsAlike q old new
    ⊎ (((input : Input) × (new ≡ (on_build rules.limits q old input).0))
    ⊎ (new ≡ (on_run_but rules.limits gone old (own_marks rules old)).0))

abbrev pub IsChange : {S : Type 0} → Rules S → Remaining → Game → Type 0
IsChange rules all game = (game.nodes ≡ all.game.nodes)
    ⊎ ((q : ℕ) × (q < rules.players) × (new : Node) × (game.nodes ≡ put all.game.nodes q new)
    × IsCalled rules (all.gone q) q (all.game.nodes q) new)

posted_nodes : (game : Game) (o : Option Flight) → (posted game o).0.nodes ≡ game.nodes
posted_nodes game None = refl
posted_nodes game (Some flight) = refl

module _ {S : Type 0} {known : ℕ → Holder TicCmd → Type 0} {rules : Rules S} {all : Remaining}
    {older : List (ℕ → Holder TicCmd)} (f : IsFollowed known rules all older) where
  own_gone : (q : ℕ) → all.gone q q ≡ false
  own_gone q = ((always rules.players rules.ahead (past_seen
      (now_of all.game all.gone ∷ older)) f.follows.run).sound q (seen (now_of all.game all.gone q)) (inl refl)).own

  delivers : (o : Option Flight) (which : ℕ) → slice_get all.game.flights which ≡ o
      → IsChange rules all (delivered rules all.game o).0
  delivers None which h = inl refl
  delivers (Some flight) which h = grind (arith, f.follows.flights which flight h, alike_heard)

  -- a call of a node
  calls : (node : ℕ) → refused_at rules.players all.game node ≡ None → (new : Node)
      → IsCalled rules (all.gone node) node (all.game.nodes node) new
      → IsChange rules all (with_node all.game node new)
  calls node h new called = inr (node, named known rules all older f node h, new, refl, called)

  happens : (event : Event) → refused rules.players all.game event ≡ None → IsNoRun event
      → IsChange rules all (on_event rules all.game event).0
  happens event h n = grind (arith, calls, ltb-true, and_parts, passes, posted_nodes, alike_sent, delivers, alike_quit)

  pub changes : (event : RemainEvent) (next : Remaining) → NextRemain rules all event next → IsChange rules all next.game
  changes = each_remain rules all (λ r. IsChange rules all r.game) (inl refl)
      (λ event goes. each_event rules all (λ event g. IsChange rules all g) (λ event. inl refl) happens
      (λ node none. calls node none _ (inr (inr refl))) event)
      (λ node player none. calls node none _
      (inl (alike_give_up rules.limits node (wary_of all node) (own_gone node) player)))
      (λ node to low report is. inl refl)
      (λ which t e none. calls t.to none _
      (inl (alike_report rules.limits t.to (wary_of all t.to) (own_gone t.to) t.from t.report)))

-- A node that can decide has decided.

-- by the reports that it has, it knows the ends of all whom it has given up
abbrev pub IsSettled : Limits → ℕ → Wary → Type 0
IsSettled limits me wary = can_settle limits me wary ≡ true → (p : ℕ) → wary.gone p ≡ true
    → end_seen wary.node p ≡ Some (got wary.node p)

-- by the same reports, where what it knows stays
pub still_settled : (limits : Limits) (me : ℕ) (wary : Wary) (new : Node) → IsSettled limits me wary
    → ((p e : ℕ) → end_seen wary.node p ≡ Some e → (end_seen new p ≡ Some e) × (got new p ≡ e))
    → IsSettled limits me (record wary { node = new })
still_settled limits me wary new h same can p given = grind arith

module _ (limits : Limits) (me : ℕ) (wary : Wary) where
  after_settles : IsSettled limits me (after_news limits me wary)
  after_settles again p given = grind (arith, settled_at, reached_some, both_ways, cond-false)

module _ (limits : Limits) (me : ℕ) (wary : Wary) (h : IsSettled limits me wary) where
  gives_up : (player : ℕ) → IsSettled limits me (on_give_up limits me wary player).0
  gives_up player = give_up_cases limits me wary (λ (w : Wary). IsSettled limits me w) player h
      (λ phase low apart new. after_settles limits me (with_gone limits wary player))

  hears : (from : ℕ) (report : Report) → IsSettled limits me (on_report limits me wary from report).0
  hears from report = report_cases limits me wary (λ (w : Wary). IsSettled limits me w) from report h
      (λ phase here there newer. after_settles limits me (with_report wary from report))

abbrev pub AreSettled : Limits → Remaining → Type 0
AreSettled limits all = (q : ℕ) → IsSettled limits q (wary_of all q)

module _ (limits : Limits) (all : Remaining) (h : AreSettled limits all) where
  placed : (q : ℕ) (wary : Wary) → IsSettled limits q wary → AreSettled limits (with_wary all q wary)
  placed q wary new x = grind (arith, IsSettled, there, put_off)

module _ {S : Type 0} (rules : Rules S) (all next : Remaining) (h : AreSettled rules.limits all) where
  -- what is known stays
  abbrev Keeps : Remaining → Type 0
  Keeps new = (x p e : ℕ) → end_seen (all.game.nodes x) p ≡ Some e
      → (end_seen (new.game.nodes x) p ≡ Some e) × (got (new.game.nodes x) p ≡ e)

  pub settled_on : Keeps next → (event : RemainEvent) → NextRemain rules all event next → AreSettled rules.limits next
  settled_on same event step = each_remain rules all (λ r. Keeps r → AreSettled rules.limits r) (λ k. h)
      (λ event goes k x. still_settled rules.limits x (wary_of all x) ((after_event rules all event).nodes x) (h x) (k x))
      (λ node player none k. placed rules.limits all h node _ (gives_up rules.limits node (wary_of all node) (h node) player))
      (λ node to low report is k. h)
      (λ which t e none k. placed rules.limits all h t.to _
      (hears rules.limits t.to (wary_of all t.to) (h t.to) t.from t.report)) event next step same

pub record IsReached {S : Type 0} (rules : Rules S) (settings : Settings) (all : Remaining)
    (older : List (ℕ → Holder TicCmd)) : Type 0 where
  pub followed : IsFollowed Known.known rules all older
  pub set : AreSet settings all.game
  pub marked : (x : ℕ) → IsMarked rules settings x (all.game.nodes x)
  pub settled : AreSettled rules.limits all
  pub told : AreTold rules.players all.reports

not_ended : (b : Bool) (cause : Cause) → (if b then Gathering else Listening) ≢ Ended cause
not_ended true cause e = cc
not_ended false cause e = cc

module _ {S : Type 0} (rules : Rules S) (settings : Settings) where
  module _ (all : Remaining) (older : List (ℕ → Holder TicCmd)) (h : IsReached rules settings all older)
      (event : RemainEvent) (next : Remaining) (step : NextRemain rules all event next) where
    now : IsFollowed (Had (now_of all.game all.gone ∷ older)) rules all older
    now = grind (arith, anchored)

    pub later : AreFollowed (Had (now_of all.game all.gone ∷ older)) rules next
    later = followed_after (Had (now_of all.game all.gone ∷ older)) rules all older now event next step

    kept : IsKept rules.players (past_seen (now_of next.game next.gone ∷ later.0))
    kept = always rules.players rules.ahead (past_seen (now_of next.game next.gone ∷ later.0)) later.1.follows.run

    -- a known end stays, and so does the count up to it
    ends : (x p e : ℕ) → end_seen (all.game.nodes x) p ≡ Some e
        → (end_seen (next.game.nodes x) p ≡ Some e) × (got (next.game.nodes x) p ≡ e)
    ends x p e s =
        let stays : end_seen (next.game.nodes x) p ≡ Some e =
        (kept.order x (seen (now_of all.game all.gone x)) (was_seen (now_of next.game next.gone ∷ later.0) x
        (now_of all.game all.gone x) (later.1.follows.knows x (now_of all.game all.gone x)
        (inl refl)))).ends p e s in
        (stays, (kept.sound x (seen (now_of next.game next.gone x)) (inl refl)).full p e stays)

    called : (q : ℕ) → q < rules.players → (new : machine.Node)
        → ((p e : ℕ) → end_seen (all.game.nodes q) p ≡ Some e → end_seen new p ≡ Some e)
        → IsCalled rules (all.gone q) q (all.game.nodes q) new → IsMarked rules settings q new
    called q mine new still (inl alike) = grind (arith, alike_keeps)
    called q mine new still (inr (inl built)) = subst (λ (n : machine.Node). IsMarked rules settings q n)
        (sym built.1) (build_keeps rules settings q (all.game.nodes q) (h.marked q) built.0
        (λ p e s. subst (λ (n : machine.Node). end_seen n p ≡ Some e) built.1 (still p e s)))
    called q mine new still (inr (inr ran)) = subst (λ (n : machine.Node). IsMarked rules settings q n) (sym ran)
        (run_keeps rules settings all.game all.gone older now.follows h.marked q mine
        (λ plays. (h.set.nodes q).played ((h.set.nodes q).plays plays)))

    marked_on : (x : ℕ) → IsMarked rules settings x (next.game.nodes x)
    marked_on x = elim (changes h.followed event next step) [
      | inl same ↦ subst (λ (n : machine.Node). IsMarked rules settings x n)
          (sym (ap (λ (nodes : ℕ → machine.Node). nodes x) same)) (h.marked x)
      | inr one ↦ elim (cases_eq x one.0) [
        | inr n ↦ grind (arith, IsMarked, put_off)
        | inl e ↦
            let at : next.game.nodes one.0 ≡ one.2 = grind (arith, put_at) in
            subst (λ (i : ℕ). IsMarked rules settings i (next.game.nodes i)) (sym e)
            (subst (λ (m : machine.Node). IsMarked rules settings one.0 m) (sym at)
            (called one.0 one.1 one.2
            (λ p e s. subst (λ (m : machine.Node). end_seen m p ≡ Some e) at (ends one.0 p e s).0) one.4))
      ]
    ]

    pub goes_on : IsReached rules settings next later.0
    goes_on = record {
      followed = grind (arith, later, ends);
      set = Settings.by_event settings rules all next h.set event step;
      marked = marked_on;
      settled = settled_on rules all next h.settled ends event step;
      told = told_after rules all h.told event next step;
    }

  pub opens : IsReached rules settings (opening_remaining settings) []
  unfolding opening_remaining opening_game
  opens = record {
    followed = followed_at_first rules settings;
    set = Settings.opens settings rules;
    marked = grind (arith, not_ended);
    settled = λ q can p given. absurd (true≢false (sym given));
    told = λ which t e. absurd (none-some t e);
  }

  leads : (events : List RemainEvent) (all last : Remaining) (older : List (ℕ → Holder TicCmd))
      → IsReached rules settings all older → LeadsRemain rules all events last
      → (later : List (ℕ → Holder TicCmd)) × IsReached rules settings last later
  leads [] all last older h same = grind arith
  leads (event ∷ events) all last older h way = leads events way.0 last _
      (goes_on all older h event way.0 way.1) way.2

  pub reached_by : (events : List RemainEvent) (all : Remaining) → RunsRemain rules settings events all
      → (older : List (ℕ → Holder TicCmd)) × IsReached rules settings all older
  reached_by events all run = leads events (opening_remaining settings) all [] opens run

pub follow_all : {S : Type 0} (rules : Rules S) (settings : Settings) (events : List RemainEvent) (all : Remaining)
    → RunsRemain rules settings events all → AreFollowed Known.known rules all
follow_all rules settings events all run =
    let known = reached_by rules settings events all run in (known.0, known.1.followed)
