-- All other calls of a survivor, and what a call leaves.
use Rattle.std.proofs.Common.{◌≡◌, ◌<◌, ◌≤◌, ℕ, ℤ, Bool, List, refl, ap, ◌∙◌, Option, arith, not, nat_lt}
use Rattle.std.proofs.{lemmas.Bool.cond_both}
use Rattle.dn_tic.specs.declared.command.Move.{Move}
use Rattle.dn_machine.specs.{Limits.Limits, Node.{lowest, ran, Node, put}, declared.answers.{Ran.Ran, Phase.Phase}}
use Rattle.dn_machine.specs.{Sparing.{on_run_but}}
use Rattle.dn_remain.specs.Wary.{Report, Wary, report_of, undecided, after_news, noted_gone, on_give_up, on_report}
use Rattle.dn_remain.specs.{Wary.{with_gone, with_report}, Vanished.{Calls.is_heard, Commands.seen}}
use Rattle.dn_remain.proofs.Each.{run_but_cases, news_cases, give_up_cases, report_cases}
use Rattle.dn_lockstep.specs.{Steps.{RunsBy, marks_in, row_told, Steps}, Contents.Contents}
use Rattle.dn_lockstep.proofs.OneGame.{IsQuiet}
use Rattle.dn_survivor.specs.{OfOthers.nodes_of, OfOthers.nothing_kept, OfOthers.own_of, Calls.undecided_in, Represents.Represents, Represents.nobody_gone, Surviving.Surviving, Surviving.has_given_up}
use Rattle.dn_survivor.proofs.{OfOthers.first, Reports.lowest_alike}
use Rattle.dn_machine.specs.Node as machine
use Rattle.dn_lockstep.specs.Represents as lockstep
use Rattle.dn_survivor.proofs.OfOthers as agreeing

-- A call on the lockstep that a survivor lends.

-- a step of the lockstep that is lent is one of the survivor's own
pub lent_steps : {A : Type 0} {lent old new : Contents} {by : Limits → ℕ → Node → Node × A} {IsAnswer : A → Type 0}
    → lent ≡ old → Steps lent new by IsAnswer → Steps old new by IsAnswer
lent_steps {new = new} {by = by} {IsAnswer = IsAnswer} same steps = grind arith

-- What a run, a give-up and a report leave of the inputs and the rows of a node.
pub run_inputs : (limits : Limits) (gone : ℕ → Bool) (m : machine.Node) (marks : ℕ → ℤ)
    → (on_run_but limits gone m marks).0.inputs ≡ m.inputs
run_inputs limits gone m marks = run_but_cases limits 0 gone m marks (λ (x : machine.Node). x.inputs ≡ m.inputs)
    (λ waits. refl) (λ player plays none off. refl) (λ plays none full. refl) (λ plays none room. refl)

noted_quiet : (limits : Limits) (m : machine.Node) (player : ℕ) (phase : Phase)
    → IsQuiet m (noted_gone limits m player phase)
noted_quiet limits m player phase = grind (arith, cond_both, IsQuiet)

module _ (limits : Limits) (me : ℕ) (wary : Wary) where
  news_quiet : (m : machine.Node) → IsQuiet m wary.node → IsQuiet m (after_news limits me wary).node
  news_quiet m quiet = news_cases limits me wary (λ (w : Wary). IsQuiet m w.node) quiet (λ can. quiet)

module _ (limits : Limits) (me : ℕ) (wary : Wary) where
  pub give_up_quiet : (player : ℕ) → IsQuiet wary.node (on_give_up limits me wary player).0.node
  give_up_quiet player = give_up_cases limits me wary (λ (w : Wary). IsQuiet wary.node w.node) player (refl, refl)
      (λ phase low apart new. news_quiet limits me (with_gone limits wary player) wary.node
      (noted_quiet limits wary.node player wary.node.phase))

  pub report_quiet : (from : ℕ) (report : Report) → IsQuiet wary.node (on_report limits me wary from report).0.node
  report_quiet from report = report_cases limits me wary (λ (w : Wary). IsQuiet wary.node w.node) from report
      (refl, refl)
      (λ phase here there newer. news_quiet limits me (with_report wary from report) wary.node (refl, refl))

-- The calls.

-- a new survivor
pub opened : (limits : Limits) (me : ℕ) (now : Surviving) (node : machine.Node) → me < limits.players
    → limits.players ≤ 4 → limits.places ≤ 24 → lockstep.Represents limits me now.lockstep node
    → now.others ≡ nothing_kept → Represents limits me now (nobody_gone node)
opened limits me now node mine few kept shows nothing = grind (arith, first)

-- a step of the lockstep alone
pub stepped : (limits : Limits) (me : ℕ) (old new : Surviving) (wary : Wary) (node : machine.Node)
    → Represents limits me old wary → lockstep.Represents limits me new.lockstep node → new.others ≡ old.others
    → Represents limits me new (record wary { node = node })
stepped limits me old new wary node r shows same = grind arith

-- a run looks at none but the players of the game
pub runs_alike : (limits : Limits) (one other : ℕ → Bool) (m : machine.Node) (marks : ℕ → ℤ)
    → ((p : ℕ) → p < limits.players → one p ≡ other p)
    → on_run_but limits one m marks ≡ on_run_but limits other m marks
unfolding on_run_but
runs_alike limits one other m marks same = grind (arith, nat_lt, ran, lowest_alike)

-- whose report is missing
pub asked : (limits : Limits) (me : ℕ) (old : Surviving) (wary : Wary) → Represents limits me old wary
    → undecided_in old ≡ undecided limits me wary
asked limits me old wary r =
    (λ i. lowest (r.node.whose.players i)
    (λ p. not (is_heard (r.node.whose.players i) (r.node.whose.number i) (own_of old.others (λ other. 0))
    (nodes_of old.others) p)))
    ∙ lowest_alike limits.players _ _
    (λ p h. ap not (agreeing.heard_alike limits.players limits.places me old.others wary.gone wary.newest r.others
    (seen (report_of wary)) (λ other. 0) (λ q k. refl) p h))

module _ (limits : Limits) (me : ℕ) (old new : Surviving) (wary : Wary) (r : Represents limits me old wary) where
  pub runs : (marks : List ℤ) (did : Ran) (row : Option (List (Option Move)))
      → RunsBy marks old.lockstep new.lockstep
      (λ limits m marks. on_run_but limits (has_given_up old) m marks)
      (λ answer told. (did ≡ answer) × (row ≡ told)) → new.others ≡ old.others
      → Represents limits me new (record wary { node = (on_run_but limits wary.gone wary.node (marks_in marks)).0 })
      × (did ≡ (on_run_but limits wary.gone wary.node (marks_in marks)).1)
      × (row ≡ row_told limits wary.node (on_run_but limits wary.gone wary.node (marks_in marks)).1)
  runs marks did row h same = grind (arith, runs_alike, stepped)
