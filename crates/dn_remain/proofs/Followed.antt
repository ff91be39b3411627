-- What is known of a game in which players may be given up, with one node put in its place; and that each
-- event of the machine keeps it.
use Rattle.std.proofs.Common.{◌≡◌, ℕ, ◌+◌, ◌<◌, refl, ◌∙◌, ap, arith, inl, inr, List, [], ◌∷◌, ◌++◌, length, ltb, Bool, Option, ◌&&◌, false, Some, None, slice_get}
use Rattle.std.proofs.lemmas.{Bool.{ltb-true, and_parts}, List.length_push}
use Rattle.dn_tic.specs.{declared.command.TicCmd.TicCmd, declared.input.Input.Input, Inputs.made_by, declared.input.Input.TheVariants.Pressed, declared.input.Input.TheVariants.Given}
use Rattle.dn_machine.specs.{declared.{answers.Phase.TheVariants.Playing, events.Event.Event}, Sending.on_build}
use Rattle.dn_machine.specs.declared.events.Event.TheVariants.{Quit, Stop, Build, Give, Send, Deliver, Run}
use Rattle.dn_machine.specs.{Node.{ends_of, made, ran, is_ended, own_mark, put, Node}, Worlds.Rules, Flight.Flight}
use Rattle.dn_machine.specs.Game.{Game, with_node, own_marks, refused_at, refused, delivered, on_event}
use Rattle.dn_machine.proofs.{Calls.{built, build_cases}, Put.{put_at, put_off, same_functions}, Games.passes}
use Rattle.dn_remain.specs.{Vanished.Steps.Make, Vanished.Commands.Holder, Vanished.Commands.seen, Wary.reached, Wary.end_seen, Wary.rows_to, Wary.holder_of, Wary.now_of, Vanished.Commands.Had, Wary.Report}
use Rattle.dn_remain.specs.{Remaining.Telling, Remaining.Remaining, Remaining.is_barred_flight, Remaining.is_barred, Remaining.after_event, Wary.Wary, Remaining.wary_of, Remaining.with_wary}
use Rattle.dn_remain.proofs.{Seeing.same_node, Seeing.length_rows, Known.Follows, Known.Went, Known.fit_self, Known.not_left, Following.stays, Following.steps, Each.IsNoRun, Each.each_event, Known.known_so}
use Rattle.dn_remain.proofs.{Hearing.hears, Running.{runs, quits}, Sending.sends, Vanished.Put.{own_put, twice_put}}
use Rattle.dn_machine.specs.Node as machine

same_all : (a b : Remaining) → a.game ≡ b.game → a.gone ≡ b.gone → a.newest ≡ b.newest → a.reports ≡ b.reports
    → a ≡ b
same_all a b g o n r = λ i. record { game = g i; gone = o i; newest = n i; reports = r i }

same_wary : (a b : Wary) → a.node ≡ b.node → a.gone ≡ b.gone → a.newest ≡ b.newest → a ≡ b
same_wary a b g o n = λ i. record { node = g i; gone = o i; newest = n i }

game_at : (game : Game) (f g : ℕ → Node) → f ≡ g → record game { nodes = f } ≡ record game { nodes = g }
game_at game f g e = ap (λ (nodes : ℕ → Node). record game { nodes = nodes }) e

-- a node in its own place
pub own_place : (all : Remaining) (q : ℕ) → with_wary all q (wary_of all q) ≡ all
own_place all q = same_all (with_wary all q (wary_of all q)) all
    (game_at all.game _ all.game.nodes (own_put all.game.nodes q)) (own_put all.gone q) (own_put all.newest q) refl

-- a node that was put there, and another after it
pub there : (all : Remaining) (q : ℕ) (wary : Wary) → wary_of (with_wary all q wary) q ≡ wary
there all q wary = same_wary (wary_of (with_wary all q wary) q) wary
    (put_at all.game.nodes q q wary.node refl) (put_at all.gone q q wary.gone refl)
    (put_at all.newest q q wary.newest refl)

pub again : (all : Remaining) (q : ℕ) (one two : Wary) → with_wary (with_wary all q one) q two ≡ with_wary all q two
again all q one two = same_all (with_wary (with_wary all q one) q two) (with_wary all q two)
    (game_at all.game _ _ (twice_put all.game.nodes q one.node two.node)) (twice_put all.gone q one.gone two.gone)
    (twice_put all.newest q one.newest two.newest) refl

-- A build makes a command, or changes nothing.

module _ {S : Type 0} {known : ℕ → Holder TicCmd → Type 0} {rules : Rules S} {game : Game} {gone : ℕ → ℕ → Bool}
    {older : List (ℕ → Holder TicCmd)} (follows : Follows known rules game gone older) (q : ℕ) (mine : q < rules.players) where
  abbrev me : machine.Node
  me = game.nodes q

  -- one command more
  module _ (input : Input) (plays : me.phase ≡ Playing) (low : made q me < ran me + rules.ahead) where
    abbrev next : machine.Node
    next = built rules.limits q me input

    abbrev command : TicCmd
    command = made_by (me.inputs ++ input ∷ []) (own_mark me q (made q me))

    held_is : (p : ℕ) → (p ≡ q → ⊥) → next.held p ≡ me.held p
    held_is p n = put_off me.held q p _ n

    own_is : next.held q ≡ me.held q ++ command ∷ []
    own_is = put_at me.held q q _ refl

    longer : length (next.held q) ≡ made q me + 1
    longer = ap (length {A = TicCmd}) own_is ∙ length_push (me.held q) _

    counts : (p : ℕ) → length (next.held p) ≡ put (λ r. length (me.held r)) q (made q me + 1) p
    counts p = grind (arith, built, longer, put_at, held_is, put_off)

    end_at : (p : ℕ) → end_seen next p ≡ end_seen me p
    end_at p = grind (arith, built, reached, ends_of, held_is)

    ends_same : end_seen next ≡ end_seen me
    ends_same = same_functions end_at

    makes : Went known rules (with_node game q next) gone
    makes =
        let rows = length_rows (end_seen me) (ran me) in (
          now_of game gone ∷ older,
          steps follows q next
              (record {
                ends = follows.ends q;
                endless = follows.endless q;
                resend = λ to. let a = follows.resend q to in let b = longer in omega arith;
                rows = inl refl;
              }) mine (not_left me (ap is_ended plays)) Make (
                omega arith,
                same_node (seen (holder_of next (gone q))) _ (same_functions counts) ends_same refl refl
                    (ap (λ (e : ℕ → Option ℕ). rows_to e (ran me)) ends_same),
              ) (inr (_, own_is)) (λ p n. inl (held_is p n)),
        )

  builds : (input : Input) → Went known rules (with_node game q (on_build rules.limits q me input).0) gone
  builds input = build_cases rules.limits q me (λ (n : machine.Node). Went known rules (with_node game q n) gone)
      input (λ full. (older, stays follows q me (fit_self follows q) refl)) (λ plays low. makes input plays low)

-- the nodes have a history, of which more may be known, and every report tells a state that its sender was in
pub record IsFollowed {S : Type 0} (known : ℕ → Holder TicCmd → Type 0) (rules : Rules S) (all : Remaining)
    (older : List (ℕ → Holder TicCmd)) : Type 0 where
  pub follows : Follows known rules all.game all.gone older
  pub newest : (q r : ℕ) (report : Report) → all.newest q r ≡ Some report
      → Had (now_of all.game all.gone ∷ older) r report
  pub reports : (which : ℕ) (t : Telling) → slice_get all.reports which ≡ Some t
      → Had (now_of all.game all.gone ∷ older) t.from t.report

abbrev pub AreFollowed : {S : Type 0} → (ℕ → Holder TicCmd → Type 0) → Rules S → Remaining → Type 0
AreFollowed known rules all = (older : List (ℕ → Holder TicCmd)) × IsFollowed known rules all older

module _ {S : Type 0} (known : ℕ → Holder TicCmd → Type 0) (rules : Rules S) where
  pub anchored : (all : Remaining) (older : List (ℕ → Holder TicCmd)) → IsFollowed known rules all older
      → Follows (Had (now_of all.game all.gone ∷ older)) rules all.game all.gone older
  anchored all older f = known_so known (Had (now_of all.game all.gone ∷ older)) rules all.game
      all.game.stopped all.gone older f.follows (λ r u k. k)

  -- what was had before is had still
  pub carried : (past : List (ℕ → Holder TicCmd)) → ((r : ℕ) (u : Holder TicCmd) → known r u → Had past r u)
      → (next : Remaining) (older : List (ℕ → Holder TicCmd)) → Follows (Had past) rules next.game next.gone older
      → ((q r : ℕ) (report : Report) → next.newest q r ≡ Some report → Had past r report)
      → ((which : ℕ) (t : Telling) → slice_get next.reports which ≡ Some t → Had past t.from t.report)
      → AreFollowed known rules next
  carried past has next older f newest reports = (
    older,
    record {
      follows = known_so (Had past) known rules next.game next.game.stopped next.gone older f
          (λ r u k. f.knows r u (has r u k));
      newest = λ q r report h. f.knows r report (newest q r report h);
      reports = λ which t h. f.knows t.from t.report (reports which t h);
    },
  )

  module _ (all : Remaining) (older : List (ℕ → Holder TicCmd)) (f : IsFollowed known rules all older) where
    abbrev past : List (ℕ → Holder TicCmd)
    past = now_of all.game all.gone ∷ older

    abbrev had : ℕ → Holder TicCmd → Type 0
    had = Had past

    follows : Follows had rules all.game all.gone older
    follows = anchored all older f

    -- an event of the machine
    after_own : (game : Game) → Went had rules game all.gone → AreFollowed known rules (record all { game = game })
    after_own game went = carried past f.follows.knows (record all { game = game }) went.0 went.1 f.newest f.reports

    pub named : (node : ℕ) → refused_at rules.players all.game node ≡ None → node < rules.players
    named node h = ltb-true node rules.players (passes (ltb node rules.players) _ _ h)

    delivers : (o : Option Flight) (which : ℕ) → slice_get all.game.flights which ≡ o → is_barred_flight all o ≡ false
        → Went had rules (delivered rules all.game o).0 all.gone
    delivers None which h b = (older, follows)
    delivers (Some flight) which h b = hears follows flight (follows.flights which flight h) b

    -- all that is not a run
    happens : (event : Event) → refused rules.players all.game event ≡ None → is_barred all event ≡ false
        → IsNoRun event → Went had rules (on_event rules all.game event).0 all.gone
    happens (Build node keys) h b n = builds follows node (named node h) (Pressed keys)
    happens (Give node command) h b n = builds follows node (named node h) (Given command)
    happens (Send node to) h b n =
        let both = and_parts (ltb node rules.players) (ltb to rules.players)
        (passes (ltb node rules.players && ltb to rules.players) _ _ h) in
        sends follows node (ltb-true node rules.players both.0) to (ltb-true to rules.players both.1) b
    happens (Deliver which) h b n = delivers (slice_get all.game.flights which) which refl b
    happens (Run node) h b n = absurd n
    happens (Quit node) h b n = quits follows node (named node h)
    happens (Stop node) h b n = grind (arith, known_so, follows)

    pub owns : (event : Event) → is_barred all event ≡ false
        → AreFollowed known rules (record all { game = after_event rules all event })
    owns event goes = after_own (after_event rules all event)
        (each_event rules all (λ event g. is_barred all event ≡ false → Went had rules g all.gone)
        (λ event b. (older, follows)) (λ event none n b. happens event none b n)
        (λ node none b. runs follows node (named node none) (all.gone node) (own_marks rules (all.game.nodes node))) event goes)
