-- A game in which nobody was given up is one of the machine's, and a game of the machine is one in which
-- nobody is given up.
use Rattle.std.proofs.Common.{◌≡◌, ℕ, refl, sym, ◌∙◌, ap, subst, inl, List, [], ◌∷◌, ◌++◌, arith, inr, map, Bool, true}
use Rattle.std.proofs.{Common.{false, Option, Some, None}, lemmas.Bool.{both_ways, cond-false}}
use Rattle.dn_setup.specs.Settings.{Settings}
use Rattle.dn_machine.specs.{declared.events.Event.Event, Game.Game, Game.opening_game, Game.with_node, Limits.Limits, Node.Node, Node.put, Runs.Runs, Worlds.Rules, Flight.Flight, Runs.Leads}
use Rattle.dn_machine.proofs.{Games.goes_on, Put.{put_at, same_functions}}
use Rattle.dn_remain.specs.{Vanished.Commands.on_decision, Vanished.Commands.longest, Vanished.Commands.told, Remaining.Remaining, Remaining.opening_remaining, Remaining.wary_of}
use Rattle.dn_remain.specs.{Remaining.with_wary, declared.events.RemainEvent.RemainEvent, Remaining.is_barred_flight, Remaining.is_barred, declared.events.RemainEvent.TheVariants.Own}
use Rattle.dn_remain.specs.Wary.{Report, Wary, settled, or_fresh, with_gone, with_report, on_give_up, on_report, holder_of}
use Rattle.dn_remain.specs.Remaining.{NextRemain, LeadsRemain, RunsRemain, NobodyGivenUp}
use Rattle.dn_remain.proofs.{Vanished.Put.at_put, Vanished.Put.own_put}
use Rattle.dn_remain.proofs.Each.{is_next, next_is, each_remain, news_cases, give_up_cases, report_cases}

-- nothing is barred where nobody is given up
open_flight : (all : Remaining) → NobodyGivenUp all → (o : Option Flight) → is_barred_flight all o ≡ false
open_flight all nobody None = refl
open_flight all nobody (Some flight) = grind (arith, nobody flight.to flight.from)

open_event : (all : Remaining) → NobodyGivenUp all → (event : Event) → is_barred all event ≡ false
open_event all nobody event = grind (arith, open_flight)

module _ {S : Type 0} (rules : Rules S) where
  own_leads : (own : List Event) (all : Remaining) (last : Game) → NobodyGivenUp all → Leads rules all.game own last
      → LeadsRemain rules all (map Own own) (record all { game = last })
  own_leads [] all last nobody is = ap (λ (g : Game). record all { game = g }) is
  own_leads (event ∷ own) all last nobody way = (
    record all { game = way.0 },
    inr (open_event all nobody event, way.0, is_next rules all nobody event way.0 way.1, refl),
    own_leads own (record all { game = way.0 }) last nobody way.2,
  )

  -- and so as it was before, apart from the game
  pub stays_quiet : (settings : Settings) (own : List Event) (game : Game) → Runs rules settings own game
      → RunsRemain rules settings (map Own own) (record (opening_remaining settings) { game = game })
  unfolding opening_remaining
  stays_quiet settings own game runs = own_leads own (opening_remaining settings) game (λ node player. refl) runs

  pub is_quiet : (settings : Settings) (own : List Event) (game : Game) → Runs rules settings own game
      → (all : Remaining) × RunsRemain rules settings (map Own own) all × NobodyGivenUp all × (all.game ≡ game)
  unfolding opening_remaining
  is_quiet settings own game runs = grind (arith, opening_remaining, stays_quiet)

-- a node in its own place
same_game : (game : Game) (q : ℕ) → with_node game q (game.nodes q) ≡ game
same_game game q = ap (λ (nodes : ℕ → Node). record game { nodes = nodes }) (own_put game.nodes q)

-- a decision of nobody changes nothing
settled_same : (players me : ℕ) (node : Node) (gone : ℕ → Bool) (heard : ℕ → Report) → ((p : ℕ) → gone p ≡ false)
    → settled node gone (on_decision players me (holder_of node gone) heard) ≡ node
settled_same players me node gone heard h = grind (arith, same_functions, cond-false, longest)

-- the game stays, and nobody was given up before
abbrev IsQuiet : Remaining → Remaining → Type 0
IsQuiet all next = NobodyGivenUp next → NobodyGivenUp all × (next.game ≡ all.game)

module _ (all : Remaining) (q : ℕ) where
  -- with the same set
  gone_before : (set : ℕ → Bool) → set ≡ all.gone q → ((x p : ℕ) → put all.gone q set x p ≡ false) → NobodyGivenUp all
  gone_before set e h x p = at_put (λ x s. s p ≡ false → all.gone x p ≡ false) all.gone q set
      (λ f. sym (λ i. e i p) ∙ f) (λ x n f. f) x (h x p)

  same : IsQuiet all (with_wary all q (wary_of all q))
  same h = (gone_before (all.gone q) refl h, same_game all.game q)

  -- somebody is given up
  somebody : (player : ℕ) (node : Node) (newest : ℕ → Option Report)
      → IsQuiet all (with_wary all q (record { node = node; gone = put (all.gone q) player true; newest = newest }))
  somebody player node newest h = absurd (both_ways _ (h q player)
      (ap (λ (s : ℕ → Bool). s player) (put_at all.gone q q (put (all.gone q) player true) refl)
      ∙ put_at (all.gone q) player player true refl))

  give_up : (limits : Limits) (player : ℕ)
      → IsQuiet all (with_wary all q (on_give_up limits q (wary_of all q) player).0)
  give_up limits player = give_up_cases limits q (wary_of all q) (λ (w : Wary). IsQuiet all (with_wary all q w)) player same
      (λ plays low apart new. news_cases limits q (with_gone limits (wary_of all q) player)
      (λ (w : Wary). IsQuiet all (with_wary all q w)) (somebody player _ (all.newest q))
      (λ can. somebody player _ (all.newest q)))

  reports : (limits : Limits) (from : ℕ) (told : Report)
      → IsQuiet all (with_wary all q (on_report limits q (wary_of all q) from told).0)
  reports limits from told = report_cases limits q (wary_of all q) (λ (w : Wary). IsQuiet all (with_wary all q w)) from told
      same
      (λ plays here there newer. news_cases limits q (with_report (wary_of all q) from told)
      (λ (w : Wary). IsQuiet all (with_wary all q w))
      (λ h. (gone_before (all.gone q) refl h, same_game all.game q))
      (λ can h.
      let before : NobodyGivenUp all = gone_before (all.gone q) refl h in (
        before,
        ap (λ (n : Node). with_node all.game q n) (settled_same limits.players q (all.game.nodes q) (all.gone q)
            (λ player. or_fresh ((with_report (wary_of all q) from told).newest player)) (before q)) ∙ same_game all.game q,
      )))

module _ {S : Type 0} (rules : Rules S) (settings : Settings) where
  -- what came before is a game of the machine
  IsOwn : Remaining → Type 0
  IsOwn all = NobodyGivenUp all → (own : List Event) × Runs rules settings own all.game

  by_quiet : (all next : Remaining) → IsQuiet all next → IsOwn all → IsOwn next
  unfolding IsOwn
  by_quiet all next quiet before h = grind (arith, quiet)

  by_event : (all next : Remaining) (event : RemainEvent) → NextRemain rules all event next → IsOwn all → IsOwn next
  unfolding IsOwn
  by_event all next event step before = each_remain rules all IsOwn before
      (λ event goes h. let own = before h in (
        own.0 ++ event ∷ [],
        goes_on rules settings own.0 event (opening_game settings) all.game _ own.1 (next_is rules all h event _ (inl refl)),
      ))
      (λ node player none. by_quiet all
      (with_wary all node (on_give_up rules.limits node (wary_of all node) player).0)
      (give_up all node rules.limits player) before)
      (λ node to low report is h. before h)
      (λ which t e none. by_quiet all
      (with_wary all t.to (on_report rules.limits t.to (wary_of all t.to) t.from t.report).0)
      (reports all t.to rules.limits t.from t.report) before) event next step

  leads : (events : List RemainEvent) (all last : Remaining) → IsOwn all → LeadsRemain rules all events last → IsOwn last
  unfolding IsOwn
  leads [] all last before is = subst (λ (r : Remaining). NobodyGivenUp r
      → (own : List Event) × Runs rules settings own r.game) (sym is) before
  leads (event ∷ events) all last before way = leads events way.0 last (by_event all way.0 event way.1 before) way.2

  pub quiet : (events : List RemainEvent) (all : Remaining) → RunsRemain rules settings events all → NobodyGivenUp all
      → (own : List Event) × Runs rules settings own all.game
  unfolding opening_remaining IsOwn
  quiet events all run h = leads events (opening_remaining settings) all (λ k. ([], refl)) run h
