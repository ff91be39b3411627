-- A game that was played shows the game of the machine that it represents.
use Rattle.std.proofs.Common.{◌≡◌, ℕ, true, List, Some, Result, Ok, Err, ap, refl, IfOk, slice_get}
use Rattle.dn_setup.specs.Settings.{Settings}
use Rattle.dn_machine.specs.{declared.events.Event.Event, Game.opening_game, Limits.Limits, Worlds.Rules}
use Rattle.dn_machine.specs.{Node.Node, declared.answers.Phase.TheVariants.Playing}
use Rattle.dn_machine.proofs.{Games.always, Invariant.IsKept}
use Rattle.dn_lockstep.{specs.Agreed.recorded_in, proofs.Shown.starts}
use Rattle.dn_node.specs.{Contents.{contents, locked}, Kept.Kept}
use Rattle.dn_node.specs.Contents as node
use Rattle.dn_game.specs.{declared.played.Played.Played, Opening.AreLimited, Played.IsPlayedFrom, Promised.IsReached, Shown.{ShowsNode, ShowsRun}}
use Rattle.dn_game.specs.Contents as game
use Rattle.dn_game.proofs.{Answering.plays_leads, Headlines.{plays, rows_agree, shows}, Standing.{all_at, window_of}}
use Rattle.dn_game.proofs.Agreeing as agreeing

module _ {W S : Type 0} (state : W → S) (rules : Rules S) (settings : Settings) (limit : ℕ) where
  shows_node : (me : ℕ) (n : Kept W) (m : Node) → node.Represents state rules me (contents n) m
      → (m.played ≡ true → m.settings ≡ Some settings) → (m.phase ≡ Playing → m.played ≡ true)
      → rules.limits.places ≡ 12 → n.demo.limit ≡ limit → ShowsNode state rules settings limit me n m
  shows_node me n m r chosen playing twelve limited = record {
    players = r.lockstep.whose.players;
    number = r.lockstep.whose.number;
    extra = r.lockstep.whose.extra;
    capacity = r.lockstep.whose.capacity;
    ahead = r.lockstep.whose.ahead;
    shown = shows state rules settings me n m r chosen twelve playing (recorded_in n.demo.bytes) refl;
    started = (
      plays state rules settings me n m r chosen,
      λ played. starts rules.limits me (locked (contents n)) m r.lockstep settings played (chosen played),
    );
    played = r.lockstep.stands.played;
    chosen = r.lockstep.stands.settings;
    hold = r.lockstep.commands.hold;
    rings = r.lockstep.commands.rings;
    peers = r.lockstep.peers.known;
    gathers = r.lockstep.whose.gathers;
    noted = r.lockstep.peers.noted;
    marks = r.lockstep.table.marks;
    own = r.marks;
    limited = limited;
    closed = r.lockstep.demo.closed;
  }

  -- whatever events led to the game
  pub shows_reached : (events : List Event) (g : game.Contents W)
      (reached : IsReached state rules settings events g) (i : ℕ)
      (n : Kept W) → slice_get g.nodes i ≡ Some n → n.demo.limit ≡ limit
      → ShowsNode state rules settings limit i n (reached.last.nodes i)
  shows_reached events g reached i n at limited =
      let kept : IsKept rules settings reached.last = always rules settings (window_of rules.limits
      reached.game.vanilla) events reached.last reached.run in
      shows_node i n (reached.last.nodes i) (reached.game.nodes i n at)
      (kept.sound i (agreeing.inside state rules g reached.last reached.game i (contents n) (n, at, refl))).played
      (kept.sound i (agreeing.inside state rules g reached.last reached.game i (contents n) (n, at, refl))).playing
      (ap (λ (l : Limits). l.places) reached.game.vanilla) limited

  pub shows_run : (worlds : List W) (events : List Event) (played : Played W)
      → IsPlayedFrom state rules settings worlds events played → AreLimited limit (game.contents played.game).nodes
      → ShowsRun state rules settings limit worlds events (game.contents played.game) played.done played.refused
  shows_run worlds events played (run, given) limited =
      let g = game.contents played.game in
      let leads = plays_leads rules events run.answers (opening_game settings) run.last run.plays in
      let reached : IsReached state rules settings events g = record {
        last = run.last;
        run = leads;
        game = run.game;
      } in
      record {
        last = run.last;
        answers = run.answers;
        plays = run.plays;
        players = run.game.players;
        nodes = λ i n at. shows_reached events g reached i n at
            (all_at (λ (k : Kept W). k.demo.limit ≡ limit) g.nodes i n limited at);
        headline = rows_agree state rules settings events g reached;
        stopped = run.game.stopped;
        flights = run.game.flights;
        given = given;
        done = run.done;
        refused = run.refused;
      }

-- what two facts of a value say of it
pub both_ok : {A E : Type 0} (result : Result A E) (P Q R : A → Type 0) → ((a : A) → P a → Q a → R a)
    → IfOk result P → IfOk result Q → IfOk result R
both_ok (Ok a) P Q R then p q = then a p q
both_ok (Err e) P Q R then p q = p
