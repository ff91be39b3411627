-- What was promised of a game says the headline, by what its nodes show.
use Rattle.std.proofs.Common.{◌≡◌, ◌≢◌, ℕ, true, List, [], length, Some, ap, refl, sym, ◌∙◌, arith, fold, nat_lt, ◌||◌, slice_get}
use Rattle.dn_setup.specs.Settings.{Settings, start_of}
use Rattle.dn_demo.specs.{Layout.long_tics, Text.demo_text}
use Rattle.dn_machine.specs.{declared.events.Event.Event, Headline.{Headline, Shown, shown_by, whole_rows}, Limits.Limits, Worlds.{Rules, opening}}
use Rattle.dn_machine.specs.{Node.{Node, got, is_ended}, declared.answers.Phase.TheVariants.Playing}
use Rattle.dn_machine.proofs.{Games.always, Invariant.IsKept}
use Rattle.dn_machine.proofs.Promises
use Rattle.dn_lockstep.specs.{Agreed.{recorded, recorded_in}, Rows.seats_of}
use Rattle.dn_lockstep.proofs.Shown.{has, started, starts}
use Rattle.dn_node.specs.{Contents.{contents, locked}, Kept.Kept}
use Rattle.dn_node.specs.Contents as node
use Rattle.dn_node.proofs.Running.{world_played}
use Rattle.dn_game.specs.{Agreed.{lockstep_in, lockstep_at}, Contents.Contents, Headline.{HaveAgreed, Shows}, Promised.IsReached}
use Rattle.dn_game.proofs.Standing.{window_of}
use Rattle.dn_game.proofs.Agreeing as agreeing

-- A node shows what the machine's node has that it represents.

module _ {W S : Type 0} (state : W → S) (rules : Rules S) (settings : Settings) (me : ℕ) (n : Kept W) (m : Node)
    (r : node.Represents state rules me (contents n) m) (chosen : m.played ≡ true → m.settings ≡ Some settings) where
  pub plays : n.demo.bytes ≢ [] → m.played ≡ true
  plays begun = started rules.limits me (locked (contents n)) m r.lockstep begun

  world_is : n.demo.bytes ≢ [] → state n.world ≡ fold rules.physics.step (opening rules settings) m.rows
  world_is begun = world_played state rules me (contents n) m settings r (plays begun) (chosen (plays begun))

  text_is : n.demo.bytes ≢ []
      → n.demo.bytes ≡ demo_text long_tics (start_of settings) me (seats_of rules.players)
      (whole_rows rules.players m.rows)
      (is_ended n.phase || nat_lt (length (whole_rows rules.players m.rows)) n.ran)
  text_is begun = let played = plays begun in let known = chosen played in grind arith

  pub shows : rules.limits.places ≡ 12 → (m.phase ≡ Playing → m.played ≡ true) → (demo : List ℕ)
      → demo ≡ recorded_in n.demo.bytes → Shows state rules.physics settings rules.players me n
      (record { phase = m.phase; rows = m.rows; got = got m; demo = demo })
  shows twelve playing demo is = record {
    phase = sym r.lockstep.stands.phase;
    ran = sym r.lockstep.table.ran;
    got = λ p below. sym (has rules.limits me (locked (contents n)) m r.lockstep p below);
    places = r.lockstep.whose.places ∙ twelve;
    demo = is;
    started = λ on.
        let played = playing (sym r.lockstep.stands.phase ∙ on) in
        starts rules.limits me (locked (contents n)) m r.lockstep settings played (chosen played);
    world = world_is;
    rows = text_is;
  }

-- Whatever events led to a game, its nodes have agreed.

module _ {W S : Type 0} (state : W → S) (rules : Rules S) (settings : Settings) (events : List Event) (g : Contents W)
    (r : IsReached state rules settings events g) where
  abbrev shown_at : ℕ → Shown ℕ
  shown_at i = record {
    phase = (r.last.nodes i).phase;
    rows = (r.last.nodes i).rows;
    got = got (r.last.nodes i);
    demo = recorded (lockstep_at g i);
  }

  five : rules.limits.ahead ≡ 5
  five = ap (λ (l : Limits). l.ahead) r.game.vanilla

  twelve : rules.limits.places ≡ 12
  twelve = ap (λ (l : Limits). l.places) r.game.vanilla

  kept : IsKept rules settings r.last
  kept = always rules settings (window_of rules.limits r.game.vanilla) events r.last r.run

  recorded_there : (i : ℕ) (n : Kept W) → slice_get g.nodes i ≡ Some n
      → recorded (lockstep_at g i) ≡ recorded_in n.demo.bytes
  recorded_there i n at = ap recorded (ap lockstep_in at)

  pub rows_agree : Headline rules.players (λ i. shown_by rules.players (r.last.nodes i))
  rows_agree =
      let all = Promises.headline rules settings r.last kept in
      record {
        same = all.same;
        ring = omega arith;
        unread = λ q p k l. omega (arith, all.unread q p k l, five);
        lacked = λ q p two goes_on. omega (arith, all.lacked q p two goes_on, five);
        ahead = λ p k. omega (arith, all.ahead p k, five);
        consistent = all.consistent;
        demos = all.demos;
      }

  pub have_agreed : HaveAgreed state rules.physics settings rules.players g
  have_agreed =
      record {
        places = r.game.players;
        shown = shown_at;
        nodes = λ i n at. shows state rules settings i n (r.last.nodes i) (r.game.nodes i n at)
            (kept.sound i (agreeing.inside state rules g r.last r.game i (contents n) (n, at, refl))).played twelve
            (kept.sound i (agreeing.inside state rules g r.last r.game i (contents n) (n, at, refl))).playing
            (recorded (lockstep_at g i)) (recorded_there i n at);
        headline = record {
          same = rows_agree.same;
          ring = rows_agree.ring;
          unread = rows_agree.unread;
          lacked = rows_agree.lacked;
          ahead = rows_agree.ahead;
          consistent = rows_agree.consistent;
          demos = (agreeing.agreed state rules settings events g r).locksteps.demos.prefixes;
        };
      }
