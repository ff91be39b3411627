use Rattle.std.proofs.Common.{◌≡◌, ◌<◌, ◌≤◌, ℕ, List, Option, Some, refl, sym, ap, ◌∙◌, subst, arith}
use Rattle.std.proofs.lemmas.Option.{none-some, same_Some}
use Rattle.dn_tic.specs.declared.command.Move.{Move}
use Rattle.dn_setup.specs.Settings.{Settings}
use Rattle.dn_world.specs.Physics.{Physics}
use Rattle.dn_machine.specs.Limits.{Limits}
use Rattle.dn_lockstep.specs.OneGame.{world_told}
use Rattle.dn_survivor.specs.OneGame.{Session, after_run}
use Rattle.dn_link.specs.{Linked.{Linked, surviving_of}, Linking.linked, Pacing.PaceState, RemainingLinks.{AreRemainingLinks, StayRemaining}, Surviving.RunsBut}
use Rattle.dn_link_game.specs.Playing.{marking_of, world_by}
use Rattle.dn_link_game.proofs.Seeing.{ran}
use Rattle.dn_link_game.proofs.player.Player.run.Goals as goal

-- four players at most
few : {S : Type 0} (physics : Physics S) (limits : Limits) (settings : Settings) (session : Session)
    (links : ℕ → Linked) (player : ℕ) → AreRemainingLinks (marking_of physics) limits settings session links
    → player < limits.players → limits.players ≤ 4
few physics limits settings session links player mine below = (mine.game.nodes player below).few

pub returns-in-Some-clause-goes_on : goal.returns-in-Some-clause-goes_on
returns-in-Some-clause-goes_on g c limits settings session links me seen mine below seen_is is any =
    let new : Linked = linked c.run-ran.new.self in
    let four = few g.W.World.physics limits settings session links me mine below in
    let on = c.remaining_links_go_on.ensures.ran (marking_of g.W.World.physics) limits settings session links me new
    c.marks-marks.result c.run-ran.result.0 c.run-ran.result.1 mine below
    (λ tic other told there present. c.marks-marks.ensures other (omega (arith, there, four))
    ∙ ap (λ w. g.W.World.physics.mark w other) (is.world
    ∙ ap (λ (rows : ℕ → List (List (Option Move))). world_by g.W.World.physics (world_told limits settings (rows me))) (sym seen_is.rows)))
    (subst (λ (l : Linked). RunsBut c.marks-marks.result l new
    (λ answer told. (c.run-ran.result.0 ≡ answer) × (c.run-ran.result.1 ≡ told))) (sym is.link) c.run-ran.ensures.but)
    (c.run-ran.ensures.others ∙ sym (ap (λ (l : Linked). l.others) is.link))
    (c.run-ran.ensures.peers ∙ sym (ap (λ (l : Linked). l.peers) is.link)) in
    ran g.W.World.state g.W.World.physics limits settings session links me seen c.args.self.now
    (record { link = c.run-ran.new.self; world = c.step.new.self }) seen_is is
    (Some c.in-Some.row)
    (subst (λ (row : Option (List (Option Move))). StayRemaining (marking_of g.W.World.physics) limits settings session links
    me new (after_run session me row (surviving_of new))) c.in-Some.is on)
    c.run-ran.ensures.others (ap (λ (p : PaceState). p.owed) c.run-ran.ensures.pace) (λ none. absurd (none-some c.in-Some.row (sym none)))
    (λ told is_told. c.step.ensures
    ∙ ap (g.W.World.physics.step (g.W.World.state c.args.self.now.world)) (same_Some c.in-Some.row told is_told))

pub returns-in_default-clause-goes_on : goal.returns-in_default-clause-goes_on
returns-in_default-clause-goes_on g c limits settings session links me seen mine below seen_is is any =
    let new : Linked = linked c.run-ran.new.self in
    let four = few g.W.World.physics limits settings session links me mine below in
    let on = c.remaining_links_go_on.ensures.ran (marking_of g.W.World.physics) limits settings session links me new
    c.marks-marks.result c.run-ran.result.0 c.run-ran.result.1 mine below
    (λ tic other told there present. c.marks-marks.ensures other (omega (arith, there, four))
    ∙ ap (λ w. g.W.World.physics.mark w other) (is.world
    ∙ ap (λ (rows : ℕ → List (List (Option Move))). world_by g.W.World.physics (world_told limits settings (rows me))) (sym seen_is.rows)))
    (subst (λ (l : Linked). RunsBut c.marks-marks.result l new
    (λ answer told. (c.run-ran.result.0 ≡ answer) × (c.run-ran.result.1 ≡ told))) (sym is.link) c.run-ran.ensures.but)
    (c.run-ran.ensures.others ∙ sym (ap (λ (l : Linked). l.others) is.link))
    (c.run-ran.ensures.peers ∙ sym (ap (λ (l : Linked). l.peers) is.link)) in
    ran g.W.World.state g.W.World.physics limits settings session links me seen c.args.self.now
    (record { link = c.run-ran.new.self; world = c.args.self.now.world }) seen_is is
    c.run-ran.result.1 on c.run-ran.ensures.others (ap (λ (p : PaceState). p.owed) c.run-ran.ensures.pace) (λ none. refl)
    (λ told is_told. absurd (none-some told (sym c.in_default.is ∙ is_told)))

pub returns-in-Some-clause-does : goal.returns-in-Some-clause-does
returns-in-Some-clause-does g c = (
  c.marks-marks.result,
  c.marks-marks.ensures,
  subst (λ (row : Option (List (Option Move))). RunsBut c.marks-marks.result (linked c.args.self.now.link)
      (linked c.run-ran.new.self) (λ answer told. (c.run-ran.result.0 ≡ answer) × (row ≡ told))) c.in-Some.is
      c.run-ran.ensures.but,
  c.run-ran.ensures.others,
  c.run-ran.ensures.peers,
  c.run-ran.ensures.pace,
  λ none. absurd (none-some c.in-Some.row (sym none)),
  λ told is. c.step.ensures
      ∙ ap (g.W.World.physics.step (g.W.World.state c.args.self.now.world)) (same_Some c.in-Some.row told is),
)

pub returns-in_default-clause-does : goal.returns-in_default-clause-does
returns-in_default-clause-does g c = (
  c.marks-marks.result,
  c.marks-marks.ensures,
  c.run-ran.ensures.but,
  c.run-ran.ensures.others,
  c.run-ran.ensures.peers,
  c.run-ran.ensures.pace,
  λ none. refl,
  λ told is. absurd (none-some told (sym c.in_default.is ∙ is)),
)
