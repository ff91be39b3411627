use Rattle.std.proofs.Common.{◌≡◌, ℕ, List, Option, Some, sym, ap, ◌∙◌, subst, inl, inr}
use Rattle.std.specs.Prelude.{true, false}
use Rattle.std.proofs.lemmas.Option.{none-some, same_Some}
use Rattle.dn_tic.specs.declared.command.Move.{Move}
use Rattle.dn_lockstep.specs.{Contents.end_in, OneGame.world_told, Told.got, Told.made}
use Rattle.dn_link.specs.{Counting.has_ended, Linked.Linked, Linked.has_given_up, Linked.may_leave, Linked.surviving_of, Linking.linked}
use Rattle.dn_link_game.specs.Playing.{marking_of, world_by}
use Rattle.dn_session.specs.{Parts.limits_of, Parts.links_of, Playing.playing, Session.begun_in, Session.link_in}
use Rattle.dn_engine_tests.specs.Engines.{met}
use Rattle.dn_engine_tests.proofs.Agreeing.{below, its, plays, there_is}
use Rattle.dn_engine_tests.proofs.playing.tables_agree.Goals as goal

pub returns : goal.returns
returns g c = λ secret t table apart begun.
    let state = g.W.World.state in
    let physics = g.W.World.physics in
    let first = there_is t.engines.items 0 begun.0 in
    elim (table apart).1 [
      | inl lobby ↦
          let part = begun.1 0 first.0 first.1 in
          absurd (none-some part.0 (sym (lobby.out 0 first.0 first.1) ∙ part.1))
      | inr (b, game) ↦
          let are = plays state physics secret b t game begun in
          let limits = limits_of b.terms in
          let settings = b.terms.settings in
          let links : ℕ → Linked = links_of are.are.parts in
          let linked_is = are.are.are.links in
          let marking = marking_of physics in (
            b,
            record {
              begun = λ host there. ap (λ e. begun_in (met e).lobby) (same_Some host game.host (sym there ∙ game.at))
                  ∙ game.begun;
              places = game.places;
              history = are.history;
              links = λ p e there.
                  let part = begun.1 p e there in
                  let link = (playing part.0).link in (
                    link,
                    ap link_in part.1,
                    ap surviving_of (sym (its state physics secret b t game.places are p e link there (ap link_in part.1)))
                        ∙ linked_is.survivors p (below state physics secret b t game.places are p e there),
                  );
              told = λ p e there. (are.told p e there).told;
              worlds = λ p e there.
                  let part = begun.1 p e there in
                  (are.told p e there).world part.0 part.1
                  ∙ ap (λ (rows : List (List (Option Move))). world_by physics (world_told limits settings rows))
                  (sym (are.told p e there).told);
              agreed = c.remaining_links_agree.ensures.agreed marking limits settings are.history links linked_is;
              fit = c.remaining_links_agree.ensures.fit marking limits settings are.history links linked_is;
              demos = c.remaining_links_agree.ensures.demos marking limits settings are.history links linked_is;
              headers = c.remaining_links_agree.ensures.headers marking limits settings are.history links linked_is;
              leaving = λ p q one other link others at_p at_q apart has_p has_q.
                  let Leaves : Linked → Linked → Type 0 = λ a z. has_given_up a q ≡ false → may_leave a ≡ true
                  → has_ended z.node ≡ false → (got z.node p ≡ made a.node)
                  × (has_given_up z p ≡ false → end_in z.node p ≡ Some (made a.node)) in
                  subst (λ (a : Linked). Leaves a (linked others))
                  (its state physics secret b t game.places are p one link at_p has_p)
                  (subst (λ (z : Linked). Leaves (links p) z)
                  (its state physics secret b t game.places are q other others at_q has_q)
                  (c.leaving_is_safe.ensures marking limits settings are.history links p q linked_is
                  (below state physics secret b t game.places are p one at_p)
                  (below state physics secret b t game.places are q other at_q) apart));
            },
          )
    ]
