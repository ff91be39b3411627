-- The engines of a table agree.
use Rattle.std.proofs.Common.{◌≡◌, ◌<◌, ℕ, zero, suc, List, [], ◌∷◌, Option, Some, None, length, refl, sym, ap, ◌∙◌, subst, inl, inr, arith}
use Rattle.std.specs.Prelude.{slice_get}
use Rattle.std.proofs.lemmas.Bool.{cases_lt}
use Rattle.std.proofs.lemmas.Option.{none-some, same_Some, slice_get_within}
use Rattle.dn_world.specs.Physics.{Physics}
use Rattle.dn_machine.specs.Node.{put}
use Rattle.dn_machine.proofs.Put.{put_at, put_off}
use Rattle.dn_link.specs.{Linking.linked, declared.link.Link.Link}
use Rattle.dn_session.specs.{Parts.links_of, Playing.Playing, Playing.playing, Session.IsLinkOf, Session.Meeting, Session.link_in, Sessions.IsPartFor}
use Rattle.dn_session.specs.declared.{part.Part.Part, side.Begun.Begun}
use Rattle.dn_engine_tests.specs.declared.{engine.Engine.Engine, table.Table.Table}
use Rattle.dn_engine_tests.specs.Engines.{met}
use Rattle.dn_engine_tests.specs.Tables.{AreInGame, ArePlaying, HasEngine, HaveBegun}

-- one for each number, where there is one for each
choose : {A : Type 0} (n : ℕ) (P : ℕ → A → Type 0) → A → ((p : ℕ) → p < n → (a : A) × P p a)
    → (f : ℕ → A) × ((p : ℕ) → p < n → P p (f p))
choose zero P some each = (λ p. some, λ p low. absurd (omega (arith, low)))
choose {A} (suc n) P some each =
    let rest = choose n P some (λ p low. each p (omega (arith, low))) in
    let last = each n (omega arith) in (
      put rest.0 n last.0,
      λ p low. elim (cases_lt p n) [
        | inl less ↦ subst (P p) (sym (put_off rest.0 n p last.0 (λ e. absurd (omega (arith, less, e))))) (rest.1 p less)
        | inr most ↦
            let same : p ≡ n = omega (arith, low, most) in
            subst (P p) (sym (put_at rest.0 n p last.0 same)) (subst (λ (k : ℕ). P k last.0) (sym same) last.1)
      ],
    )

pub there_is : {A : Type 0} (xs : List A) (p : ℕ) → p < length xs → (x : A) × (slice_get xs p ≡ Some x)
there_is [] p low = absurd (omega (arith, low))
there_is (x ∷ xs) zero low = (x, refl)
there_is (x ∷ xs) (suc p) low = there_is xs p (omega (arith, low))

-- a link of a part
pub of_part : (part : Option Part) (one : Part) (link : Link) → part ≡ Some one → link_in part ≡ Some link
    → (playing one).link ≡ link
of_part part one link is has = same_Some (playing one).link link (sym (ap link_in is) ∙ has)

module _ {W S : Type 0} (state : W → S) (physics : Physics S) (secret : Option (List ℕ)) (b : Begun) (t : Table W)
    (game : AreInGame state physics secret b t) (begun : HaveBegun t) where
  -- the new links that they had
  abbrev New : ℕ → Playing → Type 0
  New p q = IsLinkOf secret (record b { me = p }) q.link

  each : (p : ℕ) → p < b.terms.players → (q : Playing) × New p q
  each p low =
      let e = there_is t.engines.items p (omega (arith, low, game.places)) in
      let part = begun.1 p e.0 e.1 in
      game.new p e.0 part.0 e.1 part.1

  pub plays : ArePlaying state physics secret b t
  plays =
      let few : 0 < b.terms.players = subst (λ (n : ℕ). 0 < n) game.places begun.0 in
      let all = choose b.terms.players New (each 0 few).0 each in game.play all.0 all.1

module _ {W S : Type 0} (state : W → S) (physics : Physics S) (secret : Option (List ℕ)) (b : Begun) (t : Table W)
    (places : length t.engines.items ≡ b.terms.players) (are : ArePlaying state physics secret b t) where
  pub below : (p : ℕ) (e : Engine W) → HasEngine t p e → p < b.terms.players
  below p e there = subst (λ (n : ℕ). p < n) places (slice_get_within t.engines.items p e there)

  -- its link is that of its place
  pub its : (p : ℕ) (e : Engine W) (link : Link) → HasEngine t p e → link_in (met e).part ≡ Some link
      → links_of are.are.parts p ≡ linked link
  its p e link there has = go (met e).part refl has
    where
      go : (part : Option Part) → (met e).part ≡ part → link_in part ≡ Some link
          → links_of are.are.parts p ≡ linked link
      go None is some = absurd (none-some link some)
      go (Some one) is some =
          ap (λ (q : Playing). linked q.link) (subst (λ (o : Option Part). IsPartFor secret b p o (are.are.parts p))
          (ap (λ (m : Meeting). m.part) (are.met_is p e there) ∙ is) (are.are.own p (below p e there)))
          ∙ ap linked (same_Some (playing one).link link some)
