-- A call of one engine takes its table on.
use Rattle.std.proofs.Common.{◌≡◌, ◌≢◌, ◌<◌, ◌⊎◌, ℕ, zero, suc, List, [], ◌∷◌, ◌++◌, Option, Some, None, sym, ap, ◌∙◌, subst, length, set, refl, inl, inr}
use Rattle.std.specs.Prelude.{All, Bool, IfSome, false, if◌then◌else◌, slice_get, true}
use Rattle.std.proofs.lemmas.List.Elements.{All-head, All-push, All-tail, All-weaker}
use Rattle.std.proofs.lemmas.Option.{none-some, same_Some, slice_get_within}
use Rattle.std.proofs.lemmas.Bool.{cases_eq}
use Rattle.arrayvec.specs.ArrayVec.{ArrayVec}
use Rattle.dn_tic.specs.declared.command.Move.{Move}
use Rattle.dn_world.specs.Physics.{Physics}
use Rattle.dn_machine.specs.Node.{put}
use Rattle.dn_machine.proofs.Put.{put_at, put_off}
use Rattle.dn_lockstep.specs.OneGame.{told_on}
use Rattle.dn_link_game.specs.Playing.{marking_of}
use Rattle.dn_link_game.proofs.Going.{length_set, set_here}
use Rattle.dn_session.specs.{Playing.Playing, Roster.IsSide, Roster.Place, Roster.key_of, Roster.number_of_game, Roster.place_in, Session.IsLinkOf, Session.Meeting, Session.begun_in, Session.passing_in}
use Rattle.dn_session.specs.{Sessions.Greets, Sessions.Has, Sessions.Keeps, Sessions.StaySessions, declared.part.Part.Part, declared.side.Begun.Begun}
use Rattle.dn_engine_tests.specs.declared.{engine.Engine.Engine, table.Table.Table}
use Rattle.dn_engine_tests.specs.Engines.{GoesOn, IsOf, IsTold, MayCome, met}
use Rattle.dn_engine_tests.specs.Tables.{AreApart, AreInGame, AreInLobby, ArePlaying, HasEngine, StayTable}
use Rattle.dn_engine_tests.proofs.Calling.{StaySealed, has_more, may_still}

set_elsewhere : {A : Type 0} (xs : List A) (i j : ℕ) (x : A) → j ≢ i → slice_get (set xs i x) j ≡ slice_get xs j
set_elsewhere [] i j x h = refl
set_elsewhere (y ∷ xs) zero zero x h = absurd (h refl)
set_elsewhere (y ∷ xs) zero (suc j) x h = refl
set_elsewhere (y ∷ xs) (suc i) zero x h = refl
set_elsewhere (y ∷ xs) (suc i) (suc j) x h = set_elsewhere xs i j x (λ e. h (ap suc e))

pub all_at : {X : Type 0} (P : X → Type 0) (xs : List X) → All P xs → (k : ℕ) (x : X) → slice_get xs k ≡ Some x → P x
all_at P [] all k x e = absurd (none-some x e)
all_at P (y ∷ xs) all zero x e = subst P (same_Some y x e) (All-head P y xs all)
all_at P (y ∷ xs) all (suc k) x e = all_at P xs (All-tail P y xs all) k x e

-- what is pushed joins what was given, or is lost
pub joined : (old new : List (ArrayVec ℕ)) (sent : Option (ArrayVec ℕ)) (bytes : ArrayVec ℕ) (pushed : Bool)
    → sent ≡ Some bytes → new ≡ (if pushed then old ++ bytes ∷ [] else old)
    → (new ≡ old) ⊎ ((bytes : ArrayVec ℕ) × (sent ≡ Some bytes) × (new ≡ old ++ bytes ∷ []))
joined old new sent bytes true is same = inr (bytes, is, same)
joined old new sent bytes false is same = inl same

-- a session of the secret is one after a call too
pub still_of : (secret came : Option (List ℕ)) (old new : Meeting) → Keeps came old new
    → (IsSide old.lobby → IsSide new.lobby) → IsOf secret old → IsOf secret new
still_of secret came old new keeps fits of = record {
  secret_is = keeps.secret ∙ of.secret_is;
  key = keeps.key ∙ of.key;
  fits = fits of.fits;
  reply = elim keeps.reply [ inl same ↦ subst (Has Greets) (sym same) of.reply | inr greets ↦ greets ];
  call = elim keeps.call [ inl same ↦ subst (Has Greets) (sym same) of.call | inr greets ↦ greets ];
}

module _ {W S : Type 0} (state : W → S) (physics : Physics S) (old new : Table W) (me : ℕ) (before after : Engine W)
    (at : HasEngine old me before) (engines : new.engines.items ≡ set old.engines.items me after) where
  pub inside : me < length old.engines.items
  inside = slice_get_within old.engines.items me before at

  there_after : HasEngine new me after
  there_after = ap (λ es. slice_get es me) engines ∙ set_here old.engines.items me after inside

  still_there : (j : ℕ) (e : Engine W) → j ≢ me → HasEngine old j e → HasEngine new j e
  still_there j e apart there =
      ap (λ es. slice_get es j) engines ∙ set_elsewhere old.engines.items me j after apart ∙ there

  -- the one engine or another
  pub by_place : (P : ℕ → Engine W → Type 0) → P me after
      → ((j : ℕ) (e : Engine W) → j ≢ me → HasEngine old j e → P j e)
      → (j : ℕ) (e : Engine W) → HasEngine new j e → P j e
  by_place P mine others j e there = elim (cases_eq j me) [
    | inl same ↦ subst (λ (k : ℕ). P k e) (sym same) (subst (P me) (same_Some after e
        (sym there_after ∙ ap (slice_get new.engines.items) (sym same) ∙ there)) mine)
    | inr apart ↦ others j e apart (sym (ap (λ es. slice_get es j) engines
        ∙ set_elsewhere old.engines.items me j after apart) ∙ there)
  ]

  module _ (came : Option (List ℕ)) (keeps : Keeps came (met before) (met after)) where
    -- an engine after the call, with the key and the game that it had
    pub record IsAfter (place : ℕ) (e next : Engine W) : Type 0 where
      pub there : HasEngine new place next
      pub key : key_of (met next).lobby ≡ key_of (met e).lobby
      pub place_is : (p : Place) → place_in (met e).lobby ≡ Some p → place_in (met next).lobby ≡ Some p
      pub begun : (b : Begun) → begun_in (met e).lobby ≡ Some b → begun_in (met next).lobby ≡ Some b

    pub each_after : (j : ℕ) (e : Engine W) → HasEngine old j e → (next : Engine W) × IsAfter j e next
    each_after j e there = elim (cases_eq j me) [
      | inl same ↦
          let is : before ≡ e = same_Some before e (sym at ∙ ap (slice_get old.engines.items) (sym same) ∙ there) in (
            after,
            subst (λ (x : Engine W). IsAfter j x after) is (record {
              there = subst (λ (k : ℕ). HasEngine new k after) (sym same) there_after;
              key = keeps.key;
              place_is = keeps.place;
              begun = keeps.begun;
            }),
          )
      | inr apart ↦ (
        e,
        record {
          there = still_there j e apart there;
          key = refl;
          place_is = λ p has. has;
          begun = λ b has. has;
        },
      )
    ]

    pub apart_before : AreApart new → AreApart old
    apart_before apart i j one other p q here there at_p at_q same =
        let a = each_after i one here in
        let b = each_after j other there in
        apart i j a.0 b.0 p q a.1.there b.1.there (a.1.place_is p at_p) (b.1.place_is q at_q)
        (ap (λ k. number_of_game k p.game) a.1.key ∙ same ∙ sym (ap (λ k. number_of_game k q.game) b.1.key))

    pub all_of : (secret : Option (List ℕ)) → (IsSide (met before).lobby → IsSide (met after).lobby)
        → ((i : ℕ) (e : Engine W) → HasEngine old i e → IsOf secret (met e))
        → (i : ℕ) (e : Engine W) → HasEngine new i e → IsOf secret (met e)
    all_of secret fits are = by_place (λ i e. IsOf secret (met e))
        (still_of secret came (met before) (met after) keeps fits (are me before at)) (λ j e apart there. are j e there)

    module _ (sent : Option (ArrayVec ℕ)) where
      -- what was given stays, and what was sent joins it, or is lost
      abbrev pub Gave : Type 0
      Gave = (new.given.items ≡ old.given.items)
          ⊎ ((bytes : ArrayVec ℕ) × (sent ≡ Some bytes) × (new.given.items ≡ old.given.items ++ bytes ∷ []))

      given_on : (P : ArrayVec ℕ → Type 0) → All P old.given.items → IfSome sent P → Gave → All P new.given.items
      given_on P all more (inl same) = subst (All P) (sym same) all
      given_on P all more (inr (bytes, is, joined)) =
          subst (All P) (sym joined) (All-push P old.given.items bytes all (subst (λ o. IfSome o P) is more))

      -- the sessions of a game, after one of them went on
      pub moved : (secret : Option (List ℕ)) (b : Begun) (was : ArePlaying state physics secret b old)
          (row : Option (List (Option Move)))
          (stay : StaySessions (marking_of physics) secret b was.history was.meetings me (met after) row) → StaySealed
          → IsTold state physics b (told_on (was.history.told me) row) after
          → IfSome came (MayCome secret b was.history)
          → IfSome sent (λ bytes. MayCome secret b stay.later bytes.items) → Gave
          → ArePlaying state physics secret b new
      moved secret b was row stay law told comes sends gave =
          let Was : List ℕ → Type 0 = MayCome secret b was.history in
          let Now : List ℕ → Type 0 = MayCome secret b stay.later in
          let still : (bytes : List ℕ) → Was bytes → Now bytes = may_still law secret b was.history stay.later stay.given in
          record {
            history = stay.later;
            meetings = put was.meetings me (met after);
            are = stay.stay;
            met_is = by_place (λ p e. put was.meetings me (met after) p ≡ met e)
                (put_at was.meetings me me (met after) refl)
                (λ j e apart there. put_off was.meetings me j (met after) apart ∙ was.met_is j e there);
            told = by_place (λ p e. IsTold state physics b (stay.later.told p) e)
                (subst (λ (rows : List (List (Option Move))). IsTold state physics b rows after)
                (sym (stay.told me ∙ put_at was.history.told me me _ refl)) told)
                (λ j e apart there. subst (λ (rows : List (List (Option Move))). IsTold state physics b rows e)
                (sym (stay.told j ∙ put_off was.history.told me j _ apart)) (was.told j e there));
            passing = by_place (λ p e. Has Now (passing_in (met e).part))
                (elim keeps.passing [
                  | inl same ↦ subst (Has Now) (sym same) (has_more Was Now still (passing_in (met before).part) (was.passing me before at))
                  | inr that ↦ has_more (λ bytes. came ≡ Some bytes) Now
                      (λ bytes is. still bytes (subst (λ o. IfSome o Was) is comes)) (passing_in (met after).part) that
                ])
                (λ j e apart there. has_more Was Now still (passing_in (met e).part) (was.passing j e there));
            given = given_on (λ bytes. Now bytes.items)
                (All-weaker (λ (bytes : ArrayVec ℕ). Was bytes.items) (λ (bytes : ArrayVec ℕ). Now bytes.items)
                (λ (bytes : ArrayVec ℕ). still bytes.items) old.given.items was.given) sends gave;
          }

  module _ (came : Option (List ℕ)) (sent : Option (ArrayVec ℕ)) (goes : GoesOn state physics came sent before after)
      (gave : Gave came goes.keeps.keeps sent) where
    lobby : (secret : Option (List ℕ)) → IsOf secret (met before) → AreInLobby old → AreInLobby new
    lobby secret of is = record {
      out = by_place (λ i e. (met e).part ≡ None) (goes.keeps.out (is.out me before at)) (λ j e apart there. is.out j e there);
      told = by_place (λ i e. e.told.items ≡ []) (goes.told (is.out me before at) ∙ is.told me before at)
          (λ j e apart there. is.told j e there);
      given = given_on came goes.keeps.keeps sent (λ bytes. Greets bytes.items) is.given
          (goes.greets (is.out me before at) of.reply of.call) gave;
    }

    -- what came with the call, if anything did, was given
    abbrev pub From : Type 0
    From = (came ≡ None)
        ⊎ ((which : ℕ) × (bytes : ArrayVec ℕ) × (slice_get old.given.items which ≡ Some bytes) × (came ≡ Some bytes.items))

    comes : From → (P : List ℕ → Type 0) → All (λ (bytes : ArrayVec ℕ). P bytes.items) old.given.items → IfSome came P
    comes (inl none) P all = subst (λ o. IfSome o P) (sym none) tt
    comes (inr (which, bytes, found, is)) P all =
        subst (λ o. IfSome o P) (sym is) (all_at (λ (bytes : ArrayVec ℕ). P bytes.items) old.given.items all which bytes found)

    game : From → StaySealed → (secret : Option (List ℕ)) (b : Begun) → IsOf secret (met before)
        → AreInGame state physics secret b old → AreInGame state physics secret b new
    game from law secret b of is =
        let host = each_after came goes.keeps.keeps 0 is.host is.at in
        let below : me < b.terms.players = subst (λ (n : ℕ). me < n) is.places inside in
        record {
          host = host.0;
          at = host.1.there;
          begun = host.1.begun b is.begun;
          places = ap length engines ∙ length_set old.engines.items me after ∙ is.places;
          new = λ p e part there has. by_place (λ p e. (part : Part) → (met e).part ≡ Some part
              → (q : Playing) × IsLinkOf secret (record b { me = p }) q.link)
              (λ part has. had part has (met before).part refl) (λ j e apart there part has. is.new j e part there has)
              p e there part has;
          idle = by_place (λ p e. (met e).part ≡ None → e.told.items ≡ [])
              (λ none. let was = goes.keeps.stays none in goes.told was ∙ is.idle me before at was) (λ j e apart there none. is.idle j e there none);
          play = λ parts are.
              let was = is.play parts are in
              let may = comes from (MayCome secret b was.history) was.given in
              let to = goes.goes secret b was.history was.meetings me was.are below (was.met_is me before at)
              (was.told me before at) may in
              moved came goes.keeps.keeps sent secret b was to.row to.stay law to.told may
              (to.sends of (was.passing me before at)) gave;
        }
      where
        had : (part : Part) → (met after).part ≡ Some part → (o : Option Part) → (met before).part ≡ o
            → (q : Playing) × IsLinkOf secret (record b { me = me }) q.link
        had part has None none = absurd (none-some part (sym (goes.keeps.out none) ∙ has))
        had part has (Some one) some = is.new me before one at some

    -- so the table goes on
    pub goes_on : From → StaySealed → StayTable state physics old new
    goes_on from law secret is apart =
        let was = is (apart_before came goes.keeps.keeps apart) in
        let of = was.0 me before at in (
          all_of came goes.keeps.keeps secret goes.fits was.0,
          elim was.1 [ inl l ↦ inl (lobby secret of l) | inr (b, g) ↦ inr (b, game from law secret b of g) ],
        )
