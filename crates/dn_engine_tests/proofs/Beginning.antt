-- An engine begins the host's game.
use Rattle.std.proofs.Common.{◌≡◌, ◌<◌, ℕ, List, [], Option, Some, None, Result, Ok, Bool, true, sym, ap, ◌∙◌, subst, length, set, refl, inl, inr}
use Rattle.std.specs.Prelude.{slice_get, is_some, if◌then◌else◌}
use Rattle.std.proofs.lemmas.List.Elements.{All-weaker}
use Rattle.std.proofs.lemmas.Option.{none-some, same_Some}
use Rattle.arrayvec.specs.ArrayVec.{ArrayVec}
use Rattle.dn_setup.specs.Settings.{start_of}
use Rattle.dn_world.specs.Physics.{Physics}
use Rattle.dn_lockstep.specs.{Contents.Whose, Marking.Marking, OneGame.world_told, Rows.seats_of, declared.config.NodeFault.NodeFault}
use Rattle.dn_survivor.specs.OneGame.{Session as History, started_session}
use Rattle.dn_link.specs.{Linked.surviving_of}
use Rattle.dn_link_game.specs.Playing.{marking_of, world_by}
use Rattle.dn_session.specs.{Parts.limits_of, Parts.links_of, Playing.Playing, Playing.playing, Roster.IsSide, Session.Begins, Session.BeginsAs, Session.IsLinkOf, Session.IsPartOf, Session.Meeting, Session.begins_now, Session.begun_in, Session.link_in, Session.passing_in}
use Rattle.dn_session.specs.{Sessions.AreSessions, Sessions.Greets, Sessions.Has, Sessions.IsPartFor, Sessions.Keeps, Sessions.PlaysWith, Sessions.StaySessions}
use Rattle.dn_session.specs.declared.{part.Part.Part, side.Begun.Begun, side.Side.Side}
use Rattle.dn_engine_tests.specs.declared.{engine.Engine.Engine, table.Table.Table}
use Rattle.dn_engine_tests.specs.Engines.{BeginsIn, IsOf, MayCome, Rests, met}
use Rattle.dn_engine_tests.specs.Tables.{AreApart, AreInGame, AreInLobby, HasEngine, StayTable}
use Rattle.dn_engine_tests.proofs.Calling.{StaySealed, rests_on}
use Rattle.dn_engine_tests.proofs.Going.{all_of, apart_before, by_place, each_after, goes_on, inside, moved}
use Rattle.dn_link_game.proofs.Going.{length_set}

-- a session that begins has no part before, and then one in the game that had begun for it
pub record HasBegun (now : ℕ) (old new : Meeting) : Type 0 where
  pub here : Begun
  pub begins : begins_now old ≡ Some here
  pub out : old.part ≡ None
  pub is : begun_in old.lobby ≡ Some here
  pub part : Part
  pub made : IsPartOf old.secret here now (playing part)
  pub new_is : new ≡ record old { part = Some part }

none_yet : (part : Option Part) (begun : Option Begun) (here : Begun)
    → (if is_some part then None else begun) ≡ Some here → (part ≡ None) × (begun ≡ Some here)
none_yet None begun here is = (refl, is)
none_yet (Some part) begun here is = absurd (none-some here is)

pub has_begun : (now : ℕ) (old new : Meeting) → Begins now old new (Ok true) → HasBegun now old new
has_begun now old new begins = go (begins_now old) refl begins
  where
    go : (which : Option Begun) → begins_now old ≡ which → BeginsAs which now old new (Ok true) → HasBegun now old new
    go None at (is, same) = absurd (cc)
    go (Some here) at (part, made, began, new_is) =
        let none = none_yet old.part (begun_in old.lobby) here at in
        record {
          here = here;
          begins = at;
          out = none.0;
          is = none.1;
          part = part;
          made = made;
          new_is = new_is;
        }

-- The laws.

abbrev pub OpensLaw : Marking → Type 0
OpensLaw marking = (secret : Option (List ℕ)) (one : Side) (b : Begun) (meetings : ℕ → Meeting) (parts : ℕ → Playing)
    → IsSide one → begun_in one ≡ Some b
    → ((player : ℕ) → player < b.terms.players → IsPartFor secret b player (meetings player).part (parts player)
    × IsLinkOf secret (record b { me = player }) (parts player).link)
    → AreSessions marking secret b
    (started_session b.terms.players b.terms.settings (λ p. surviving_of (links_of parts p))) meetings

abbrev pub BeginsLaw : Marking → Type 0
BeginsLaw marking = (secret : Option (List ℕ)) (b : Begun) (history : History) (meetings : ℕ → Meeting) (player : ℕ)
    (new : Meeting) (one : Side) (now : ℕ) (result : Result Bool NodeFault)
    → AreSessions marking secret b history meetings → player < b.terms.players
    → IsSide one → begun_in one ≡ Some b → (meetings player).secret ≡ secret
    → ((here : Begun) → begins_now (meetings player) ≡ Some here
    → PlaysWith one b player (meetings player).lobby here) → Begins now (meetings player) new result
    → StaySessions marking secret b history meetings player new None

abbrev pub StaysLaw : Marking → Type 0
StaysLaw marking = (secret : Option (List ℕ)) (b : Begun) (history : History) (meetings : ℕ → Meeting) (player : ℕ)
    (new : Meeting) → AreSessions marking secret b history meetings → player < b.terms.players
    → new.part ≡ (meetings player).part → StaySessions marking secret b history meetings player new None

abbrev pub MadeLaw : Type 0
MadeLaw = (secret : Option (List ℕ)) (one side : Side) (b here : Begun) (player now : ℕ) (part : Playing)
    → IsSide one → begun_in one ≡ Some b → PlaysWith one b player side here → IsPartOf secret here now part
    → IsLinkOf secret (record b { me = player }) part.link

module _ {W S : Type 0} (state : W → S) (physics : Physics S) (secret : Option (List ℕ)) (b : Begun) (t : Table W)
    (host : Engine W) (at_host : HasEngine t 0 host) (begun : begun_in (met host).lobby ≡ Some b)
    (places : length t.engines.items ≡ b.terms.players) (law : OpensLaw (marking_of physics)) where
  -- what the session of a place is
  abbrev meeting_at : Option (Engine W) → Meeting
  meeting_at (Some e) = met e
  meeting_at None = met host

  abbrev opening : (ℕ → Playing) → History
  opening parts = started_session b.terms.players b.terms.settings (λ p. surviving_of (links_of parts p))

  -- engines in their lobbies are in the game that the host's has begun
  pub opens : ((i : ℕ) (e : Engine W) → HasEngine t i e → IsOf secret (met e)) → AreInLobby t
      → AreInGame state physics secret b t
  opens of is = record {
    host = host;
    at = at_host;
    begun = begun;
    places = places;
    new = λ p e part there has. absurd (none-some part (sym (is.out p e there) ∙ has));
    idle = λ p e there none. is.told p e there;
    play = λ parts new. record {
      history = opening parts;
      meetings = λ p. meeting_at (slice_get t.engines.items p);
      are = law secret (met host).lobby b (λ p. meeting_at (slice_get t.engines.items p)) parts (of 0 host at_host).fits begun
          (λ p low. (
            subst (λ (o : Option Part). IsPartFor secret b p o (parts p)) (sym (out p (slice_get t.engines.items p) refl)) (new p low),
            new p low,
          ));
      met_is = λ p e there. ap meeting_at there;
      told = λ p e there. record {
        told = is.told p e there;
        world = λ part has. absurd (none-some part (sym (is.out p e there) ∙ has));
      };
      passing = λ p e there. subst (λ (o : Option Part). Has (MayCome secret b (opening parts)) (passing_in o)) (sym (is.out p e there)) tt;
      given = All-weaker (λ (bytes : ArrayVec ℕ). Greets bytes.items)
          (λ (bytes : ArrayVec ℕ). MayCome secret b (opening parts) bytes.items) (λ bytes greets. inl greets) t.given.items is.given;
    };
  }
    where
      out : (p : ℕ) (o : Option (Engine W)) → slice_get t.engines.items p ≡ o → (meeting_at o).part ≡ None
      out p None none = is.out 0 host at_host
      out p (Some e) there = is.out p e there

module _ {W S : Type 0} (state : W → S) (physics : Physics S) (old new : Table W) (me : ℕ) (before after : Engine W)
    (at : HasEngine old me before) (engines : new.engines.items ≡ set old.engines.items me after)
    (given : new.given.items ≡ old.given.items) (b : Begun) (now : ℕ)
    (begins : BeginsIn state physics b me now before after) (keeps : Keeps None (met before) (met after))
    (host : Engine W) (at_host : HasEngine old 0 host) (begun : begun_in (met host).lobby ≡ Some b)
    (places : length old.engines.items ≡ b.terms.players)
    (opens_law : OpensLaw (marking_of physics)) (begins_law : BeginsLaw (marking_of physics)) (made_law : MadeLaw)
    (stay_law : StaySealed) where
  its : HasBegun now (met before) (met after)
  its = has_begun now (met before) (met after) begins.begins

  module _ (secret : Option (List ℕ)) (apart : AreApart old)
      (of : (i : ℕ) (e : Engine W) → HasEngine old i e → IsOf secret (met e)) where
    abbrev one : Side
    one = (met host).lobby

    -- it plays the host's game
    plays : (here : Begun) → begins_now (met before) ≡ Some here → PlaysWith one b me (met before).lobby here
    plays here is =
        let same : begins.here ≡ here = same_Some begins.here here (sym begins.is ∙ its.is
        ∙ ap (λ h. Some h) (same_Some its.here here (sym its.begins ∙ is))) in
        subst (PlaysWith one b me (met before).lobby) same (record {
          fits = (of me before at).fits;
          key = (of 0 host at_host).key ∙ sym (of me before at).key;
          begun = begins.is;
          game = sym begins.game;
          me = begins.me;
          apart = λ p q at_p at_q. apart 0 me host before p q at_host at at_p at_q;
        })

    -- by a new link
    link_is : IsLinkOf secret (record b { me = me }) (playing its.part).link
    link_is = made_law secret one (met before).lobby b its.here me now (playing its.part) (of 0 host at_host).fits begun
        (plays its.here its.begins)
        (subst (λ (s : Option (List ℕ)). IsPartOf s its.here now (playing its.part)) (of me before at).secret_is its.made)

    has : (met after).part ≡ Some its.part
    has = ap (λ (m : Meeting). m.part) its.new_is

    -- and with a new world
    world_is : state after.world ≡ world_by physics (world_told (limits_of b.terms) b.terms.settings [])
    world_is = begins.world (playing its.part).link (ap link_in has)
        ∙ ap (λ (w : Whose). physics.begin (start_of b.terms.settings) (seats_of w.limits.players)) link_is.whose_is

    in_game : AreInGame state physics secret b old → AreInGame state physics secret b new
    in_game is =
        let its_host = each_after state physics old new me before after at engines None keeps 0 host at_host in
        let below : me < b.terms.players = subst (λ (n : ℕ). me < n) places (inside state physics old new me before after at engines) in
        record {
          host = its_host.0;
          at = its_host.1.there;
          begun = its_host.1.begun b begun;
          places = ap length engines ∙ length_set old.engines.items me after ∙ places;
          new = λ p e part there has. by_place state physics old new me before after at engines
              (λ p e. (part : Part) → (met e).part ≡ Some part → (q : Playing) × IsLinkOf secret (record b { me = p }) q.link)
              (λ part has. (playing its.part, link_is)) (λ j e apart there part has. is.new j e part there has) p e there part has;
          idle = by_place state physics old new me before after at engines (λ p e. (met e).part ≡ None → e.told.items ≡ [])
              (λ none. absurd (none-some its.part (sym none ∙ has))) (λ j e apart there none. is.idle j e there none);
          play = λ parts are.
              let was = is.play parts are in
              let met_is = was.met_is me before at in
              let none : was.history.told me ≡ [] = sym (was.told me before at).told ∙ is.idle me before at its.out in
              moved state physics old new me before after at engines None keeps None secret b was None
              (begins_law secret b was.history was.meetings me (met after) one now (Ok true) was.are below
              (of 0 host at_host).fits begun (ap (λ (m : Meeting). m.secret) met_is ∙ (of me before at).secret_is)
              (λ here e. subst (λ (m : Meeting). PlaysWith one b me m.lobby here) (sym met_is)
              (plays here (ap begins_now (sym met_is) ∙ e)))
              (subst (λ (m : Meeting). Begins now m (met after) (Ok true)) (sym met_is) begins.begins))
              stay_law
              (record {
                told = begins.told ∙ (was.told me before at).told;
                world = λ part some. world_is
                    ∙ ap (λ rows. world_by physics (world_told (limits_of b.terms) b.terms.settings rows)) (sym none);
              })
              tt tt (inl given);
        }

  -- the table goes on
  pub begins_on : StayTable state physics old new
  begins_on secret is apart_new =
      let apart = apart_before state physics old new me before after at engines None keeps apart_new in
      let was = is apart in
      let in_one : AreInGame state physics secret b old = elim was.1 [
        | inl lobby ↦ opens state physics secret b old host at_host begun places opens_law was.0 lobby
        | inr (other, game) ↦
            let here : game.host ≡ host = same_Some game.host host (sym game.at ∙ at_host) in
            let same : other ≡ b = same_Some other b (sym game.begun ∙ ap (λ (e : Engine W). begun_in (met e).lobby) here ∙ begun) in
            subst (λ (x : Begun). AreInGame state physics secret x old) same game
      ] in (
        all_of state physics old new me before after at engines None keeps secret
            (subst IsSide (sym (ap (λ (m : Meeting). m.lobby) its.new_is))) was.0,
        inr (b, in_game secret apart was.0 in_one),
      )

-- an engine of which nothing changed leaves a table
pub stood : {W S : Type 0} (state : W → S) (physics : Physics S) (old new : Table W) (me : ℕ) (before after : Engine W)
    (at : HasEngine old me before) (engines : new.engines.items ≡ set old.engines.items me after)
    → new.given.items ≡ old.given.items → Rests state before after → StaysLaw (marking_of physics) → StaySealed
    → StayTable state physics old new
stood state physics old new me before after at engines given rests law stay =
    goes_on state physics old new me before after at engines None None
    (rests_on state physics before after rests law) (inl given) (inl refl) stay
