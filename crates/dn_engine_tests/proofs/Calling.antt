-- What a call of an engine leads to, in whatever game its session is.
use Rattle.std.proofs.Common.{◌≡◌, ◌<◌, ◌⊎◌, ℕ, ℤ, List, Option, Some, None, refl, ap, sym, subst, ◌∙◌, inl, inr, arith}
use Rattle.std.specs.Prelude.{IfSome}
use Rattle.std.specs.Option.{option_map}
use Rattle.std.proofs.lemmas.Option.{none-some}
use Rattle.std.proofs.lemmas.List.Sums.{fold_push}
use Rattle.arrayvec.specs.ArrayVec.{ArrayVec}
use Rattle.dn_tic.specs.declared.command.Move.{Move}
use Rattle.dn_setup.specs.Settings.{start_of}
use Rattle.dn_world.specs.Physics.{Physics}
use Rattle.dn_machine.specs.declared.answers.Ran.{Ran}
use Rattle.dn_lockstep.specs.{Marking.Marking, OneGame.told_on, OneGame.world_told, Rows.seats_of}
use Rattle.dn_survivor.specs.OneGame.{Session as History}
use Rattle.dn_link.specs.{Linking.linked, RemainingLinks.IsLater, RemainingLinks.WasSealedIn, declared.link.Link.Link}
use Rattle.dn_seal.specs.declared.seal.Seal.{Seal}
use Rattle.dn_link_game.specs.Playing.{marking_of, world_by}
use Rattle.dn_session.specs.{Parts.AreMarksOf, Parts.limits_of, Passing.sent_of, Roster.IsSide, Roster.key_of, Roster.place_in, Session.Meeting, Session.RunsPart, Session.SendsPart, Session.begun_in, Session.link_in, Session.passing_in}
use Rattle.dn_session.specs.{Sessions.AreSessions, Sessions.Greets, Sessions.Has, Sessions.KeepsOut, Sessions.StaySessions, Text.game_seal}
use Rattle.dn_session.specs.declared.{greeting.Address.Address, part.Part.Part, part.sending.Transmit.Transmit, side.Begun.Begun}
use Rattle.dn_engine_tests.specs.declared.engine.Engine.{Engine}
use Rattle.dn_engine_tests.specs.Engines.{GoesOn, IsTold, MayCome, Rests, RunsIn, met}

-- what is so of bytes is so of what they have
pub has_more : (P Q : List ℕ → Type 0) → ((bytes : List ℕ) → P bytes → Q bytes) → (held : Option (Address × List ℕ))
    → Has P held → Has Q held
has_more P Q more None has = tt
has_more P Q more (Some held) has = more held.1 has

-- of what was sealed before
abbrev pub StaySealed : Type 0
StaySealed = (seal : Seal) (history later : History) (bytes : List ℕ) → IsLater history later
    → WasSealedIn seal history bytes → WasSealedIn seal later bytes

pub may_still : StaySealed → (secret : Option (List ℕ)) (b : Begun) (history later : History) → IsLater history later
    → (bytes : List ℕ) → MayCome secret b history bytes → MayCome secret b later bytes
may_still stay secret b history later on bytes (inl greets) = inl greets
may_still stay secret b history later on bytes (inr sealed) = inr (stay (game_seal secret b.game) history later bytes on sealed)

-- who has a link has a part
has_part : (part : Option Part) (link : Link) → link_in part ≡ Some link → (one : Part) × (part ≡ Some one)
has_part None link is = absurd (none-some link is)
has_part (Some part) link is = (part, refl)

-- where nothing changes
pub rested : (old new : Meeting) → new ≡ old → KeepsOut None old new
rested old new is = record {
  keeps = record {
    secret = ap (λ m. m.secret) is;
    key = ap (λ m. key_of m.lobby) is;
    begun = λ b e. ap (λ m. begun_in m.lobby) is ∙ e;
    place = λ p e. ap (λ m. place_in m.lobby) is ∙ e;
    reply = inl (ap (λ m. m.reply) is);
    call = inl (ap (λ m. m.call) is);
    passing = inl (ap (λ m. passing_in m.part) is);
  };
  out = λ none. ap (λ m. m.part) is ∙ none;
  stays = λ none. sym (ap (λ m. m.part) is) ∙ none;
}

-- where the lobby is the same
pub same_lobby : (old new : Meeting) → new ≡ record old { part = new.part } → IsSide old.lobby → IsSide new.lobby
same_lobby old new is = subst IsSide (sym (ap (λ (m : Meeting). m.lobby) is))

module _ {W S : Type 0} (state : W → S) (physics : Physics S) (came : Option (List ℕ)) (old new : Engine W)
    (keeps : KeepsOut came (met old) (met new)) (fits : IsSide (met old).lobby → IsSide (met new).lobby) where
  -- who plays has played
  played : (part : Part) → (met new).part ≡ Some part → (b : Begun) (rows : List (List (Option Move)))
      → IsTold state physics b rows old
      → state old.world ≡ world_by physics (world_told (limits_of b.terms) b.terms.settings rows)
  played part has b rows is = go (met old).part refl
    where
      go : (had : Option Part) → (met old).part ≡ had
          → state old.world ≡ world_by physics (world_told (limits_of b.terms) b.terms.settings rows)
      go None none = absurd (none-some part (sym (keeps.out none) ∙ has))
      go (Some one) some = is.world one some

  -- its session goes on in whatever game it is, without a row
  abbrev pub Stays : Type 0
  Stays = (secret : Option (List ℕ)) (b : Begun) (history : History) (meetings : ℕ → Meeting) (place : ℕ)
      → AreSessions (marking_of physics) secret b history meetings → place < b.terms.players
      → meetings place ≡ met old → IfSome came (MayCome secret b history)
      → StaySessions (marking_of physics) secret b history meetings place (met new) None

  module _ (told : new.told.items ≡ old.told.items) (world : state new.world ≡ state old.world) where
    untold : (b : Begun) (rows : List (List (Option Move))) → IsTold state physics b rows old
        → IsTold state physics b rows new
    untold b rows is = record {
      told = told ∙ is.told;
      world = λ part has. world ∙ played part has b rows is;
    }

    -- and gives nothing
    pub silent : Stays → GoesOn state physics came None old new
    silent stays = record {
      keeps = keeps;
      fits = fits;
      told = λ none. told;
      greets = λ none reply call. tt;
      goes = λ secret b history meetings place are below here is comes. record {
        row = None;
        stay = stays secret b history meetings place are below here comes;
        told = untold b (history.told place) is;
        sends = λ of passing. tt;
      };
    }

    -- or what its session sends: a reply, a call, or what its part does
    abbrev pub Turns : Option (Address × List ℕ) → Type 0
    Turns sent = (sent ≡ (met old).reply) ⊎ (((met old).reply ≡ None) × ((sent ≡ (met old).call)
        ⊎ (((met old).call ≡ None) × SendsPart (met old).part (met new).part sent)))

    abbrev pub Gone : Option (Address × List ℕ) → Type 0
    Gone sent = (secret : Option (List ℕ)) (b : Begun) (history : History) (meetings : ℕ → Meeting) (place : ℕ)
        → AreSessions (marking_of physics) secret b history meetings → place < b.terms.players
        → meetings place ≡ met old
        → (on : StaySessions (marking_of physics) secret b history meetings place (met new) None)
        × ((meetings place).reply ≡ None → (meetings place).call ≡ None
        → (sent ≡ passing_in (meetings place).part) ⊎ Has (WasSealedIn (game_seal secret b.game) on.later) sent)

    bytes_in : (P : List ℕ → Type 0) (sent : Option Transmit) → Has P (option_map sent_of sent)
        → IfSome (option_map (λ (t : Transmit). t.bytes) sent) (λ (bytes : ArrayVec ℕ). P bytes.items)
    bytes_in P None has = tt
    bytes_in P (Some sent) has = has

    pub gave : (sent : Option Transmit) → StaySealed → Turns (option_map sent_of sent) → Gone (option_map sent_of sent)
        → GoesOn state physics came (option_map (λ (t : Transmit). t.bytes) sent) old new
    gave sent stay turns gone = record {
      keeps = keeps;
      fits = fits;
      told = λ none. told;
      greets = λ none reply call. bytes_in Greets sent (elim turns [
        | inl replied ↦ subst (Has Greets) (sym replied) reply
        | inr (no_reply, inl called) ↦ subst (Has Greets) (sym called) call
        | inr (no_reply, inr (no_call, part)) ↦ subst (Has Greets)
            (sym (subst (λ (o : Option Part). SendsPart o (met new).part (option_map sent_of sent)) none part).1) tt
      ]);
      goes = λ secret b history meetings place are below here is comes.
          let on = gone secret b history meetings place are below here in
          let May : List ℕ → Type 0 = MayCome secret b on.0.later in
          let greeting : (held : Option (Address × List ℕ)) → Has Greets held → option_map sent_of sent ≡ held
          → Has May (option_map sent_of sent) =
          λ held has same. subst (Has May) (sym same) (has_more Greets May (λ bytes greets. inl greets) held has) in
          record {
            row = None;
            stay = on.0;
            told = untold b (history.told place) is;
            sends = λ of passing. bytes_in May sent (elim turns [
              | inl replied ↦ greeting (met old).reply of.reply replied
              | inr (no_reply, inl called) ↦ greeting (met old).call of.call called
              | inr (no_reply, inr (no_call, part)) ↦
                  elim (on.1 (ap (λ (m : Meeting). m.reply) here ∙ no_reply) (ap (λ (m : Meeting). m.call) here ∙ no_call)) [
                    | inl passed ↦ subst (Has May) (sym (passed ∙ ap (λ (m : Meeting). passing_in m.part) here))
                        (has_more (MayCome secret b history) May (may_still stay secret b history on.0.later on.0.given)
                        (passing_in (met old).part) passing)
                    | inr sealed ↦ has_more (WasSealedIn (game_seal secret b.game) on.0.later) May (λ bytes was. inr was)
                        (option_map sent_of sent) sealed
                  ]
            ]);
          };
    }

-- A run.

abbrev pub RunsStay : Marking → Type 0
RunsStay marking = (secret : Option (List ℕ)) (b : Begun) (history : History) (meetings : ℕ → Meeting) (place : ℕ)
    (new : Meeting) (marks : List ℤ) (ran : Ran) (row : Option (List (Option Move)))
    → AreSessions marking secret b history meetings → place < b.terms.players
    → ((link : Link) → link_in (meetings place).part ≡ Some link
    → AreMarksOf marking (limits_of b.terms) b.terms.settings history place (linked link).node marks ran)
    → RunsPart marks (meetings place).part new.part ran row
    → StaySessions marking secret b history meetings place new row

module _ {W S : Type 0} (state : W → S) (physics : Physics S) (old new : Engine W) where
  pub ran_on : (ran : Ran) (runs : RunsIn state physics ran old new) → KeepsOut None (met old) (met new)
      → RunsStay (marking_of physics) → GoesOn state physics None None old new
  ran_on ran runs keeps law = record {
    keeps = keeps;
    fits = fits;
    told = λ none. runs.told ∙ ap (told_on old.told.items)
        (subst (λ (o : Option Part). RunsPart runs.marks o (met new).part ran runs.row) none runs.runs).2;
    greets = λ none reply call. tt;
    goes = λ secret b history meetings place are below here is comes.
        let few = (are.are.links.game.nodes place below).few in
        let rows = history.told place in
        record {
          row = runs.row;
          stay = law secret b history meetings place (met new) runs.marks ran runs.row are below
              (λ link has tic other told low present.
              let part = has_part (met old).part link (ap (λ (m : Meeting). link_in m.part) (sym here) ∙ has) in
              runs.its other (omega (arith, low, few))
              ∙ ap (λ (s : S). physics.mark s other) (is.world part.0 part.1))
              (subst (λ (m : Meeting). RunsPart runs.marks m.part (met new).part ran runs.row) (sym here) runs.runs);
          told = record {
            told = runs.told ∙ ap (λ (rs : List (List (Option Move))). told_on rs runs.row) is.told;
            world = λ part has. stepped b rows (played state physics None old new keeps fits part has b rows is) runs.row
                runs.idle runs.steps;
          };
          sends = λ of passing. tt;
        };
  }
    where
      fits : IsSide (met old).lobby → IsSide (met new).lobby
      fits = same_lobby (met old) (met new) runs.rest

      stepped : (b : Begun) (rows : List (List (Option Move)))
          → state old.world ≡ world_by physics (world_told (limits_of b.terms) b.terms.settings rows)
          → (row : Option (List (Option Move))) → (row ≡ None → state new.world ≡ state old.world)
          → ((one : List (Option Move)) → row ≡ Some one → state new.world ≡ physics.step (state old.world) one)
          → state new.world ≡ world_by physics (world_told (limits_of b.terms) b.terms.settings (told_on rows row))
      stepped b rows before None idle steps = idle refl ∙ before
      stepped b rows before (Some row) idle steps = steps row refl ∙ ap (λ (s : S). physics.step s row) before
          ∙ sym (fold_push physics.step (physics.begin (start_of b.terms.settings) (seats_of (limits_of b.terms).players)) rows row)

  pub rests_on : Rests state old new
      → ((secret : Option (List ℕ)) (b : Begun) (history : History) (meetings : ℕ → Meeting) (place : ℕ) (now : Meeting)
      → AreSessions (marking_of physics) secret b history meetings → place < b.terms.players
      → now.part ≡ (meetings place).part → StaySessions (marking_of physics) secret b history meetings place now None)
      → GoesOn state physics None None old new
  rests_on rests law =
      silent state physics None old new (rested (met old) (met new) rests.meeting_is)
      (subst IsSide (sym (ap (λ (m : Meeting). m.lobby) rests.meeting_is))) rests.told rests.world
      (λ secret b history meetings place are below here comes. law secret b history meetings place (met new) are below
      (ap (λ (m : Meeting). m.part) (rests.meeting_is ∙ sym here)))
