-- The sessions of one game after a call on one of them.
use Rattle.std.proofs.Common.{◌≡◌, ◌<◌, ℕ, List, refl, sym, subst, ◌∙◌, Option, Some, None}
use Rattle.dn_tic.specs.declared.command.Move.{Move}
use Rattle.dn_machine.specs.Node.{put}
use Rattle.dn_lockstep.specs.Marking.{Marking}
use Rattle.dn_survivor.specs.OneGame.{Session}
use Rattle.dn_session.specs.{Parts.limits_of, Playing.Playing, Playing.playing, Session.IfPlaying, Session.Meeting, Sessions.AreSessions, Sessions.IsPartFor}
use Rattle.dn_session.specs.{Sessions.StaySessions, Text.game_seal, declared.part.Part.Part, declared.side.Begun.Begun}
use Rattle.dn_session.proofs.Going.{GoOn, both_put, kept}

module _ (marking : Marking) (secret : Option (List ℕ)) (b : Begun) (session : Session) (meetings : ℕ → Meeting)
    (player : ℕ) (new : Meeting) (are : AreSessions marking secret b session meetings)
    (few : player < b.terms.players) where
  abbrev pub Stay : Option (List (Option Move)) → Type 0
  Stay row = StaySessions marking secret b session meetings player new row

  abbrev pub On : Playing → Option (List (Option Move)) → Type 0
  On part row = GoOn marking (limits_of b.terms) b.terms.settings (game_seal secret b.game) session are.parts player part row

  -- the part of a session that has one
  pub its : (part : Part) → (meetings player).part ≡ Some part → are.parts player ≡ playing part
  its part has = subst (λ (o : Option Part). IsPartFor secret b player o (are.parts player)) has (are.own player few)

  -- and of one that has none
  pub unmade : (meetings player).part ≡ None → IsPartFor secret b player None (are.parts player)
  unmade none = subst (λ (o : Option Part). IsPartFor secret b player o (are.parts player)) none (are.own player few)

  -- with a part that goes on they stay so
  stays : (part : Playing) (row : Option (List (Option Move))) → IsPartFor secret b player new.part part
      → On part row → Stay row
  stays part row is on = record {
    later = on.later;
    stay = record {
      parts = put are.parts player part;
      are = on.stay;
      own = λ other low. both_put (λ p (m : Meeting) q. IsPartFor secret b p m.part q) meetings are.parts
          player new part is other (are.own other low);
    };
    given = on.given;
    told = on.told;
  }

  pub moved : (part : Part) (row : Option (List (Option Move))) → new.part ≡ Some part → On (playing part) row
      → Stay row
  moved part row has =
      stays (playing part) row
      (subst (λ (o : Option Part). IsPartFor secret b player o (playing part)) (sym has) refl)

  -- and of the later session this holds
  pub moved_and : (P : Session → Type 0) (part : Part) → new.part ≡ Some part
      → (on : On (playing part) None) × P on.later → (on : Stay None) × P on.later
  unfolding moved stays
  moved_and P part has (on, holds) = (moved part None has on, holds)

  -- what is no matter of the part changes nothing
  pub idle : new.part ≡ (meetings player).part → Stay None
  idle same = stays (are.parts player) None
      (subst (λ (o : Option Part). IsPartFor secret b player o (are.parts player)) (sym same)
      (are.own player few))
      (kept marking (limits_of b.terms) b.terms.settings (game_seal secret b.game) session are.parts player
      are.are few (are.parts player) refl refl)

  -- what a part does, if there is one: where there is none, none is there after it
  pub by_part : (Does : Option Part → Option Part → Type 0) (R : Type 0)
      → ((after : Option Part) → Does None after → after ≡ None) → ((old : Part) → Does (Some old) None → ⊥)
      → (new.part ≡ (meetings player).part → Does None new.part → R)
      → ((old next : Part) → (meetings player).part ≡ Some old → are.parts player ≡ playing old → new.part ≡ Some next
      → Does (Some old) (Some next) → R)
      → Does (meetings player).part new.part → R
  by_part Does R none lost idles moves does = go (meetings player).part new.part refl refl does
    where
      go : (old after : Option Part) → (meetings player).part ≡ old → new.part ≡ after → Does old after → R
      go None after had has is = idles (has ∙ none after is ∙ sym had) (subst (Does None) (sym has) is)
      go (Some old) None had has is = absurd (lost old is)
      go (Some old) (Some next) had has is = moves old next had (its old had) has is

  -- and tells no row
  pub if_part : (Does : Option Part → Option Part → Type 0)
      → ((after : Option Part) → Does None after → after ≡ None) → ((old : Part) → Does (Some old) None → ⊥)
      → ((old next : Part) → are.parts player ≡ playing old → Does (Some old) (Some next) → On (playing next) None)
      → Does (meetings player).part new.part → Stay None
  if_part Does none lost moves = by_part Does (Stay None) none lost (λ same is. idle same)
      (λ old next had same has is. moved next None has (moves old next same is))

  pub if_playing : (Does : Playing → Playing → Type 0)
      → ((next : Playing) → Does (are.parts player) next → On next None)
      → IfPlaying Does (meetings player).part new.part → Stay None
  if_playing Does step = if_part (IfPlaying Does) still (λ old is. is) (λ old next same is. step (playing next)
      (subst (λ (p : Playing). Does p (playing next)) (sym same) is))
    where
      still : (after : Option Part) → IfPlaying Does None after → after ≡ None
      still None is = refl
      still (Some after) is = absurd is
