-- What a game of links is: what holds when it opens and after each event. The headline does not speak of this,
-- but rests on it.
use Rattle.std.specs.Prelude.{◌≡◌, ℕ, All, length}
use Rattle.arrayvec.specs.ArrayVec.{ArrayVec}
use Rattle.dn_setup.specs.Settings.{IsSettings, Settings, start_of}
use Rattle.dn_world.specs.Physics.{Physics}
use Rattle.dn_seal.specs.declared.seal.Seal.{Seal}
use Rattle.dn_machine.specs.{Limits.Limits, Started.started_node}
use Rattle.dn_lockstep.specs.{Represents.Represents, Rows.seats_of}
use Rattle.dn_survivor.specs.{OneGame.Session, OfOthers.nothing_kept}
use Rattle.dn_link.specs.{Linked.Linked, Linking.{linked, new_peer, seal_of}, Pacing.{new_pace, pace_of}, RemainingLinks.{AreRemainingLinks, WasSealedIn}}
use Rattle.dn_link_game.specs.{Genuine.IsGenuineEvent, Headline.HasPlayer, Playing.{IsAsSeen, IsPlayer, Seen, marking_of}}
use Rattle.dn_link_game.specs.declared.{calls.LinkEvent.LinkEvent, game.LinkGame.LinkGame, player.Player.Player}

-- in some session the links are those of one game, the worlds were stepped by its rows, all links have this seal,
-- what was given was sealed in the session, and the players' callers have seen this of it
pub record IsLinkGame {W S : Type 0} (state : W → S) (physics : Physics S) (limits : Limits) (settings : Settings)
    (seal : Seal) (seen : ℕ → Seen) (g : LinkGame W) : Type 0 where
  pub session : Session
  pub links : ℕ → Linked
  pub game : AreRemainingLinks (marking_of physics) limits settings session links
  pub as_seen : IsAsSeen session seen
  pub places : length g.players.items ≡ limits.players
  pub players : (i : ℕ) (player : Player W) → HasPlayer g i player
      → IsPlayer state physics limits settings (seen i) (links i) player
  pub seals : (i : ℕ) (player : Player W) → HasPlayer g i player → seal_of player.link ≡ seal
  pub given : All (λ (bytes : ArrayVec ℕ). WasSealedIn seal session bytes.items) g.given.items

-- a player whose link is new, as `Link::new` returns it, and whose world has begun with the settings' start
pub record IsNew {W S : Type 0} (state : W → S) (physics : Physics S) (limits : Limits) (settings : Settings)
    (seal : Seal) (me : ℕ) (player : Player W) : Type 0 where
  pub node : Represents limits me (linked player.link).node (started_node limits.players settings me)
  pub others : (linked player.link).others ≡ nothing_kept
  pub peers : (peer : ℕ) → (linked player.link).peers peer ≡ new_peer
  pub pace : pace_of player.link ≡ new_pace
  pub world : state player.world ≡ physics.begin (start_of settings) (seats_of limits.players)
  pub chosen : IsSettings settings
  pub sealed : seal_of player.link ≡ seal

-- a game of links is one after an event too, if what is asked of the event is so
abbrev pub GoesOn : {W S : Type 0} → (W → S) → Physics S → LinkGame W → LinkGame W → LinkEvent
    → ((ℕ → Seen) → ℕ → Seen) → Type 0
GoesOn state physics old new event after =
    (limits : Limits) (settings : Settings) (seal : Seal) (seen : ℕ → Seen)
    → IsLinkGame state physics limits settings seal seen old → IsGenuineEvent seal old.given.items event
    → IsLinkGame state physics limits settings seal (after seen) new
