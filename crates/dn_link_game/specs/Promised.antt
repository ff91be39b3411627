-- What is promised of a game of links after a list of events.
use Rattle.std.specs.Prelude.{◌≡◌, ℕ, All, List, ◌∷◌, length, Result, Ok}
use Rattle.dn_setup.specs.Settings.{Settings}
use Rattle.dn_world.specs.Physics.{Physics}
use Rattle.dn_machine.specs.{Limits.Limits, Node.put}
use Rattle.dn_seal.specs.declared.seal.Seal.{Seal}
use Rattle.dn_link_game.specs.{Applied.{AreAnswered, IsSteady}, Genuine.{AreGenuine, given_by}, Headline.HaveAgreed, Playing.{Seen, nothing_seen, sees}}
use Rattle.dn_link_game.specs.declared.{calls.{LinkDone.LinkDone, LinkEvent.{LinkEvent, TheVariants.Call}, LinkRefusal.LinkRefusal}, game.LinkGame.LinkGame}

-- what the players' callers have seen after an event with this answer
abbrev pub seen_by : LinkEvent → Result LinkDone LinkRefusal → (ℕ → Seen) → ℕ → Seen
seen_by (Call player call) (Ok done) seen = put seen player (sees call done (seen player))
seen_by event answer seen = seen

-- and after all of these, in order
abbrev pub seen_after : List LinkEvent → List (Result LinkDone LinkRefusal) → (ℕ → Seen) → ℕ → Seen
seen_after (event ∷ events) (answer ∷ answers) seen = seen_after events answers (seen_by event answer seen)
seen_after events answers seen = seen

-- from the beginning on
abbrev pub all_seen : List LinkEvent → List (Result LinkDone LinkRefusal) → ℕ → Seen
all_seen events answers = seen_after events answers (λ player. nothing_seen)

-- Each event was done, or refused for what is wrong with it. If the bytes that came in were genuine, no answer
-- tells of a failed check, and the players agree as far as they did not give each other up: on the inputs of
-- which commands were made, and on the rows that were told
pub record HavePlayed {W S : Type 0} (state : W → S) (physics : Physics S) (limits : Limits) (settings : Settings)
    (seal : Seal) (events : List LinkEvent) (answers : List (Result LinkDone LinkRefusal)) (g : LinkGame W) : Type 0
  where
    pub as_many : length answers ≡ length events
    pub answered : AreAnswered limits.players events answers
    pub given : length g.given.items ≡ given_by answers
    pub agreed : AreGenuine seal g.given.items events answers
        → HaveAgreed state physics limits settings (λ player. (all_seen events answers player).inputs)
        (λ player. (all_seen events answers player).rows) (λ player. (all_seen events answers player).gone) g
    pub steady : AreGenuine seal g.given.items events answers → All IsSteady answers
