-- What is known of a game whose nodes have a history, and of one that opens.
use Rattle.std.proofs.Common.{◌≡◌, ◌≢◌, ℕ, ◌<◌, ◌≤◌, inl, List, [], ◌∷◌, ◌++◌, length, get_or, take, drop, refl, arith, ◌⊎◌, Bool, true, false, Some, None, slice_get}
use Rattle.std.proofs.lemmas.{Bool.and_right, Option.none-some}
use Rattle.dn_tic.specs.declared.command.TicCmd.{TicCmd}
use Rattle.dn_setup.specs.Settings.{Settings}
use Rattle.dn_machine.specs.{Flight.Exit, Flight.Flight, Flight.end_of, Node.ends_of, Node.made, Node.is_ended, Node.has_left, Game.Game, Worlds.Rules, Limits.Limits, Game.opening_game}
use Rattle.dn_remain.specs.Vanished.{Node.Within, Steps.IsRun, Commands.{Holder, past_seen, Had, AreHanded}}
use Rattle.dn_remain.specs.Wary.{holder_of, now_of, row_had, rows_to}
use Rattle.dn_machine.specs.Node as machine

-- a packet carries a piece of its sender's list, as somebody had it who had not given up the receiver: the sender
-- itself, or one who had given up nobody but whom the receiver had given up too
pub record IsTold (players : ℕ) (history : List (ℕ → Holder TicCmd)) (flight : Flight) : Type 0 where
  pub sender : flight.from < players
  pub receiver : flight.to < players
  pub apart : flight.from ≢ flight.to
  pub by : ℕ
  pub state : Holder TicCmd
  pub had : Had history by state
  pub hands : (by ≡ flight.from) ⊎ ((by < players) × ((other : Holder TicCmd) × Had history flight.to other
      × Within state.gone other.gone))
  pub open_to : state.gone flight.to ≡ false
  pub piece : flight.commands ≡ take (length flight.commands) (drop flight.start (state.held flight.from))
  pub reaches : end_of flight ≤ length (state.held flight.from)
  pub exit : flight.kind ≡ Exit → (state.left ≡ true) × (end_of flight ≡ length (state.held flight.from))
      × Had history flight.from state

-- an end that was told is that of one who has left
abbrev pub IsEnd : (ℕ → machine.Node) → (ℕ → ℕ → Bool) → ℕ → ℕ → ℕ → Type 0
IsEnd nodes gone q p e = (p ≢ q) × (has_left (nodes p) ≡ true) × (gone p q ≡ false) × (e ≡ made p (nodes p))

pub record Follows {S : Type 0} (known : ℕ → Holder TicCmd → Type 0) (rules : Rules S) (game : Game) (gone : ℕ → ℕ → Bool)
    (older : List (ℕ → Holder TicCmd)) : Type 0 where
  pub run : IsRun rules.players rules.ahead (past_seen (now_of game gone ∷ older))
  pub handed : AreHanded (now_of game gone ∷ older)
  pub flights : (which : ℕ) (flight : Flight) → slice_get game.flights which ≡ Some flight
      → IsTold rules.players (now_of game gone ∷ older) flight
  pub ends : (q p e : ℕ) → ends_of (game.nodes q) p ≡ Some e → gone q p ≡ false → IsEnd game.nodes gone q p e
  pub endless : (q : ℕ) → ends_of (game.nodes q) q ≡ None
  pub resend : (q to : ℕ) → ((game.nodes q).peers to).resend ≤ made q (game.nodes q)
  -- the rows that were run are those of what is seen
  pub rows : (q tic : ℕ) → tic < machine.ran (game.nodes q)
      → get_or (game.nodes q).rows tic [] ≡ row_had rules.limits (now_of game gone q) tic
  -- states of which more is said elsewhere were had
  pub knows : (r : ℕ) (u : Holder TicCmd) → known r u → Had (now_of game gone ∷ older) r u

pub told_later : (players : ℕ) (history : List (ℕ → Holder TicCmd)) (next : ℕ → Holder TicCmd) (flight : Flight)
    → IsTold players history flight → IsTold players (next ∷ history) flight
told_later players history next flight h = grind arith

-- it follows whatever has stopped, and other states are known that were had
pub known_so : {S : Type 0} (known other : ℕ → Holder TicCmd → Type 0) (rules : Rules S) (game : Game)
    (stopped : ℕ → Bool) (gone : ℕ → ℕ → Bool) (older : List (ℕ → Holder TicCmd))
    → Follows known rules game gone older
    → ((r : ℕ) (u : Holder TicCmd) → other r u → Had (now_of game gone ∷ older) r u)
    → Follows other rules (record game { stopped = stopped }) gone older
known_so known other rules game stopped gone older follows knows = grind (arith, knows)

-- what is asked of another node in the place of node `q`, which has given up these, of all that is not in the history
pub record IsFit (limits : Limits) (nodes : ℕ → machine.Node) (gone : ℕ → ℕ → Bool) (q : ℕ) (set : ℕ → Bool)
    (new : machine.Node) : Type 0 where
  pub ends : (p e : ℕ) → ends_of new p ≡ Some e → set p ≡ false → IsEnd nodes gone q p e
  pub endless : ends_of new q ≡ None
  pub resend : (to : ℕ) → (new.peers to).resend ≤ made q new
  -- it ran a tic by what is seen, or none
  pub rows : (new.rows ≡ (nodes q).rows)
      ⊎ (new.rows ≡ (nodes q).rows ++ row_had limits (holder_of new set) (machine.ran (nodes q)) ∷ [])

-- the nodes of a game have some history
abbrev pub Went : {S : Type 0} → (ℕ → Holder TicCmd → Type 0) → Rules S → Game → (ℕ → ℕ → Bool) → Type 0
Went known rules game gone = (older : List (ℕ → Holder TicCmd)) × Follows known rules game gone older

-- what is asked of a node holds of each that is there
pub fit_self : {S : Type 0} {known : ℕ → Holder TicCmd → Type 0} {rules : Rules S} {game : Game} {gone : ℕ → ℕ → Bool}
    {older : List (ℕ → Holder TicCmd)} (follows : Follows known rules game gone older) (q : ℕ)
    → IsFit rules.limits game.nodes gone q (gone q) (game.nodes q)
fit_self follows q =
    record { ends = follows.ends q; endless = follows.endless q; resend = follows.resend q; rows = inl refl }

-- whose phase is not one of an end has not left
pub not_left : (node : machine.Node) → is_ended node.phase ≡ false → has_left node ≡ false
not_left node e = and_right node.played (is_ended node.phase) e

-- nothing more is said of any state
abbrev pub known : ℕ → Holder TicCmd → Type 0
known r u = ⊥

pub opens : {S : Type 0} (rules : Rules S) (settings : Settings)
    → Follows known rules (opening_game settings) (λ node player. false) []
unfolding opening_game rows_to
opens rules settings = grind (arith, none-some)
