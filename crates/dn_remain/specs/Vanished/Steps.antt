-- What one node may do next. A node that has left does nothing.
use Rattle.std.specs.Prelude.{ℕ, ◌+◌, ◌<◌, ◌≤◌, true, false, List, [], ◌∷◌, ◌++◌, ◌≡◌, ◌⊎◌, Some}
use Rattle.dn_machine.specs.Running.{is_over}
use Rattle.dn_machine.specs.Node.{put}
use Rattle.dn_remain.specs.Vanished.Node.{Node, ran, fresh, now, Was, Within, HasHeard, decided}

-- it makes a command: never more ahead of the tics run than the window allows
abbrev pub Makes : ℕ → ℕ → Node → Node → Type 0
Makes ahead q node new = (node.got q < ran node + ahead) × (new ≡ record node { got = put node.got q (node.got q + 1) })

-- this was a state of the player, or of another who hands on what it has of the player, and had given up nobody
-- but whom the node has given up too
abbrev pub HandsOn : ℕ → List (ℕ → Node) → Node → ℕ → Node → Type 0
HandsOn players history node p sent =
    (r : ℕ) × Was history r sent × ((r ≡ p) ⊎ ((r < players) × Within sent.gone node.gone))

-- it takes commands of a player whom it has not given up, as far as somebody had them in some state in which that
-- one had not given up `q`: nothing is sent to those whom one has given up
abbrev pub Takes : ℕ → List (ℕ → Node) → ℕ → Node → Node → Type 0
Takes players history q node new = (p end : ℕ) × (sent : Node) × HandsOn players history node p sent
    × (sent.gone q ≡ false) × (node.gone p ≡ false) × (node.got p ≤ end) × (end ≤ sent.got p)
    × (new ≡ record node { got = put node.got p end })

-- it learns from an EXIT packet the end of a player who has left and whom it has not given up, and has all
-- commands before it
abbrev pub Learns : (ℕ → Node) → ℕ → Node → Node → Type 0
Learns nodes q node new = (p : ℕ) × (p ≡ q → ⊥) × (node.gone p ≡ false) × ((nodes p).left ≡ true)
    × ((nodes p).gone q ≡ false)
    × (new ≡ record node {
      got = put node.got p ((nodes p).got p);
      ends = put node.ends p (Some ((nodes p).got p));
    })

-- it runs a tic: it has a command of everyone whose end it is not past
abbrev pub RunsTic : ℕ → Node → Node → Type 0
RunsTic players node new =
    ((p : ℕ) → p < players → is_over (node.ends p) (ran node) ≡ false → ran node < node.got p)
    × (new ≡ record node { rows = node.rows ++ (λ p. is_over (node.ends p) (ran node)) ∷ [] })

-- it gives up another: for good, and from here on it takes none of that player's packets, by `Takes` and
-- `Learns`
abbrev pub GivesUp : ℕ → ℕ → Node → Node → Type 0
GivesUp players q node new = (p : ℕ) × (p < players) × (p ≡ q → ⊥) × (new ≡ record node { gone = put node.gone p true })

-- it leaves: it quits, or its demo is full, or a check fails
abbrev pub Leaves : Node → Node → Type 0
Leaves node new = new ≡ record node { left = true }

-- it decides the ends of all whom it has given up
abbrev pub Decides : ℕ → List (ℕ → Node) → ℕ → Node → Node → Type 0
Decides players history q node new = (heard : ℕ → Node) × HasHeard players history q node heard
    × (new ≡ decided players q node heard)

pub data Act : Type 0 where
  Make : Act
  Take : Act
  Learn : Act
  Run : Act
  GiveUp : Act
  Leave : Act
  Decide : Act

abbrev pub Acts : ℕ → ℕ → List (ℕ → Node) → ℕ → Act → Node → Type 0
Acts players ahead history q Make new = Makes ahead q (now history q) new
Acts players ahead history q Take new = Takes players history q (now history q) new
Acts players ahead history q Learn new = Learns (now history) q (now history q) new
Acts players ahead history q Run new = RunsTic players (now history q) new
Acts players ahead history q GiveUp new = GivesUp players q (now history q) new
Acts players ahead history q Leave new = Leaves (now history q) new
Acts players ahead history q Decide new = Decides players history q (now history q) new

-- one node does something, and the others stay
pub record Step (players ahead : ℕ) (history : List (ℕ → Node)) (next : ℕ → Node) : Type 0 where
  pub q : ℕ
  pub act : Act
  pub new : Node
  pub player : q < players
  pub here : (now history q).left ≡ false
  pub acts : Acts players ahead history q act new
  pub next_is : next ≡ put (now history) q new

-- the states that a game may pass through: the newest first, the last of them fresh
abbrev pub IsRun : ℕ → ℕ → List (ℕ → Node) → Type 0
IsRun players ahead [] = ⊥
IsRun players ahead (nodes ∷ []) = nodes ≡ (λ node. fresh)
IsRun players ahead (next ∷ (nodes ∷ older)) = Step players ahead (nodes ∷ older) next × IsRun players ahead (nodes ∷ older)
