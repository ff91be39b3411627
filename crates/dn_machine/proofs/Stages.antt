-- How far a player is from giving another the command of a tic, by what they keep of each other.
use Rattle.std.proofs.Common.{◌≡◌, ℕ, zero, suc, ◌+◌, ◌-◌, ◌*◌, ◌<◌, ◌≤◌, Bool, true, cond, min, length, arith, Some, None, inl, inr, ◌⊎◌, if◌then◌else◌}
use Rattle.dn_machine.specs.{declared.peer.Peer.Peer, Limits.Limits, Node.{Node, made}, Sending.lag, Hearing.{is_within, after_request}}

-- what a node has of one player: what it keeps of it, and how many of its commands
pub record Side : Type 0 where
  pub kept : Peer
  pub got : ℕ

abbrev pub side : Node → ℕ → Side
side node s = record { kept = node.peers s; got = length (node.held s) }

-- a player needs no more of another for a tic: it has the command, or it knows that the other has none
abbrev pub Holds : ℕ → Side → Type 0
Holds tic its = (tic < its.got) ⊎ ((end : ℕ) × (its.kept.end ≡ Some end) × (end ≤ tic))

-- what another needs of a player for a tic ends before this one: it ends with the tic, or with the last command
-- of one who has left
abbrev pub goal_of : Bool → ℕ → ℕ → ℕ
goal_of stays tic made = if stays then suc tic else min (suc tic) made

pub lag_low : (limits : Limits) → lag limits ≤ 1
lag_low limits = grind arith

-- how far a packet and so many more reach, of which each begins where the one before it ended, or the lag
-- before
abbrev pub reach : Limits → ℕ → ℕ
reach limits zero = limits.most
reach limits (suc more) = reach limits more + (limits.most - lag limits)

-- How far a player `mine` is from giving another the command of a tic, by what they keep of each other: in
-- `rounds` rounds. What the other needs of it ends before tic `goal`.
pub data Stage (limits : Limits) (tic goal : ℕ) (rounds : ℕ) (mine : Side) (its : Side) : Type 0 where
  -- the other needs no more
  Has : Holds tic its → Stage limits tic goal rounds mine its
  -- the next packet begins with what the other lacks
  Meets : 1 ≤ rounds → mine.kept.resend ≡ its.got → Stage limits tic goal rounds mine its
  -- the other asks for it, and is heard when the pause is over
  Asks : its.kept.want ≡ true → mine.kept.pause + 2 ≤ rounds → Stage limits tic goal rounds mine its
  -- the next packet and so many more reach what the other needs, unless the resend is moved up
  Unknown : (more : ℕ) → 13 + more ≤ rounds
      → (goal ≤ mine.kept.resend + limits.places → goal ≤ mine.kept.resend + reach limits more)
      → Stage limits tic goal rounds mine its

-- what a packet of `mine` that starts there does to the other: it needs no more then; or it asks from then on;
-- or all of it was old, and it is cut before what the other needs
abbrev pub Taken : ℕ → ℕ → ℕ → ℕ → Side → Side → Type 0
Taken most tic goal start its its_later = Holds tic its_later
    ⊎ ((its_later.got ≡ its.got) × (its.got < start) × (its_later.kept.want ≡ true)
    × (Holds tic its → Holds tic its_later))
    ⊎ ((its_later.got ≡ its.got) × (its_later.kept.want ≡ its.kept.want)
    × (Holds tic its → Holds tic its_later) × (start + most ≤ its.got) × (start + most < goal))

-- a packet that is cut before what the other needs begins with the resend, and the next one where it ends, or
-- the lag before
abbrev pub Moves : Limits → ℕ → ℕ → Peer → Peer → Type 0
Moves limits goal start mine later = start + limits.most < goal
    → (start ≡ mine.resend) × (goal ≤ start + limits.places)
    × (later.resend ≡ start + limits.most - lag limits)

-- what a packet of the other does to what `mine` keeps of it: the request is met, or the pause is one packet
-- shorter
abbrev pub Asked : ℕ → Bool → Peer → Peer → Type 0
Asked request want mine later = (later.resend ≡ request)
    ⊎ ((later.resend ≡ mine.resend) × (later.pause ≤ mine.pause - 1) × (want ≡ true → 0 < mine.pause))

-- how many rounds are left after a packet of the player's, and after one of the other's
abbrev pub AfterSent : ℕ → ℕ → Type 0
AfterSent rounds later = (2 ≤ rounds → rounds ≤ 12 → rounds ≤ later) × (13 ≤ rounds → rounds ≤ later + 1)

abbrev pub AfterHeard : ℕ → ℕ → Type 0
AfterHeard rounds later = (1 ≤ rounds → 1 ≤ later) × (rounds ≤ later + 1) × (13 ≤ rounds → rounds ≤ later)

module _ (limits : Limits) (tic goal rounds later : ℕ) (mine mine_later its its_later : Side) where
  pub sent_stage : (start : ℕ) → 1 ≤ limits.most → lag limits ≤ 1 → Stage limits tic goal rounds mine its
      → mine_later.kept.pause ≡ mine.kept.pause → mine.kept.pause ≤ 10
      → (mine.kept.resend ≡ its.got → start ≡ its.got) → Moves limits goal start mine.kept mine_later.kept
      → Taken limits.most tic goal start its its_later → AfterSent rounds later
      → Stage limits tic goal later mine_later its_later
  sent_stage start some lag_low (Has x) same low begins moves h fit = grind arith
  sent_stage start some lag_low (Meets x y) same low begins moves h fit = grind arith
  sent_stage start some lag_low (Asks x y) same low begins moves h fit = grind arith
  sent_stage start some lag_low (Unknown zero x y) same low begins moves h fit = grind arith
  sent_stage start some lag_low (Unknown (suc more) x y) same low begins moves (inl holds) fit = Has holds
  sent_stage start some lag_low (Unknown (suc more) x y) same low begins moves (inr (inl gap)) fit = grind arith
  sent_stage start some lag_low (Unknown (suc more) x y) same low begins moves (inr (inr old)) fit =
      let cut = old.4 in
      let moved = moves cut in
      Unknown more (omega arith) (λ h. omega arith)

  pub asked_stage : Stage limits tic goal rounds mine its
      → its_later.got ≡ its.got → its_later.kept.want ≡ its.kept.want → its_later.kept.end ≡ its.kept.end
      → Holds tic its ⊎ Asked its.got its.kept.want mine.kept mine_later.kept → AfterHeard rounds later
      → Stage limits tic goal later mine_later its_later
  asked_stage (Has x) g w e h fit = grind arith
  asked_stage (Meets x y) g w e h fit = grind arith
  asked_stage (Asks x y) g w e h fit = grind arith
  asked_stage (Unknown more x y) g w e (inl holds) fit = grind arith
  asked_stage (Unknown more x y) g w e (inr (inl met)) fit = Meets (omega arith) (omega arith)
  asked_stage (Unknown more x y) g w e (inr (inr off)) fit = Unknown more (omega arith) (λ h. omega arith)

-- what another's request leaves of what is kept of it
pub asks : (places made : ℕ) (peer : Peer) (want : Bool) (tic : ℕ)
    → (want ≡ true → is_within places made (Some tic) ≡ true)
    → Asked tic want peer (after_request places made peer (cond want (Some tic) None))
asks places made peer want tic fits = grind arith

-- packets that all that is kept goes into reach over it
pub reaches : (limits : Limits) (more : ℕ) → 1 ≤ limits.most → lag limits ≤ 1
    → lag limits + suc more * (limits.most - lag limits) ≡ reach limits more
reaches limits zero some low = omega arith
reaches limits (suc more) some low = omega (arith, reaches limits more some low)
