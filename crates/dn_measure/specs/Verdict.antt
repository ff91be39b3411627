-- Whether a line carries a game of four, or what it lacks.
use Rattle.std.specs.Prelude.{◌≤◌, ◌<◌, ℕ, ◌+◌, ◌-◌, ◌*◌, ◌/◌, ◌==◌, Bool, true, List, [], ◌∷◌, ◌++◌, All, nat_lt, if◌then◌else◌, Option, Some, None}
use Rattle.dn_measure.specs.declared.arrivals.Arrivals.{Arrivals}
use Rattle.dn_measure.specs.declared.felt.Felt.{Felt}
use Rattle.dn_measure.specs.declared.felt.Felt.TheVariants.{Never, Within, Longer}
use Rattle.dn_measure.specs.declared.measure.Summary.{Summary}
use Rattle.dn_measure.specs.declared.verdict.Lack.{Lack}
use Rattle.dn_measure.specs.declared.verdict.Lack.TheVariants.{Time, Tics, Rate, Calm, Pause, Speed, Datagrams}
use Rattle.dn_measure.specs.Arrivals.{loss_of}
use Rattle.dn_measure.specs.Thresholds.{least_time, run_of_given, given, time_of_a_gap, longest_pause, longest_key, greatest_loss}

-- fewer tics were run than have to be
abbrev pub is_slow : Summary → Bool
is_slow s = nat_lt (1000000 * given * s.tics) (run_of_given * s.rate * s.micros)

-- how many minutes have begun
abbrev pub minutes_of : Summary → ℕ
minutes_of s = (s.micros + (time_of_a_gap - 1)) / time_of_a_gap

-- there are more gaps than there may be
abbrev pub has_gaps : Summary → Bool
has_gaps s = nat_lt (minutes_of s) s.gaps

-- the longest time between two tics is longer than it may be
abbrev pub has_paused : Summary → Bool
has_paused s = nat_lt longest_pause s.longest

-- most keys are felt later than they may be
abbrev pub is_late : Felt → Bool
is_late Never = true
is_late (Within time) = nat_lt longest_key time
is_late Longer = true

-- how many of a thousand datagrams of a player were lost; none, of a number that is no player's
abbrev pub peer_loss : Option Arrivals → ℕ
peer_loss None = 0
peer_loss (Some arrivals) = loss_of arrivals

abbrev pub note : Bool → Lack → List Lack
note lacking lack = if lacking then lack ∷ [] else []

abbrev pub note_loss : ℕ → Option Arrivals → List Lack
note_loss player peer =
    note (nat_lt greatest_loss (peer_loss peer)) (Datagrams player (peer_loss peer))

-- the players, from this one on, of whom too many datagrams were lost
abbrev pub losses_of : ℕ → List (Option Arrivals) → List Lack
losses_of player [] = []
losses_of player (peer ∷ peers) = note_loss player peer ++ losses_of (player + 1) peers

-- what is lacking of a time that is judged
abbrev pub judged : Summary → List Lack
judged s =
    note (is_slow s) Rate ++ (note (has_gaps s) Calm ++ (note (has_paused s) Pause
    ++ (note (is_late s.most) Speed ++ losses_of 0 s.peers)))

-- what is lacking
abbrev pub lacks_of : Summary → List Lack
lacks_of s =
    if nat_lt s.micros least_time then Time ∷ [] else (if s.tics == 0 then Tics ∷ [] else judged s)

-- the keys that were felt were felt in time
abbrev pub IsInTime : Felt → Type 0
IsInTime Never = ⊥
IsInTime (Within time) = time ≤ longest_key
IsInTime Longer = ⊥

-- all thresholds are reached
pub record Carries (s : Summary) : Type 0 where
  pub time : least_time ≤ s.micros
  pub tics : 0 < s.tics
  pub rate : run_of_given * s.rate * s.micros ≤ 1000000 * given * s.tics
  pub calm : s.gaps ≤ minutes_of s
  pub pause : s.longest ≤ longest_pause
  pub speed : IsInTime s.most
  pub datagrams : All (λ peer. peer_loss peer ≤ greatest_loss) s.peers
