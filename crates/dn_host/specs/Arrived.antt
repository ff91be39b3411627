-- What came from each player, by what its link reports of the lines.
use Rattle.std.specs.Prelude.{ℕ, ◌+◌, ◌&&◌, ◌^◌, ◌-◌, min, Bool, false, nat_lt, if◌then◌else◌, List, slice_index, map, Option, Some, option_map}
use Rattle.dn_link.specs.declared.tally.Figures.{Figures}
use Rattle.dn_measure.specs.{Measure.{IsMeasureOf}, declared.{arrivals.Arrivals.Arrivals, measure.Measure.Measure, measure.Told.Told, status.PeerStatus.PeerStatus}}
use Rattle.dn_session.specs.{Coming.line_of, Players.four}

-- a datagram came late over a line: one more came, and one fewer is missing, since a later one had come
abbrev pub is_late : (before after : Option Figures) → Bool
is_late (Some before) (Some after) = nat_lt before.came after.came && nat_lt after.lost before.lost
is_late before after = false

-- one more, if it is; a count stops at the largest of 32 bits
abbrev pub one_more : Bool → ℕ → ℕ
one_more is_late count = if is_late then min (count + 1) (2 ^ 32 - 1) else count

-- how many came late of each player, with the one that came between these figures, if there were lines
abbrev pub late_in : (before after : Option (List (Option Figures))) → List ℕ → List ℕ
late_in (Some before) (Some after) late =
    map (λ n. one_more (is_late (line_of before n) (line_of after n)) (slice_index late n)) four
late_in before after late = late

-- by the figures of a line, of whose datagrams so many came late
abbrev pub arrivals_of : Figures → ℕ → Arrivals
arrivals_of f late = record { came = f.came; lost = f.lost; late = late; twice = f.repeated; old = f.too_old }

abbrev pub arrivals_in : Option Figures → ℕ → Option Arrivals
arrivals_in line late = option_map (λ f. arrivals_of f late) line

-- of four players
abbrev pub came_of_each : List (Option Figures) → List ℕ → List (Option Arrivals)
came_of_each lines late = map (λ n. arrivals_in (line_of lines n) (slice_index late n)) four

-- how another player stands
abbrev pub standing_in : Option Figures → ℕ → Option PeerStatus
standing_in line late = option_map (λ f. record { lead = f.lead; arrivals = arrivals_of f late }) line

-- of four players
abbrev pub standings_in : List (Option Figures) → List ℕ → List (Option PeerStatus)
standings_in lines late = map (λ n. standing_in (line_of lines n) (slice_index late n)) four

-- a measure of a game that began at some time, and told this and that
abbrev pub IsSomeMeasure : Measure → Type 0
IsSomeMeasure m = ∥ ((start : ℕ) × (told : List Told) × IsMeasureOf m start told) ∥₁
