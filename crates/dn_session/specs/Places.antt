-- Where the players are.
use Rattle.std.specs.{Prelude.{ℕ, ◌+◌, ◌==◌, ◌&&◌, ◌||◌, Bool, not, true, false, nat_lt, if◌then◌else◌, List, [], ◌∷◌, find, map, replicate, slice_index_or, slice_set, take, Option, Some, None, is_none, is_some}, List.list_any, Option.option_map, Str.bytes_eq}
use Rattle.dn_session.specs.{Players.four, declared.{greeting.Address.Address, places.{News.News, Place.Place, Places.Places, Probe.Probe, Spot.Spot}}}

-- something was done less than so many milliseconds ago, if it was
abbrev pub is_since : ℕ → ℕ → Option ℕ → Bool
is_since time now None = false
is_since time now (Some done) = nat_lt now (done + time)

-- an address that may be known is this one
abbrev pub is_this : Address → Option Address → Bool
is_this from None = false
is_this from (Some address) = bytes_eq address.bytes from.bytes

abbrev pub spot_at : Option Spot → Option Address
spot_at spot = option_map (λ s. s.address) spot

-- a player may be there from now on: where a datagram came from, or not
abbrev pub new_spot : (is_found : Bool) → ℕ → Address → Spot
new_spot is_found now address = record { address = address; since = now; is_due = is_found; probed = None }

-- one of the last sixteen probes went there
abbrev pub was_probed : Address → Place → Bool
was_probed from place = list_any (λ p. is_this from p.to) place.probes

-- a player may be elsewhere, where a datagram came from: it has not answered for a second from where it receives, and has
-- had any candidate for a second. One that is still probed does not give way to an address that was probed before
abbrev pub may_move : Address → ℕ → Place → Bool
may_move from now place =
    not (is_since 1000 now (Some place.answered)) && elim place.candidate [
      | None ↦ true
      | Some c ↦ not (is_since 1000 now (Some c.since)) && not (is_since 1000 now c.probed && was_probed from place)
    ]

-- one of its last datagrams came from there: a probe is due
abbrev pub sought_at : Address → ℕ → Place → Place
sought_at from now place =
    if is_this from (spot_at place.fallback)
    then record place { fallback = option_map (λ (s : Spot). record s { is_due = true }) place.fallback }
    else (if is_this from (spot_at place.candidate)
    then record place { candidate = option_map (λ (s : Spot). record s { is_due = true }) place.candidate }
    else (if may_move from now place then record place { candidate = Some (new_spot true now from) } else place))

-- one of its last datagrams came from where it receives, and if that is an answer, the search ends
abbrev pub heard_here : ℕ → Bool → Place → Place
heard_here now true place = record place { heard = now; answered = now; candidate = None }
heard_here now false place = record place { heard = now }

-- a datagram of the player came from this address: one of its last ones counts
abbrev pub heard_from : Address → ℕ → News → Place → Place
heard_from from now news place =
    if not news.is_current
    then place
    else (if is_this from place.address then heard_here now news.is_answer place else sought_at from now place)

-- the player receives where a probe went. Where it received before, if that is elsewhere, it may be still
abbrev pub fallback_after : ℕ → Option Address → Place → Option Spot
fallback_after now to place = elim place.address [
  | None ↦ place.fallback
  | Some before ↦ if is_this before to then place.fallback else Some (new_spot false now before)
]

-- an answer, from wherever it came. If it echoes one of the last sixteen probes, the player receives where that went
abbrev pub is_echoed : ℕ → Probe → Bool
is_echoed echo p = is_some p.to && p.echo == echo

abbrev pub answered_by : ℕ → Option Probe → Place → Place
answered_by now None place = record place { echoed = now }
answered_by now (Some p) place =
    record place {
      address = p.to;
      heard = now;
      answered = now;
      echoed = now;
      fallback = fallback_after now p.to place;
      candidate = None;
    }

abbrev pub echoed : ℕ → ℕ → Place → Place
echoed now echo place = answered_by now (find (is_echoed echo) place.probes) place

-- an address at which the player receives, as the lobby showed, or which the roster tells
abbrev pub new_place : (is_shown : Bool) → ℕ → Option Address → Place
new_place is_shown now address =
    record {
      address = if is_shown then address else None;
      heard = now;
      answered = now;
      echoed = now;
      detour = None;
      fallback = if is_shown then None else option_map (new_spot false now) address;
      candidate = None;
      probes = replicate 16 (record { echo = 0; to = None });
    }

-- the host has number 0, and those in the seats theirs. The lobby showed a joiner that its host receives, and the host,
-- which calls no host, that all do
abbrev pub places_of : Option Address → List (Option Address) → ℕ → Places
places_of host seats now =
    record { at = new_place true now host ∷ map (new_place (is_none host) now) seats }

-- of nobody else is known where it is
abbrev pub place_of : ℕ → Places → Place
place_of player places = slice_index_or places.at player (new_place false 0 None)

-- the player receives at this address, and was heard there in the second before
abbrev pub is_heard_at : Address → ℕ → Place → Bool
is_heard_at from now place = is_this from place.address && is_since 1000 now (Some place.heard)

abbrev pub is_anothers : ℕ → Address → ℕ → Places → Bool
is_anothers player from now places =
    list_any (λ other. not (other == player) && is_heard_at from now (place_of other places)) four

-- one of the last datagrams that another passed on says that its sender may not hear this player. That is noted, but
-- not within two seconds again: it counts for one, so two who hear each other again do not keep each other at it
abbrev pub passed_by : ℕ → Bool → Place → Place
passed_by now is_current place =
    if is_current && not (is_since 2000 now place.detour) then record place { detour = Some now } else place

-- in the second before, the player was heard where it receives, and has echoed, from wherever: what goes to it arrives;
-- and no other passed a datagram of it on
abbrev pub is_near_at : ℕ → Place → Bool
is_near_at now place =
    is_some place.address && (is_since 1000 now (Some place.heard)
    && (is_since 1000 now (Some place.echoed) && not (is_since 1000 now place.detour)))

-- a datagram of a player came from this address: from its own, through another, or from where it may be
abbrev pub heard_by : (is_passed : Bool) → Address → ℕ → News → Place → Place
heard_by is_passed from now news place =
    let heard = if is_passed then passed_by now news.is_current place else heard_from from now news place in
    if news.is_answer then echoed now news.echo heard else heard

abbrev pub heard_at : ℕ → Address → ℕ → News → Places → Places
heard_at player from now news places = record {
  at = slice_set places.at player
      (heard_by (not (is_this from (place_of player places).address) && is_anothers player from now places)
      from now news (place_of player places));
}

-- a datagram came from there since the last probe, and that was sent 250 ms ago or more
abbrev pub is_due_at : ℕ → Option Spot → Bool
is_due_at looked None = false
is_due_at looked (Some s) = s.is_due && not (is_since 250 looked s.probed)

-- where the roster tells that a player is, or it received before, goes one a second besides while it does not answer,
-- until it was silent for ten
abbrev pub is_fallback_due : (looked silence : ℕ) → (answers : Bool) → Option Spot → Bool
is_fallback_due looked silence answers None = false
is_fallback_due looked silence answers (Some s) =
    is_due_at looked (Some s)
    || (not answers && (not (is_since 1000 looked s.probed) && nat_lt silence 10000))

abbrev pub answers_at : ℕ → Place → Bool
answers_at looked place = is_some place.address && is_since 1000 looked (Some place.answered)

-- where a probe is due, which goes nowhere else than to where a player may be
abbrev pub probe_to : (looked silence : ℕ) → Place → Option Address
probe_to looked silence place =
    if is_fallback_due looked silence (answers_at looked place) place.fallback
    then spot_at place.fallback
    else (if is_due_at looked place.candidate then spot_at place.candidate else None)

-- a probe was sent there, that is echoed so
abbrev pub probed : Address → ℕ → Spot → Spot
probed to now s =
    if is_this to (Some s.address) then record s { is_due = false; probed = Some now } else s

abbrev pub after_probe : Address → ℕ → ℕ → Place → Place
after_probe to now echo place =
    record place {
      fallback = option_map (probed to now) place.fallback;
      candidate = option_map (probed to now) place.candidate;
      probes = take 16 (record { echo = echo; to = Some to } ∷ place.probes);
    }

abbrev pub probed_at : ℕ → Address → ℕ → ℕ → Places → Places
probed_at player to now echo places =
    record { at = slice_set places.at player (after_probe to now echo (place_of player places)) }

-- what happens to a place: a datagram of its player comes; or a probe is sent, if one is due
pub data Happening : Type 0 where
  Comes : (is_passed : Bool) → Address → ℕ → News → Happening
  Sends : (looked silence echo : ℕ) → Happening

abbrev pub happened : Happening → Place → Place
happened (Comes is_passed from now news) place = heard_by is_passed from now news place
happened (Sends looked silence echo) place = elim (probe_to looked silence place) [
  | None ↦ place
  | Some to ↦ after_probe to looked echo place
]

-- those that come from an address; those at which a probe goes there; and how many of these, until the player has shown
-- that it receives there
abbrev pub comes_from : Address → Happening → Bool
comes_from at (Comes is_passed from now news) = is_this at (Some from)
comes_from at (Sends looked silence echo) = false

abbrev pub goes_to : Address → Place → Happening → Bool
goes_to at place (Comes is_passed from now news) = false
goes_to at place (Sends looked silence echo) = is_this at (probe_to looked silence place)

abbrev pub probes_to : Address → Place → List Happening → ℕ
probes_to at place [] = 0
probes_to at place (h ∷ rest) =
    if is_this at place.address
    then 0
    else (if goes_to at place h then 1 else 0) + probes_to at (happened h place) rest
