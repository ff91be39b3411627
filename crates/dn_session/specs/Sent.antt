-- What a player's part sends, and where to.
use Rattle.std.specs.Prelude.{◌≡◌, ℕ, ◌==◌, ◌&&◌, Bool, not, false, if◌then◌else◌, List, option_map, position, slice_index_or, slice_set, Option, Some, None, IfSome, is_none, is_some}
use Rattle.dn_lockstep.specs.{Sent.IsFair, Sent.sent_to, Steps.Tells}
use Rattle.dn_link.specs.{Linked.Gives, Linked.Linked, Linked.exclusion, Linked.exclusion_for, Linked.has_given_up, Linked.is_peer, Linked.probe, Linked.probe_for, Linked.probed, Linked.remains, Linking.linked, Linking.seal_of, Pace.after_giving, Pacing.pace_of, Text.IsBundle}
use Rattle.dn_session.specs.{Places.is_near_at, Places.place_of, Places.probe_to, Places.probed_at, Players.four, Playing.KeepsGame, Playing.Playing, Playing.ended_as, Playing.exclusion_of, Playing.from_turn, Watch.silence, declared.greeting.Address.Address}

-- by the last look, a player is near
abbrev pub is_near : Playing → ℕ → Bool
is_near p player = is_near_at p.watch.looked (place_of player p.places)

-- another who remains, and is near, can pass a datagram on to a player
abbrev pub can_pass : Playing → (other player : ℕ) → Bool
can_pass p other player = not (other == player) && (remains (linked p.link) other && is_near p other)

-- who gets the datagram to a player: that one; or while it is not near, the one whose turn it is, if that one can pass
-- it on
abbrev pub way_to : Playing → ℕ → ℕ
way_to p player = if not (is_near p player) && can_pass p p.turn player then p.turn else player

-- where that is, as far as it is known
abbrev pub address_to : Playing → ℕ → Option Address
address_to p player = (place_of (way_to p player) p.places).address

-- a datagram is owed to a player who remains, and it is known where it goes; and none by one whose game is over
abbrev pub is_owed : Playing → ℕ → Bool
is_owed p player =
    slice_index_or p.owed player false && (is_none (ended_as p.progress)
    && (remains (linked p.link) player && is_some (address_to p player)))

-- the first to whom one is, from the one whose turn it is on
abbrev pub first_owed : Playing → Option ℕ
first_owed p = option_map (from_turn p.turn) (position (λ place. is_owed p (from_turn p.turn place)) four)

-- the packet of the moment, if there is one, is one that a datagram can carry
abbrev pub IsFairTo : ℕ → Linked → Type 0
IsFairTo player link =
    Tells link.node (λ limits me m. IfSome (sent_to player limits me m).1 IsFair)

-- a datagram to a player is made
abbrev pub SendsTo : ℕ → Playing → Playing → Option (Address × List ℕ) → Type 0
SendsTo player old new sent =
    (address : Address) × (bytes : List ℕ) × (address_to old player ≡ Some address)
    × (sent ≡ Some (address, bytes)) × IsFairTo player (linked old.link)
    × Gives (seal_of old.link) (pace_of old.link) player (linked old.link) (linked new.link) bytes
    × KeepsGame old.link new.link × (pace_of new.link ≡ after_giving (linked old.link) player (pace_of old.link))
    × (new ≡ record old { link = new.link; owed = slice_set old.owed player false })

-- where a player may be, goes a probe, by the last look
abbrev pub probe_of : Playing → ℕ → Option Address
probe_of p player =
    probe_to p.watch.looked (silence player p.watch.looked p.watch) (place_of player p.places)

abbrev pub is_owed_probe : Playing → ℕ → Bool
is_owed_probe p player =
    is_none (ended_as p.progress) && (remains (linked p.link) player && is_some (probe_of p player))

abbrev pub first_owed_probe : Playing → Option ℕ
first_owed_probe p = position (is_owed_probe p) four

-- it is made
abbrev pub Probes : ℕ → Playing → Playing → Option (Address × List ℕ) → Type 0
Probes player old new sent =
    (to : Address) × (bytes : List ℕ) × (probe_of old player ≡ Some to) × (sent ≡ Some (to, bytes))
    × (probe_for (seal_of old.link) (pace_of old.link) (linked old.link) player ≡ Some bytes)
    × IsBundle (probe (pace_of old.link) (linked old.link) player)
    × (linked new.link ≡ probed (linked old.link) player) × KeepsGame old.link new.link
    × (pace_of new.link ≡ pace_of old.link)
    × (new ≡ record old {
      link = new.link;
      places = probed_at player to old.watch.looked ((linked new.link).peers player).number old.places;
    })

-- one is to be told that it is given up
abbrev pub is_owed_exclusion : Playing → ℕ → Bool
is_owed_exclusion p player =
    is_some (exclusion_of p.exclusions player).to
    && (is_peer (linked p.link).node player && has_given_up (linked p.link) player)

abbrev pub first_owed_exclusion : Playing → Option ℕ
first_owed_exclusion p = position (is_owed_exclusion p) four

-- it is told so
abbrev pub Excludes : Option ℕ → Playing → Playing → Option (Address × List ℕ) → Type 0
Excludes None old new sent = (sent ≡ None) × (new ≡ old)
Excludes (Some player) old new sent =
    (address : Address) × (bytes : List ℕ) × ((exclusion_of old.exclusions player).to ≡ Some address)
    × (sent ≡ Some (address, bytes)) × (exclusion_for (seal_of old.link) (linked old.link) player ≡ Some bytes)
    × IsBundle (exclusion (linked old.link) player)
    × (new ≡ record old {
      exclusions = slice_set old.exclusions player (record (exclusion_of old.exclusions player) { to = None });
    })

-- that goes behind the probes
abbrev pub ProbesFirst : Option ℕ → Playing → Playing → Option (Address × List ℕ) → Type 0
ProbesFirst None old new sent = Excludes (first_owed_exclusion old) old new sent
ProbesFirst (Some player) old new sent = Probes player old new sent

-- these go behind the datagrams that are owed
abbrev pub SendsFirst : Option ℕ → Playing → Playing → Option (Address × List ℕ) → Type 0
SendsFirst None old new sent = ProbesFirst (first_owed_probe old) old new sent
SendsFirst (Some player) old new sent = SendsTo player old new sent

-- and what is passed on goes before them
abbrev pub SendsOn : Option (Address × List ℕ) → Playing → Playing → Option (Address × List ℕ) → Type 0
SendsOn None old new sent = SendsFirst (first_owed old) old new sent
SendsOn (Some passing) old new sent = (sent ≡ Some passing) × (new ≡ record old { passing = None })

-- what is sent next, if anything is
abbrev pub SendsNext : Playing → Playing → Option (Address × List ℕ) → Type 0
SendsNext old new sent = SendsOn old.passing old new sent
