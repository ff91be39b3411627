-- What a host offers, and a joiner asks for.
use Rattle.std.specs.Prelude.{◌≡◌, ℕ, List, [], codes, replicate, None}
use Rattle.dn_session.specs.{declared.host.HostConfig.HostConfig, declared.joiner.JoinConfig.JoinConfig, declared.terms.Policy.TheVariants.End, declared.terms.Terms.Terms, Terms.terms_fault, Text.join_fault}
use Rattle.dn_host.specs.{declared.guest.Guest.Guest, declared.host.Hosting.Hosting, declared.plan.Plan.Plan}

-- the identity of every program of this kind
abbrev pub program : List ℕ
program = codes "zirmegat netgame"

-- what must be the same at all players: who is silent for ten seconds ends the game, and all play by this program
abbrev pub terms_of : Hosting → Terms
terms_of hosting = record {
  players = hosting.players;
  extra = hosting.extra;
  ahead = hosting.ahead;
  rate = hosting.rate;
  limit = hosting.limit;
  settings = hosting.settings;
  policy = End 10;
  identity = program;
  own = replicate 256 0;
}

-- what a host's session is made of, with these random bytes
abbrev pub hosted : Plan → Hosting → List ℕ → HostConfig
hosted plan h random = record { secret = plan.secret; random = random; name = replicate 16 0; terms = terms_of h }

-- it is a game
abbrev pub IsOffer : Hosting → Type 0
IsOffer hosting = terms_fault (terms_of hosting) ≡ None

-- what a joiner's session is made of, with these random bytes
abbrev pub joining : Plan → Guest → List ℕ → JoinConfig
joining plan guest random = record {
  secret = plan.secret;
  random = random;
  host = guest.host;
  seat = guest.seat;
  players = guest.players;
  identity = program;
  name = replicate 16 0;
}

-- it may be asked for: such a seat, and so many players
abbrev pub IsAsked : Plan → Guest → Type 0
IsAsked plan guest = join_fault (joining plan guest []) ≡ None
