-- Of what sessions are made, and what making one returns.
use Rattle.std.specs.Prelude.{◌≡◌, ◌≢◌, ℕ, ◌==◌, List, Option, Some, None, Result, Ok, Err, if◌then◌else◌}
use Rattle.dn_setup.specs.Settings.{Settings, IsCheckedAs}
use Rattle.dn_setup.specs.declared.settings.SettingsFault.{SettingsFault}
use Rattle.dn_seal.specs.Hmac.{no_secret}
use Rattle.dn_session.specs.declared.host.HostConfig.{HostConfig}
use Rattle.dn_session.specs.declared.joiner.JoinConfig.{JoinConfig}
use Rattle.dn_session.specs.declared.session.Session.{Session}
use Rattle.dn_session.specs.declared.terms.LobbyFault.{LobbyFault}
use Rattle.dn_session.specs.Session.{IsHostSession, IsJoinSession}
use Rattle.zirmegat.specs.declared.configs.HostFields.{HostFields}
use Rattle.zirmegat.specs.declared.configs.JoinFields.{JoinFields}
use Rattle.zirmegat.specs.declared.fault.Fault.{Fault}
use Rattle.zirmegat.specs.declared.held.Held.{Held}
use Rattle.zirmegat.specs.declared.held.Held.TheVariants as kind
use Rattle.zirmegat.specs.{Calls.IsKept, Choice.choice_in, Terms.terms_in}

-- the key, where one is needed
abbrev pub secret_in : ℕ → List ℕ → Option (List ℕ)
secret_in keyless key = if keyless == 0 then Some key else None

-- a number, where 0 is for none
abbrev pub number_in : ℕ → Option ℕ
number_in number = if number == 0 then None else Some number

abbrev pub host_in : HostFields → Settings → HostConfig
host_in f settings =
    record {
      secret = secret_in f.keyless f.key;
      random = f.random;
      name = f.name;
      terms = terms_in f.terms settings;
    }

abbrev pub join_in : JoinFields → JoinConfig
join_in f =
    record {
      secret = secret_in f.keyless f.key;
      random = f.random;
      host = record { bytes = f.host };
      seat = number_in f.seat;
      players = number_in f.players;
      identity = f.identity;
      name = f.name;
    }

-- the key is needed, and was never set
abbrev pub IsUnset : ℕ → List ℕ → Type 0
IsUnset keyless key = (keyless ≡ 0) × (key ≡ no_secret)

-- key and random bytes were set
abbrev pub IsSet : ℕ → List ℕ → List ℕ → Type 0
IsSet keyless key random = ¬ IsUnset keyless key × (random ≢ no_secret)

-- which of them was not, if one was not
abbrev pub IsSetAs : ℕ → List ℕ → List ℕ → Option Fault → Type 0
IsSetAs keyless key random None = IsSet keyless key random
IsSetAs keyless key random (Some Fault.Key) = IsUnset keyless key
IsSetAs keyless key random (Some Fault.Random) = ¬ IsUnset keyless key × (random ≡ no_secret)
IsSetAs keyless key random (Some fault) = ⊥

-- the session of a host by its settings, or why there is none
abbrev pub IsHostWith : HostFields → Result Settings SettingsFault → Result Session Fault → Type 0
IsHostWith f (Ok settings) (Ok session) = IsHostSession (host_in f settings) (Ok session)
IsHostWith f (Ok settings) (Err fault) =
    (why : LobbyFault) × (fault ≡ Fault.Lobby why) × IsHostSession (host_in f settings) (Err why)
IsHostWith f (Err why) made = made ≡ Err (Fault.Settings why)

-- key and random bytes are looked at first, then the settings, and then the other terms
abbrev pub IsHostUnless : HostFields → Option Fault → Result Session Fault → Type 0
IsHostUnless f (Some fault) made = made ≡ Err fault
IsHostUnless f None made =
    (settings : Result Settings SettingsFault) × IsCheckedAs (choice_in f.terms.settings) settings × IsHostWith f settings made

abbrev pub IsHost : HostFields → Result Session Fault → Type 0
IsHost f made =
    (unset : Option Fault) × IsSetAs f.keyless f.key f.random unset × IsHostUnless f unset made

-- the session of one who joins
abbrev pub IsJoinWith : JoinFields → ℕ → Result Session Fault → Type 0
IsJoinWith f now (Ok session) = IsJoinSession (join_in f) now (Ok session)
IsJoinWith f now (Err fault) =
    (why : LobbyFault) × (fault ≡ Fault.Lobby why) × IsJoinSession (join_in f) now (Err why)

abbrev pub IsJoinUnless : JoinFields → ℕ → Option Fault → Result Session Fault → Type 0
IsJoinUnless f now (Some fault) made = made ≡ Err fault
IsJoinUnless f now None made = IsJoinWith f now made

abbrev pub IsJoin : JoinFields → ℕ → Result Session Fault → Type 0
IsJoin f now made =
    (unset : Option Fault) × IsSetAs f.keyless f.key f.random unset × IsJoinUnless f now unset made

-- what was made is kept
abbrev pub OpensHost : HostFields → ℕ → Option Held → Type 0
OpensHost f code kept = (made : Result Session Fault) × IsHost f made × IsKept kind.Session made code kept

abbrev pub OpensJoin : JoinFields → ℕ → ℕ → Option Held → Type 0
OpensJoin f now code kept = (made : Result Session Fault) × IsJoin f now made × IsKept kind.Session made code kept
