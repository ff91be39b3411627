-- What `host`, `join` and `key` make of their options.
use Rattle.std.specs.Prelude.{◌≡◌, ◌⊎◌, ℕ, Bool, false, List, Option, Some, None, Result, Ok, Err, codes}
use Rattle.clap.specs.Matches.{first_value, found_of}
use Rattle.clap.specs.declared.parser.matches.ArgMatches.{ArgMatches}
use Rattle.dn_game.specs.declared.config.GameConfig.{GameConfig}
use Rattle.dn_host.specs.declared.host.Hosting.{Hosting}
use Rattle.dn_host.specs.declared.plan.Plan.{Plan}
use Rattle.dn_host.specs.declared.wire.Udp.{Udp}
use Rattle.dn_program.specs.Keys.{IsOfMaking, IsRead}
use Rattle.dn_program.specs.declared.key.KeyFault.{KeyFault}
use Rattle.dn_netgame.specs.declared.transfer.RunFault.{RunFault}
use Rattle.dn_program.specs.OptionValues.{IsPaceOf}
use Rattle.dn_program.specs.declared.options.Pace.{Pace}
use Rattle.dn_program.specs.Endings.{broken_off, misused}
use Rattle.dn_program.specs.Printed.{Answers, key_status}

-- how many commands a player makes ahead of its runs
abbrev pub ahead : ℕ
ahead = 12

-- what a host offers: the game that its options say, with so many players and at this rate
pub record IsHostingOf (game : GameConfig) (players rate : ℕ) (hosting : Hosting) : Type 0 where
  pub players_are : hosting.players ≡ players
  pub extra : hosting.extra ≡ game.extra
  pub ahead_by : hosting.ahead ≡ ahead
  pub rate_is : hosting.rate ≡ rate
  pub limit : hosting.limit ≡ game.limit
  pub settings : hosting.settings ≡ game.settings

-- how a session goes: with this key, and with this seed and for so many seconds
pub record IsPlanOf (secret : Option (List ℕ)) (pace : Pace) (plan : Plan) : Type 0 where
  pub secret_is : plan.secret ≡ secret
  pub seed : plan.seed ≡ pace.seed
  pub seconds : plan.seconds ≡ pace.seconds

-- the key of a session: none where no file of one is named, else what that file is read as
abbrev pub IsSecretIn : (file : Option (List ℕ)) → Result (Option (List ℕ)) KeyFault → Type 0
IsSecretIn None secret = secret ≡ Ok None
IsSecretIn (Some file) (Ok None) = ⊥
IsSecretIn (Some file) (Ok (Some key)) = IsRead (Ok key)
IsSecretIn (Some file) (Err fault) = IsRead (Err fault)

-- `--key` names the file
abbrev pub IsSecretOf : ArgMatches → Result (Option (List ℕ)) KeyFault → Type 0
IsSecretOf matches secret = IsSecretIn (first_value (found_of matches) (codes "key")) secret

-- what comes of making a key in a file: it was made, or a line says why it was not
abbrev pub IsKeyRun : (file : Option (List ℕ)) → Result ℕ RunFault → Type 0
IsKeyRun None result = result ≡ Ok misused
IsKeyRun (Some file) result =
    (result ≡ Ok 0) ⊎ ((fault : KeyFault) × IsOfMaking fault × Answers false (key_status fault) result)

-- a session goes as its options say, with the key that its file has
pub record IsReady (matches : ArgMatches) (plan : Plan) : Type 0 where
  pub secret : IsSecretOf matches (Ok plan.secret)
  pub pace : IsPaceOf matches (record { seed = plan.seed; seconds = plan.seconds })

-- no session begins, and this is the exit status: its options say too little; or a line says why its key was not
-- read, or that its port was not bound
abbrev pub IsUnready : {A : Type 0} → (raw : Bool) → ArgMatches → (ℕ → A) → Result A RunFault → Type 0
IsUnready raw matches answer result =
    (((pace : Pace) → ¬ IsPaceOf matches pace) × (result ≡ Ok (answer misused)))
    ⊎ (((fault : KeyFault) × IsSecretOf matches (Err fault) × Answers raw (answer (key_status fault)) result)
    ⊎ Answers raw (answer broken_off) result)

-- what comes of preparing a session
abbrev pub IsPrepared : (raw : Bool) → ArgMatches → Result (Result (Plan × Udp) ℕ) RunFault → Type 0
IsPrepared raw matches result =
    ((plan : Plan) × (wire : Udp) × (result ≡ Ok (Ok (plan, wire))) × IsReady matches plan)
    ⊎ IsUnready raw matches (λ status. Err status) result
