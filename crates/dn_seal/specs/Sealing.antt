-- What a sealer is.
use Rattle.std.specs.Prelude.{ℕ, List, ◌∷◌, take}
use Rattle.dn_seal.specs.declared.seal.Seal.{Seal}
use Rattle.dn_seal.specs.declared.sealer.Sealer.{Sealer}
use Rattle.dn_seal.specs.declared.seal.Suite.{Suite}
use Rattle.dn_seal.specs.Hmac.{game_key, suite_byte}
use Rattle.dn_seal.specs.Opening.{Sealing}

-- what the players of a game seal by, of this suite, secret and number
abbrev pub sealed_with : Suite → List ℕ → List ℕ → Seal
sealed_with suite secret number =
    record { suite = suite; key = game_key suite secret number; game = number }

abbrev pub sealing : Sealer → Sealing
sealing sealer = record { seal = sealer.seal; me = sealer.me }

-- the suite, the kind of what follows, and the front of the game's number
abbrev pub front_bytes : Seal → ℕ → List ℕ
front_bytes seal kind = suite_byte seal.suite ∷ kind ∷ take 8 seal.game
