-- HMAC-SHA-256 (RFC 2104): the tag that is kept of it, hashers that have taken a key, and the keys of
-- games.
use Rattle.std.specs.Prelude.{ℕ, ◌-◌, ◌++◌, List, length, map, take, replicate, nat_lt, bit_xor, if◌then◌else◌, codes}
use Rattle.std.specs.Coded.{×_prop, Coded-set, coded_ℕ, coded_list}
use Rattle.sha2.specs.Sha256.{sha256, Holds}
use Rattle.sha2.specs.declared.Sha256.{Sha256}
use Rattle.sha2.specs.Hashers.{Holds256}
use Rattle.dn_seal.specs.declared.seal.Suite.{Suite}
use Rattle.dn_seal.specs.declared.seal.Suite.TheVariants.{Secret, Open}

-- the key as a block of 64 bytes, filled up with zeros; a longer key's digest stands for it
abbrev pub short_key : List ℕ → List ℕ
short_key key = if nat_lt 64 (length key) then sha256 key else key

abbrev pub key_block : List ℕ → List ℕ
key_block key = short_key key ++ replicate (64 - length (short_key key)) 0

-- each byte with the bits of the pad turned
abbrev pub turned : ℕ → List ℕ → List ℕ
turned pad bytes = map (λ byte. bit_xor byte pad) bytes

-- the two pads are 0x36 and 0x5c
unfoldable pub hmac : List ℕ → List ℕ → List ℕ
hmac key message = sha256 (turned 0x5c (key_block key) ++ sha256 (turned 0x36 (key_block key) ++ message))

-- the first 16 bytes
abbrev pub tag_of : List ℕ → List ℕ → List ℕ
tag_of key message = take 16 (hmac key message)

-- the hasher has taken the block of this key, with a pad, and nothing else
abbrev pub HasTaken : ℕ → List ℕ → Sha256 → Type 0
HasTaken pad key hasher = Holds256 hasher (turned pad (key_block key))

pub HasTaken-prop : (pad : ℕ) (key : List ℕ) (hasher : Sha256) → IsProp (HasTaken pad key hasher)
unfolding Holds
HasTaken-prop pad key hasher =
    let bytes = Coded-set (coded_list coded_ℕ) in ×_prop (Coded-set coded_ℕ _ _) (×_prop (bytes _ _) (bytes _ _))

-- how an envelope tells the suite
abbrev pub suite_byte : Suite → ℕ
suite_byte Secret = 1
suite_byte Open = 2

-- the text that keys are derived of; it tells the suite too
unfoldable pub label : Suite → List ℕ
label Secret = codes "zirmegat game key 1"
label Open = codes "zirmegat game key 2"

-- a game's key: the code of the suite's label and of the game's number, under the secret
abbrev pub game_key : Suite → List ℕ → List ℕ → List ℕ
game_key suite secret number = hmac secret (label suite ++ number)

-- what stands for the secret of an open game, which has none
abbrev pub no_secret : List ℕ
no_secret = replicate 32 0
