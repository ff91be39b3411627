-- The envelope of a datagram.
use Rattle.std.specs.Prelude.{ℕ, ◌<◌, ◌≤◌, ◌^◌, List, [], ◌∷◌, ◌++◌, length, take, Option, Some, None, IfSome}
use Rattle.std.specs.Int.{w32, to_le_bytes}
use Rattle.dn_seal.specs.declared.seal.Suite.{Suite}
use Rattle.dn_seal.specs.Hmac.{tag_of, suite_byte}

-- what an envelope says: by which suite it is sealed, of which game it is, from which player to which, and the
-- exact tics of the datagram's first command and of its request
pub record Letter : Type 0 where
  pub suite : Suite
  -- the game's number, of which the envelope tells the first eight bytes; the key is of all
  pub game : List ℕ
  pub from : ℕ
  pub to : ℕ
  pub start : ℕ
  pub ask : Option ℕ
  pub datagram : List ℕ

-- whether there is a request, and its tic
abbrev pub ask_bytes : Option ℕ → List ℕ
ask_bytes None = 0 ∷ 0 ∷ 0 ∷ 0 ∷ 0 ∷ []
ask_bytes (Some tic) = 1 ∷ to_le_bytes w32 tic

-- the 21 bytes in front of the datagram: the suite, the kind of what follows, of which game, from whom to whom,
-- and the tics, low byte first. Kind 1 is one datagram of 1997. The other kinds are those of the crates that
-- seal them: 2 a link's datagram, 3 a report, 4 a greeting
abbrev pub head_bytes : Letter → List ℕ
head_bytes letter =
    (suite_byte letter.suite ∷ 1 ∷ []) ++ take 8 letter.game ++ (letter.from ∷ letter.to ∷ [])
    ++ to_le_bytes w32 letter.start ++ ask_bytes letter.ask

-- what the tag is over
abbrev pub body_bytes : Letter → List ℕ
body_bytes letter = head_bytes letter ++ letter.datagram

-- the bytes that are sent
abbrev pub envelope : List ℕ → Letter → List ℕ
envelope key letter = body_bytes letter ++ tag_of key (body_bytes letter)

-- the fields fit, so that the letter has an envelope
pub record IsLetter (letter : Letter) : Type 0 where
  pub game : 8 ≤ length letter.game
  pub from : letter.from < 2 ^ 8
  pub to : letter.to < 2 ^ 8
  pub start : letter.start < 2 ^ 32
  pub ask : IfSome letter.ask (λ tic. tic < 2 ^ 32)
  pub datagram : length letter.datagram ≤ 104
