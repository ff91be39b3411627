-- What stands where in an envelope.
use Rattle.std.proofs.{Common.{◌≡◌, ◌<◌, ◌≤◌, ◌+◌, ◌-◌, ◌^◌, ℕ, List, [], ◌∷◌, ◌++◌, length, take, drop, refl, ap, ◌∙◌, arith, Option, Some, None}, lemmas.List.{length-append, length-take-le}, lemmas.Nat.from_le_bytes-to_le_bytes_4}
use Rattle.std.proofs.Math.Seq.{take-append_seam, drop-append_seam}
use Rattle.std.specs.{Prelude.{slice_index, IfSome}, Int.{w32, to_le_bytes, from_le_bytes}}
use Rattle.sha2.specs.Sha256.{sha256, digest_bytes}
use Rattle.dn_seal.specs.{Hmac.{hmac, tag_of, suite_byte}, Envelope.{Letter, ask_bytes, head_bytes, body_bytes, envelope}, Opening.{told_game, told_body, told_tag, told_tic, ask_in}}

length-sha256 : (m : List ℕ) → length (sha256 m) ≡ 32
unfolding sha256 digest_bytes
length-sha256 m = refl

pub length-tag : (key m : List ℕ) → length (tag_of key m) ≡ 16
unfolding hmac
length-tag key m = grind (arith, length-sha256, length-take-le)

-- eight bytes of a list, one by one
pub eight : (xs : List ℕ) → 8 ≤ length xs → (P : List ℕ → Type 0)
    → ((a b c d e f g h : ℕ) → P (a ∷ b ∷ c ∷ d ∷ e ∷ f ∷ g ∷ h ∷ [])) → P (take 8 xs)
eight (a ∷ b ∷ c ∷ d ∷ e ∷ f ∷ g ∷ h ∷ rest) long P holds = holds a b c d e f g h
eight _ long P holds = absurd (omega arith)

-- the head of a letter, with these bytes of the game's number
abbrev headed : Letter → List ℕ → List ℕ
headed l g =
    (suite_byte l.suite ∷ 1 ∷ []) ++ g ++ (l.from ∷ l.to ∷ []) ++ to_le_bytes w32 l.start ++ ask_bytes l.ask

pub length-head : (l : Letter) → 8 ≤ length l.game → length (head_bytes l) ≡ 21
length-head l long = grind (arith, eight)

module _ (key : List ℕ) (l : Letter) (long : 8 ≤ length l.game) where
  pub length-body : length (body_bytes l) ≡ 21 + length l.datagram
  length-body = length-append (head_bytes l) l.datagram
      ∙ ap (λ (n : ℕ). n + length l.datagram) (length-head l long)

  pub length-envelope : length (envelope key l) ≡ 37 + length l.datagram
  length-envelope = grind (arith, length-append, length-body, length-tag)

  seam : length (envelope key l) - 16 ≡ length (body_bytes l)
  seam = omega (arith, length-envelope, length-body)

  pub body-envelope : told_body (envelope key l) ≡ body_bytes l
  body-envelope = ap (λ (n : ℕ). take n (envelope key l)) seam
      ∙ take-append_seam (body_bytes l) (tag_of key (body_bytes l))

  pub tag-envelope : told_tag (envelope key l) ≡ tag_of key (body_bytes l)
  tag-envelope = ap (λ (n : ℕ). drop n (envelope key l)) seam
      ∙ drop-append_seam (body_bytes l) (tag_of key (body_bytes l))

  pub datagram-envelope : drop 21 (told_body (envelope key l)) ≡ l.datagram
  datagram-envelope = grind (arith, body-envelope, eight)

  -- what stands behind the head
  abbrev rest : List ℕ
  rest = tag_of key (body_bytes l)

  pub suite-envelope : slice_index (envelope key l) 0 ≡ suite_byte l.suite
  suite-envelope = refl

  pub kind-envelope : slice_index (envelope key l) 1 ≡ 1
  kind-envelope = refl

  pub game-envelope : told_game (envelope key l) ≡ take 8 l.game
  game-envelope = eight l.game long (λ g. told_game (headed l g ++ l.datagram ++ rest) ≡ g)
      (λ a b c d e f g h. refl)

  pub from-envelope : slice_index (envelope key l) 10 ≡ l.from
  from-envelope = eight l.game long (λ g. slice_index (headed l g ++ l.datagram ++ rest) 10 ≡ l.from)
      (λ a b c d e f g h. refl)

  pub to-envelope : slice_index (envelope key l) 11 ≡ l.to
  to-envelope = eight l.game long (λ g. slice_index (headed l g ++ l.datagram ++ rest) 11 ≡ l.to)
      (λ a b c d e f g h. refl)

  pub start-envelope : l.start < 2 ^ 32 → from_le_bytes w32 (take 4 (drop 12 (envelope key l))) ≡ l.start
  start-envelope small = grind (arith, eight, from_le_bytes-to_le_bytes_4)

  pub ask-envelope : IfSome l.ask (λ tic. tic < 2 ^ 32)
      → ask_in (slice_index (envelope key l) 16) (told_tic (envelope key l)) ≡ Some l.ask
  ask-envelope small = eight l.game long
      (λ g. ask_in (slice_index (headed l g ++ l.datagram ++ rest) 16)
      (told_tic (headed l g ++ l.datagram ++ rest)) ≡ Some l.ask)
      (λ a b c d e f g h. go a b c d e f g h l.ask small)
    where
      go : (a b c d e f g h : ℕ) (ask : Option ℕ) → IfSome ask (λ tic. tic < 2 ^ 32)
          → ask_in (slice_index (headed (record l { ask = ask }) (a ∷ b ∷ c ∷ d ∷ e ∷ f ∷ g ∷ h ∷ [])
          ++ l.datagram ++ rest) 16)
          (told_tic (headed (record l { ask = ask }) (a ∷ b ∷ c ∷ d ∷ e ∷ f ∷ g ∷ h ∷ [])
          ++ l.datagram ++ rest)) ≡ Some ask
      go a b c d e f g h None small = refl
      go a b c d e f g h (Some tic) small = ap (λ (n : ℕ). Some (Some n)) (from_le_bytes-to_le_bytes_4 tic small)
