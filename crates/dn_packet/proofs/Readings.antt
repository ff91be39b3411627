-- Every list of bytes is read as one thing, and as something.
use Rattle.std.specs.{Int.{w16, cast_signed, cast_unsigned, from_le_bytes, to_le_bytes}, List.flat_map}
use Rattle.byteorder.specs.Endian.{little_number}
use Rattle.std.proofs.{Common.{◌≡◌, ◌≢◌, ◌≤◌, ◌+◌, ◌*◌, ℕ, List, length, drop, refl, ap, sym, ◌∙◌, arith, Result, Ok, Err, rules, ◌<◌, ◌/◌, ◌^◌, zero, suc, [], ◌∷◌, ◌++◌, get_or, All, inl, inr, w8}, Math.Nat.mod-lt}
use Rattle.std.proofs.lemmas.Bool.{cases_lt, cases_eq}
use Rattle.std.proofs.{lemmas.Int.of_z-to_z, lemmas.List.{length-drop, get_or_past}, lemmas.List.Elements.{All-nil, All-cons, All-drop}, lemmas.Nat.le_bytes_2}
use borrow.Author.Gap.{read_sfits}
use Rattle.dn_tic.specs.{Command.{command_bytes, IsCommand}, declared.command.TicCmd.TicCmd}
use Rattle.dn_packet.specs.{declared.packet.Packet.Packet, declared.packet.PacketFault.PacketFault, declared.packet.PacketFault.TheVariants.{Short, Many, Length, Sum}, Text.{text, sum_of, IsPacket}}
use Rattle.dn_packet.specs.Read.{IsReadAs, told_count, told_sum, AreBytes, Reading}
use Rattle.dn_packet.proofs.Texts.{same_packet, text_length, assembled, length-commands}

-- As one thing.

-- bytes of another length than their count says are no packet, and have no other fault
pub only_length : (bytes : List ℕ) → 8 ≤ length bytes → told_count bytes ≤ 12
    → length bytes ≢ 8 + 8 * told_count bytes
    → (read : Result Packet PacketFault) → IsReadAs bytes read → Err Length ≡ read
only_length bytes long few other (Ok p) h = absurd (other (text_length p bytes h.1))
only_length bytes long few other (Err Short) h = absurd (omega arith)
only_length bytes long few other (Err Many) h = absurd (omega arith)
only_length bytes long few other (Err Length) h = refl
only_length bytes long few other (Err Sum) h = absurd (other h.1)

-- a packet's text tells the number of its commands
count_text : (p : Packet) (bytes : List ℕ) → bytes ≡ text p → told_count bytes ≡ length p.cmds.items
count_text p bytes is = rw is refl

-- a packet's text tells the sum of its body
told_sum_text : (p : Packet) → IsPacket p → told_sum (text p) ≡ sum_of (drop 4 (text p))
told_sum_text p valid = grind (arith, mod-lt)

-- a packet's text is that packet, and has no fault
pub only_packet : (bytes : List ℕ) (p : Packet) → IsPacket p → bytes ≡ text p
    → (read : Result Packet PacketFault) → IsReadAs bytes read → Ok p ≡ read
only_packet bytes p valid is (Ok q) h = ap Ok (same_packet p q valid h.0 (sym is ∙ h.1))
only_packet bytes p valid is (Err Short) h = absurd (omega (arith, text_length p bytes is))
only_packet bytes p valid is (Err Many) h = absurd (omega (arith, valid.count, count_text p bytes is))
only_packet bytes p valid is (Err Length) h = absurd (h.2 (text_length p bytes is))
only_packet bytes p valid is (Err Sum) h = grind (arith, told_sum_text)

-- As something.

-- two bytes as a number
abbrev pair : ℕ → ℕ → ℕ
pair a b = from_le_bytes w16 (a ∷ b ∷ [])

pair_fits : (a b : ℕ) → a < 256 → b < 256 → (i : ℕ) → get_or (a ∷ b ∷ []) i 0 < 256
pair_fits a b p q zero = p
pair_fits a b p q (suc zero) = q
pair_fits a b p q (suc (suc i)) = omega arith

pair_small : (a b : ℕ) → a < 256 → b < 256 → pair a b < 2 ^ 16
pair_small a b p q = omega arith

pair_back : (a b : ℕ) → a < 256 → b < 256 → to_le_bytes w16 (cast_unsigned w16 (cast_signed w16 (pair a b)))
    ≡ a ∷ b ∷ []
pair_back a b p q = grind (arith, of_z-to_z, pair_small, le_bytes_2, pair_fits)

-- the command of eight bytes
abbrev command : (a b c d e f g h : ℕ) → TicCmd
command a b c d e f g h =
    record {
      forward = cast_signed w8 a;
      side = cast_signed w8 b;
      turn = cast_signed w16 (pair c d);
      mark = cast_signed w16 (pair e f);
      chat = g;
      buttons = h;
    }

-- the commands whose bytes these are
record Commands (bs : List ℕ) : Type 0 where
  commands : List TicCmd
  valid : All IsCommand commands
  spelled : bs ≡ flat_map command_bytes commands

one_more : (a b c d e f g h : ℕ) (rest : List ℕ) → a < 256 → b < 256 → c < 256 → d < 256 → e < 256 → f < 256
    → g < 256 → h < 256
    → Commands rest → Commands (a ∷ b ∷ c ∷ d ∷ e ∷ f ∷ g ∷ h ∷ rest)
one_more a b c d e f g h rest ha hb hc hd he hf hg hh others =
    let first : TicCmd = command a b c d e f g h in
    let forward : cast_unsigned w8 first.forward ≡ a = of_z-to_z w8 a ha in
    let side : cast_unsigned w8 first.side ≡ b = of_z-to_z w8 b hb in
    let turn : to_le_bytes w16 (cast_unsigned w16 first.turn) ≡ c ∷ d ∷ [] = pair_back c d hc hd in
    let mark : to_le_bytes w16 (cast_unsigned w16 first.mark) ≡ e ∷ f ∷ [] = pair_back e f he hf in
    let spelled : command_bytes first ≡ a ∷ b ∷ c ∷ d ∷ e ∷ f ∷ g ∷ h ∷ [] = cc in
    record {
      commands = first ∷ others.commands;
      valid = All-cons IsCommand first others.commands (search (rules, read_sfits, hg, hh)) others.valid;
      spelled = ap (λ (xs : List ℕ). a ∷ b ∷ c ∷ d ∷ e ∷ f ∷ g ∷ h ∷ xs) others.spelled
          ∙ ap (λ (xs : List ℕ). xs ++ flat_map command_bytes others.commands) (sym spelled);
    }

commands_in : (n : ℕ) (bs : List ℕ) → ((i : ℕ) → i < length bs → get_or bs i 0 < 256) → length bs ≡ 8 * n
    → Commands bs
commands_in zero [] fits long = record { commands = []; valid = All-nil IsCommand; spelled = refl }
commands_in (suc n) (a ∷ b ∷ c ∷ d ∷ e ∷ f ∷ g ∷ h ∷ rest) fits long =
    one_more a b c d e f g h rest (fits 0 (omega arith)) (fits 1 (omega arith)) (fits 2 (omega arith))
    (fits 3 (omega arith)) (fits 4 (omega arith)) (fits 5 (omega arith)) (fits 6 (omega arith))
    (fits 7 (omega arith))
    (commands_in n rest (λ i below. fits (suc (suc (suc (suc (suc (suc (suc (suc i))))))))
    (omega (arith, below))) (omega (arith, long)))
commands_in n _ fits long = absurd (omega arith)

each_fits : (bytes : List ℕ) → AreBytes bytes → (i : ℕ) → get_or bytes i 0 < 256
each_fits bytes fits i = grind (arith, cases_lt, get_or_past)

is_packet : (bytes : List ℕ) → AreBytes bytes → 8 ≤ length bytes → told_count bytes ≤ 12
    → length bytes ≡ 8 + 8 * told_count bytes
    → told_sum bytes ≡ sum_of (drop 4 bytes) → Reading bytes
is_packet bytes fits long few whole sum =
    let word : ℕ = little_number 4 bytes in
    let byte = each_fits bytes fits in
    let rest : length (drop 8 bytes) ≡ 8 * told_count bytes = omega (arith, length-drop 8 bytes, whole) in
    let behind = All-drop (λ byte. byte < 256) 8 bytes fits in
    let found = commands_in (told_count bytes) (drop 8 bytes) (λ i below. behind i 0 below) rest in
    let small : word < 2 ^ 32 = omega (arith, byte 0, byte 1, byte 2, byte 3) in
    record {
      read = Ok (record {
        flags = word / 2 ^ 28;
        ask = get_or bytes 4 0;
        start = get_or bytes 5 0;
        player = get_or bytes 6 0;
        cmds = record { items = found.commands };
      });
      is_read = (
        record {
          flags = omega (arith, small);
          ask = byte 4;
          start = byte 5;
          player = byte 6;
          count = omega (arith, few, rest, length-commands found.commands, ap length found.spelled);
          commands = found.valid;
        },
        assembled bytes word (record { items = found.commands }) byte long refl sum found.spelled whole,
      );
    }

pub is_read : (bytes : List ℕ) → AreBytes bytes → Reading bytes
is_read bytes fits = elim (cases_lt (length bytes) 8) [
  | inl short ↦ record { read = Err Short; is_read = short }
  | inr long ↦ elim (cases_lt 12 (told_count bytes)) [
    | inl many ↦ record { read = Err Many; is_read = (long, many) }
    | inr few ↦ elim (cases_eq (length bytes) (8 + 8 * told_count bytes)) [
      | inr other ↦ record { read = Err Length; is_read = (long, few, other) }
      | inl whole ↦ elim (cases_eq (told_sum bytes) (sum_of (drop 4 bytes))) [
        | inr wrong ↦ record { read = Err Sum; is_read = (few, whole, wrong) }
        | inl right ↦ is_packet bytes fits long few whole right
      ]
    ]
  ]
]
