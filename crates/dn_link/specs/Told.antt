-- What bytes tell, part by part.
use Rattle.std.specs.{Prelude.{ℕ, zero, suc, ◌+◌, ◌*◌, ◌/◌, ◌%◌, ◌==◌, ◌||◌, nat_lt, if◌then◌else◌, List, [], ◌∷◌, length, take, drop, slice_index, Option, Some, None}, Option.option_map, Int.{w8, w16, w32, cast_signed, from_le_bytes}, List.{starts_with}, Option.{option_and_then}, Prelude.{nat_eq, ◌++◌}}
use Rattle.dn_seal.specs.Opening.{ask_in}
use Rattle.dn_link.specs.{declared.bundle.{Bundle.Bundle, Carried.Carried, Counts.Counts, Part.{Part, TheVariants.{Whole, Run, Relay}}}, Text.part_bytes, Differences.{difference, zeros}}
use Rattle.dn_link.specs.declared.bundle.Run as run
use Rattle.dn_link.specs.declared.bundle.Relay as relay

-- the number of four bytes from a place on
abbrev pub number_at : ℕ → List ℕ → ℕ
number_at place bytes = from_le_bytes w32 (take 4 (drop place bytes))

abbrev pub told_counts : List ℕ → Counts
told_counts bytes =
    record {
      made = number_at 0 bytes;
      echo = number_at 4 bytes;
      got = number_at 8 bytes ∷ number_at 12 bytes ∷ number_at 16 bytes ∷ number_at 20 bytes ∷ [];
    }

-- a packet with its numbers in front, where the bytes reach
abbrev pub told_whole : List ℕ → Option Carried
told_whole bytes =
    if nat_lt (length bytes) 10
    then None
    else (if nat_lt 104 (slice_index bytes 9) || nat_lt (length bytes) (10 + slice_index bytes 9)
    then None
    else option_map (λ ask. record {
      start = number_at 0 bytes;
      ask = ask;
      datagram = record { items = take (slice_index bytes 9) (drop 10 bytes) };
    }) (ask_in (slice_index bytes 4) (number_at 5 bytes)))

-- a command by the one before it, of the bytes that these bits tell of
abbrev pub told_changed : ℕ → (before bytes : List ℕ) → List ℕ
told_changed bits [] bytes = []
told_changed bits (b ∷ before) bytes =
    if bits % 2 == 0
    then b ∷ told_changed (bits / 2) before bytes
    else slice_index bytes 0 ∷ told_changed (bits / 2) before (drop 1 bytes)

-- the command in front
abbrev pub told_command : (before bytes : List ℕ) → List ℕ
told_command before bytes = told_changed (slice_index bytes 0) before (drop 1 bytes)

-- so many commands, each by the one before it
abbrev pub told_differences : ℕ → (before bytes : List ℕ) → List ℕ
told_differences zero before bytes = []
told_differences (suc n) before bytes =
    told_command before bytes
    ++ told_differences n (told_command before bytes)
    (drop (length (difference before (told_command before bytes))) bytes)

-- so many commands behind a first byte: as differences from 64 on, else whole
abbrev pub told_commands : (head n : ℕ) → List ℕ → List ℕ
told_commands head n bytes = if nat_lt head 64 then take (8 * n) bytes else told_differences n zeros bytes

-- a run behind its first byte
abbrev pub told_run : ℕ → List ℕ → Option run.Run
told_run head bytes =
    if head % 32 == 0 || nat_lt 24 (head % 32) || nat_lt (length bytes) 4
    then None
    else Some (record {
      start = number_at 0 bytes;
      commands = record { items = told_commands head (head % 32) (drop 4 bytes) };
    })

-- a run of a third player, whose number stands in front
abbrev pub told_relay : ℕ → List ℕ → Option relay.Relay
told_relay head [] = None
told_relay head (player ∷ bytes) =
    if nat_lt 3 player then None else option_map (λ run. record { player = player; run = run }) (told_run head bytes)

-- by the first byte, whatever follows
abbrev pub told_as : List ℕ → Option Part
told_as [] = None
told_as (head ∷ rest) =
    if head == 0
    then option_map Whole (told_whole rest)
    else (if head / 32 % 2 == 0 then option_map Run (told_run head rest) else option_map Relay (told_relay head rest))

-- a part is told only by its own bytes
abbrev pub told_by : List ℕ → Part → Option Part
told_by bytes part = if starts_with nat_eq bytes (part_bytes part) then Some part else None

abbrev pub told_part : List ℕ → Option Part
told_part bytes = option_and_then (told_by bytes) (told_as bytes)

-- so many parts, and nothing after them
abbrev pub told_all : ℕ → List ℕ → Option (List Part)
told_all zero [] = Some []
told_all zero (byte ∷ bytes) = None
told_all (suc n) bytes =
    elim (told_part bytes) [
      | None ↦ None
      | Some part ↦ option_map (λ parts. part ∷ parts) (told_all n (drop (length (part_bytes part)) bytes))
    ]

-- their number in front
abbrev pub told_parts : List ℕ → Option (List Part)
told_parts [] = None
told_parts (count ∷ bytes) = if nat_lt 24 count then None else told_all count bytes

-- how many bytes of a report stand behind the counts
abbrev pub report_size : List ℕ → ℕ
report_size body = from_le_bytes w16 (take 2 (drop 43 body))

-- the bundle of these parts
abbrev pub bundle_with : List ℕ → List Part → Bundle
bundle_with body parts =
    record {
      from = slice_index body 10;
      to = slice_index body 11;
      number = number_at 12 body;
      lead = cast_signed w8 (slice_index body 16);
      holes = slice_index body 17;
      cause = slice_index body 18;
      counts = told_counts (drop 19 body);
      report = record { items = take (report_size body) (drop 45 body) };
      parts = record { items = parts };
    }

-- what stands under a tag
abbrev pub told_bundle : List ℕ → Option Bundle
told_bundle body =
    if nat_lt 5 (slice_index body 18) || nat_lt 397 (report_size body)
    then None
    else option_map (bundle_with body) (told_parts (drop (45 + report_size body) body))
