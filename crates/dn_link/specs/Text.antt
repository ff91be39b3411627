-- The datagram of a bundle.
use Rattle.std.specs.{Prelude.{ℕ, ◌+◌, ◌<◌, ◌≡◌, ◌≤◌, ◌^◌, ◌*◌, ◌/◌, List, [], ◌∷◌, ◌++◌, length, All, IfSome, FitsSigned}, Int.{w8, w16, w32, cast_unsigned, to_le_bytes}, List.flat_map, Prelude.{if◌then◌else◌}}
use Rattle.dn_seal.specs.{declared.seal.Seal.Seal, Envelope.ask_bytes, Hmac.tag_of, Sealing.front_bytes}
use Rattle.dn_link.specs.{declared.bundle.{Carried.Carried, Counts.Counts, Part.{Part, TheVariants.{Whole, Run, Relay}}, Bundle.Bundle}, Differences.{are_shorter, commands_bytes}}
use Rattle.dn_link.specs.declared.bundle.Relay as relay
use Rattle.dn_link.specs.declared.bundle.Run as run

-- how many commands the sender made, its echo, and what it has of each of four players
abbrev pub counts_bytes : Counts → List ℕ
counts_bytes counts =
    to_le_bytes w32 counts.made ++ to_le_bytes w32 counts.echo ++ flat_map (to_le_bytes w32) counts.got

-- a packet, with its exact numbers and its length in front
abbrev pub carried_bytes : Carried → List ℕ
carried_bytes packet =
    to_le_bytes w32 packet.start ++ ask_bytes packet.ask
    ++ length packet.datagram.items ∷ packet.datagram.items

-- the first byte of a run: how many commands it has, 32 more if it is a third player's, and 64 more if they stand
-- as differences
abbrev pub run_head : (third : ℕ) → List ℕ → ℕ
run_head third commands = third + (if are_shorter commands then 64 else 0) + length commands / 8

-- its first tic and the commands
abbrev pub run_bytes : run.Run → List ℕ
run_bytes run = to_le_bytes w32 run.start ++ commands_bytes run.commands.items

-- a whole packet stands behind a byte of 0; a run behind its first byte; and a run of a third player behind that
-- and the player's number
abbrev pub part_bytes : Part → List ℕ
part_bytes (Whole packet) = 0 ∷ carried_bytes packet
part_bytes (Run run) = run_head 0 run.commands.items ∷ run_bytes run
part_bytes (Relay relay) = run_head 32 relay.run.commands.items ∷ relay.player ∷ run_bytes relay.run

-- their number in front
abbrev pub parts_bytes : List Part → List ℕ
parts_bytes parts = length parts ∷ flat_map part_bytes parts

-- the bytes of a report, or none, behind their number
abbrev pub report_field : List ℕ → List ℕ
report_field report = to_le_bytes w16 (length report) ++ report

-- what the tag is over: the suite, kind 5 and the game, then from whom to whom, the datagram's number, the
-- lead, the holes, why the sender ended, the counts, the report, and the parts
abbrev pub bundle_bytes : Seal → Bundle → List ℕ
bundle_bytes seal bundle =
    front_bytes seal 5 ++ (bundle.from ∷ bundle.to ∷ []) ++ to_le_bytes w32 bundle.number
    ++ (cast_unsigned w8 bundle.lead ∷ bundle.holes ∷ bundle.cause ∷ []) ++ counts_bytes bundle.counts
    ++ report_field bundle.report.items ++ parts_bytes bundle.parts.items

-- the bytes that are sent
abbrev pub sealed_bytes : Seal → Bundle → List ℕ
sealed_bytes seal bundle = bundle_bytes seal bundle ++ tag_of seal.key (bundle_bytes seal bundle)

-- the numbers of a packet fit
pub record IsCarried (packet : Carried) : Type 0 where
  pub start : packet.start < 2 ^ 32
  pub ask : IfSome packet.ask (λ tic. tic < 2 ^ 32)
  pub short : length packet.datagram.items ≤ 104

-- one to twenty-four commands of eight bytes
pub record IsRun (run : run.Run) : Type 0 where
  pub start : run.start < 2 ^ 32
  pub some : 8 ≤ length run.commands.items
  pub few : length run.commands.items ≤ 192
  pub whole : 8 * (length run.commands.items / 8) ≡ length run.commands.items

-- the same of one of four players
pub record IsRelay (relay : relay.Relay) : Type 0 where
  pub player : relay.player < 4
  pub run : IsRun relay.run

abbrev pub IsPart : Part → Type 0
IsPart (Whole packet) = IsCarried packet
IsPart (Run run) = IsRun run
IsPart (Relay relay) = IsRelay relay

pub record AreCounts (counts : Counts) : Type 0 where
  pub made : counts.made < 2 ^ 32
  pub echo : counts.echo < 2 ^ 32
  pub four : length counts.got ≡ 4
  pub got : All (λ count. count < 2 ^ 32) counts.got

-- the fields fit, so that the bundle has a datagram
pub record IsBundle (bundle : Bundle) : Type 0 where
  pub number : bundle.number < 2 ^ 32
  pub lead : FitsSigned w8 bundle.lead
  pub cause : bundle.cause ≤ 5
  pub counts : AreCounts bundle.counts
  pub report : length bundle.report.items ≤ 397
  pub few : length bundle.parts.items ≤ 24
  pub parts : All IsPart bundle.parts.items
