-- Parts take no more bytes than they are given room for.
use Rattle.std.proofs.Common.{◌≡◌, ◌≤◌, ◌+◌, ℕ, List, [], ◌∷◌, length, refl, arith, Bool, true, false, if◌then◌else◌}
use Rattle.std.proofs.{lemmas.Bool.ltb-true, lemmas.List.length-append}
use Rattle.std.specs.List.{flat_map}
use Rattle.dn_link.specs.{declared.bundle.Part.Part, declared.bundle.Part.TheVariants.Whole, declared.bundle.Part.TheVariants.Run, declared.bundle.Part.TheVariants.Relay}
use Rattle.dn_link.specs.{Differences.are_shorter, Differences.commands_bytes, Differences.run_differences, Packing.part_room, Packing.parts_room, Text.part_bytes, Text.parts_bytes}
use Rattle.dn_link.proofs.Items.{length-carried}

-- the commands of a run are never longer than whole
pub never_longer : (commands : List ℕ) → length (commands_bytes commands) ≤ length commands
never_longer commands = go (are_shorter commands) refl
  where
    go : (b : Bool) → are_shorter commands ≡ b
        → length (if b then run_differences commands else commands) ≤ length commands
    go true on = omega (arith, ltb-true (length (run_differences commands)) (length commands) on)
    go false off = omega arith

part_fits : (part : Part) → length (part_bytes part) ≤ part_room part
part_fits (Whole packet) = omega (arith, length-carried packet)
part_fits (Run run) = omega (arith, never_longer run.commands.items)
part_fits (Relay relay) = omega (arith, never_longer relay.run.commands.items)

pub parts_fit : (parts : List Part) → length (parts_bytes parts) ≤ parts_room parts
parts_fit parts = omega (arith, go parts)
  where
    go : (parts : List Part) → 1 + length (flat_map part_bytes parts) ≤ parts_room parts
    go [] = omega arith
    go (part ∷ parts) =
        omega (arith, part_fits part, go parts, length-append (part_bytes part) (flat_map part_bytes parts))
