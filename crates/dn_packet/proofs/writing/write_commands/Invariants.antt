use Rattle.std.proofs.Common.{◌≡◌, ◌+◌, ◌*◌, ◌++◌, ◌≤◌, ℕ, List, length, take}
use Rattle.std.specs.List.{flat_map}
use Rattle.dn_tic.specs.Command.{command_bytes}
use Rattle.dn_packet.specs.Written.{IsFront}
use Rattle.dn_packet.proofs.writing.write_commands.Given as goal

abbrev pub invariant-loop-command : goal.invariant-loop-command
invariant-loop-command l = record {
  more : (start old : List ℕ) → IsFront start old l.initial.room l.fn.end l.fn.sum
      → IsFront (start ++ flat_map command_bytes (take l.command-index l.commands)) old l.room l.place
      l.total;
  counted : l.place ≡ l.fn.end + 8 * l.command-index;
  long : length l.room ≡ length l.initial.room;
  fits : l.fn.end + 8 * length l.commands ≤ length l.initial.room;
  few : l.fn.end + 8 * length l.commands ≤ 104;
}
