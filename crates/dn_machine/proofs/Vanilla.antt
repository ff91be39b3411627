-- The numbers of 1997 are a window.
use Rattle.std.proofs.Common.{ℕ, Bool, arith, ◌≡◌, ◌+◌, ◌≤◌, drop, Option, length-drop, take_all}
use Rattle.dn_machine.specs.{Limits.{vanilla_limits, IsWindow, Limits}, Progress.{IsSwift, GoesInto}, Flight.{Kind, Exit}, Node.{Node, made}, Sending.{first_sent, last_sent, left_kind, commands_flight}}

pub vanilla_window : (players : ℕ) (extra : Bool) (capacity : ℕ) → IsWindow (vanilla_limits players extra capacity)
vanilla_window players extra capacity = record { twice = omega arith; back = omega arith }

pub vanilla_swift : (players : ℕ) (extra : Bool) (capacity : ℕ) → IsSwift (vanilla_limits players extra capacity)
vanilla_swift players extra capacity = record { some = omega arith; near = omega arith }

-- and what a node keeps goes into one packet
pub vanilla_packet : (players : ℕ) (extra : Bool) (capacity : ℕ)
    → GoesInto (vanilla_limits players extra capacity) 1
vanilla_packet players extra capacity = grind arith

-- Where a packet has room for all that a node keeps, none is cut.
module _ (limits : Limits) (some : 1 ≤ limits.most) (room : limits.places ≤ limits.most) (me : ℕ) (node : Node)
    (to : ℕ) where
  due : made me node ≤ first_sent limits me node to + limits.most
  due = grind arith

  pub whole_end : last_sent limits me node to ≡ made me node
  whole_end = let all = due in omega arith

  pub whole_kind : left_kind limits me node to ≡ Exit
  whole_kind = grind arith

  pub whole_commands : (kind : Kind) (request : Option ℕ) → (commands_flight limits me node to kind request).commands
      ≡ drop (first_sent limits me node to) (node.held me)
  whole_commands kind request = grind (arith, length-drop, take_all)
