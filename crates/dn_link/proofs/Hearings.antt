-- The packets of a datagram are heard one after the other.
use Rattle.std.proofs.{Common.{◌≡◌, ◌<◌, ◌≤◌, ◌+◌, ◌*◌, ◌/◌, ◌%◌, ◌^◌, ℕ, zero, suc, List, [], ◌∷◌, ◌++◌, length, take, drop, refl, ◌∙◌, subst, arith, ap}, lemmas.List.length-drop}
use Rattle.dn_lockstep.specs.Contents.{Contents, whose}
use Rattle.dn_seal.specs.declared.opened.Opened.{Opened}
use Rattle.dn_open.specs.{Arrivals.{HearsOpened, SparesSealed}, declared.hearing.Arrived.Arrived}
use Rattle.dn_link.specs.{declared.bundle.Part.TheVariants.Run, Hearing.HearsAll, Packets.{opened_from, packets_of, short_packet, short_packets}}
use Rattle.dn_link.specs.declared.bundle.Run as run

-- whatever comes of the rest comes of all
abbrev pub LeadsOn : List Opened → Contents → List Opened → Contents → Type 0
LeadsOn packets old rest now = (new : Contents) → HearsAll rest now new → HearsAll packets old new

-- where the loop over a run's commands is
pub record InRun (from : ℕ) (part : run.Run) (old : Contents) (done start : ℕ) (rest : List ℕ) (now : Contents)
    : Type 0 where
  pub left : ℕ
  pub adds : left + done ≡ length part.commands.items / 8
  pub long : 8 * left ≤ length rest
  pub on : LeadsOn (packets_of from (Run part)) old (short_packets left from start rest) now

pub run_begins : (from : ℕ) (part : run.Run) (old : Contents) → InRun from part old 0 part.start part.commands.items old
run_begins from part old =
    record {
      left = length part.commands.items / 8;
      adds = omega arith;
      long = omega arith;
      on = λ new then. then;
    }

module _ (from : ℕ) (part : run.Run) (old : Contents) (done start : ℕ) (rest : List ℕ) (now : Contents)
    (at : InRun from part old done start rest now) where
  pub run_goes_on : done < length part.commands.items / 8 → (next : Contents) (answer : Arrived)
      → HearsOpened (opened_from from (short_packet from start (take 8 rest))) now next answer
      → SparesSealed now next answer → InRun from part old (done + 1) ((start + 1) % 2 ^ 32) (drop 8 rest) next
  run_goes_on below next answer hears spares = go at.left at.adds at.long at.on
    where
      go : (left : ℕ) → left + done ≡ length part.commands.items / 8 → 8 * left ≤ length rest
          → LeadsOn (packets_of from (Run part)) old (short_packets left from start rest) now
          → InRun from part old (done + 1) ((start + 1) % 2 ^ 32) (drop 8 rest) next
      go zero adds long on = absurd (omega arith)
      go (suc left) adds long on = record {
        left = left;
        adds = omega arith;
        long = omega (arith, length-drop 8 rest);
        on = λ new then. on new (next, answer, hears, spares, then);
      }

  pub run_ends : length part.commands.items / 8 ≤ done → HearsAll (packets_of from (Run part)) old now
  run_ends past =
      let none : 0 ≡ at.left = omega (arith, at.adds, past) in
      at.on now (subst (λ (n : ℕ). HearsAll (short_packets n from start rest) now now) none refl)

-- the packets of a list, and then those of another
pub lists_go_on : (first rest : List Opened) (now next : Contents) → HearsAll first now next
    → LeadsOn (first ++ rest) now rest next
lists_go_on [] rest now next hears new then = subst (λ (n : Contents). HearsAll rest n new) hears then
lists_go_on (packet ∷ first) rest now next (one, answer, hears, spares, then) new more =
    (one, answer, hears, spares, lists_go_on first rest one next then new more)

-- the lockstep stays the same player's
pub all_same : (packets : List Opened) (old new : Contents) → HearsAll packets old new → whose new ≡ whose old
all_same [] old new hears = ap whose hears
all_same (packet ∷ packets) old new (next, answer, hears, spares, then) = all_same packets next new then ∙ hears.same
