-- What is shown of an input, by how the run ended.
use Rattle.std.proofs.Common.{◌≡◌, ℕ, List, Option, Result, Ok, Err, subst, sym, ◌∙◌}
use Rattle.dn_netgame.specs.{Shown.{PrintsOrFails, TheseLines, ShowsOrFails}, declared.transfer.RunFault.RunFault, declared.transfer.RunFault.TheVariants.{Read, Write, Memory}, Transfer.TakesUpTo}

-- the input was taken, and what was printed for it is shown for it
pub shows_printed : {W : Type 0} (contents : W → Option (List ℕ)) (limit : ℕ)
    (IsShownAs : List ℕ → List ℕ → ℕ → Type 0) (IsPrinted : List ℕ → ℕ → Type 0)
    (input input' : Option (List ℕ)) (output output' : W) (bytes : List ℕ) (result : Result ℕ RunFault)
    → PrintsOrFails contents IsPrinted output output' result → TakesUpTo limit input input' bytes
    → ((lines : List ℕ) (status : ℕ) → IsPrinted lines status → IsShownAs bytes lines status)
    → ShowsOrFails contents limit IsShownAs input input' output output' result
shows_printed contents limit IsShownAs IsPrinted input input' output output' bytes (Ok status) way taken such =
    record {
      bytes = bytes;
      lines = way.lines;
      taken = taken;
      shown = such way.lines status way.printed;
      written = way.written;
    }
shows_printed contents limit IsShownAs IsPrinted input input' output output' bytes (Err Read) way taken such =
    absurd way
shows_printed contents limit IsShownAs IsPrinted input input' output output' bytes (Err Write) way taken such =
    record {
      bytes = bytes;
      lines = way.lines;
      status = way.status;
      taken = taken;
      shown = such way.lines way.status way.printed;
      written = way.written;
    }
shows_printed contents limit IsShownAs IsPrinted input input' output output' bytes (Err Memory) way taken such =
    (record { bytes = bytes; taken = taken.taken; within = taken.within }, way)

-- the input was taken, and its lines were printed as far as that went
pub shows_such : {W : Type 0} (contents : W → Option (List ℕ)) (limit : ℕ)
    (IsShownAs : List ℕ → List ℕ → ℕ → Type 0) (input input' : Option (List ℕ)) (output output' : W)
    (bytes put lines : List ℕ) (status : ℕ) (result : Result ℕ RunFault)
    → PrintsOrFails contents (TheseLines put status) output output' result → put ≡ lines
    → TakesUpTo limit input input' bytes → IsShownAs bytes lines status
    → ShowsOrFails contents limit IsShownAs input input' output output' result
shows_such contents limit IsShownAs input input' output output' bytes put lines status result way same taken
    such =
    shows_printed contents limit IsShownAs (TheseLines put status) input input' output output' bytes result way
    taken
    (λ ls answered these. subst (λ (xs : List ℕ). IsShownAs bytes xs answered) (sym (these.0 ∙ same))
    (subst (IsShownAs bytes lines) (sym these.1) such))

-- Lines that were printed, or a prefix of them.

-- what was put is the text, and so are the lines
pub prints_such : {W : Type 0} (contents : W → Option (List ℕ)) (IsPrinted : List ℕ → ℕ → Type 0)
    (output output' : W) (put lines : List ℕ) (status : ℕ) (result : Result ℕ RunFault)
    → PrintsOrFails contents (TheseLines put status) output output' result → put ≡ lines → IsPrinted lines status
    → PrintsOrFails contents IsPrinted output output' result
prints_such contents IsPrinted output output' put lines status (Ok answered) way same such = record {
  lines = way.lines;
  printed = subst (λ (ls : List ℕ). IsPrinted ls answered) (sym (way.printed.0 ∙ same))
      (subst (IsPrinted lines) (sym way.printed.1) such);
  written = way.written;
}
prints_such contents IsPrinted output output' put lines status (Err Read) way same such = way
prints_such contents IsPrinted output output' put lines status (Err Write) way same such = record {
  lines = way.lines;
  status = way.status;
  printed = subst (λ (ls : List ℕ). IsPrinted ls way.status) (sym (way.printed.0 ∙ same))
      (subst (IsPrinted lines) (sym way.printed.1) such);
  written = way.written;
}
prints_such contents IsPrinted output output' put lines status (Err Memory) way same such = way
