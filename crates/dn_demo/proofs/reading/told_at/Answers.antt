-- Commands that are told by their index in bytes, behind any front.
use Rattle.std.proofs.Common.{◌≡◌, ℕ, ◌+◌, List, ◌++◌, length, take, drop, sym, ap, ◌∙◌, arith}
use Rattle.std.proofs.Math.Seq.{drop-append-add}
use Rattle.dn_demo.specs.{Layout.Layout, Layout.command_size, Layout.tell, Places.place, Places.move_at}
use Rattle.dn_demo.proofs.reading.told_at.Goals as goal

-- the command that stands at an index of the bytes
told_behind : (layout : Layout) (front bytes : List ℕ) (at command : ℕ) → length front + at ≡ place layout command
    → tell layout (take (command_size layout) (drop at bytes)) ≡ move_at layout (front ++ bytes) command
told_behind layout front bytes at command e =
    ap (λ (t : List ℕ). tell layout (take (command_size layout) t))
    (sym (ap (λ n. drop n (front ++ bytes)) (sym e) ∙ drop-append-add front bytes at))

pub returns : goal.returns
returns c = grind (arith, told_behind)
