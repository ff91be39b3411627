-- A demo that is written from its rows.
use Rattle.std.specs.Prelude.{ℕ, true, List, Option}
use Rattle.dn_tic.specs.declared.command.Move.{Move}
use Rattle.dn_demo.specs.Layout.{layout_by}
use Rattle.dn_demo.specs.Text.{demo_text, header}
use Rattle.dn_inspect.specs.declared.writing.Head.{Head}

-- the header that a head tells
abbrev pub header_of : Head → List ℕ
header_of head = header (layout_by head.long) head.start head.view head.present

-- the closed demo of these rows
abbrev pub written : Head → List (List (Option Move)) → List ℕ
written head rows = demo_text (layout_by head.long) head.start head.view head.present rows true
