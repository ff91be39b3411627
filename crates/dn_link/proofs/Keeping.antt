-- What each packet of a datagram keeps, all of them keep.
use Rattle.std.proofs.{Common.{List, [], ◌∷◌, sym, subst, All}, lemmas.List.Elements.{All-head, All-tail}}
use Rattle.dn_lockstep.specs.{Contents.Contents}
use Rattle.dn_seal.specs.declared.opened.Opened.{Opened}
use Rattle.dn_open.specs.{Arrivals.{HearsOpened, SparesSealed}, declared.hearing.Arrived.Arrived}
use Rattle.dn_link.specs.{Hearing.HearsAll}

-- one of these packets keeps it
abbrev pub KeepsOne : (Opened → Type 0) → (Contents → Type 0) → Type 0
KeepsOne Fits Holds =
    (packet : Opened) (now next : Contents) (answer : Arrived) → Holds now → Fits packet
    → HearsOpened packet now next answer → SparesSealed now next answer → Holds next

module _ (Fits : Opened → Type 0) (Holds : Contents → Type 0) (one : KeepsOne Fits Holds) where
  pub all_along : (packets : List Opened) (now new : Contents) → Holds now → All Fits packets
      → HearsAll packets now new → Holds new
  all_along [] now new here all hears = subst Holds (sym hears) here
  all_along (packet ∷ packets) now new here all (next, answer, hears, spares, then) =
      all_along packets next new (one packet now next answer here (All-head Fits packet packets all) hears spares)
      (All-tail Fits packet packets all) then
