use Rattle.std.proofs.Common.{ℕ, List, refl, subst}
use Rattle.dn_packet.specs.Read.{IsReadAs}
use Rattle.dn_netgame.specs.Turning.{Reading}
use Rattle.dn_netgame.proofs.turns.hear.Goals as goal

pub returns-clause-heard : goal.returns-clause-heard
returns-clause-heard g c limits me m r =
    let t = c.are_read.ensures in
    let s = c.receive.ensures.any.step t.read t.told t.is_read t.is_told _ me m r in
    let P : List ℕ → Type 0 = λ bytes. IsReadAs bytes t.read in
    let here : Reading c.args.datagram.now.bytes.items =
    record {
      read = t.read;
      told = t.told;
      is_read = subst P c.as_slice-bytes.ensures.value t.is_read;
      is_told = t.is_told;
    } in
    record { after = _; node = s.node; leads = record { reading = here; after = refl } }

pub returns-clause-whose : goal.returns-clause-whose
returns-clause-whose g c = c.receive.ensures.any.same
