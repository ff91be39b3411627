use Rattle.std.proofs.Common.{ap, refl}
use Rattle.std.specs.Option.{option_map}
use Rattle.dn_tic.specs.declared.input.Input.TheVariants.{Given}
use Rattle.zirmegat.specs.Joined.{joined_of}
use Rattle.zirmegat.proofs.Calling.{when, builds_of_same}
use Rattle.zirmegat.proofs.node_calls.zmg_node_give.Goals as goal

pub returns-in-Some-link-clause-link : goal.returns-in-Some-link-clause-link
returns-in-Some-link-clause-link c = let b = c.give-in-Some-link in let held = c.in-Some-link.held.now in
    when (joined_of held) (joined_of b.new.self) _ (ap (option_map joined_of) c.in-Some-link.ensures.value) refl (
      b.result,
      c.made_code-in-Some-link.ensures,
      builds_of_same held b.new.self (ap Given c.given-in-Some-link.ensures) (
        (b.ensures.step, b.ensures.full, b.ensures.idle),
        b.ensures.others,
        b.ensures.peers,
        b.ensures.pace,
        b.ensures.seal,
      ),
    )
