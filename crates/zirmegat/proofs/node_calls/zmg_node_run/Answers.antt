use Rattle.std.proofs.Common.{◌∙◌, ap, refl}
use Rattle.std.specs.Option.{option_map}
use Rattle.dn_lockstep.specs.Contents.{contents}
use Rattle.zirmegat.specs.{Joined.joined_of, Rows.next_of_four, Rows.row_told}
use Rattle.zirmegat.proofs.Calling.{when, runs}
use Rattle.zirmegat.proofs.node_calls.zmg_node_run.Goals as goal

pub returns-in-Some-clause-lockstep : goal.returns-in-Some-clause-lockstep
returns-in-Some-clause-lockstep c = let r = c.run_into-ran in
    when (contents c.in-Some.held.now) (contents r.new.self) _ (ap (option_map contents) c.in-Some.ensures.value) refl (
      r.result,
      r.new.row,
      c.run_code.ensures,
      c.of.ensures ∙ ap (row_told r.result r.new.row) c.next_of_four-commands.ensures,
      runs r.ensures.step r.ensures.further r.ensures.waits r.ensures.idle,
    )

pub returns-in-Some-link-clause-link : goal.returns-in-Some-link-clause-link
returns-in-Some-link-clause-link c = let r = c.run_into-ran-in-Some-link in
    when (joined_of c.in-Some-link.held.now) (joined_of r.new.self) _ (ap (option_map joined_of) c.in-Some-link.ensures.value) refl (
      r.result,
      r.new.row,
      c.run_code-in-Some-link.ensures,
      c.of-in-Some-link.ensures ∙ ap (row_told r.result r.new.row)
          (c.next_of_four-commands-in-Some-link.ensures ∙ ap next_of_four c.lockstep-in-Some-link.ensures),
      (
        (
          λ whole. runs (r.ensures.step whole) r.ensures.further r.ensures.waits r.ensures.idle,
          runs r.ensures.but r.ensures.further r.ensures.waits r.ensures.idle,
        ),
        r.ensures.others,
        r.ensures.peers,
        r.ensures.pace,
        r.ensures.seal,
      ),
    )
