use Rattle.std.proofs.{lemmas.Bool.{le-leb, Decides.nat_tests}, Math.Seq.take-length}
use Rattle.std.proofs.Common.{◌≡◌, ◌<◌, ◌*◌, ◌∙◌, false, true, length, nat_le, Some, sym, ap, arith, rules, take, length-append, List, Option}
use Rattle.dn_tic.specs.declared.command.Move.{Move}
use Rattle.dn_demo.specs.{Layout.{layout_of, long_tics, command_size}, Text.{player_count, demo_text}, Places.seats_in, Recorded.{Recorded, recorded_size, upgraded_size}}
use Rattle.dn_demo.proofs.{Fronts.row_kept, RecordedAnew.{one_more, length-none, row_fits, row_recordable}}
use Rattle.dn_demo.proofs.upgrading.upgrade.Goals as goal

pub loop-tic-init : goal.loop-tic-init
loop-tic-init c = grind (arith, false, rules, length-none)

pub row-requires : goal.row-requires
row-requires c =
    let below : c.loop-tic.tic < length c.args.demo.now.rows = omega arith in
    (row_kept (layout_of c.demo.inside.layout) _ _ _ _ _ _ _ c.demo.invariant.0.whole c.demo.view_is
    c.as_slice-bytes.ensures.value c.present-present.ensures.value c.players-players.ensures.value below).0

pub add_row-requires-clause-row : goal.add_row-requires-clause-row
add_row-requires-clause-row c =
    let below : c.loop-tic.tic < length c.args.demo.now.rows = omega arith in
    row_recordable (layout_of c.demo.inside.layout) _ _ _ _ _ _ _ _ _ c.demo.invariant.0.whole
    c.demo.invariant.1 (λ i. omega (arith, c.type_inv.bytes i))
    c.demo.view_is c.as_slice-bytes.ensures.value c.present-present.ensures.value c.loop-tic.invariant.seats
    c.players-players.ensures.value below c.row.ensures

pub add_row-requires-clause-room : goal.add_row-requires-clause-room
add_row-requires-clause-room c = grind (arith, nat_le, row_fits)

pub loop-tic-preserved : goal.loop-tic-preserved
loop-tic-preserved c =
    let demo = c.args.demo.now in
    let l = c.loop-tic in
    let added = c.add_row.ensures in
    let below : l.tic < length demo.rows = omega arith in
    let players : player_count (seats_in l.recorder.bytes) ≡ player_count demo.present =
    ap player_count l.invariant.seats in
    let row = row_kept (layout_of c.demo.inside.layout) _ _ _ _ _ _ _ c.demo.invariant.0.whole c.demo.view_is
    c.as_slice-bytes.ensures.value c.present-present.ensures.value c.players-players.ensures.value below in
    let size = added.size ∙ ap (λ n. command_size long_tics * n) players in
    let new = added.written in
    record {
      limit = ap (λ (r : Recorded). r.limit) new ∙ l.invariant.limit;
      stage = ap (λ (r : Recorded). r.stage) new ∙ l.invariant.stage;
      text = one_more _ _ demo.start demo.view demo.present demo.rows l.tic _ added.text
          l.invariant.text (ap (λ x. Some x) c.row.ensures ∙ row.1);
      size = ap (λ (r : Recorded). length r.bytes) new ∙ length-append l.recorder.bytes _
          ∙ omega (arith, l.invariant.size, size);
      seats = added.seats ∙ l.invariant.seats;
    }

pub returns : goal.returns
returns c =
    let demo = c.args.demo.now in
    let l = c.loop-tic in
    let all : l.tic ≡ length demo.rows = omega arith in
    let rows : take l.tic demo.rows ≡ demo.rows = ap (λ n. take n demo.rows) all ∙ take-length demo.rows in
    let old = l.invariant.text
    ∙ ap (λ (rs : List (List (Option Move))). demo_text long_tics demo.start demo.view demo.present rs
    false) rows in
    let closed = c.close.ensures.text demo.start demo.view demo.present demo.rows old in
    let limit = ap (λ (r : Recorded). r.limit) c.close.ensures.written ∙ l.invariant.limit in
    let stage = ap (λ (r : Recorded). r.stage) c.close.ensures.written in
    let count : c.players-players.result ≡ player_count demo.present =
    c.players-players.ensures.value ∙ ap player_count c.present-present.ensures.value in
    let fits : nat_le (upgraded_size demo) c.args.limit ≡ true =
    ap (λ p. nat_le (recorded_size p (length demo.rows)) c.args.limit) (sym count)
    ∙ c.capacity.ensures.fits (length demo.rows)
    ∙ le-leb (length demo.rows) c.capacity.result (omega arith) in (
      c.is_limit.ensures.yes (search rules),
      (grind (arith, nat_tests)),
      λ i. record { limit = limit i; stage = stage i; bytes = closed i },
    )

pub returns-then-tics-capacity : goal.returns-then-tics-capacity
returns-then-tics-capacity c = search rules
