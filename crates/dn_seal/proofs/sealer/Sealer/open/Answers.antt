use Rattle.std.proofs.Common.{rules, ◌≡◌, ◌<◌, ◌^◌, Some, length, arith, sym, ap, ◌∙◌}
use Rattle.std.specs.Prelude.{slice_index}
use Rattle.dn_seal.specs.{Sealing.sealing, Opening.{IsTagged, ask_in, envelopes, told_tic}}
use Rattle.dn_seal.proofs.Openings.{only_short, only_long, only_tag, only_opened, assembled, asked-small, datagram-short}
use Rattle.dn_seal.proofs.sealer.Sealer.open.Goals as goal

pub returns-then-bytes-lt-OVERHEAD-clause-only : goal.returns-then-bytes-lt-OVERHEAD-clause-only
returns-then-bytes-lt-OVERHEAD-clause-only c = only_short _ _ (omega arith)

pub returns-then-bytes-gt-MAX_ENVELOPE-clause-only : goal.returns-then-bytes-gt-MAX_ENVELOPE-clause-only
returns-then-bytes-gt-MAX_ENVELOPE-clause-only c = only_long _ _ (omega arith)

pub returns-then-not-is_tagged-clause-only : goal.returns-then-not-is_tagged-clause-only
returns-then-not-is_tagged-clause-only c = only_tag _ _ (search rules) (search rules)

opens : goal.returns-clause-opens
opens c =
    let bytes = c.args.bytes.now in
    let tests : IsTagged envelopes (sealing c.args.self.now) bytes = search rules in
    let ask : ask_in (slice_index bytes 16) (told_tic bytes) ≡ Some c.in-Some.ask =
    ap (ask_in (slice_index bytes 16)) (sym c.tic_at.ensures) ∙ sym c.ask_in.ensures ∙ c.in-Some.is in
    let small : c.tic_at.result < 2 ^ 32 = c.tic_at.type_inv in
    let datagram = datagram-short bytes (omega arith) in (
      record {
        game = omega arith;
        from = omega (arith, c.type_inv.bytes 10);
        to = omega arith;
        start = c.tic_at-2.type_inv;
        ask = asked-small (slice_index bytes 16) c.tic_at.result c.in-Some.ask small
            (sym c.ask_in.ensures ∙ c.in-Some.is);
        datagram = omega (arith, datagram, ap length c.datagram_in.ensures);
      },
      assembled bytes _ _ (λ i. omega (arith, c.type_inv.bytes i)) tests (search rules) c.tic_at-2.ensures ask
          c.datagram_in.ensures,
    )

pub returns-clause-opens : goal.returns-clause-opens
returns-clause-opens c = opens c

pub returns-clause-only : goal.returns-clause-only
returns-clause-only c = only_opened _ _ _ (opens c)
