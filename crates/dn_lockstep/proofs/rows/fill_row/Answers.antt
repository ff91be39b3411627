use Rattle.std.proofs.Common.{rules, ◌≡◌, ◌<◌, ℕ, List, length, map, is_some, not, set, Option, Some, ap, sym, ◌∙◌}
use Rattle.std.proofs.{Common.{arith, IfSome}, lemmas.List.Elements.{All-set, All-replicate}}
use Rattle.dn_tic.specs.declared.command.Move.{Move}
use Rattle.dn_demo.specs.Text.{IsMove, IsRecordable}
use Rattle.dn_machine.specs.Node.{is_whole, lacks}
use Rattle.dn_lockstep.specs.{Tables.{peer_at, ring_at}, Rows.is_gone}
use Rattle.dn_lockstep.proofs.{Lowest.{lowest_zero, some_found, some_past}, rows.fill_row.Goals.{then-gone, else-gone}}
use Rattle.dn_lockstep.proofs.Seats.{seat_more, seat_none, seat_free, own_gone, whole_below, seats_more, seats_set, whole_gone, here_all, used_recordable}
use Rattle.dn_lockstep.proofs.rows.fill_row.Goals as goal

pub at-requires-clause-there : goal.at-requires-clause-there
at-requires-clause-there c =
    here_all (ring_at c.args.rings.now) (peer_at c.args.peers.now) c.args.players c.args.tic c.requires.there
    c.loop-player.player c.loop-player-test.true (sym c.gone.ensures ∙ c.if-gone.false)

pub loop-player-init : goal.loop-player-init
loop-player-init c = grind (arith, lowest_zero, All-replicate)

pub loop-player-preserved : goal.loop-player-preserved
loop-player-preserved c =
    let rings = ring_at c.args.rings.now in
    let peers = peer_at c.args.peers.now in
    let tic = c.args.tic in
    let player = c.loop-player.player in
    let row = c.loop-player.row in
    let inv = c.loop-player.invariant in
    let seat : player < 4 = omega (arith, c.loop-player-test.true, c.requires.few) in
    let long : length row ≡ 4 = ap length inv.row in
    elim c.if-gone.branch [
      | then-gone w ↦
          let gone = sym c.gone.ensures ∙ w.if-gone.true in
          let free = ap (λ (r : List (Option Move)). lacks r player) inv.row
          ∙ seat_free rings peers tic player seat ∙ sym gone in
          record {
            row = w.row-is ∙ inv.row ∙ seat_none rings peers tic player seat (own_gone rings peers tic player gone);
            seats = rw w.row-is (seats_more row (is_gone peers tic) player free inv.seats);
            whole = w.whole-is ∙ ap not (sym (some_found player (is_gone peers tic) gone));
            able = rw w.row-is inv.able;
            ranged = rw w.row-is inv.ranged;
          }
      | else-gone w ↦
          let step = w.round.result in
          let new : c.if-gone.row ≡ set row player (Some step) =
          w.row-is ∙ ap (λ (k : ℕ). set row k (Some step)) w.from.ensures in
          let stays = sym c.gone.ensures ∙ w.if-gone.false in
          let able : IsRecordable step = rw w.round.ensures (used_recordable w.at.result w.at.ensures.no_stop) in
          let ranged : IsMove step = search rules in
          record {
            row = grind (arith, seat_more);
            seats = grind (arith, seats_set);
            whole = w.whole-is ∙ inv.whole ∙ ap not (sym (some_past player (is_gone peers tic) stays));
            able = rw new (All-set (λ step. IfSome step IsRecordable) row player (Some step) able inv.able);
            ranged = rw new (All-set (λ step. IfSome step IsMove) row player (Some step) ranged inv.ranged);
          }
    ]

pub returns-clause-row : goal.returns-clause-row
returns-clause-row c =
    let all : c.loop-player.player ≡ c.args.players = omega arith in
    grind (arith, c.loop-player.invariant.row)

pub returns-clause-nobody : goal.returns-clause-nobody
returns-clause-nobody c = grind arith

pub returns-clause-whole : goal.returns-clause-whole
returns-clause-whole c = grind (arith, returns-clause-nobody, whole_gone)

pub returns-clause-recordable : goal.returns-clause-recordable
returns-clause-recordable c whole = record {
  seats = ap (map is_some) (returns-clause-row c)
      ∙ whole_below (ring_at c.args.rings.now) (peer_at c.args.peers.now) c.args.tic c.args.players
      (ap (is_whole c.args.players) (sym (returns-clause-row c)) ∙ whole);
  moves = c.loop-player.invariant.able;
}

pub returns-clause-ranged : goal.returns-clause-ranged
returns-clause-ranged c = c.loop-player.invariant.ranged
