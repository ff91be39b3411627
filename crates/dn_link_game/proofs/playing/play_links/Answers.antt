use Rattle.std.proofs.Common.{rules, ◌≡◌, ◌<◌, ℕ, subst, ◌++◌, ◌∷◌, [], length, length-append, take, sym, ap, ◌∙◌, arith}
use Rattle.std.proofs.lemmas.List.{length-take-le, take_all, take_more}
use Rattle.dn_link_game.specs.{Applied.IsAnswered, Genuine.given_by, Opening.limits_of, Promised.all_seen, declared.calls.{LinkEvent.LinkEvent}}
use Rattle.dn_link_game.proofs.Promising.{answered_more, counts_more, players_stay, reaches_more}
use Rattle.dn_link_game.proofs.playing.play_links.Goals as goal

pub loop-event-preserved : goal.loop-event-preserved
loop-event-preserved g c =
    let before = c.loop-event.invariant in
    let config = c.args.config.now in
    let old = c.loop-event.game in
    let new = c.apply.new.self in
    let at = c.loop-event.event-index in
    let answers = c.loop-event.answers.items in
    let answer = c.apply.result in
    let pushed : c.push_reserved.new.self.items ≡ answers ++ answer ∷ [] = c.push_reserved.ensures.items in
    let within : at < length c.args.events.now = search rules in
    let size : length (take at c.args.events.now) ≡ at = length-take-le at c.args.events.now (omega (arith, within)) in
    let many : length answers ≡ length (take at c.args.events.now) = omega (arith, size, before.0) in
    let count : length old.players.items ≡ length c.args.worlds.items = before.4 in
    let answered : IsAnswered (length c.args.worlds.items) (given_by answers) c.event-item.result answer =
    subst (λ (n : ℕ). IsAnswered n (given_by answers) c.event-item.result answer) count
    (subst (λ (n : ℕ). IsAnswered (length old.players.items) n c.event-item.result answer) before.3 c.apply.ensures.answered) in
    let longer = take_more c.args.events.now at c.event-item.result c.loop-event-test.true
    ∙ ap (λ (event : LinkEvent). take at c.args.events.now ++ event ∷ []) (sym c.event-item.is) in (
      omega (arith, ap length pushed ∙ length-append answers (answer ∷ []), before.0),
      omega (arith, c.push_reserved.ensures.len, before.1),
      omega (arith, c.push_reserved.ensures.capacity, before.2),
      rw pushed (counts_more old new answers answer c.apply.ensures.given before.3),
      players_stay g.W.World.state g.W.World.physics c.event-item.result answer old new c.apply.ensures.does
          c.apply.ensures.unchanged ∙ count,
      rw (longer, pushed) (answered_more (length c.args.worlds.items) (take at c.args.events.now) c.event-item.result answers
          answer many before.5 answered),
      rw (longer, pushed) (reaches_more g.W.World.state g.W.World.physics (limits_of config (length c.args.worlds.items))
          config.settings config.seal old new (take at c.args.events.now) c.event-item.result answers answer
          c.apply.ensures.goes_on c.apply.ensures.given many before.3 before.6
          (λ seen later is will. c.linked_answers_are_steady.ensures (limits_of config (length c.args.worlds.items))
          config.settings config.seal seen later old new c.event-item.result answer is will c.apply.ensures.does)),
      c.apply.ensures.twice before.7,
    )

pub returns-clause-played : goal.returns-clause-played
returns-clause-played g c =
    let config = c.args.config.now in
    let all = c.loop-event.invariant in
    let end : c.loop-event.event-index ≡ length c.args.events.now = search rules in
    let whole = take_all c.loop-event.event-index c.args.events.now c.loop-event-test.false in
    record {
      as_many = all.0 ∙ end;
      answered = rw whole at all.5;
      given = all.3;
      agreed = λ ask. c.linked_games_agree.ensures (limits_of config (length c.args.worlds.items)) config.settings config.seal
          (all_seen c.args.events.now c.loop-event.answers.items) c.loop-event.game ((rw whole at all.6) ask).0;
      steady = λ ask. ((rw whole at all.6) ask).1;
    }
