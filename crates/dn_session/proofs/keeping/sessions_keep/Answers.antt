use Rattle.std.proofs.Common.{refl}
use Rattle.dn_session.specs.{Playing.given_up_at, Playing.looks, Playing.may_give, Playing.playing, Reading.is_greeting, Session.GivesPart, Session.GivesUpPart, Session.RunsPart, Session.begins_now}
use Rattle.dn_session.proofs.AfterCalls.{begins_kept, gives_on, gone_on, hears_kept, in_turn, kicks_kept, on_part, passes_kept, quits_kept, reply_kept, runs_on}
use Rattle.dn_session.proofs.keeping.sessions_keep.Goals as goal

pub returns-clause-hears : goal.returns-clause-hears
returns-clause-hears c = λ from bytes now old new hears.
    hears_kept (c.begun_once.ensures.host, c.begun_once.ensures.joiner, c.begun_once.ensures.time) from bytes now old new
    (is_greeting bytes) hears

pub returns-clause-begins : goal.returns-clause-begins
returns-clause-begins c = λ now old new result begins. begins_kept now old new (begins_now old) result begins

pub returns-clause-passes : goal.returns-clause-passes
returns-clause-passes c = λ now old new passes.
    passes_kept (c.begun_once.ensures.host, c.begun_once.ensures.joiner, c.begun_once.ensures.time) now old new passes

pub returns-clause-gives : goal.returns-clause-gives
returns-clause-gives c = λ now input given old new gives is.
    on_part (λ o n. GivesPart now input o n given) (λ n e. e.0) (λ one e. e)
    (λ one next e. gives_on (may_give now (playing one)) now input (playing one) (playing next) e.0) old new gives is

pub returns-clause-runs : goal.returns-clause-runs
returns-clause-runs c = λ marks ran row old new runs is.
    on_part (λ o n. RunsPart marks o n ran row) (λ n e. e.0) (λ one e. e)
    (λ one next e. runs_on marks (playing one) (playing next) ran row e) old new runs is

pub returns-clause-quits : goal.returns-clause-quits
returns-clause-quits c = quits_kept

pub returns-clause-gives_up : goal.returns-clause-gives_up
returns-clause-gives_up c = λ player now gave old new gives is.
    on_part (λ o n. GivesUpPart player now o n gave) (λ n e. e.0) (λ one e. e)
    (λ one next e. gone_on (given_up_at now player (playing one)) (looks now (playing one)) (playing next) e.0) old new gives
    is

pub returns-clause-kicks : goal.returns-clause-kicks
returns-clause-kicks c = λ seat old new kicks. kicks_kept seat old new kicks.0 kicks.1

pub returns-clause-sends : goal.returns-clause-sends
returns-clause-sends c = λ old new sent sends. reply_kept old new sent old.reply sends

pub returns-clause-sent : goal.returns-clause-sent
returns-clause-sent c = λ old new sent sends. in_turn old new sent old.reply refl sends
