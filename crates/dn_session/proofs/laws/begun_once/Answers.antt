use Rattle.std.proofs.Common.{◌≡◌, ℕ, List, refl, subst, ◌∙◌, Result, Ok, Err, Bool, true, false, arith}
use Rattle.dn_session.specs.{Hosting.Lobby, Hosting.on_call, declared.greeting.Address.Address, declared.greeting.Call.Call, declared.greeting.GreetingFault.GreetingFault}
use Rattle.dn_session.specs.{Joining.Joining, Joining.is_heard, Session.HearsReply}
use Rattle.dn_session.specs.declared.joiner.Stage.TheVariants as stage
use Rattle.dn_session.proofs.Lobbies.{each_call}
use Rattle.dn_session.proofs.laws.begun_once.Goals as goal

same : (from : Address) (bytes : List ℕ) (now : ℕ) (l : Lobby) (read : Result Call GreetingFault) → l.begun ≡ true
    → (on_call from bytes now l read).0 ≡ l
same from bytes now l (Ok call) begun =
    each_call from call now l (λ after. after.0 ≡ l) (λ why. refl) (λ n game some. refl)
    (λ n lobby good none some. absurd (cc)) (λ n lobby good some. absurd (cc))
same from bytes now l (Err fault) begun = refl

pub returns-clause-host : goal.returns-clause-host
returns-clause-host c = λ from bytes now old new reply begun hears. hears.2 ∙ same from bytes now old hears.0 begun

-- whose game has begun hears nobody
deaf : (from : Address) (old : Joining) → old.stage ≡ stage.Playing → is_heard from old ≡ false
deaf from old is = grind arith

pub returns-clause-joiner : goal.returns-clause-joiner
returns-clause-joiner c = λ from bytes now old new is hears.
    subst (λ (test : Bool). HearsReply test bytes now old new) (deaf from old is) hears

pub returns-clause-time : goal.returns-clause-time
returns-clause-time c = λ now j is. c.joiners_act_when_due.ensures.before now j (rw is refl)
