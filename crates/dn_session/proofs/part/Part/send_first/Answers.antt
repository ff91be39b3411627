use Rattle.std.proofs.Common.{sym, subst, ℕ, Option}
use Rattle.std.specs.Option.{option_map}
use Rattle.dn_session.specs.{Passing.sent_of, Playing.from_turn, Playing.playing, Sent.SendsFirst, Sent.is_owed}
use Rattle.dn_session.proofs.Firsts.{first_counted_passes}
use Rattle.dn_session.proofs.part.Part.send_first.Goals as goal

pub send-requires-clause-owed : goal.send-requires-clause-owed
send-requires-clause-owed c =
    first_counted_passes (is_owed (playing c.args.self.now)) (from_turn (playing c.args.self.now).turn) c.in-Some.player
    (sym c.in-Some.ensures.value)

pub returns-in-Some : goal.returns-in-Some
returns-in-Some c = subst (λ (first : Option ℕ). SendsFirst first (playing c.args.self.now) (playing c.send.new.self)
    (option_map sent_of c.send.result)) c.in-Some.ensures.value c.send.ensures
