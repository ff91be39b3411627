use Rattle.std.proofs.Common.{◌≡◌, ◌+◌, ℕ, length, arith, ap, sym, subst, ◌∙◌}
use Rattle.dn_seal.specs.declared.seal.Seal.{Seal}
use Rattle.dn_session.specs.{Hosting.IsLobby, Hosting.lobby, Text.call_rest}
use Rattle.dn_session.proofs.{Lobbies.good_call, Readings.hint_is_long, Readings.length-text, Rests.length-call}
use Rattle.dn_session.proofs.host.Host.hear.Goals as goal

pub hint_to-requires : goal.hint_to-requires
hint_to-requires c =
    hint_is_long _ _ c.in-Err.fault c.in-Some.hint c.in-Err.ensures.opens (sym c.hint_for.ensures ∙ c.in-Some.is)

pub returns-in-Ok-clause-fits : goal.returns-in-Ok-clause-fits
returns-in-Ok-clause-fits c = λ fits.
    let address : length c.args.from.now.bytes ≡ 32 = omega arith in
    subst IsLobby (sym c.take_opened.ensures.lobby)
    (good_call c.args.from.now c.in-Ok.call c.args.now (lobby c.args.self.now) address c.in-Ok.ensures.opens.0 fits).0

pub returns-in-Ok-clause-no_longer : goal.returns-in-Ok-clause-no_longer
returns-in-Ok-clause-no_longer c =
    let call = c.in-Ok.call in
    let read = c.in-Ok.ensures.opens in
    let seal : Seal = c.args.self.now.sealer.seal in
    let text : length c.args.bytes.now ≡ length (call_rest call) + 28 =
    ap (length {A = ℕ}) read.1 ∙ length-text seal 1 (call_rest call) in
    omega (arith, text, length-call call read.0, c.take_opened.ensures.short)

pub returns-in-Some-clause-no_longer : goal.returns-in-Some-clause-no_longer
returns-in-Some-clause-no_longer c =
    let enough =
    hint_is_long _ _ c.in-Err.fault c.in-Some.hint c.in-Err.ensures.opens (sym c.hint_for.ensures ∙ c.in-Some.is) in
    omega (arith, enough, c.hint_to.ensures.short)
