use Rattle.std.proofs.Common.{◌≡◌, ◌≤◌, ℕ, List, length, drop, refl, ap, sym, subst, ◌∙◌, arith, Some, Ok, Err, Result, length-drop}
use Rattle.std.proofs.{lemmas.List.length-take-le, lemmas.Option.same_Some}
use Rattle.dn_session.specs.Hosting.{IsLobby, IsReadReply, Lobby, on_call, on_opened}
use Rattle.dn_session.specs.{Reading.IsCallIn, declared.greeting.Address.Address, declared.greeting.Call.Call, declared.greeting.GreetingFault.GreetingFault}
use Rattle.dn_session.proofs.{Lobbies.good_call, Readings.hint_is_long, Readings.one_call}
use Rattle.dn_session.proofs.laws.replies_are_read_back.Goals as goal

kept : (from : Address) (bytes : List ℕ) (now : ℕ) (old : Lobby) → length from.bytes ≡ 32 → IsLobby old
    → (read : Result Call GreetingFault) → IsCallIn old.seal bytes read → IsLobby (on_call from bytes now old read).0
kept from bytes now old a fits (Ok call) reads = (good_call from call now old a reads.0 fits).0
kept from bytes now old a fits (Err fault) reads = fits

pub returns-clause-kept : goal.returns-clause-kept
returns-clause-kept c = λ from bytes now old new reply a fits hears.
    subst IsLobby (sym hears.2) (kept from bytes now old a fits hears.0 hears.1)

pub returns-clause-told : goal.returns-clause-told
returns-clause-told c = λ from bytes call now old new reply a fits opens hears.
    let read : hears.0 ≡ Ok call = one_call old.seal bytes hears.0 (Ok call) hears.1 opens in
    let after = on_opened from call now old in
    let lobby : new ≡ after.0 = hears.2
    ∙ ap (λ (r : Result Call GreetingFault). (on_call from bytes now old r).0) read in
    let told : Some reply ≡ Some after.1 = hears.3
    ∙ ap (λ (r : Result Call GreetingFault). (on_call from bytes now old r).1) read in
    let good = (good_call from call now old a opens.0 fits).1 in
    subst (λ (l : Lobby). IsReadReply from call now l reply) (sym lobby)
    (subst (IsReadReply from call now after.0) (sym (same_Some reply after.1 told)) good)

pub returns-clause-hinted : goal.returns-clause-hinted
returns-clause-hinted c = λ seal bytes fault hint reads some.
    let long = hint_is_long seal bytes fault hint reads some in
    let behind : 16 ≤ length (drop 12 bytes) = omega (arith, length-drop 12 bytes) in
    (record { number = length-take-le 16 (drop 12 bytes) behind }, refl)
