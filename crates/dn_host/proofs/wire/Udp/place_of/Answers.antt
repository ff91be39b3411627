use Rattle.std.proofs.Common.{◌≡◌, ◌++◌, ℕ, List, length, take, drop, replicate, ap, sym, refl, rules, ◌∙◌}
use Rattle.std.specs.{Cmp.Lexicographic.other_text, Int.to_be_bytes, Int.w16, Net.Socket.socket_ip, Net.Socket.socket_port}
use Rattle.dn_session.specs.declared.greeting.Address.{Address}
use Rattle.dn_host.specs.Addresses.{ip_bytes}
use Rattle.dn_host.proofs.Sockets.{joined, wide_is}
use Rattle.dn_host.proofs.wire.Udp.place_of.Goals as goal

abbrev of_bytes : List ℕ → Address
of_bytes bytes = record { bytes = bytes }

pub returns-else-eq-clause-wide : goal.returns-else-eq-clause-wide
returns-else-eq-clause-wide c = λ wide socket is.
    let to = c.args.to.now in
    let long : length to.bytes ≡ 32 = search rules in
    let ip : ip_bytes (socket_ip c.new-socket.result) ≡ take 16 to.bytes =
    ap ip_bytes c.new-socket.ensures.ip ∙ c.ip_in.ensures ∙ wide_is c.args.self.now.wide to.bytes wide in
    let port : to_be_bytes w16 (socket_port c.new-socket.result) ≡ take 2 (drop 16 to.bytes) =
    ap (λ (n : ℕ). to_be_bytes w16 n) c.new-socket.ensures.port ∙ c.port_in.ensures in
    let bytes : take 16 to.bytes ++ (take 2 (drop 16 to.bytes) ++ replicate 14 0) ≡ to.bytes =
    joined to.bytes (ip_bytes (socket_ip socket)) (to_be_bytes w16 (socket_port socket)) long refl
    (sym (ap (λ (a : Address). a.bytes) is)) in
    let same : c.address_of.result ≡ to =
    c.address_of.ensures ∙ (λ i. of_bytes (ip i ++ (port i ++ replicate 14 0))) ∙ ap of_bytes bytes in
    absurd (other_text c.address_of.result.bytes to.bytes (sym c.if-eq.false ∙ c.eq.ensures)
    (ap (λ (a : Address). a.bytes) same))
