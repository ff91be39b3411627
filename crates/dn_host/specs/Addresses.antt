-- Addresses of sockets as those of sessions.
use Rattle.std.specs.{Prelude.{ℕ, List, [], ◌∷◌, ◌++◌, replicate}, Int.w16, Int.to_be_bytes, Net.Addr.ipv4_octets, Net.Addr.ipv6_octets, Net.Socket.socket_ip, Net.Socket.socket_port, declared.net.ip_addr.IpAddr.IpAddr, declared.net.socket_addr.SocketAddr.SocketAddr, declared.net.ip_addr.IpAddr.TheVariants.V4, declared.net.ip_addr.IpAddr.TheVariants.V6}
use Rattle.dn_session.specs.declared.greeting.Address.{Address}

-- the IPv6 address that an IPv4 address is mapped into, as RFC 4291 says
abbrev pub mapped : List ℕ → List ℕ
mapped octets = replicate 10 0 ++ 255 ∷ 255 ∷ octets

abbrev pub ip_bytes : IpAddr → List ℕ
ip_bytes (V4 ip) = mapped (ipv4_octets ip)
ip_bytes (V6 ip) = ipv6_octets ip

-- the IPv6 address, the port, and zeros
abbrev pub address_at : List ℕ → ℕ → Address
address_at ip port = record { bytes = ip ++ (to_be_bytes w16 port ++ replicate 14 0) }

abbrev pub address_of : SocketAddr → Address
address_of socket = address_at (ip_bytes (socket_ip socket)) (socket_port socket)

-- all addresses of the machine, of IPv6 and of IPv4
abbrev pub own_places : ℕ → List Address
own_places port = address_at (replicate 16 0) port ∷ address_at (mapped (replicate 4 0)) port ∷ []
