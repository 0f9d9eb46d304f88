-- A serve and its peers at their addresses.
use Rattle.std.specs.Prelude.{◌≡◌, List, Option, Some, None, map}
use Rattle.std.specs.declared.net.socket_addr.SocketAddr.{SocketAddr}
use Rattle.std.specs.declared.net.socket_addr.SocketAddr.TheVariants.{V4, V6}
use Rattle.std.specs.Net.Addr.{ipv4_octets}
use Rattle.std.specs.Net.Socket.{v4_ip, v4_port}
use Rattle.gn_program.specs.Serve.{AskedServe}
use Rattle.gn_words.specs.declared.peers.Peer.{Peer}

-- the peer at an address; none at one of the longer form, which no option gives
abbrev pub peer_at : SocketAddr → Option Peer
peer_at (V4 address) = Some (record { ip = ipv4_octets (v4_ip address); port = v4_port address })
peer_at (V6 address) = None

-- the addresses of these peers, in order
abbrev pub AreAt : List Peer → List SocketAddr → Type 0
AreAt peers addresses = map peer_at addresses ≡ map Some peers

-- where a serve listens: at the address and on the port that are asked for
abbrev pub IsHere : AskedServe → SocketAddr → Type 0
IsHere serving address = peer_at address ≡ Some (record { ip = serving.site.bind; port = serving.port })
