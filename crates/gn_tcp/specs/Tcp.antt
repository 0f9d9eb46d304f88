-- A link over TCP, and whom it calls.
use Rattle.std.specs.declared.net.socket_addr.SocketAddr.{SocketAddr}
use Rattle.std.specs.Net.Addr.{IsLoopbackV4, IsLoopbackV6, MatchIp}
use Rattle.std.specs.Net.Socket.{socket_ip}
use Rattle.gn_shake.specs.declared.role.Role.{Role}
use Rattle.gn_sockets.specs.declared.origin.TcpOrigin.{TcpOrigin}
use Rattle.gn_waits.specs.declared.socket.Socket.{Socket}

-- a link: the role in which it begins, where it comes from, and its one socket, where its peer came
pub record TcpLinked : Type 0 where
  pub role : Role
  pub origin : TcpOrigin
  pub socket : Socket

-- an address of this machine that no other machine can call
abbrev pub IsLoopback : SocketAddr → Type 0
IsLoopback addr = MatchIp (socket_ip addr) IsLoopbackV4 IsLoopbackV6
