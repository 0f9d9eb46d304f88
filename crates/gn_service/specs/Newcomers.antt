-- A link of a run that takes any number of callers, as it comes.
use Rattle.std.specs.Prelude.{◌≡◌, ℕ, Bool, List}
use Rattle.std.specs.declared.net.socket_addr.SocketAddr.{SocketAddr}
use Rattle.gn_links.specs.Halves.{IsNewReader, IsNewWriter}
use Rattle.gn_sockets.specs.declared.origin.TcpOrigin.{TcpOrigin}
use Rattle.gn_waits.specs.declared.socket.Socket.{Socket}
use Rattle.gn_sockets.specs.TcpHalves.{TcpReading, TcpWriting, half_read, half_written}
use Rattle.gn_start.specs.declared.incoming.NewLink.{NewLink}
use Rattle.gn_service.specs.Any.{IsLinkOf}

-- it may be link k of a run that calls these peers, again or not, and has new halves of one socket
pub record IsNewOf (again : Bool) (peers : List SocketAddr) (k : ℕ) (new : NewLink TcpReading TcpWriting) : Type 0 where
  pub made : IsLinkOf again peers k new.role new.reader.origin
  pub one : ◌≡◌ {A = TcpOrigin × Socket} (new.writer.origin, new.writer.socket) (new.reader.origin, new.reader.socket)
  pub reader : IsNewReader (half_read new.reader)
  pub writer : IsNewWriter (half_written new.writer)
