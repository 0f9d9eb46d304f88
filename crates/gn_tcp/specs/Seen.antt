-- A link that was seen: what its socket gave and took.
use Rattle.std.specs.Prelude.{ℕ, List}
use Rattle.gn_sockets.specs.TcpHalves.{TcpWriting}

-- what a link's socket gave, and the half that is written, which says what the socket is and what it took
pub record SocketSeen : Type 0 where
  pub gave : List ℕ
  pub writing : TcpWriting
