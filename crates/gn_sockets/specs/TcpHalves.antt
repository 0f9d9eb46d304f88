-- The halves of a link over one socket.
use Rattle.std.specs.Prelude.{ℕ, Bool, true, List}
use Rattle.gn_links.specs.Halves.{ReadHalf, WrittenHalf}
use Rattle.gn_sockets.specs.declared.origin.TcpOrigin.{TcpOrigin}
use Rattle.gn_waits.specs.declared.socket.Socket.{Socket}

-- the half that is read: where its link comes from, the link's one socket, whether it still has its handle of that, the bytes
-- that the socket gave, how many reads failed, how many gave bytes, and whether the bytes ended
pub record TcpReading : Type 0 where
  pub origin : TcpOrigin
  pub socket : Socket
  pub is_open : Bool
  pub bytes : List ℕ
  pub failures : ℕ
  pub pieces : ℕ
  pub has_ended : Bool

-- what it says of itself: its bytes are known, those that the socket gave
abbrev pub half_read : TcpReading → ReadHalf
half_read half =
    record {
      is_known = true;
      bytes = half.bytes;
      failures = half.failures;
      pieces = half.pieces;
      has_ended = half.has_ended;
    }

-- the half that is written: where its link comes from, the link's one socket, whether it was finished, the bytes that the
-- socket took, how many writes failed, and whether one took nothing
pub record TcpWriting : Type 0 where
  pub origin : TcpOrigin
  pub socket : Socket
  pub is_finished : Bool
  pub bytes : List ℕ
  pub failures : ℕ
  pub is_stuck : Bool

-- what it says of itself: its bytes are known, those that the socket took
abbrev pub half_written : TcpWriting → WrittenHalf
half_written half =
    record {
      is_known = true;
      bytes = half.bytes;
      failures = half.failures;
      is_stuck = half.is_stuck;
      is_finished = half.is_finished;
    }
