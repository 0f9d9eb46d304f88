-- A link over memory and its halves.
use Rattle.std.specs.Prelude.{◌≡◌, ◌+◌, ◌-◌, ◌^◌, ◌<◌, ◌≤◌, ℕ, All, Bool, true, false, is_some, nat_le, min, List, [], length, take, Option, Some, None}
use Rattle.gn_shake.specs.declared.role.Role.{Role}
use Rattle.gn_links.specs.Halves.{Source, ReadHalf, WrittenHalf}

-- a link over memory: its role, the bytes that it gives, the most of them at a time, and from which read and which write
-- on it fails
pub record Memory : Type 0 where
  pub role : Role
  pub bytes : List ℕ
  pub piece : ℕ
  pub read : Option ℕ
  pub write : Option ℕ

-- what its reader gives: all its bytes, which are known beforehand; a read fails only where the link says from which one on
abbrev pub source_of : Memory → Source
source_of link = record { is_foretold = true; bytes = link.bytes; may_fail = is_some link.read }

-- its reading half: the link that it was split from, how many of the bytes it gave, how many reads were made, how many
-- failed, how many gave bytes, whether it ended, and whether it is finished
pub record MemoryReading : Type 0 where
  pub link : Memory
  pub given : ℕ
  pub calls : ℕ
  pub failures : ℕ
  pub pieces : ℕ
  pub has_ended : Bool
  pub is_finished : Bool

-- what it says of itself: its bytes are known
abbrev pub half_read : MemoryReading → ReadHalf
half_read half =
    record {
      is_known = true;
      bytes = take half.given half.link.bytes;
      failures = half.failures;
      pieces = half.pieces;
      has_ended = half.has_ended;
    }

-- so many of these bytes were given: no more than there are, and all of them where the reader ended; each is below 256
pub record IsGiving (bytes : List ℕ) (given : ℕ) (has_ended : Bool) : Type 0 where
  pub octets : All (λ b. b < 256) bytes
  pub within : given ≤ length bytes
  pub ended : has_ended ≡ true → given ≡ length bytes

-- a reader of this link has these bytes, gives so many of them at a time, at least one, and fails from this read on
pub record IsReaderOf (link : Memory) (bytes : List ℕ) (piece : ℕ) (fails_from : Option ℕ) : Type 0 where
  pub all : bytes ≡ link.bytes
  pub most : piece ≡ link.piece
  pub some : 0 < piece
  pub fails : fails_from ≡ link.read

-- its writing half: the link that it was split from, the bytes that it took, how many it has room for, how many writes were
-- made, how many failed, and whether it is finished
pub record MemoryWriting : Type 0 where
  pub link : Memory
  pub bytes : List ℕ
  pub room : ℕ
  pub calls : ℕ
  pub failures : ℕ
  pub is_finished : Bool

-- what it says of itself: its bytes are known, and it is never stuck
abbrev pub half_written : MemoryWriting → WrittenHalf
half_written half =
    record {
      is_known = true;
      bytes = half.bytes;
      failures = half.failures;
      is_stuck = false;
      is_finished = half.is_finished;
    }

-- the number of a call after so many, from 1 on; it stays at the last u32
abbrev pub next_call : ℕ → ℕ
next_call calls = min (calls + 1) (2 ^ 32 - 1)

-- whether a call of this number fails
abbrev pub is_failing : Option ℕ → ℕ → Bool
is_failing None call = false
is_failing (Some from) call = nat_le from call

-- the reading half of a link that was split
abbrev pub new_reading : Memory → MemoryReading
new_reading link =
    record {
      link = link;
      given = 0;
      calls = 0;
      failures = 0;
      pieces = 0;
      has_ended = false;
      is_finished = false;
    }

-- the writing half of a link that was split, which has room for nothing yet
abbrev pub new_writing : Memory → MemoryWriting
new_writing link =
    record { link = link; bytes = []; room = 0; calls = 0; failures = 0; is_finished = false }
