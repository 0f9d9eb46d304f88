-- What the two halves of a link give and count; what a half says of itself, as one record; when it is new, and what a call does
-- to it.
use Rattle.std.specs.Prelude.{◌≡◌, ◌+◌, ◌-◌, ◌^◌, ◌<◌, ◌==◌, ◌&&◌, not, ℕ, All, Bool, true, false, if◌then◌else◌, min, List, [], ◌++◌, take, Result, Ok, Err, ◌||◌, length, is_err}

-- a count after what may have happened; at the last u64 it stays
abbrev pub counted : Bool → ℕ → ℕ
counted happened count = if happened then min (count + 1) (2 ^ 64 - 1) else count

-- the bytes that a read gave
abbrev pub read_by : {E : Type 0} → Result ℕ E → List ℕ → List ℕ
read_by (Ok n) buffer = take n buffer
read_by (Err fault) buffer = []

-- a read gave bytes
abbrev pub gave_bytes : {E : Type 0} → Result ℕ E → Bool
gave_bytes (Ok n) = not (n == 0)
gave_bytes (Err fault) = false

-- a read into a nonempty buffer gave none
abbrev pub is_end : {E : Type 0} → Result ℕ E → ℕ → Bool
is_end (Ok n) room = (n == 0) && not (room == 0)
is_end (Err fault) room = false

-- the bytes that a write took
abbrev pub written_by : {E : Type 0} → Result ℕ E → List ℕ → List ℕ
written_by (Ok n) piece = take n piece
written_by (Err fault) piece = []

-- a write of a nonempty piece took nothing
abbrev pub is_stall : {E : Type 0} → Result ℕ E → ℕ → Bool
is_stall (Ok n) length = (n == 0) && not (length == 0)
is_stall (Err fault) length = false

-- what a link will deliver: whether its bytes are known beforehand, the bytes, and whether a read may fail
pub record Source : Type 0 where
  pub is_foretold : Bool
  pub bytes : List ℕ
  pub may_fail : Bool

-- what was read is a prefix of all the bytes, each a number below 256; and it is all of them where a read found their end
pub record IsReadOf (all read : List ℕ) (has_ended : Bool) : Type 0 where
  pub octets : All (λ b. b < 256) read
  pub rest : List ℕ
  pub whole : all ≡ read ++ rest
  pub ended : has_ended ≡ true → rest ≡ []

-- a half that was read: whether its bytes are known, the bytes, how many reads failed, how many gave bytes, and whether one found
-- their end
pub record ReadHalf : Type 0 where
  pub is_known : Bool
  pub bytes : List ℕ
  pub failures : ℕ
  pub pieces : ℕ
  pub has_ended : Bool

-- a half that was written: whether its bytes are known, the bytes, how many writes failed, whether it is stuck, and whether it is
-- finished
pub record WrittenHalf : Type 0 where
  pub is_known : Bool
  pub bytes : List ℕ
  pub failures : ℕ
  pub is_stuck : Bool
  pub is_finished : Bool

-- a half that read nothing yet
pub record IsNewReader (half : ReadHalf) : Type 0 where
  pub none : half.bytes ≡ []
  pub unfailed : half.failures ≡ 0
  pub unread : half.pieces ≡ 0
  pub goes_on : half.has_ended ≡ false

-- a half that wrote nothing yet
pub record IsNewWriter (half : WrittenHalf) : Type 0 where
  pub none : half.bytes ≡ []
  pub unfailed : half.failures ≡ 0
  pub free : half.is_stuck ≡ false
  pub goes_on : half.is_finished ≡ false

-- what a read did to a half, with this answer and this in the buffer: the bytes that it gave, where they are known, are its
-- next ones, and it is counted
pub record HasRead {E : Type 0} (answer : Result ℕ E) (buffer : List ℕ) (before after : ReadHalf) : Type 0 where
  pub known : after.is_known ≡ before.is_known
  pub bytes : before.is_known ≡ true → after.bytes ≡ before.bytes ++ read_by answer buffer
  pub failures : after.failures ≡ counted (is_err answer) before.failures
  pub pieces : after.pieces ≡ counted (gave_bytes answer) before.pieces
  pub ended : after.has_ended ≡ (before.has_ended || is_end answer (length buffer))

-- what a write of this piece did to a half, with this answer: the bytes that it took, where they are known, are its next
-- ones, and it is counted
pub record HasWritten {E : Type 0} (answer : Result ℕ E) (piece : List ℕ) (before after : WrittenHalf) : Type 0 where
  pub known : after.is_known ≡ before.is_known
  pub bytes : before.is_known ≡ true → after.bytes ≡ before.bytes ++ written_by answer piece
  pub failures : after.failures ≡ counted (is_err answer) before.failures
  pub stuck : after.is_stuck ≡ (before.is_stuck || is_stall answer (length piece))

-- where the link's bytes are known beforehand, what was read is a beginning of them as `IsReadOf` says
abbrev pub IsReadFrom : Source → ReadHalf → Type 0
IsReadFrom source half = source.is_foretold ≡ true → IsReadOf source.bytes half.bytes half.has_ended
