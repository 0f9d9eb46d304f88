-- Why an input wasn't read.
use Rattle.std.specs.Prelude.{◌<◌, ℕ, length, IfSome}
use Rattle.gn_io.specs.declared.input.InputFault.{InputFault}
use Rattle.gn_io.specs.declared.input.InputFault.TheVariants.{Read, TooLarge, NoMemory}
use Rattle.gn_io.specs.Counts.{RisesBeyond}
use Rattle.gn_io.specs.Streams.{HasReadFailed, SourceState, text_between}

-- the most bytes of an input
abbrev pub input_limit : ℕ
input_limit = 67108864

-- that an input has more bytes than the limit, as far as they are known, and as the count of bytes given says
pub record IsTooLarge (old new : SourceState) : Type 0 where
  pub known : IfSome (text_between old new) (λ bytes. input_limit < length bytes)
  pub given : RisesBeyond input_limit old.given new.given

-- when each fault comes: Read where a read failed, TooLarge above the limit; memory may run out at any time
abbrev pub IsInputFault : InputFault → SourceState → SourceState → Type 0
IsInputFault Read old new = HasReadFailed old new
IsInputFault TooLarge old new = IsTooLarge old new
IsInputFault NoMemory old new = Unit {0}
