-- What reading one line comes to: what it says, or its first cause.
use Rattle.std.specs.Prelude.{◌≡◌, ℕ, Option, Some, None, Result, Ok, Err}
use Rattle.gn_numbers.specs.declared.causes.Cause.{Cause}
use Rattle.gn_numbers.specs.declared.causes.Cause.TheVariants.{Field}
use Rattle.gn_text.specs.declared.fault.CaptureFault.{CaptureFault}
use Rattle.gn_text.specs.declared.fault.CaptureRefusal.{CaptureRefusal}
use Rattle.gn_text.specs.declared.fault.CaptureRefusal.TheVariants as whole
use Rattle.gn_text.specs.Faults.{fault_at, refused_at}
use Rattle.gn_capture.specs.declared.refusal.LineRefusal.{LineRefusal}
use Rattle.gn_capture.specs.declared.refusal.LineRefusal.TheVariants as line

-- what a field says; where it can't be read, that is the cause
abbrev pub parsed : {X : Type 0} → Option X → Result X Cause
parsed None = Err Field
parsed (Some x) = Ok x

-- what line n says, or its first cause as its fault
abbrev pub numbered : {X : Type 0} → ℕ → Result X Cause → Result X CaptureFault
numbered n (Ok x) = Ok x
numbered n (Err cause) = Err (fault_at n cause)

-- the refusal of a line, with its number
abbrev pub refusal_at : ℕ → LineRefusal → CaptureRefusal
refusal_at n (line.Fault cause) = refused_at n cause
refusal_at n line.NoMemory = whole.NoMemory

-- a line is refused for its first cause, or because it is out of memory
abbrev pub IsLineRefused : {X : Type 0} → LineRefusal → Result X Cause → Type 0
IsLineRefused line.NoMemory says = Unit {0}
IsLineRefused (line.Fault cause) says = says ≡ Err cause

-- a line was read as what it says, or memory ran out
abbrev pub IsLineRead : {X : Type 0} → Result X LineRefusal → Result X Cause → Type 0
IsLineRead (Ok x) says = says ≡ Ok x
IsLineRead (Err refusal) says = IsLineRefused refusal says
