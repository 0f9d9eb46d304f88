-- What a reader of a text gives: what the text says, or its first fault.
use Rattle.std.specs.Prelude.{◌≡◌, ℕ, Option, Some, None, Result, Ok, Err}
use Rattle.gn_numbers.specs.declared.causes.Cause.{Cause}
use Rattle.gn_text.specs.declared.fault.CaptureFault.{CaptureFault}
use Rattle.gn_text.specs.declared.fault.CaptureRefusal.{CaptureRefusal}
use Rattle.gn_text.specs.declared.fault.CaptureRefusal.TheVariants.{Fault, NoMemory}

-- the next step, where the step before it has no fault
infixl 10 ◌>>=◌
abbrev pub ◌>>=◌ : {X Y E : Type 0} → Result X E → (X → Result Y E) → Result Y E
(Ok x) >>= f = f x
(Err e) >>= f = Err e

-- the fault of this line and cause
abbrev pub fault_at : ℕ → Cause → CaptureFault
fault_at line cause = record { line = line; cause = cause }

-- the refusal of this line and cause
abbrev pub refused_at : ℕ → Cause → CaptureRefusal
refused_at line cause = Fault (fault_at line cause)

-- what line n says, or its fault
abbrev pub numbered_at : {X : Type 0} → ℕ → Cause → Option X → Result X CaptureFault
numbered_at n cause None = Err (fault_at n cause)
numbered_at n cause (Some x) = Ok x

-- a text was refused as the definition says, or memory ran out
abbrev pub IsRefused : {X : Type 0} → CaptureRefusal → Result X CaptureFault → Type 0
IsRefused NoMemory parsed = Unit {0}
IsRefused (Fault fault) parsed = parsed ≡ Err fault

-- a text was read as the definition says, or memory ran out; view is how the definition sees the value that was read
abbrev pub IsRead : {X T : Type 0} → (T → X) → Result T CaptureRefusal → Result X CaptureFault → Type 0
IsRead view (Ok x) parsed = parsed ≡ Ok (view x)
IsRead view (Err refusal) parsed = IsRefused refusal parsed
