-- The links that the lines of a capture make.
use Rattle.std.specs.Prelude.{ℕ, zero, suc, List, [], ◌∷◌, ◌++◌, None, Result, Ok, Err, slice_set}
use Rattle.std.specs.List.{slice_index_or}
use Rattle.gn_shake.specs.declared.role.Role.{Role}
use Rattle.gn_shake.specs.declared.role.Role.TheVariants.{Accepting, Plain}
use Rattle.gn_links.specs.Memory.{Memory}
use Rattle.gn_text.specs.declared.fault.CaptureFault.{CaptureFault}
use Rattle.gn_numbers.specs.declared.causes.Cause.TheVariants as cause
use Rattle.gn_text.specs.Faults.{fault_at, ◌>>=◌}
use Rattle.gn_capture.specs.declared.line.Line.{Line}
use Rattle.gn_capture.specs.declared.line.Line.TheVariants.{Join, Greeted, Piece}

-- a link over memory that gives these bytes, 4,096 at a time, and doesn't fail
abbrev pub link_of : Role → List ℕ → Memory
link_of role bytes = record { role = role; bytes = bytes; piece = 4096; read = None; write = None }

-- a link with these bytes after its own
abbrev pub with_bytes : Memory → List ℕ → Memory
with_bytes link bytes = record link { bytes = link.bytes ++ bytes }

-- the links where link i, counted from 1, has these bytes after its own; a link that isn't there isn't made
abbrev pub given : List Memory → ℕ → List ℕ → List Memory
given links zero bytes = links
given links (suc at) bytes = slice_set links at (with_bytes (slice_index_or links at (link_of Plain [])) bytes)

-- the links after a line of this number: `join` and `open` make one, after the others, and `data` gives one its next bytes;
-- or the fault of a line that is none of these
abbrev pub line_taken : {A : Type 0} → List Memory → ℕ × Line A → Result (List Memory) CaptureFault
line_taken links (n, Join) = Ok (links ++ link_of Plain [] ∷ [])
line_taken links (n, Greeted) = Ok (links ++ link_of Accepting [] ∷ [])
line_taken links (n, Piece i bytes) = Ok (given links i bytes)
line_taken links (n, line) = Err (fault_at n cause.Load)

-- the links after all these lines; or the fault of the first that isn't taken
abbrev pub links_from : {A : Type 0} → List Memory → List (ℕ × Line A) → Result (List Memory) CaptureFault
links_from links [] = Ok links
links_from links (line ∷ more) = do
  after ← line_taken links line
  links_from after more
