-- One more line of a capture.
use Rattle.std.proofs.Common.{◌≡◌, ℕ, Bool, ◌+◌, ◌≤◌, List, [], ◌∷◌, ◌++◌, refl, ap, ◌∙◌, sym, arith, Result, Ok, Err, append_assoc, append-nil}
use Rattle.gn_text.specs.Lines.{fields_of}
use Rattle.gn_text.specs.declared.fault.CaptureFault.{CaptureFault}
use Rattle.gn_text.specs.declared.fault.CaptureRefusal.{CaptureRefusal}
use Rattle.gn_text.specs.declared.fault.CaptureRefusal.TheVariants.{Fault, NoMemory}
use Rattle.gn_capture.specs.declared.line.Line.{Line}
use Rattle.gn_capture.specs.declared.line.Line.TheVariants.{Join, Greeted, Piece, Route, RouteAll, Take, Close, Originate, Stats}
use Rattle.gn_capture.specs.CaptureLines.{line_in, links_after}
use Rattle.gn_capture.specs.Captures.{lines_from, with_first}
use Rattle.gn_text.specs.Faults.{◌>>=◌, IsRefused}
use Rattle.gn_capture.specs.Outcomes.{numbered}

-- what lines say, after what was read
abbrev pub left : {A : Type 0} → Bool → List (ℕ × Line A) → ℕ → List (ℕ × List ℕ) → Result (List (ℕ × Line A)) CaptureFault
left all head links lines = with_first head (lines_from all links lines)

head_more : {X E : Type 0} (head : List X) (x : X) (read : Result (List X) E)
    → with_first head (read >>= λ others. Ok (x ∷ others)) ≡ with_first (head ++ x ∷ []) read
head_more head x (Ok others) = ap Ok (sym (append_assoc head (x ∷ []) others))
head_more head x (Err e) = refl

found : {A : Type 0} (all : Bool) (head : List (ℕ × Line A)) (links n : ℕ) (text : List ℕ) (more : List (ℕ × List ℕ)) (line : Line A)
    → numbered n (line_in all links (fields_of text)) ≡ Ok line
    → with_first head (lines_from all links ((n, text) ∷ more)) ≡ with_first (head ++ (n, line) ∷ []) (lines_from all (links_after links line) more)
found all head links n text more line e = rw e (head_more head (n, line) (lines_from all (links_after links line) more))

-- the first line is read
pub numbered_more : {A : Type 0} (all : Bool) (head : List (ℕ × Line A)) (links n : ℕ) (text : List ℕ) (lines more : List (ℕ × List ℕ)) (line : Line A) → lines ≡ (n, text) ∷ more
    → numbered n (line_in all links (fields_of text)) ≡ Ok line
    → left all head links lines ≡ left all (head ++ (n, line) ∷ []) (links_after links line) more
numbered_more all head links n text lines more line is e = rw is (found all head links n text more line e)

failed : {A : Type 0} (all : Bool) (head : List (ℕ × Line A)) (links n : ℕ) (text : List ℕ) (more : List (ℕ × List ℕ)) (fault : CaptureFault)
    → numbered n (line_in {A = A} all links (fields_of text)) ≡ Err fault → with_first head (lines_from all links ((n, text) ∷ more)) ≡ Err fault
failed all head links n text more fault e = rw e refl

-- a refusal of the first line is one of all lines
pub refused_line : {A : Type 0} (all : Bool) (head : List (ℕ × Line A)) (links n : ℕ) (text : List ℕ) (lines more : List (ℕ × List ℕ)) (refusal : CaptureRefusal)
    (whole : Result (List (ℕ × Line A)) CaptureFault) → lines ≡ (n, text) ∷ more → left all head links lines ≡ whole
    → IsRefused refusal (numbered n (line_in {A = A} all links (fields_of text))) → IsRefused refusal whole
refused_line all head links n text lines more NoMemory whole is e m = _
refused_line all head links n text lines more (Fault fault) whole is e m = sym e ∙ rw is (failed all head links n text more fault m)

pub links_grow : {A : Type 0} (links : ℕ) (line : Line A) → links_after links line ≤ links + 1
links_grow links Join = omega arith
links_grow links Greeted = omega arith
links_grow links (Piece link bytes) = omega arith
links_grow links (Route t) = omega arith
links_grow links RouteAll = omega arith
links_grow links (Take c) = omega arith
links_grow links (Close c) = omega arith
links_grow links (Originate d) = omega arith
links_grow links Stats = omega arith

-- no line is left
pub all_parsed : {A : Type 0} (all : Bool) (head : List (ℕ × Line A)) (links : ℕ) (lines : List (ℕ × List ℕ)) → lines ≡ [] → left all head links lines ≡ Ok head
all_parsed all head links lines is = rw (is, append-nil head) refl
