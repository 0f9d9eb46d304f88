-- Lines of which one is refused.
use Rattle.std.proofs.Common.{◌≡◌, ◌<◌, ◌≤◌, ◌+◌, ◌++◌, ◌∙◌, ap, ℕ, List, [], ◌∷◌, drop, get_or, length, refl, sym, subst, Result, Ok, Err, append-nil, append_assoc}
use Rattle.std.specs.Result.{IsErrAnd}
use Rattle.std.proofs.lemmas.List.{at_drop_all, drop_more, nil_from_length}
use Rattle.gn_links.specs.Memory.{Memory}
use Rattle.gn_text.specs.declared.fault.CaptureFault.{CaptureFault}
use Rattle.gn_text.specs.declared.fault.CaptureRefusal.{CaptureRefusal}
use Rattle.gn_text.specs.declared.fault.CaptureRefusal.TheVariants.{Fault, NoMemory}
use Rattle.gn_text.specs.Faults.{◌>>=◌, IsRead, IsRefused}
use Rattle.gn_capture.specs.declared.line.Line.{Line}
use Rattle.gn_load.specs.Links.{line_taken, links_from}

-- a line that is refused ends the reading of it and of those after it
pub stops_at : {A : Type 0} (links : List Memory) (line : ℕ × Line A) (more : List (ℕ × Line A)) (refusal : CaptureRefusal)
    → IsRefused refusal (line_taken links line) → IsRefused refusal (links_from links (line ∷ more))
stops_at links line more NoMemory is = tt
stops_at links line more (Fault fault) is = rw is refl

-- no line was taken yet
pub none_taken : {A : Type 0} (links : List Memory) (lines : List (ℕ × Line A)) → links ≡ [] → links_from links lines ≡ links_from [] lines
none_taken links lines none = ap (λ made. links_from made lines) none

-- the first of the lines that are left is taken
pub taken_here : {A : Type 0} (links after : List Memory) (lines : List (ℕ × Line A)) (i : ℕ) (line : ℕ × Line A) → i < length lines → line ≡ get_or lines i line
    → links_from links (drop i lines) ≡ links_from [] lines → line_taken links line ≡ Ok after → links_from after (drop (i + 1) lines) ≡ links_from [] lines
taken_here {A} links after lines i line inside is from taken =
    let more : List (ℕ × Line A) = drop (i + 1) lines in
    let first : drop i lines ≡ line ∷ more = drop_more lines i line inside ∙ ap (λ x. x ∷ more) (sym is) in
    sym (ap (λ (made : Result (List Memory) CaptureFault). made >>= λ made_links. links_from made_links more) taken) ∙ sym (ap (links_from links) first) ∙ from

-- none of the lines is left
pub all_taken : {A : Type 0} (links : List Memory) (lines : List (ℕ × Line A)) (i : ℕ) → length lines ≤ i → links_from links (drop i lines) ≡ links_from [] lines
    → links_from [] lines ≡ Ok links
all_taken links lines i none from = sym from ∙ at_drop_all (links_from links) lines i none

-- of some links that are moved one by one, the next
pub next_moved : (before after left rest all : List Memory) (link moved : Memory) → after ≡ before ++ moved ∷ [] → moved ≡ link → left ≡ link ∷ rest → before ++ left ≡ all → after ++ rest ≡ all
next_moved before after left rest all link moved pushed same next from =
    ap (λ links. links ++ rest) (pushed ∙ ap (λ x. before ++ x ∷ []) same) ∙ append_assoc before (link ∷ []) rest ∙ ap (λ links. before ++ links) (sym next) ∙ from

-- none is left, and what was read was moved
pub all_moved : (made : Result (List Memory) CaptureFault) (read moved left all : List Memory) → made ≡ Ok read → all ≡ read → length left ≡ 0 → moved ++ left ≡ all → made ≡ Ok moved
all_moved made read moved left all is same none from =
    let e : moved ≡ read = sym (append-nil moved) ∙ ap (λ links. moved ++ links) (sym (nil_from_length left none)) ∙ from ∙ same in
    subst (λ (links : List Memory). made ≡ Ok links) (sym e) is

-- a refusal that was handed on
pub handed_on : {X T : Type 0} (view : T → X) (r : Result T CaptureRefusal) (e : CaptureRefusal) (read : Result X CaptureFault)
    → IsErrAnd r (λ x. x ≡ e) → IsRefused e read → IsRead view r read
handed_on view (Ok x) e read is h = absurd is
handed_on view (Err x) e read is h = subst (λ refusal. IsRefused refusal read) (sym is) h

-- the first of the lines that are left is refused
pub refused_here : {A T : Type 0} (view : T → List Memory) (r : Result T CaptureRefusal) (links : List Memory) (lines : List (ℕ × Line A)) (i : ℕ) (line : ℕ × Line A)
    (refusal : CaptureRefusal) → i < length lines → line ≡ get_or lines i line → links_from links (drop i lines) ≡ links_from [] lines
    → IsErrAnd r (λ x. x ≡ refusal) → IsRefused refusal (line_taken links line) → IsRead view r (links_from [] lines)
refused_here view r links lines i line refusal inside is from at refused =
    let first : drop i lines ≡ line ∷ drop (i + 1) lines = drop_more lines i line inside ∙ ap (λ x. x ∷ drop (i + 1) lines) (sym is) in
    handed_on view r refusal (links_from [] lines) at
    (subst (λ (read : Result (List Memory) CaptureFault). IsRefused refusal read) (sym (ap (links_from links) first) ∙ from)
    (stops_at links line (drop (i + 1) lines) refusal refused))
