-- A history, as it is written in blocks.
use Rattle.std.proofs.Common.{◌≡◌, ℕ, List, [], ◌++◌, ap, sym, ◌∙◌, Option, OnErr, Result, Ok, Err, append-nil, append_assoc, subst, ◌<◌, ◌+◌, ◌∷◌, length, take, drop, take-append-drop}
use Rattle.std.proofs.Math.ListN.{get_or}
use Rattle.std.proofs.lemmas.Grind.{flat_map-append}
use Rattle.std.proofs.lemmas.List.{take_more}
use Rattle.std.specs.List.{flat_map}
use Rattle.std.specs.Io.KnownBytes.{Appends}
use Rattle.std.specs.Prelude.{◌⊎◌, IfErr}
use Rattle.std.specs.Result.{IsErrAnd}
use Rattle.gn_io.specs.Counts.{Rises}
use Rattle.gn_io.specs.Parts.{AppendsPart, LeavesToWrite}
use Rattle.gn_io.specs.Streams.{NoWriteFailed, SinkState}
use Rattle.gn_io.proofs.StreamLemmas.{appends_after, leaves_all}
use Rattle.gn_printed.specs.Printed.{IsPrintFault}
use Rattle.gn_printed.specs.declared.printed.PrintFault.{PrintFault}
use Rattle.gn_printed.specs.declared.printed.PrintFault.TheVariants.{NoMemory, Write}

-- more was added to what waits, and of both all was written but what waits then
pub more_left : (first mid last : Option (List ℕ)) (waited waiting text all : List ℕ) → LeavesToWrite first mid waited all → LeavesToWrite mid last waiting (waited ++ text)
    → LeavesToWrite first last waiting (all ++ text)
more_left first mid last waited waiting text all h k =
    let e : (h.0 ++ k.0) ++ waiting ≡ all ++ text =
    append_assoc h.0 k.0 waiting ∙ (ap (λ r. h.0 ++ r) k.2 ∙ (sym (append_assoc h.0 waited text) ∙ ap (λ r. r ++ text) h.2)) in
    (h.0 ++ k.0, appends_after first mid last h.0 k.0 h.1 k.1, e)

-- only a prefix of both was
pub more_cut : (first mid last : Option (List ℕ)) (waited text rest all whole : List ℕ) → LeavesToWrite first mid waited all → AppendsPart mid last (waited ++ text)
    → (all ++ text) ++ rest ≡ whole → AppendsPart first last whole
more_cut first mid last waited text rest all whole h k is =
    let written = h.0 ++ k.1.0 in
    let e : written ++ (k.0 ++ rest) ≡ whole =
    sym (append_assoc written k.0 rest) ∙ (ap (λ r. r ++ rest) (append_assoc h.0 k.1.0 k.0 ∙ (ap (λ r. h.0 ++ r) k.1.2 ∙ (sym (append_assoc h.0 waited text) ∙ ap (λ r. r ++ text) h.2))) ∙ is) in
    (k.0 ++ rest, (written, appends_after first mid last h.0 k.1.0 h.1 k.1.1, e))

-- nothing was written yet
pub none_written : (old : Option (List ℕ)) (text : List ℕ) → AppendsPart old old text
none_written old text = (text, leaves_all old text)

-- of more than was to be written, only a prefix was
pub part_of : (first last : Option (List ℕ)) (all rest whole : List ℕ) → AppendsPart first last all → all ++ rest ≡ whole → AppendsPart first last whole
part_of first last all rest whole k is = (k.0 ++ rest, (k.1.0, k.1.1, sym (append_assoc k.1.0 k.0 rest) ∙ (ap (λ r. r ++ rest) k.1.2 ∙ is)))

-- what waited and a last text were written, and so all is
pub all_written : (first mid last : Option (List ℕ)) (waited text held all whole : List ℕ) → LeavesToWrite first mid waited all → held ≡ waited ++ text → Appends mid last held
    → all ++ text ≡ whole → Appends first last whole
all_written first mid last waited text held all whole h added k is =
    let P : List ℕ → Type 0 = λ t. Appends first last t in
    subst P (ap (λ r. h.0 ++ r) added ∙ (sym (append_assoc h.0 waited text) ∙ (ap (λ r. r ++ text) h.2 ∙ is))) (appends_after first mid last h.0 held h.1 k)

-- only a prefix of what waited and a last text was
pub all_cut : (first mid last : Option (List ℕ)) (waited text held all whole : List ℕ) → LeavesToWrite first mid waited all → held ≡ waited ++ text → AppendsPart mid last held
    → all ++ text ≡ whole → AppendsPart first last whole
all_cut first mid last waited text held all whole h added k is =
    let P : List ℕ → Type 0 = λ t. AppendsPart mid last t in
    more_cut first mid last waited text [] all whole h (subst P added k) (append-nil (all ++ text) ∙ is)

-- the parts of a history's text
pub parts_are : (heading header steps ending : List ℕ) → heading ≡ header → (heading ++ steps) ++ ending ≡ (header ++ steps) ++ ending
parts_are heading header steps ending is = ap (λ r. (r ++ steps) ++ ending) is

-- what holds at an error
pub on_err : {T E : Type 0} (r : Result T E) {P : Type 0} → P → OnErr r P
on_err (Ok x) p = _
on_err (Err e) p = p

-- why a text wasn't written whole, where no write had failed before
pub cause_after : (fault : PrintFault) (first mid last : SinkState) → NoWriteFailed first mid → IsPrintFault fault mid last → IsPrintFault fault first last
cause_after Write first mid last none cause =
    subst (λ n. Rises first.failures last.failures ⊎ Rises n last.stalls) none.1 (subst (λ n. Rises n last.failures ⊎ Rises mid.stalls last.stalls) none.0 cause)
cause_after NoMemory first mid last none cause = (cause.0 ∙ none.0, cause.1 ∙ none.1)

-- so of a fault that is handed on
pub cause_handed : {T : Type 0} (r : Result T PrintFault) (fault : PrintFault) (first mid last : SinkState) → IsErrAnd r (λ e. e ≡ fault) → NoWriteFailed first mid
    → IsPrintFault fault mid last → IfErr r (λ f. IsPrintFault f first last)
cause_handed (Ok x) fault first mid last is none cause = tt
cause_handed (Err e) fault first mid last is none cause = subst (λ f. IsPrintFault f first last) (sym is) (cause_after fault first mid last none cause)

-- the texts of items up to the next
module _ {X : Type 0} (f : X → List ℕ) (xs : List X) (i : ℕ) (x : X) (below : i < length xs) (is : x ≡ get_or xs i x) where
  one_more : flat_map f (take (i + 1) xs) ≡ flat_map f (take i xs) ++ f x
  one_more =
      ap (λ ys. flat_map f ys) (take_more xs i x below)
      ∙ (flat_map-append f (take i xs) (get_or xs i x ∷ []) ∙ ap (λ r. flat_map f (take i xs) ++ r) (append-nil (f (get_or xs i x)) ∙ ap f (sym is)))

  -- with those of all after it
  and_rest : (flat_map f (take i xs) ++ f x) ++ flat_map f (drop (i + 1) xs) ≡ flat_map f xs
  and_rest =
      ap (λ r. r ++ flat_map f (drop (i + 1) xs)) (sym one_more)
      ∙ (sym (flat_map-append f (take (i + 1) xs) (drop (i + 1) xs)) ∙ ap (λ ys. flat_map f ys) (take-append-drop (i + 1) xs))

  -- its text was added
  pub next_left : (first mid last : Option (List ℕ)) (begun waited waiting : List ℕ) → LeavesToWrite first mid waited (begun ++ flat_map f (take i xs)) → LeavesToWrite mid last waiting (waited ++ f x)
      → LeavesToWrite first last waiting (begun ++ flat_map f (take (i + 1) xs))
  next_left first mid last begun waited waiting h k =
      subst (λ (all : List ℕ). LeavesToWrite first last waiting all) (append_assoc begun (flat_map f (take i xs)) (f x) ∙ ap (λ r. begun ++ r) (sym one_more))
      (more_left first mid last waited waiting (f x) (begun ++ flat_map f (take i xs)) h k)

  -- only a prefix of it was
  pub next_cut : (first mid last : Option (List ℕ)) (begun waited : List ℕ) → LeavesToWrite first mid waited (begun ++ flat_map f (take i xs)) → AppendsPart mid last (waited ++ f x)
      → AppendsPart first last (begun ++ flat_map f xs)
  next_cut first mid last begun waited h k =
      more_cut first mid last waited (f x) (flat_map f (drop (i + 1) xs)) (begun ++ flat_map f (take i xs)) (begun ++ flat_map f xs) h k
      (ap (λ r. r ++ flat_map f (drop (i + 1) xs)) (append_assoc begun (flat_map f (take i xs)) (f x))
      ∙ (append_assoc begun (flat_map f (take i xs) ++ f x) (flat_map f (drop (i + 1) xs)) ∙ ap (λ r. begun ++ r) and_rest))
