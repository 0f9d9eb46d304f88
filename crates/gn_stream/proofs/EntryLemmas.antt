-- What the lines of a history say, each by itself.
use Rattle.std.proofs.Common.{◌≡◌, ◌+◌, ◌∙◌, ℕ, true, false, true≢false, List, [], ◌∷◌, ◌++◌, length, Option, Some, Result, Ok, Err, refl, sym, ap, subst, arith, append_assoc}
use Rattle.std.specs.Prelude.{OnErr}
use Rattle.std.specs.Result.{IsErrAnd}
use Rattle.std.proofs.KnownBytes.{Consumes-trans}
use Rattle.std.specs.Io.KnownBytes.{IsAtEnd}
use Rattle.gn_io.specs.Streams.{SourceState}
use Rattle.gn_text.specs.declared.fault.CaptureRefusal.{CaptureRefusal}
use Rattle.gn_text.specs.Lines.{is_skipped}
use Rattle.gn_text.specs.Parsed.{Numbered}
use Rattle.gn_stream.specs.declared.entries.Due.{Due}
use Rattle.gn_stream.specs.declared.entries.Entry.{Entry}
use Rattle.gn_stream.specs.declared.entries.Entry.TheVariants as entry
use Rattle.gn_stream.specs.declared.fault.StreamFault.{StreamFault}
use Rattle.gn_stream.specs.declared.fault.StreamFault.TheVariants.{Text}
use Rattle.gn_stream.specs.Entries.{IsDueRead, IsEntry, IsEntryOrEnd, IsEntryRead, IsUnread, Tells, due_begun, due_left}
use Rattle.gn_stream.specs.Left.{IsFirst, Left, numbered_left}
use Rattle.gn_stream.specs.Lines.{TakesOn}
use Rattle.gn_stream.specs.Reading.{Gives, Goes, Passes, Place}
use Rattle.gn_stream.proofs.PassLemmas.{first_gone, passes_so}

-- lines and the number after them, as one
abbrev numbered_as : List (ℕ × List ℕ) → ℕ → Numbered
numbered_as lines after = record { lines = lines; after = after }

-- a line that isn't skipped, before those that are left after it
abbrev behind : ℕ → List ℕ → Numbered → Numbered
behind number line left = numbered_as ((number, line) ∷ left.lines) left.after

as_numbered : (xs ys : List (ℕ × List ℕ)) (m n : ℕ) → xs ≡ ys → m ≡ n → numbered_as xs m ≡ numbered_as ys n
as_numbered xs ys m n lines after = ap (λ (zs : List (ℕ × List ℕ)). numbered_as zs m) lines ∙ ap (λ (k : ℕ). numbered_as ys k) after

after_first : (number : ℕ) (line : List ℕ) (l m : Left) → IsFirst number line l m → length l.lines + l.first ≡ length m.lines + m.first
after_first number line l m first = omega (arith, ap length first.lines, first.first)

numbered_said : (number : ℕ) (line : List ℕ) (l m : Left) → is_skipped line ≡ false → IsFirst number line l m → numbered_left l ≡ behind number line (numbered_left m)
numbered_said number line l m said first =
    as_numbered (numbered_left l).lines ((number, line) ∷ (numbered_left m).lines) _ _ (rw (first.lines, said, first.first, first.counted) refl) (after_first number line l m first)

numbered_skipped : (number : ℕ) (line : List ℕ) (l m : Left) → is_skipped line ≡ true → IsFirst number line l m → numbered_left l ≡ numbered_left m
numbered_skipped number line l m skipped first =
    as_numbered (numbered_left l).lines (numbered_left m).lines _ _ (rw (first.lines, skipped, first.first) refl) (after_first number line l m first)

module _ (A : Type 0) (number : ℕ) (line : List ℕ) (a b : Place) (first : Passes (IsFirst number line) a b) where
  -- a line says this
  pub entry_said : (before after : Due) (said : Entry A) → is_skipped line ≡ false → IsDueRead before number line (Ok (after, said)) → Passes (IsEntryOrEnd line before after (Some said)) a b
  entry_said before after said parsed is =
      passes_so (IsFirst number line) (IsEntry line said before after) a b
      (λ l m at. record {
        gone = first_gone number line l m at;
        lines = at.lines;
        skipped = parsed ∙ sym is.0;
        said = subst (λ (n : Numbered). Tells said before after n (numbered_left m)) (sym (numbered_said number line l m parsed at)) (is.1 (numbered_left m));
      })
      first

  -- a line is skipped
  pub entry_skipped : (before : Due) → is_skipped line ≡ true → Passes (IsEntryOrEnd {A = A} line before before (Some entry.Skipped)) a b
  entry_skipped before skipped =
      passes_so (IsFirst number line) (IsEntry {A = A} line entry.Skipped before before) a b
      (λ l m at. record {
        gone = first_gone number line l m at;
        lines = at.lines;
        skipped = skipped;
        said = (
          refl,
          record {
            left = ap (due_left {A = A} before) (numbered_skipped number line l m skipped at);
            begun = ap (due_begun {A = A} before) (numbered_skipped number line l m skipped at);
          },
        );
      })
      first

  -- a line is refused
  pub entry_refused : (before : Due) (refusal : CaptureRefusal) → is_skipped line ≡ false → IsDueRead {A = A} before number line (Err refusal)
      → Passes (λ left _. IsUnread A before refusal (numbered_left left)) a b
  entry_refused before refusal parsed is =
      passes_so (IsFirst number line) (λ left _. IsUnread A before refusal (numbered_left left)) a b
      (λ l m at. subst (λ (n : Numbered). IsUnread A before refusal n) (sym (numbered_said number line l m parsed at)) (is (numbered_left m))) first

  pub entry_unread : (before after : Due) (r : Result (Option (Entry A)) StreamFault) (refusal : CaptureRefusal) → IsErrAnd r (λ e. e ≡ Text refusal) → is_skipped line ≡ false
      → IsDueRead {A = A} before number line (Err refusal) → IsEntryRead before after r a b
  entry_unread before after (Ok x) refusal is parsed due = absurd is
  entry_unread before after (Err e) refusal is parsed due =
      subst (λ (f : StreamFault). IsEntryRead {A = A} before after (Err f) a b) (sym is) (entry_refused before refusal parsed due)

-- a source that was gone over is as it was
pub goes_still : (part : List ℕ) (a b c : Place) → TakesOn part a b → c.source ≡ b.source → c.reading.is_ended ≡ b.reading.is_ended → Goes a c
goes_still part a b c taken same still = record {
  bytes = taken.bytes;
  given = subst (λ (s : SourceState). Gives a.source s taken.bytes) (sym same) (record { told = taken.given.told; rest = taken.given.rest });
  ended = record {
    none = λ is. let more = taken.ended.none is in (more.0, still ∙ more.1);
    end = λ known is. subst (λ (s : SourceState). IsAtEnd s.rest) (sym same) (taken.ended.end known (sym still ∙ is));
  };
}

-- a read of it failed
pub goes_failed : (part : List ℕ) (a b c : Place) → TakesOn part a b → Gives b.source c.source [] → b.reading.is_ended ≡ false → c.reading.is_ended ≡ false → Goes a c
goes_failed part a b c taken gives was is = record {
  bytes = taken.bytes ++ [];
  given = record {
    told = gives.told ∙ ap (λ (xs : List ℕ). xs ++ []) taken.given.told ∙ append_assoc a.source.told taken.bytes [];
    rest = Consumes-trans a.source.rest b.source.rest c.source.rest taken.bytes [] taken.given.rest gives.rest;
  };
  ended = record {
    none = λ ended. let more = taken.ended.none ended in absurd (true≢false (sym more.1 ∙ was));
    end = λ known ended. absurd (true≢false (sym ended ∙ is));
  };
}

-- lines are gone, and what comes after them was not read
pub goes_passed : (Holds : Left → Left → Type 0) (a b : Place) → Passes Holds a b → Goes a b
goes_passed Holds a b passes = record { bytes = passes.bytes; given = record { told = passes.given.told; rest = passes.given.rest }; ended = passes.ended }

-- what holds, holds at an error
pub on_err : {T E P : Type 0} (r : Result T E) → P → OnErr r P
on_err (Ok x) p = tt
on_err (Err e) p = p

pub err_so : {T E P Q : Type 0} (r : Result T E) → (P → Q) → OnErr r P → OnErr r Q
err_so (Ok x) so p = tt
err_so (Err e) so p = so p
