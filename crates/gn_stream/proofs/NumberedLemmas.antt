-- Lines that are skipped, and the first that isn't.
use Rattle.std.proofs.Common.{◌≡◌, ◌<◌, ◌≤◌, ◌+◌, ◌-◌, ◌^◌, ◌∙◌, ℕ, true, false, List, [], ◌∷◌, ◌++◌, length, Option, Result, Ok, Err, refl, sym, ap, subst, arith, length-append}
use Rattle.std.specs.Result.{IsErrAnd}
use Rattle.gn_io.specs.declared.input.InputFault.{InputFault}
use Rattle.gn_text.specs.Lines.{is_skipped}
use Rattle.gn_text.specs.Parsed.{numbered_from}
use Rattle.gn_stream.specs.Left.{AreGone, AreSkipped, IsFirst, IsFirstNumbered, Left, numbered_left}
use Rattle.gn_stream.specs.Lines.{AreNone, IsLineRead}
use Rattle.gn_stream.specs.Numbered.{IsNumberedRead}
use Rattle.gn_stream.specs.Reading.{IsReadingFault, Passes, Place}
use Rattle.gn_stream.proofs.PassLemmas.{fault_then, first_gone, gone_none, gone_then, passes_none, passes_then}

-- lines that are skipped are gone
pub record Skips (old new : Left) : Type 0 where
  pub gone : AreGone old new
  pub same : (numbered_left old).lines ≡ (numbered_left new).lines

skips_one : (number : ℕ) (line : List ℕ) (l m n : Left) → is_skipped line ≡ true → Skips l m → IsFirst number line m n → Skips l n
skips_one number line l m n skipped skips first = record {
  gone = gone_then l m n skips.gone (first_gone number line m n first);
  same = skips.same ∙ rw (first.lines, skipped, first.first) refl;
}

finds : (number : ℕ) (line : List ℕ) (l m n : Left) → is_skipped line ≡ false → Skips l m → IsFirst number line m n → IsFirstNumbered number line l n
finds number line l m n parsed skips first = record {
  gone = gone_then l m n skips.gone (first_gone number line m n first);
  lines = skips.same ∙ rw (first.lines, parsed, first.first, first.counted) refl;
  least = omega (arith, skips.gone.first, first.counted);
  first = omega (arith, first.first, first.counted);
}

skips_all : (l m n : Left) → Skips l m → AreNone m n → AreSkipped l n
skips_all l m n skips none = record {
  gone = gone_then l m n skips.gone (record { gone = []; lines = none.none ∙ sym none.still; first = omega (arith, none.first); short = λ k d within. absurd (omega (arith, within)); cut = none.cut; lacks = none.lacks });
  lines = skips.same ∙ rw none.none refl;
  none = none.still;
}

-- nothing was read yet
pub skips_none : (a : Place) → Passes Skips a a
skips_none a = passes_none Skips a (λ l. record { gone = gone_none l; same = refl })

-- one line more is skipped
pub skipped_more : (number : ℕ) (line : List ℕ) (a b c : Place) → is_skipped line ≡ true → Passes Skips a b → Passes (IsFirst number line) b c → Passes Skips a c
skipped_more number line a b c skipped first second =
    passes_then Skips (IsFirst number line) Skips a b c (λ l m n. skips_one number line l m n skipped) first second

pub found_numbered : (number : ℕ) (line : List ℕ) (a b c : Place) → is_skipped line ≡ false → Passes Skips a b → Passes (IsFirst number line) b c
    → Passes (IsFirstNumbered number line) a c
found_numbered number line a b c parsed first second =
    passes_then Skips (IsFirst number line) (IsFirstNumbered number line) a b c (λ l m n. finds number line l m n parsed) first second

pub none_numbered : (a b c : Place) → Passes Skips a b → Passes AreNone b c → Passes AreSkipped a c
none_numbered a b c first second = passes_then Skips AreNone AreSkipped a b c skips_all first second

-- the number of the next line grows
pub next_grows : (number : ℕ) (line : List ℕ) (a b : Place) → Passes (IsFirst number line) a b → (number ≡ a.reading.next) × (b.reading.next ≡ a.reading.next + 1)
next_grows number line a b first = let gone = first.holds [] (λ is. refl) in (gone.counted, gone.first)

-- the number after the last line
pub after_same : (l m : Left) → AreGone l m → (numbered_left l).after ≡ (numbered_left m).after
after_same l m gone = omega (arith, gone.first, ap length gone.lines, length-append gone.gone m.lines)

pub after_all : (l m : Left) → AreSkipped l m → (numbered_left l).after ≡ m.first
after_all l m skipped = omega (arith, after_same l m skipped.gone, ap length skipped.none)

skips_gone : (l m : Left) → Skips l m → AreGone l m
skips_gone l m skips = skips.gone

-- a line couldn't be read
pub numbered_failed : (r : Result (Option ℕ) InputFault) (fault : InputFault) (a b c : Place) → IsErrAnd r (λ e. e ≡ fault) → Passes Skips a b → IsLineRead (Err fault) b c
    → IsNumberedRead r a c
numbered_failed (Ok x) fault a b c is first failed = absurd is
numbered_failed (Err e) fault a b c is first failed = fault_then Skips a b c e skips_gone first (subst (λ (f : InputFault). IsReadingFault f b c) (sym is) failed)
