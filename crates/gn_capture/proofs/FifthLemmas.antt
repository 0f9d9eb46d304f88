-- The first line of a capture, by its version.
use Rattle.std.proofs.Common.{◌≡◌, ℕ, true, false, List, [], ◌∷◌, refl, Err}
use Rattle.gn_numbers.specs.declared.version.Version.TheVariants.{Third}
use Rattle.gn_numbers.specs.declared.causes.Cause.TheVariants as cause
use Rattle.gn_numbers.specs.declared.titles.Text.TheVariants as text
use Rattle.gn_text.specs.Faults.{fault_at}
use Rattle.gn_text.specs.Header.{config_from, header_of}
use Rattle.gn_text.specs.Lines.{is_word}
use Rattle.gn_capture.specs.Captures.{fifth_title, has_all, header_from}

pub titled : (n : ℕ) (title : List ℕ) (lines more : List (ℕ × List ℕ)) → lines ≡ (n, title) ∷ more → has_all lines ≡ is_word title fifth_title
titled n title lines more is = rw is refl

pub untitled : (lines : List (ℕ × List ℕ)) → lines ≡ [] → has_all lines ≡ false
untitled lines is = rw is refl

pub earlier_read : (after : ℕ) (lines : List (ℕ × List ℕ)) → has_all lines ≡ false → header_from after lines ≡ header_of text.Capture after lines
earlier_read after [] e = refl
earlier_read after (title ∷ more) e = rw e refl

pub fifth_read : (after n : ℕ) (title : List ℕ) (lines more : List (ℕ × List ℕ)) → lines ≡ (n, title) ∷ more → has_all lines ≡ true
    → header_from after lines ≡ config_from Third after more
fifth_read after n title lines more is e =
    let five : is_word title fifth_title ≡ true = rw is at e in
    rw (is, five) refl

pub title_missing : (after : ℕ) (lines : List (ℕ × List ℕ)) → lines ≡ [] → header_from after lines ≡ Err (fault_at after cause.Header)
title_missing after lines is = rw is refl
