-- The three lines that a text begins with, one after another.
use Rattle.std.proofs.Common.{◌≡◌, ℕ, List, [], ◌∷◌, refl, Some, None, Ok, Err}
use Rattle.gn_rules.specs.declared.config.Own.{Own}
use Rattle.gn_text.specs.Lines.{fields_of}
use Rattle.gn_numbers.specs.declared.causes.Cause.TheVariants as cause
use Rattle.gn_text.specs.Faults.{fault_at}
use Rattle.gn_text.specs.Header.{config_from, header_of, own_from}
use Rattle.gn_rules.specs.declared.limits.Numbers.{Numbers}
use Rattle.gn_text.specs.Settings.{config_of, own_of}
use Rattle.gn_numbers.specs.declared.titles.Text.{Text}
use Rattle.gn_numbers.specs.declared.version.Version.{Version}
use Rattle.gn_numbers.specs.Names.{version_of}

pub own_read : (numbers : Numbers) (after n : ℕ) (text : List ℕ) (lines more : List (ℕ × List ℕ)) (own : Own) → lines ≡ (n, text) ∷ more
    → own_of (fields_of text) ≡ Some own → own_from numbers after lines ≡ Ok ((numbers, own), more)
own_read numbers after n text lines more own is says = rw (is, says) refl

pub own_refused : (numbers : Numbers) (after n : ℕ) (text : List ℕ) (lines more : List (ℕ × List ℕ)) → lines ≡ (n, text) ∷ more
    → own_of (fields_of text) ≡ None → own_from numbers after lines ≡ Err (fault_at n cause.Own)
own_refused numbers after n text lines more is says = rw (is, says) refl

pub own_missing : (numbers : Numbers) (after : ℕ) (lines : List (ℕ × List ℕ)) → lines ≡ [] → own_from numbers after lines ≡ Err (fault_at after cause.Own)
own_missing numbers after lines is = rw is refl

pub config_read : (version : Version) (after n : ℕ) (text : List ℕ) (lines more : List (ℕ × List ℕ)) (numbers : Numbers) → lines ≡ (n, text) ∷ more
    → config_of version (fields_of text) ≡ Some numbers → config_from version after lines ≡ own_from numbers after more
config_read version after n text lines more numbers is says = rw (is, says) refl

pub config_refused : (version : Version) (after n : ℕ) (text : List ℕ) (lines more : List (ℕ × List ℕ)) → lines ≡ (n, text) ∷ more
    → config_of version (fields_of text) ≡ None → config_from version after lines ≡ Err (fault_at n cause.Config)
config_refused version after n text lines more is says = rw (is, says) refl

pub config_missing : (version : Version) (after : ℕ) (lines : List (ℕ × List ℕ)) → lines ≡ [] → config_from version after lines ≡ Err (fault_at after cause.Config)
config_missing version after lines is = rw is refl

pub title_read : (text : Text) (after n : ℕ) (line : List ℕ) (lines more : List (ℕ × List ℕ)) (version : Version) → lines ≡ (n, line) ∷ more
    → version_of text line ≡ Some version → header_of text after lines ≡ config_from version after more
title_read text after n line lines more version is says = rw (is, says) refl

pub title_other : (text : Text) (after n : ℕ) (line : List ℕ) (lines more : List (ℕ × List ℕ)) → lines ≡ (n, line) ∷ more → version_of text line ≡ None
    → header_of text after lines ≡ Err (fault_at n cause.Header)
title_other text after n line lines more is says = rw (is, says) refl

pub title_missing : (text : Text) (after : ℕ) (lines : List (ℕ × List ℕ)) → lines ≡ [] → header_of text after lines ≡ Err (fault_at after cause.Header)
title_missing text after lines is = rw is refl
