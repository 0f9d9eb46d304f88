-- Fields with a space before each, and the fields of such a line.
use Rattle.std.proofs.Common.{◌≡◌, ℕ, List, [], ◌∷◌, ◌++◌, get_or, Bool, true, false, refl, ap, ◌∙◌, arith, append-nil}
use Rattle.std.specs.Prelude.{◌==◌, ◌&&◌, nat_lt, not}
use Rattle.std.specs.Char.{is_ascii_digit}
use Rattle.std.specs.List.{flat_map, list_all, All, AllByRecursion}
use Rattle.std.proofs.lemmas.Bool.{and_parts}
use Rattle.std.proofs.lemmas.Bool.Decides.{nat_tests}
use Rattle.std.proofs.lemmas.List.Folds.{list_all-append}
use Rattle.std.proofs.lemmas.List.Splits.{slice_split_at, slice_split_none}
use Rattle.std.proofs.lemmas.List.Sums.{AllPass-from_list_all}
use Rattle.gn_text.specs.Lines.{fields_of}

-- a byte that neither parts fields nor ends a line
abbrev pub is_plain : ℕ → Bool
is_plain b = nat_lt 32 b

-- a field of such bytes
abbrev pub IsPlain : List ℕ → Type 0
IsPlain field = list_all is_plain field ≡ true

-- a text without a line feed
abbrev pub IsLine : List ℕ → Type 0
IsLine line = list_all (λ b. not (b == 10)) line ≡ true

-- fields with a space before each
abbrev pub tail_text : List (List ℕ) → List ℕ
tail_text fields = flat_map (λ field. 32 ∷ field) fields

both : (a b : Bool) → a ≡ true → b ≡ true → (a && b) ≡ true
both a b e f = rw (e, f) refl

-- what passes one test passes a weaker one
pub weaker : (p q : ℕ → Bool) → ((x : ℕ) → p x ≡ true → q x ≡ true) → (ds : List ℕ) → list_all p ds ≡ true → list_all q ds ≡ true
weaker p q w [] h = refl
weaker p q w (x ∷ xs) h =
    let parts = and_parts (p x) (list_all p xs) h in both (q x) (list_all q xs) (w x parts.0) (weaker p q w xs parts.1)

pub all_append : (p : ℕ → Bool) (xs ys : List ℕ) → list_all p xs ≡ true → list_all p ys ≡ true → list_all p (xs ++ ys) ≡ true
all_append p xs ys h k = list_all-append p xs ys ∙ both (list_all p xs) (list_all p ys) h k

pub fields_append : (xs ys : List (List ℕ)) → AllByRecursion IsPlain xs → AllByRecursion IsPlain ys → AllByRecursion IsPlain (xs ++ ys)
fields_append [] ys h k = k
fields_append (x ∷ xs) ys h k = (h.0, fields_append xs ys h.1 k)

digit_plain : (x : ℕ) → is_ascii_digit x ≡ true → is_plain x ≡ true
digit_plain x h = grind (arith, nat_tests)

pub digits_plain : (ds : List ℕ) → list_all is_ascii_digit ds ≡ true → IsPlain ds
digits_plain ds h = weaker is_ascii_digit is_plain digit_plain ds h

plain_line : (x : ℕ) → is_plain x ≡ true → not (x == 10) ≡ true
plain_line x h = grind (arith, nat_tests)

pub line_of_plain : (ds : List ℕ) → IsPlain ds → IsLine ds
line_of_plain ds h = weaker is_plain (λ b. not (b == 10)) plain_line ds h

pub tail_line : (xs : List (List ℕ)) → AllByRecursion IsPlain xs → IsLine (tail_text xs)
tail_line [] h = refl
tail_line (x ∷ xs) h = all_append (λ b. not (b == 10)) (32 ∷ x) (tail_text xs) (line_of_plain x h.0) (tail_line xs h.1)

pub spaced_line : (x : List ℕ) (xs : List (List ℕ)) → IsPlain x → AllByRecursion IsPlain xs → IsLine (x ++ tail_text xs)
spaced_line x xs h k = all_append (λ b. not (b == 10)) x (tail_text xs) (line_of_plain x h) (tail_line xs k)

no_space : (x : ℕ) → is_plain x ≡ true → (x == 32) ≡ false
no_space x h = grind (arith, nat_tests)

without_space : (ds : List ℕ) → IsPlain ds → All (λ x. (x == 32) ≡ false) ds
without_space ds h = λ k d lt. no_space (get_or ds k d) (AllPass-from_list_all is_plain ds h k d lt)

-- the fields of a line are those that were written with a space before each but the first
pub fields_again : (x : List ℕ) (xs : List (List ℕ)) → IsPlain x → AllByRecursion IsPlain xs → fields_of (x ++ tail_text xs) ≡ x ∷ xs
fields_again x [] h k = ap fields_of (append-nil x) ∙ slice_split_none (λ b. b == 32) x (without_space x h)
fields_again x (y ∷ ys) h k =
    slice_split_at (λ b. b == 32) x 32 (y ++ tail_text ys) (without_space x h) refl ∙ ap (λ (r : List (List ℕ)). x ∷ r) (fields_again y ys k.0 k.1)
