-- What parse reads of digits.
use Rattle.std.proofs.Common.{◌≡◌, ℕ, ◌<◌, ◌≤◌, ◌^◌, List, length, refl, true, false, arith, rules, Result, Ok, Err, Some, None, ap, ◌∙◌}
use Rattle.std.specs.Char.{is_ascii_digit}
use Rattle.std.specs.List.{list_all}
use Rattle.std.specs.Result.{result_ok, OkIff}
use Rattle.std.specs.Str.{IsUtf8}
use Rattle.std.specs.Str.Parse.{digits_value, ParsesUnsigned}
use Rattle.std.proofs.lemmas.Str.Parse.{IsNumeralModel, numerals_by_value, parse_digits}
use Rattle.std.proofs.lemmas.Str.{IsUtf8-from_ascii}
use Rattle.std.proofs.lemmas.Fmt.{IsAscii-from_digits}
use Rattle.std.proofs.lemmas.Grind.{common_steps}
use Rattle.std.specs.Prelude.{Bool, if◌then◌else◌, ◌&&◌, nat_lt}
use Rattle.std.proofs.lemmas.Bool.Decides.{nat_tests}
use Rattle.gn_numbers.specs.Numbers.{number_of, is_numeral}

pub own : IsNumeralModel (λ ds. list_all is_ascii_digit ds ≡ true) (digits_value 10)
own = numerals_by_value _ (search rules)

pub digits_are_text : (field : List ℕ) → list_all is_ascii_digit field ≡ true → IsUtf8 field
digits_are_text field h = IsUtf8-from_ascii field (IsAscii-from_digits field (own.to field h))

pub fits : (b : Bool) (v : ℕ) → b ≡ true → v < 2 ^ 32 → Some v ≡ (if b && nat_lt v (2 ^ 32) then Some v else None)
fits b v h k = grind (arith, common_steps, nat_tests)

exceeds : (b : Bool) (v : ℕ) → (v < 2 ^ 32 → ⊥) → None ≡ (if b && nat_lt v (2 ^ 32) then Some v else None)
exceeds true v k = grind (arith, common_steps, nat_tests)
exceeds false v k = refl

number_cases : {E : Type 0} (field : List ℕ) (r : Result ℕ E) → is_numeral field ≡ true → 0 < length field
    → OkIff r ((0 < length field) × (digits_value 10 field < 2 ^ 32)) (digits_value 10 field) → result_ok r ≡ number_of field
number_cases field (Ok x) h l k = ap Some k.1 ∙ fits (is_numeral field) (digits_value 10 field) h k.0.1
number_cases field (Err e) h l k = exceeds (is_numeral field) (digits_value 10 field) (λ small. k (l, small))

pub number_read : {E : Type 0} (field : List ℕ) (r : Result ℕ E) → is_numeral field ≡ true → 0 < length field → list_all is_ascii_digit field ≡ true
    → ParsesUnsigned 32 10 field r → result_ok r ≡ number_of field
number_read field r h l d k = number_cases field r h l (parse_digits own 32 field r k d)

pub numeral_is : (field : List ℕ) → 0 < length field → length field ≤ 10 → list_all is_ascii_digit field ≡ true → is_numeral field ≡ true
numeral_is field h k d = grind (arith, common_steps, nat_tests)
