-- A Query of the local servent is refused just where its bytes aren't a text.
use Rattle.std.proofs.Common.{◌≡◌, ℕ, ◌+◌, List, [], length, refl, Bool, true, false, arith, Option, Some, None}
use Rattle.std.specs.Prelude.{nat_le, nat_lt, not, ◌&&◌, if◌then◌else◌}
use Rattle.std.proofs.lemmas.Bool.Decides.{nat_tests}
use Rattle.std.proofs.lemmas.Grind.{common_steps}
use Rattle.gn_payload.specs.declared.refusal.WriteRefusal.{WriteRefusal}
use Rattle.gn_payload.specs.declared.refusal.WriteRefusal.TheVariants.{ZeroInText, TooLong}
use Rattle.gn_payload.specs.Fields.{QueryFields}
use Rattle.gn_payload.specs.Refusals.{has_zero, query_refusal}
use Rattle.gn_payload.specs.Encoding.{query_bytes}
use Rattle.gn_capture.specs.Requests.{is_text}

-- a Query with no tail
abbrev pub untailed : ℕ → List ℕ → QueryFields
untailed speed text = record { speed = speed; text = text; tail = [] }

query_size : (speed : ℕ) (text : List ℕ) → length (query_bytes (untailed speed text)) ≡ length text + 3
query_size speed text = grind (arith, common_steps)

cases : (zero : Bool) (n : ℕ) (r : Option WriteRefusal) → (if zero then Some ZeroInText else if nat_lt 65536 (n + 3) then Some TooLong else None) ≡ None
    → (not zero && nat_le n 65533) ≡ true
cases true n r e = absurd cc
cases false n r e = grind (arith, nat_tests)

against : (zero : Bool) (n : ℕ) (r : WriteRefusal) → (if zero then Some ZeroInText else if nat_lt 65536 (n + 3) then Some TooLong else None) ≡ Some r
    → (not zero && nat_le n 65533) ≡ false
against true n r e = refl
against false n r e = grind (arith, nat_tests)

pub text_written : (speed : ℕ) (text : List ℕ) → query_refusal (untailed speed text) ≡ None → is_text text ≡ true
text_written speed text h = cases (has_zero text) (length text) None (rw (query_size speed text) at h)

pub text_refused : (speed : ℕ) (text : List ℕ) (r : WriteRefusal) → query_refusal (untailed speed text) ≡ Some r → is_text text ≡ false
text_refused speed text r h = against (has_zero text) (length text) r (rw (query_size speed text) at h)
