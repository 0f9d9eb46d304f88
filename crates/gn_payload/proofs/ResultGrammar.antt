-- The reading of results is the grammar's.
use Rattle.std.proofs.Common.{◌≡◌, ℕ, zero, suc, ◌+◌, ◌-◌, ◌≤◌, List, [], ◌∷◌, ◌++◌, length, take, drop, Option, Some, None, unwrap_or, refl, sym, ap, ◌∙◌, arith, append_assoc}
use Rattle.std.proofs.lemmas.List.{take-append-drop, length-append, length-drop, length-take}
use Rattle.std.proofs.lemmas.Option.{some_pair_parts, same_Some, none-some, option_and_then_some}
use Rattle.std.proofs.Math.Seq.{take-append_seam, drop-append_seam}
use Rattle.gn_payload.specs.Fields.{ResultFields, number_at}
use Rattle.gn_payload.specs.Grammar.{IsResult, AreResults}
use Rattle.gn_payload.specs.Reading.{◌>>=◌, text_reading, result_reading, results_reading, results_in, AreJust}
use Rattle.gn_payload.proofs.ResultLemmas.{past}
use Rattle.gn_payload.proofs.Numbers.{same_number}
use Rattle.gn_payload.proofs.TextGrammar.{ended_read, read_ended}

-- a result's fields after its texts
abbrev made : List ℕ → List ℕ → List ℕ × List ℕ → ResultFields × List ℕ
made bytes name x = (record { file = number_at 4 0 bytes; size = number_at 4 4 bytes; name = name; extra = x.0 }, x.1)

abbrev extra_reading : List ℕ → List ℕ × List ℕ → Option (ResultFields × List ℕ)
extra_reading bytes name = text_reading name.1 >>= λ x. Some (made bytes name.0 x)

-- results with equal parts are equal
result_is : (a b c d : ℕ) (x y z w : List ℕ) → a ≡ b → c ≡ d → x ≡ y → z ≡ w
    → ◌≡◌ {A = ResultFields} (record { file = a; size = c; name = x; extra = z }) (record { file = b; size = d; name = y; extra = w })
result_is a b c d x y z w e1 e2 e3 e4 = rw (e1, e2, e3, e4) refl

-- a result of the grammar is read so
pub result_read : (bytes : List ℕ) (r : ResultFields) (rest : List ℕ) → IsResult bytes r rest → result_reading bytes ≡ Some (r, rest)
result_read bytes r rest h =
    let more = h.texts.0 in
    let name = ended_read (drop 8 bytes) r.name more h.texts.1 in
    let extra = ended_read more r.extra rest h.texts.2 in
    ap (λ (o : Option (List ℕ × List ℕ)). o >>= extra_reading bytes) name
    ∙ ap (λ (o : Option (List ℕ × List ℕ)). o >>= λ x. Some (made bytes r.name x)) extra
    ∙ ap (λ (x : ResultFields). Some (x, rest)) (result_is _ _ _ _ _ _ _ _ (sym h.file) (sym h.size) refl refl)

-- what is read is a result of the grammar
pub read_result : (bytes : List ℕ) (r : ResultFields) (rest : List ℕ) → result_reading bytes ≡ Some (r, rest) → IsResult bytes r rest
read_result bytes r rest e =
    option_and_then_some (extra_reading bytes) (text_reading (drop 8 bytes)) (r, rest) e (λ name name_is more_is.
    option_and_then_some (λ x. Some (made bytes name.0 x)) (text_reading name.1) (r, rest) more_is (λ extra extra_is whole_is.
    let parts = some_pair_parts _ r _ rest whole_is in
    let name_ends = read_ended (drop 8 bytes) name.0 name.1 name_is in
    let extra_ends = read_ended name.1 extra.0 extra.1 extra_is in
    rw (← parts.0, ← parts.1) (record { file = refl; size = refl; texts = (name.1, name_ends, extra_ends) })))

-- one result before others
abbrev with_first : ResultFields → List ResultFields × List ℕ → Option (List ResultFields × List ℕ)
with_first r others = Some (r ∷ others.0, others.1)

abbrev after : ℕ → ResultFields × List ℕ → Option (List ResultFields × List ℕ)
after n first = results_reading n first.1 >>= with_first first.0

-- results of the grammar are read so
pub results_read : (rs : List ResultFields) (bytes rest : List ℕ) → AreResults bytes rs rest → results_reading (length rs) bytes ≡ Some (rs, rest)
results_read [] bytes rest h = ap (λ (xs : List ℕ). Some ([], xs)) h
results_read (r ∷ rs) bytes rest h =
    let first = result_read bytes r h.0 h.1 in
    let others = results_read rs h.0 rest h.2 in
    ap (λ (o : Option (ResultFields × List ℕ)). o >>= after (length rs)) first
    ∙ ap (λ (o : Option (List ResultFields × List ℕ)). o >>= with_first r) others

-- what is read are results of the grammar
pub read_results : (n : ℕ) (bytes : List ℕ) (rs : List ResultFields) (rest : List ℕ) → results_reading n bytes ≡ Some (rs, rest)
    → (length rs ≡ n) × AreResults bytes rs rest
read_results zero bytes rs rest e =
    let parts = some_pair_parts [] rs bytes rest e in
    rw (← parts.0) (refl, parts.1)
read_results (suc n) bytes rs rest e =
    option_and_then_some (after n) (result_reading bytes) (rs, rest) e (λ first first_is others_are.
    option_and_then_some (with_first first.0) (results_reading n first.1) (rs, rest) others_are (λ others others_is whole_is.
    let parts = some_pair_parts (first.0 ∷ others.0) rs others.1 rest whole_is in
    let one = read_result bytes first.0 first.1 first_is in
    let more = read_results n first.1 others.0 others.1 others_is in
    rw (← parts.0, ← parts.1) (ap suc more.0, (first.1, one, more.1))))

-- a result without what follows the rest
result_cut : (bytes : List ℕ) (r : ResultFields) (head rest : List ℕ) → IsResult bytes r (head ++ rest)
    → (whole : List ℕ) × (bytes ≡ whole ++ rest) × IsResult whole r head
result_cut bytes r head rest h =
    let texts = r.name ++ 0 ∷ (r.extra ++ 0 ∷ head) in
    let whole = take 8 bytes ++ texts in
    let name = h.texts.1 in
    let extra = h.texts.2 in
    let joined : drop 8 bytes ≡ texts ++ rest =
    name.encoded ∙ ap (λ (xs : List ℕ). r.name ++ 0 ∷ xs) extra.encoded ∙ simp append_assoc in
    let long : 8 ≤ length bytes = omega (arith, length-drop 8 bytes, length-append r.name (0 ∷ h.texts.0), ap length name.encoded) in
    let eight : length (take 8 bytes) ≡ 8 = length-take 8 bytes ∙ omega arith in
    let seam : take 8 whole ≡ take 8 bytes = ap (λ (n : ℕ). take n whole) (sym eight) ∙ take-append_seam (take 8 bytes) texts in
    let back : drop 8 whole ≡ texts = ap (λ (n : ℕ). drop n whole) (sym eight) ∙ drop-append_seam (take 8 bytes) texts in
    let encoded : bytes ≡ whole ++ rest =
    sym (take-append-drop 8 bytes) ∙ ap (λ (xs : List ℕ). take 8 bytes ++ xs) joined ∙ sym (append_assoc (take 8 bytes) texts rest) in (
      whole,
      encoded,
      record {
        file = h.file ∙ same_number 4 0 8 bytes whole (omega arith) (sym seam);
        size = h.size ∙ same_number 4 4 8 bytes whole (omega arith) (sym seam);
        texts = (r.extra ++ 0 ∷ head, record { encoded = back; nonzero = name.nonzero }, record { encoded = refl; nonzero = extra.nonzero });
      },
    )

-- results without what follows them
pub results_cut : (rs : List ResultFields) (bytes rest : List ℕ) → AreResults bytes rs rest
    → (whole : List ℕ) × (bytes ≡ whole ++ rest) × AreResults whole rs []
results_cut [] bytes rest h = ([], h, refl)
results_cut (r ∷ rs) bytes rest h =
    let more = results_cut rs h.0 rest h.2 in
    let first : IsResult bytes r (more.0 ++ rest) = rw (← more.1) h.1 in
    let one = result_cut bytes r more.0 rest first in
    (one.0, one.1, (more.0, one.2, more.2))

-- the head of bytes that begin with so many results, up to what follows them, is just these results
pub results_split : (n : ℕ) (bytes rest : List ℕ) (rs : List ResultFields) → results_reading n bytes ≡ Some (rs, rest)
    → let head = take (length bytes - length rest) bytes in (length rest ≤ length bytes) × AreJust n head × (rs ≡ results_in n head)
results_split n bytes rest rs e =
    let read = read_results n bytes rs rest e in
    let cut = results_cut rs bytes rest read.1 in
    let whole = cut.0 in
    let lengths : length bytes ≡ length whole + length rest = ap length cut.1 ∙ length-append whole rest in
    let sized : length bytes - length rest ≡ length whole = omega arith in
    let head_is : take (length bytes - length rest) bytes ≡ whole =
    ap (λ (k : ℕ). take k bytes) sized ∙ ap (λ (xs : List ℕ). take (length whole) xs) cut.1 ∙ take-append_seam whole rest in
    let head = take (length bytes - length rest) bytes in
    let just : results_reading n head ≡ Some (rs, []) =
    ap (λ (xs : List ℕ). results_reading n xs) head_is ∙ ap (λ (k : ℕ). results_reading k whole) (sym read.0) ∙ results_read rs whole [] cut.2 in
    let those : results_in n head ≡ rs = ap (λ (o : Option (List ResultFields × List ℕ)). (unwrap_or o ([], [])).0) just in
    (omega arith, just ∙ ap (λ (xs : List ResultFields). Some (xs, [])) (sym those), sym those)

-- the same by what follows the results alone
split_of : (n : ℕ) (bytes rest : List ℕ) (o : Option (List ResultFields × List ℕ)) → results_reading n bytes ≡ o → past o ≡ Some rest
    → let head = take (length bytes - length rest) bytes in (length rest ≤ length bytes) × AreJust n head × (results_reading n bytes ≡ Some (results_in n head, rest))
split_of n bytes rest None is e = absurd (none-some _ e)
split_of n bytes rest (Some x) is e =
    let rest_is : x.1 ≡ rest = same_Some x.1 rest e in
    let read : results_reading n bytes ≡ Some (x.0, rest) = is ∙ ap (λ (xs : List ℕ). Some (x.0, xs)) rest_is in
    let split = results_split n bytes rest x.0 read in
    (split.0, split.1, read ∙ ap (λ (rs : List ResultFields). Some (rs, rest)) split.2)

pub split_past : (n : ℕ) (bytes rest : List ℕ) → past (results_reading n bytes) ≡ Some rest
    → let head = take (length bytes - length rest) bytes in (length rest ≤ length bytes) × AreJust n head × (results_reading n bytes ≡ Some (results_in n head, rest))
split_past n bytes rest e = split_of n bytes rest (results_reading n bytes) refl e

-- bytes that are just so many results encode them
pub just_are : (n : ℕ) (bytes : List ℕ) → AreJust n bytes → (length (results_in n bytes) ≡ n) × AreResults bytes (results_in n bytes) []
just_are n bytes just = read_results n bytes (results_in n bytes) [] just
