-- So many results, and what follows them.
use Rattle.std.proofs.Common.{◌≡◌, ℕ, zero, suc, ◌+◌, ◌-◌, ◌<◌, List, [], ◌∷◌, Option, Some, None, option_map, unwrap_or, refl, sym, ap, ◌∙◌, arith}
use Rattle.std.proofs.lemmas.Option.{none-some}
use Rattle.gn_payload.specs.Fields.{ResultFields}
use Rattle.gn_payload.specs.Reading.{◌>>=◌, result_reading, results_reading, results_in, AreJust}

-- results, and what follows them
abbrev pub Read : Type 0
Read = Option (List ResultFields × List ℕ)

-- one result before
abbrev with_first : ResultFields → Read → Read
with_first r o = o >>= λ x. Some (r ∷ x.0, x.1)

-- the results after the first
abbrev after : ℕ → Option (ResultFields × List ℕ) → Read
after n o = o >>= λ x. with_first x.0 (results_reading n x.1)

-- what follows the results
abbrev pub past : Read → Option (List ℕ)
past o = option_map (λ x. x.1) o

-- one result before doesn't change what follows
past_first : (r : ResultFields) (o : Read) → past (with_first r o) ≡ past o
past_first r None = refl
past_first r (Some x) = refl

-- what follows one result more
pub past_more : (n : ℕ) (bytes : List ℕ) (r : ResultFields) (rest : List ℕ) → result_reading bytes ≡ Some (r, rest)
    → past (results_reading (suc n) bytes) ≡ past (results_reading n rest)
past_more n bytes r rest e =
    ap (λ (o : Option (ResultFields × List ℕ)). past (after n o)) e ∙ past_first r (results_reading n rest)

-- the same, counted down
pub past_step : (count i : ℕ) (bytes : List ℕ) (r : ResultFields) (rest : List ℕ) → i < count → result_reading bytes ≡ Some (r, rest)
    → past (results_reading (count - (i + 1)) rest) ≡ past (results_reading (count - i) bytes)
past_step count i bytes r rest h e =
    let n : count - i ≡ suc (count - (i + 1)) = omega arith in
    sym (ap (λ (k : ℕ). past (results_reading k bytes)) n ∙ past_more (count - (i + 1)) bytes r rest e)

-- where the first result isn't one, there are no so many
pub past_none : (n : ℕ) (bytes : List ℕ) → 0 < n → result_reading bytes ≡ None → past (results_reading n bytes) ≡ None
past_none zero bytes h e = absurd (omega arith)
past_none (suc n) bytes h e = ap (λ (o : Option (ResultFields × List ℕ)). past (after n o)) e

-- the results of an option
abbrev those : Read → List ResultFields
those o = (unwrap_or o ([], [])).0

just_first : (r : ResultFields) (o : Read) (rs : List ResultFields) → with_first r o ≡ Some (rs, [])
    → (o ≡ Some (those o, [])) × (rs ≡ r ∷ those o)
just_first r None rs e = (cc, cc)
just_first r (Some (qs, rest)) rs e =
    let both : (r ∷ qs, rest) ≡ (rs, []) = ap (λ (o : Read). unwrap_or o ([], [])) e in
    let head : r ∷ qs ≡ rs = ap (λ (x : List ResultFields × List ℕ). x.0) both in
    let back : rest ≡ [] = ap (λ (x : List ResultFields × List ℕ). x.1) both in
    (ap (λ (t : List ℕ). Some (qs, t)) back, sym head)

-- of bytes that are just results, the first is a result, and what follows are just the others
pub just_more : (n m : ℕ) (bytes : List ℕ) (r : ResultFields) (rest : List ℕ) → n ≡ suc m → AreJust n bytes → result_reading bytes ≡ Some (r, rest)
    → AreJust m rest × (results_in n bytes ≡ r ∷ results_in m rest)
just_more n m bytes r rest h just e =
    just_first r (results_reading m rest) (results_in n bytes)
    (sym (ap (λ (o : Option (ResultFields × List ℕ)). after m o) e) ∙ ap (λ (k : ℕ). results_reading k bytes) (sym h) ∙ just)

-- where nothing follows, nothing is read
pub past_nothing : (o : Read) → past o ≡ None → o ≡ None
past_nothing None e = refl
past_nothing (Some x) e = absurd (none-some _ (sym e))
