-- A number is read from its own bytes alone.
use Rattle.std.proofs.Common.{◌≡◌, ℕ, ◌+◌, ◌-◌, ◌≤◌, List, take, drop, sym, ap, ◌∙◌, arith}
use Rattle.std.proofs.lemmas.List.{drop-take}
use Rattle.byteorder.specs.Endian.{little_number}
use Rattle.byteorder.specs.Numbers.{little_from-take}
use Rattle.gn_payload.specs.Fields.{number_at}

-- a number is the same in any bytes that begin with its own
pub number_first : (width place n : ℕ) (bytes : List ℕ) → place + width ≤ n → number_at width place bytes ≡ number_at width place (take n bytes)
number_first width place n bytes h =
    let cut : n ≡ place + (n - place) = omega arith in
    sym (ap (λ (k : ℕ). little_number width (drop place (take k bytes))) cut
    ∙ ap (λ (xs : List ℕ). little_number width xs) (drop-take place (n - place) bytes)
    ∙ little_from-take 0 width (n - place) (drop place bytes) (omega arith))

-- lists with the same first bytes have the same number there
pub same_number : (width place n : ℕ) (xs ys : List ℕ) → place + width ≤ n → take n xs ≡ take n ys → number_at width place xs ≡ number_at width place ys
same_number width place n xs ys h e =
    number_first width place n xs h ∙ ap (λ (zs : List ℕ). number_at width place zs) e ∙ sym (number_first width place n ys h)
