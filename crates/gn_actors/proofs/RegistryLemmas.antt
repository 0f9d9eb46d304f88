-- The registry of a run's actors: more numbers, one who goes out or comes home, and when all are home.
use Rattle.std.proofs.Common.{◌≡◌, ◌<◌, ◌+◌, ◌-◌, ℕ, List, [], ◌++◌, length, get_or, set, replicate, refl, sym, ◌∙◌, arith, inl, inr}
use mathlib.Core.List.{IsPrefix}
use Rattle.std.proofs.lemmas.Bool.{cases_eq, cases_lt}
use Rattle.std.proofs.lemmas.List.{get_or-append_right, get_or-replicate, get_or-set_other, get_or-set_same, get_or_append_left, length-append, length-replicate, length-set}
use Rattle.std.proofs.lemmas.List.Folds.{sum_by-replicate}
use Rattle.std.proofs.lemmas.List.Sums.{sum_by-append, sum_by-set}
use Rattle.gn_rules.specs.declared.receipt.Receipt.{Receipt}
use Rattle.gn_rules.specs.declared.receipt.Step.{Step}
use Rattle.gn_laws.specs.Owners.{AreFitting, FittingAreMine}
use Rattle.gn_actors.specs.Registry.{AreWhole, IsRegistry}
use Rattle.gn_actors.proofs.FitLemmas.{fit_longer}

-- who has no receipts fits
pub none_fit : {A : Type 0} (steps : List (Step A)) (a : ℕ) → AreFitting steps a []
none_fit steps a = record { stands = λ j r d below. absurd (omega (arith, below)); ascend = refl }

-- so many numbers more fit
pub grown_fit : {A : Type 0} (lists : List (List (Receipt A))) (seen : List (Step A)) (by : ℕ) → ((k : ℕ) → k < length lists → AreFitting seen k (get_or lists k []))
    → (k : ℕ) → k < length (lists ++ replicate by []) → AreFitting seen k (get_or (lists ++ replicate by []) k [])
grown_fit {A} lists seen by fit k below =
    let none : List (Receipt A) = [] in
    let long = length-append lists (replicate by none) in
    let more = length-replicate by none in
    elim (cases_lt k (length lists)) as (λ _. AreFitting seen k (get_or (lists ++ replicate by none) k [])) [
      | inl old ↦ rw (get_or_append_left lists (replicate by none) [] k old) (fit k old)
      | inr new ↦ rw (get_or-append_right lists (replicate by none) (length lists) k [] refl new, get_or-replicate by (k - length lists) none [] (omega (arith, below, long, more, new))) (none_fit seen k)
    ]

-- so many numbers more
pub grown : {A : Type 0} (all here amount out numbers numbers' by : ℕ) (lists lists' : List (List (Receipt A))) (seen : List (Step A)) → IsRegistry all here amount out numbers lists seen → numbers' ≡ numbers + by
    → lists' ≡ lists ++ replicate by [] → IsRegistry all here amount out numbers' lists' seen
grown {A} all here amount out numbers numbers' by lists lists' seen r e_numbers e_lists =
    let none : List (Receipt A) = [] in
    let long = length-append lists (replicate by none) in
    let more = length-replicate by none in
    let many = r.many in
    let sums = sum_by-append (λ (rs : List (Receipt A)). length rs) lists (replicate by none) in
    let nothing = sum_by-replicate (λ (rs : List (Receipt A)). length rs) by none in
    let sum = r.sum in
    rw e_lists (record {
      parts = r.parts;
      room = r.room;
      many = omega (arith, e_numbers, many, long, more);
      sum = omega (arith, sum, sums, nothing);
      fit = grown_fit lists seen by r.fit;
    })

-- one who is home fits, and so do those who were
pub home_fits : {A : Type 0} (lists : List (List (Receipt A))) (seen steps : List (Step A)) (number : ℕ) (receipts : List (Receipt A)) → ((k : ℕ) → k < length lists → AreFitting seen k (get_or lists k [])) → IsPrefix seen steps
    → AreFitting steps number receipts → (k : ℕ) → k < length (set lists number receipts) → AreFitting steps k (get_or (set lists number receipts) k [])
home_fits lists seen steps number receipts fit begun own k below =
    let long = length-set lists number receipts in
    let low : k < length lists = omega (arith, below, long) in
    elim (cases_eq k number) as (λ _. AreFitting steps k (get_or (set lists number receipts) k [])) [
      | inl same ↦ rw (same, get_or-set_same lists number receipts [] (omega (arith, low, same))) own
      | inr other ↦ rw (get_or-set_other lists number k receipts [] other) (fit_longer seen steps k (get_or lists k []) begun (fit k low))
    ]

-- one is home whose share is of as much as it has receipts
pub one_home : {A : Type 0} (all here here' amount amount' out out' numbers number : ℕ) (lists lists' : List (List (Receipt A))) (seen steps steps' : List (Step A)) (receipts : List (Receipt A))
    → IsRegistry all here amount out numbers lists seen → IsPrefix seen steps → AreFitting steps number receipts → number < length lists → get_or lists number [] ≡ [] → steps' ≡ steps → lists' ≡ set lists number receipts
    → here' ≡ here + 1 → amount' ≡ amount + length receipts → out' + 1 ≡ out → IsRegistry all here' amount' out' numbers lists' steps'
one_home {A} all here here' amount amount' out out' numbers number lists lists' seen steps steps' receipts r begun own low none e_steps e_lists e_here e_amount e_out =
    let long = length-set lists number receipts in
    let added = sum_by-set (λ (rs : List (Receipt A)). length rs) lists number receipts [] low in
    let was : length (get_or lists number []) ≡ 0 = rw none refl in
    let parts = r.parts in
    let room = r.room in
    let many = r.many in
    let sum = r.sum in
    rw (e_steps, e_lists) (record {
      parts = omega (arith, parts, e_here, e_out);
      room = (room.0, omega (arith, room.1, e_out));
      many = omega (arith, many, long);
      sum = omega (arith, sum, added, was, e_amount);
      fit = home_fits lists seen steps number receipts r.fit begun own;
    })

-- once all are home
pub closed_whole : (A : Type 0) → FittingAreMine A → (all here amount out numbers : ℕ) (lists : List (List (Receipt A))) (seen steps : List (Step A)) → IsRegistry all here amount out numbers lists seen → IsPrefix seen steps
    → amount ≡ length steps → AreWhole steps lists
closed_whole A law all here amount out numbers lists seen steps r begun total =
    let mine = law steps lists (λ a below. fit_longer seen steps a (get_or lists a []) begun (r.fit a below)) (sym r.sum ∙ total) in
    record { own = mine.0; only = mine.1 }
