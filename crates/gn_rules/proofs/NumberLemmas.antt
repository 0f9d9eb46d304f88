-- Numbers that count up.
use Rattle.std.proofs.Common.{◌≡◌, ℕ, ◌+◌, ◌<◌, ◌==◌, true, false, get_or, List, [], ◌∷◌, ◌++◌, length, refl, sym, ap, ◌∙◌, arith, length-append}
use Rattle.std.proofs.Math.ListN.{get_or-append}
use Rattle.std.proofs.Math.Seq.{get_or-append_seam}
use Rattle.std.proofs.lemmas.Grind.{common_steps}
use Rattle.std.proofs.lemmas.Map.Views.{exact_unsigned_eq}

-- numbers that count up from the first
abbrev pub AreCounted : ℕ → List ℕ → Type 0
AreCounted first ns = (k : ℕ) → k < length ns → get_or ns k 0 ≡ first + k

-- one more, which is the next
pub counted_more : (first n : ℕ) (ns : List ℕ) → AreCounted first ns → n ≡ first + length ns → AreCounted first (ns ++ n ∷ [])
counted_more first n ns counted next k within =
    let longer = length-append ns (n ∷ []) in
    elim (k == length ns) as (λ b. (k == length ns) ≡ b → get_or (ns ++ n ∷ []) k 0 ≡ first + k) [
      | true ↦ λ e.
          let last : k ≡ length ns = exact_unsigned_eq k (length ns) e in
          ap (λ i. get_or (ns ++ n ∷ []) i 0) last ∙ get_or-append_seam ns n [] 0 ∙ next ∙ ap (λ i. first + i) (sym last)
      | false ↦ λ e.
          let inside : k < length ns = grind (arith, common_steps, within, longer, e) in
          get_or-append ns (n ∷ []) 0 k inside ∙ counted k inside
    ] refl
