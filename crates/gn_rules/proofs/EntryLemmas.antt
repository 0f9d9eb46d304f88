-- Entries that are looked for by their key, where another is taken out.
use Rattle.std.proofs.Common.{◌≡◌, ℕ, suc, Bool, true, false, cond, nat_lt, List, [], ◌∷◌, Some, refl, sym, ap, ◌∙◌, arith}
use Rattle.std.specs.Map.{lookup, remove_entry}
use Rattle.std.proofs.lemmas.Grind.{common_steps}
use lib.Pointwise.{bytes_decides}
use Rattle.gn_wire.specs.declared.kind.Guid.{Guid}
use Rattle.gn_wire.specs.Keys.{is_same_id}

pub below_zero : (n : ℕ) → nat_lt n 0 ≡ false
below_zero n = grind (arith, common_steps)

pub below_more : (n m : ℕ) → nat_lt (suc n) (suc m) ≡ nat_lt n m
below_more n m = grind (arith, common_steps)

pub zero_below : (m : ℕ) → nat_lt 0 (suc m) ≡ true
zero_below m = grind (arith, common_steps)

-- an entry of another key is found as before
pub lookup_removed : {K X : Type 0} (t w : K → Bool) → ((k : K) → w k ≡ true → t k ≡ false) → (es : List (K × X)) → lookup t (remove_entry w es) ≡ lookup t es
lookup_removed t w apart [] = refl
lookup_removed t w apart (e ∷ es) =
    elim (w e.0) as (λ b. w e.0 ≡ b → lookup t (cond b es (e ∷ remove_entry w es)) ≡ cond (t e.0) (Some e.1) (lookup t es)) [
      | true ↦ λ h. sym (ap (λ b. cond b (Some e.1) (lookup t es)) (apart e.0 h))
      | false ↦ λ h. ap (cond (t e.0) (Some e.1)) (lookup_removed t w apart es)
    ] refl

-- what is y isn't x, where the two differ
pub ids_apart : (x y : Guid) → is_same_id x y ≡ false → (k : Guid) → is_same_id y k ≡ true → is_same_id x k ≡ false
ids_apart x y other k same = ap (λ id. is_same_id x (record { 0 = id })) (sym ((bytes_decides y.0 k.0).0 same)) ∙ other
