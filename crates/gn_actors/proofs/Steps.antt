-- The ghost steps of a list that only grows. Assumes `Logic`.
use Rattle.std.proofs.Common.{◌≡◌, ℕ, List, [], ◌∷◌, ◌++◌, map, refl, ap, ◌∙◌}
use mathlib.Core.List.{IsPrefix, cons≢nil}
use seplogic.Ra.Ura.{Ura}
use base.Fraction.{full_share}
use base.Stored.{Gv, Coded}
use base.Logic.{SProp, ent, sep, ex, guard, upd, emp, via}
use base.Fml.{Fml}
use base.Growing.{latest, at_least}
use base.Shift.{Keyless}
use types.Logic.{Logic, sem}
use types.Owned.{basic}
use types.Growing.{latest_new, latest_grows, latest_shows, latest_bounds, at_least_dup}
use types.Kit.{‵, ◌⊛◌, given, later, ◌$◌, ◌∵◌, !, qed, keep, split, learn, check, done, use1, use2, updating, await, now}
use Rattle.gn_actors.specs.Growing.{logs, growing_owns, beginning_owns}

module _ {T : Type 0} (cv : Coded T) where
  abbrev head : Gv → List Gv → Gv
  head d [] = d
  head d (g ∷ gs) = g

  abbrev tail : List Gv → List Gv
  tail [] = []
  tail (g ∷ gs) = gs

  uncoded : (xs ys : List T) (t : List Gv) → map cv.code xs ++ t ≡ map cv.code ys → IsPrefix xs ys
  uncoded [] ys t e = (ys, refl)
  uncoded (x ∷ xs) [] t e = absurd (cons≢nil e)
  uncoded (x ∷ xs) (y ∷ ys) t e = let r = uncoded xs ys t (ap tail e) in (r.0, λ i. cv.inj x y (ap (head (cv.code x)) e) i ∷ r.1 i)

  prefix_out : (xs ys : List T) → IsPrefix (map cv.code xs) (map cv.code ys) → IsPrefix xs ys
  prefix_out xs ys p = uncoded xs ys p.0 p.1

  joined_codes : (xs t : List T) → map cv.code xs ++ map cv.code t ≡ map cv.code (xs ++ t)
  joined_codes [] t = refl
  joined_codes (x ∷ xs) t = ap (λ (gs : List Gv). cv.code x ∷ gs) (joined_codes xs t)

  prefix_in : (xs ys : List T) → IsPrefix xs ys → IsPrefix (map cv.code xs) (map cv.code ys)
  prefix_in xs ys p = (map cv.code p.0, joined_codes xs p.0 ∙ ap (map cv.code) p.1)

module _ {M : Type 1} {𝓤 : Ura M} (𝓛 : Logic 𝓤) {T : Type 0} (cv : Coded T) where
  open 𝓛 use {H}

  abbrev Pr : Type 2
  Pr = SProp 𝓤

  abbrev ◌⊢◌ : Pr → Pr → Type 1
  P ⊢ Q = ent 𝓤 P Q

  abbrev ◌∗◌ : Pr → Pr → Pr
  P ∗ Q = sep 𝓤 P Q

  abbrev ⟦◌⟧ : Fml → Pr
  ⟦ P ⟧ = sem 𝓛 P

  infix 26 ◌⊢◌
  infixr 35 ◌∗◌
  abbrev top : ℕ → List T → Fml
  top γ items = growing_owns cv.code γ items

  abbrev had : ℕ → List T → Fml
  had γ items = beginning_owns cv.code γ items

  pub begins : emp 𝓤 ⊢ H.⇛ (ex 𝓤 (λ (γ : ℕ). ⟦ top γ [] ⟧))
  unfolding growing_owns
  begins = via 𝓤 _ (latest_new logs 𝓛 []) (basic 𝓛 _)

  pub shows : (γ : ℕ) (items : List T) → ⟦ top γ items ⟧ ⊢ ⟦ top γ items ⟧ ∗ ⟦ had γ items ⟧
  unfolding growing_owns beginning_owns
  shows γ items = latest_shows logs 𝓛 full_share γ (map cv.code items) (map cv.code items) (logs.same (map cv.code items))

  pub twice : (γ : ℕ) (items : List T) → ⟦ had γ items ⟧ ⊢ ⟦ had γ items ⟧ ∗ ⟦ had γ items ⟧
  unfolding beginning_owns
  twice γ items = at_least_dup logs 𝓛 γ (map cv.code items)

  grows : (γ : ℕ) (items more : List T) → IsPrefix items more → ⟦ top γ items ⟧ ⊢ upd 𝓤 ⟦ top γ more ⟧
  unfolding growing_owns
  grows γ items more grown = latest_grows logs 𝓛 γ (map cv.code items) (map cv.code more) (prefix_in cv items more grown)

  coded_under : (γ : ℕ) (items seen : List T) → ⟦ top γ items ⟧ ∗ ⟦ had γ seen ⟧ ⊢ guard 𝓤 (IsPrefix (map cv.code seen) (map cv.code items)) (⟦ top γ items ⟧ ∗ ⟦ had γ seen ⟧)
  unfolding growing_owns beginning_owns
  coded_under γ items seen = latest_bounds logs 𝓛 full_share γ (map cv.code items) (map cv.code seen)

  under : (γ : ℕ) (items seen : List T) → ⟦ top γ items ⟧ ∗ ⟦ had γ seen ⟧ ⊢ guard 𝓤 (IsPrefix seen items) (⟦ top γ items ⟧ ∗ ⟦ had γ seen ⟧)
  under γ items seen = qed 𝓛 (‵ (top γ items) ∷ ‵ (had γ seen) ∷ []) ∵
      use2 𝓛 (given (IsPrefix (map cv.code seen) (map cv.code items)) (‵ (top γ items) ⊛ ‵ (had γ seen))) (coded_under γ items seen) $
      learn ! (λ p. check ! (prefix_out cv seen items p) $ done !)

  -- the list grows, what was seen was a beginning of it, and all of it is seen
  pub records : (γ : ℕ) (items seen more : List T) → IsPrefix items more → ⟦ top γ items ⟧ ∗ ⟦ had γ seen ⟧ ⊢ H.⇛ (guard 𝓤 (IsPrefix seen items) (⟦ top γ more ⟧ ∗ ⟦ had γ more ⟧))
  records γ items seen more grown = qed 𝓛 (‵ (top γ items) ∷ ‵ (had γ seen) ∷ []) ∵ updating ! $
      use2 𝓛 (given (IsPrefix seen items) (‵ (top γ items) ⊛ ‵ (had γ seen))) (under γ items seen) $ learn ! (λ began. split ! $ keep ! (0 ∷ []) $
      use1 𝓛 (later (‵ (top γ more))) (via 𝓤 _ (grows γ items more grown) (basic 𝓛 _)) $ await ! tt $
      use1 𝓛 (‵ (top γ more) ⊛ ‵ (had γ more)) (shows γ more) $ now ! $ check ! began $ done !)

module _ {T : Type 0} (cv : Coded T) where
  pub top_keyless : (γ : ℕ) (items : List T) → Keyless (growing_owns cv.code γ items)
  unfolding growing_owns latest
  top_keyless γ items = tt

  pub had_keyless : (γ : ℕ) (items : List T) → Keyless (beginning_owns cv.code γ items)
  unfolding beginning_owns at_least
  had_keyless γ items = tt
