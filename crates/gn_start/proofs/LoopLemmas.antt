-- Which links have come, and which are still to come.
use Rattle.std.proofs.Common.{◌≡◌, ◌+◌, ℕ, Bool, true, false, List, [], ◌∷◌, ◌++◌, length, refl, sym, ◌∙◌, subst, arith, inl, inr}
use Rattle.std.proofs.lemmas.List.{length-map, length_push}
use Rattle.gn_links.specs.Halves.{ReadHalf, WrittenHalf}
use Rattle.gn_actors.specs.declared.who.Numbering.{Numbering}
use Rattle.gn_shake.specs.declared.role.Role.{Role}
use Rattle.gn_start.specs.Incoming.{HasCome, IsSameFrom}
use Rattle.gn_start.specs.Table.{AreAll, AreComing, HasBeenMade, HasMade, TableState, all_came, came_in}
use Rattle.gn_start.specs.declared.incoming.NewLink.{NewLink}
use Rattle.gn_start.specs.declared.states.LinkState.{LinkState}
use Rattle.gn_start.proofs.ListLemmas.{get_push_cases}

-- what isn't so now wasn't before
pub not_so : (was now : Bool) → (was ≡ true → now ≡ true) → now ≡ false → was ≡ false
not_so true now more none = let no : true ≡ false = sym (more refl) ∙ none in absurd (cc no)
not_so false now more none = refl

module _ {V F : Type 0} (may : V → ℕ → Role → F → Type 0) (ends : V → ℕ → Type 0) where
  -- what may come is the same as long as no link came
  pub same_still : (was now : V) → now ≡ was → IsSameFrom may ends 0 was now
  same_still was now is =
      let at : (k : ℕ) → k ≡ 0 + k = λ k. omega arith in
      subst (λ v. IsSameFrom may ends 0 was v) (sym is) (record {
        same_may = λ k role known h. subst (λ n. may was n role known) (at k) h;
        same_ends = λ k h. subst (λ n. ends was n) (at k) h;
      })

  pub same_on : (was mid now : V) → IsSameFrom may ends 0 was mid → IsSameFrom may ends 0 mid now → IsSameFrom may ends 0 was now
  same_on was mid now first then =
      let at : (k : ℕ) → 0 + k ≡ k = λ k. omega arith in
      record {
        same_may = λ k role known h. first.same_may k role known (subst (λ n. may mid n role known) (at k) (then.same_may k role known h));
        same_ends = λ k h. first.same_ends k (subst (λ n. ends mid n) (at k) (then.same_ends k h));
      }

module _ {V Rd W O F : Type 0} (read_of : Rd → O) (foreknown : O → F) (may : V → ℕ → Role → F → Type 0) (ends : V → ℕ → Type 0) where
  -- where the next link came
  pub coming_more : (reads : Rd → ReadHalf) (writes : W → WrittenHalf) (written_of : W → O) (first was now : V) (links links' : List (NewLink Rd W)) (c : NewLink Rd W) → links' ≡ links ++ c ∷ []
      → HasCome c reads writes read_of written_of foreknown may ends was now → AreComing read_of foreknown may ends first was links → AreComing read_of foreknown may ends first now links'
  coming_more reads writes written_of first was now links links' c e came so_far =
      let long : length (links ++ c ∷ []) ≡ length links + 1 = length_push links c in
      let last : length links + 0 ≡ length links = omega arith in
      let here : may first (length links) c.role (foreknown (read_of c.reader)) =
      subst (λ n. may first n c.role (foreknown (read_of c.reader))) last (so_far.1.same_may 0 c.role (foreknown (read_of c.reader)) came.may_come) in
      let at : (k : ℕ) → length links + (1 + k) ≡ length (links ++ c ∷ []) + k = λ k. omega (arith, long) in
      subst (λ (l : List (NewLink Rd W)). AreComing read_of foreknown may ends first now l) (sym e) (
        record {
          may_come = λ k w h.
              elim (get_push_cases links c w k h) as (λ _. may first k w.role (foreknown (read_of w.reader))) [
                | inl old ↦ so_far.0.may_come k w old
                | inr new ↦ subst (λ n. may first n w.role (foreknown (read_of w.reader))) (sym new.0)
                    (subst (λ (x : NewLink Rd W). may first (length links) x.role (foreknown (read_of x.reader))) new.1 here)
              ];
        },
        record {
          same_may = λ k role known h. subst (λ n. may first n role known) (at k) (so_far.1.same_may (1 + k) role known (came.rest.same_may k role known h));
          same_ends = λ k h. subst (λ n. ends first n) (at k) (so_far.1.same_ends (1 + k) (came.rest.same_ends k h));
        },
      )

  -- as long as no more come, whatever faults come
  pub all_later : (is_known faulty faulty' : Bool) (m m' : Numbering) (first : V) (links links' : List (NewLink Rd W)) → m' ≡ m → links' ≡ links → (faulty ≡ true → faulty' ≡ true)
      → AreAll read_of foreknown is_known faulty m (may first) (ends first) links → AreAll read_of foreknown is_known faulty' m' (may first) (ends first) links'
  all_later is_known faulty faulty' m m' first links links' e_m e more are =
      subst (λ (n : Numbering). AreAll read_of foreknown is_known faulty' n (may first) (ends first) links') (sym e_m)
      (subst (λ (l : List (NewLink Rd W)). AreAll read_of foreknown is_known faulty' m (may first) (ends first) l) (sym e) (record {
        so_far = are.so_far;
        no_more = λ known none by. are.no_more known (not_so faulty faulty' more none) by;
      }))

  -- of a run that began with none, once the steps of before were made again
  pub made_since : {A : Type 0} (is_known : Bool) (first rest : V) (before after : TableState Rd W A) → IsSameFrom may ends 0 first rest → before.states ≡ []
      → HasMade read_of foreknown is_known may ends rest before after → HasBeenMade read_of foreknown is_known (may first) (ends first) after
  made_since {A = A} is_known first rest before after same none made =
      let begun : AreComing {W = W} read_of foreknown may ends first rest [] = (record { may_come = λ k c h. absurd (cc h) }, same) in
      record {
        now = made.each first (subst (λ (s : List (LinkState Rd W A)). AreComing read_of foreknown may ends first rest (all_came s)) (sym none) begun);
      }

-- as many links came as there are states
pub came_long : {Rd W A : Type 0} (states : List (LinkState Rd W A)) → length (all_came states) ≡ length states
came_long states = length-map states came_in
