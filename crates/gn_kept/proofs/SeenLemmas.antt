-- The hashed sources stay those of the seen entries in the ring.
use Rattle.std.proofs.Common.{◌≡◌, ◌≤◌, ℕ, zero, suc, ◌+◌, Bool, true, false, cond, List, [], ◌∷◌, take, length, Option, Some, None, refl, sym, ◌∙◌, arith, subst}
use Rattle.std.specs.List.{IsDistinct, slice_get}
use Rattle.std.specs.Map.{lookup, keys_of}
use Rattle.std.proofs.lemmas.List.{length-take}
use Rattle.std.proofs.lemmas.Map.{lookup-none}
use Rattle.std.proofs.lemmas.Map.Entries.{none_past_head}
use Rattle.std.proofs.lemmas.Map.Keys.{IsDistinct-tail}
use Rattle.circular_buffer.specs.Buffer.{Buffer, buffer}
use Rattle.gn_wire.specs.declared.key.Key.{Key}
use Rattle.gn_wire.specs.contracts.key.KeyPartialEq.TheImpl as derived
use Rattle.gn_wire.specs.Keys.{is_same_key}
use Rattle.gn_wire.proofs.KeyLemmas.{same_test, key_laws}
use Rattle.gn_kept.proofs.KeyLists.{apart_in_first}
use Rattle.gn_kept.specs.Remembered.{AreSources, forgotten}

-- the entries after w is written at the key, by the derived `==`
abbrev pub IsWritten : List (Key × ℕ) → List (Key × ℕ) → Key → Option ℕ → Type 0
IsWritten old new key w = (q : Key) → lookup ((derived.eq-value).it q) new ≡ cond ((derived.eq-value).it key q) w (lookup ((derived.eq-value).it q) old)

-- the same by the equality that definitions cite
pub written : (old new : List (Key × ℕ)) (key : Key) (w : Option ℕ) → IsWritten old new key w
    → (q : Key) → lookup (is_same_key q) new ≡ cond (is_same_key key q) w (lookup (is_same_key q) old)
written old new key w h =
    subst (λ (t : Key → Key → Bool). (q : Key) → lookup (t q) new ≡ cond (t key q) w (lookup (t q) old)) same_test h

-- a key that is in no later seen entry isn't forgotten with one of them
not_fallen : (q : Key) (es : List (Key × ℕ)) (n v : ℕ) → lookup (is_same_key q) es ≡ None → forgotten (slice_get es n) q (Some v) ≡ Some v
not_fallen q [] n v none = refl
not_fallen q (e ∷ es) zero v none =
    rw (key_laws.symm e.0 q) (elim (is_same_key q e.0) as (λ b. cond b (Some e.1) (lookup (is_same_key q) es) ≡ None → cond b None (Some v) ≡ Some v) [
      | true ↦ λ h. cc
      | false ↦ λ h. refl
    ] none)
not_fallen q (e ∷ es) (suc n) v none =
    elim (is_same_key q e.0) as (λ b. cond b (Some e.1) (lookup (is_same_key q) es) ≡ None → forgotten (slice_get es n) q (Some v) ≡ Some v) [
      | true ↦ λ h. cc
      | false ↦ λ h. not_fallen q es n v h
    ] none

-- a search in the first n of n + 1 seen entries
fallen_is : (es : List (Key × ℕ)) (n : ℕ) (q : Key) → IsDistinct is_same_key (keys_of es) → length es ≤ n + 1
    → lookup (is_same_key q) (take n es) ≡ forgotten (slice_get es n) q (lookup (is_same_key q) es)
fallen_is [] zero q distinct few = refl
fallen_is [] (suc n) q distinct few = refl
fallen_is (e ∷ []) zero q distinct few =
    rw (key_laws.symm e.0 q) (elim (is_same_key q e.0) as (λ b. None ≡ cond b None (cond b (Some e.1) None)) [ true ↦ refl | false ↦ refl ])
fallen_is (e ∷ f ∷ es) zero q distinct few = absurd (omega (arith, few))
fallen_is (e ∷ es) (suc n) q distinct few =
    let rest : lookup (is_same_key q) (take n es) ≡ forgotten (slice_get es n) q (lookup (is_same_key q) es) =
    fallen_is es n q (IsDistinct-tail is_same_key e.0 (keys_of es) distinct) (omega (arith, few)) in
    let later : is_same_key q e.0 ≡ true → lookup (is_same_key q) es ≡ None = λ t. lookup-none (is_same_key q) es (none_past_head key_laws q e es distinct t) in
    elim (is_same_key q e.0) as (λ b. is_same_key q e.0 ≡ b
    → cond b (Some e.1) (lookup (is_same_key q) (take n es)) ≡ forgotten (slice_get es n) q (cond b (Some e.1) (lookup (is_same_key q) es))) [
      | true ↦ λ t. sym (not_fallen q es n e.1 (later t))
      | false ↦ λ t. rest
    ] refl

-- one more seen entry first, and the sources without the one that fell out
entered : (sources left after seen_entries : List (Key × ℕ)) (n : ℕ) (key : Key) (from : ℕ) → AreSources sources seen_entries (suc n) → lookup (is_same_key key) seen_entries ≡ None
    → ((q : Key) → lookup (is_same_key q) left ≡ forgotten (slice_get seen_entries n) q (lookup (is_same_key q) sources))
    → ((q : Key) → lookup (is_same_key q) after ≡ cond (is_same_key key q) (Some from) (lookup (is_same_key q) left))
    → AreSources after ((key, from) ∷ take n seen_entries) (suc n)
entered sources left after seen_entries n key from are none gone put = record {
  positive = are.positive;
  few = omega (arith, length-take n seen_entries);
  distinct = apart_in_first key_laws key seen_entries n are.distinct none;
  same = λ q. put q ∙ rw (gone q, are.same q, key_laws.symm key q, ← fallen_is seen_entries n q are.distinct (omega (arith, are.few))) refl;
}

-- the same of a table of any size
pub kept_in : (sources left after seen_entries : List (Key × ℕ)) (most : ℕ) (key : Key) (from : ℕ) (fallen : Option (Key × ℕ)) (ring : Buffer (Key × ℕ)) → AreSources sources seen_entries most
    → lookup (is_same_key key) seen_entries ≡ None → fallen ≡ slice_get ((key, from) ∷ seen_entries) most
    → ((q : Key) → lookup (is_same_key q) left ≡ forgotten fallen q (lookup (is_same_key q) sources))
    → IsWritten left after key (Some from) → ring ≡ buffer (take most ((key, from) ∷ seen_entries)) most
    → AreSources after ring.items ring.capacity
kept_in sources left after seen_entries zero key from fallen ring are none fell gone put is = absurd (omega (arith, are.positive))
kept_in sources left after seen_entries (suc n) key from fallen ring are none fell gone put is =
    rw is (entered sources left after seen_entries n key from are none (rw fell at gone) (written left after key (Some from) put))
