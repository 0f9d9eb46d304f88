-- Who has a number in a run whose links come one after another, and the number that it has where all are known.
use Rattle.std.proofs.Common.{◌≡◌, ◌≤◌, ◌<◌, ◌+◌, ◌-◌, ◌⊎◌, cond, nat_lt, ℕ, zero, suc, refl, sym, ap, ◌∙◌, subst, inl, inr, arith}
use Rattle.std.proofs.lemmas.Bool.{cases_lt, le-ltb, lt-ltb}
use Rattle.gn_rules.specs.History.{mine}
use Rattle.gn_actors.specs.declared.who.Numbering.TheVariants.{Known, Open}
use Rattle.gn_actors.specs.declared.who.Who.{Who}
use Rattle.gn_actors.specs.declared.who.Who.TheVariants.{House, Reader, Worker, Writer}
use Rattle.gn_actors.specs.Who.{IsActor, NumbersAreApart, number_of}
use Rattle.gn_renumber.specs.Renumbered.{RenumberedIsOnly, RenumberedIsOwn, known_number, link_actor, next_link, renumbered, who_open}
use Rattle.gn_renumber.proofs.MovedLemmas.{mine_of_moved, only_of_moved}

reader_has : (i k : ℕ) → i ≡ k + k → link_actor i ≡ Reader k
reader_has zero zero is = refl
reader_has zero (suc k) is = absurd (omega (arith, is))
reader_has (suc zero) k is = absurd (omega (arith, is))
reader_has (suc (suc i)) zero is = absurd (omega (arith, is))
reader_has (suc (suc i)) (suc k) is = ap next_link (reader_has i k (omega (arith, is))) ∙ ap (λ n. Reader n) (omega arith)

writer_has : (i k : ℕ) → i ≡ k + k + 1 → link_actor i ≡ Writer k
writer_has zero k is = absurd (omega (arith, is))
writer_has (suc zero) zero is = refl
writer_has (suc zero) (suc k) is = absurd (omega (arith, is))
writer_has (suc (suc i)) zero is = absurd (omega (arith, is))
writer_has (suc (suc i)) (suc k) is = ap next_link (writer_has i k (omega (arith, is))) ∙ ap (λ n. Writer n) (omega arith)

-- a number is twice another, or one more
record Halved (i : ℕ) : Type 0 where
  half : ℕ
  is : (i ≡ half + half) ⊎ (i ≡ half + half + 1)

halved : (i : ℕ) → Halved i
halved zero = record { half = 0; is = inl (omega arith) }
halved (suc zero) = record { half = 0; is = inr (omega arith) }
halved (suc (suc i)) =
    let h = halved i in
    record {
      half = h.half + 1;
      is = elim h.is as (λ x. (suc (suc i) ≡ (h.half + 1) + (h.half + 1)) ⊎ (suc (suc i) ≡ (h.half + 1) + (h.half + 1) + 1)) [
        | inl e ↦ inl (omega (arith, e))
        | inr e ↦ inr (omega (arith, e))
      ];
    }

-- who has a number of such a run, of n links and v workers
record HasIt (n v a : ℕ) (who : Who) : Type 0 where
  acts : IsActor (Known n v) who
  number : number_of (Open v) who ≡ a

who_of_link : (n v i : ℕ) → i < n + n → HasIt n v (1 + v + i) (link_actor i)
who_of_link n v i below =
    let h = halved i in
    let k : ℕ = h.half in
    elim h.is as (λ x. HasIt n v (1 + v + i) (link_actor i)) [
      | inl e ↦ subst (λ who. HasIt n v (1 + v + i) who) (sym (reader_has i k e)) (record { acts = omega (arith, e, below); number = omega (arith, e) })
      | inr e ↦ subst (λ who. HasIt n v (1 + v + i) who) (sym (writer_has i k e)) (record { acts = omega (arith, e, below); number = omega (arith, e) })
    ]

who_has : (n v a : ℕ) → a < 1 + v + (n + n) → HasIt n v a (who_open v a)
who_has n v zero below = record { acts = tt; number = refl }
who_has n v (suc a) below =
    elim (cases_lt a v) as (λ x. HasIt n v (suc a) (cond (nat_lt a v) (Worker a) (link_actor (a - v)))) [
      | inl low ↦ subst (λ b. HasIt n v (suc a) (cond b (Worker a) (link_actor (a - v)))) (sym (lt-ltb a v low)) (record { acts = low; number = omega arith })
      | inr high ↦
          let at : 1 + v + (a - v) ≡ suc a = omega (arith, high) in
          subst (λ b. HasIt n v (suc a) (cond b (Worker a) (link_actor (a - v)))) (sym (le-ltb a v high)) (subst (λ m. HasIt n v m (link_actor (a - v))) at (who_of_link n v (a - v) (omega (arith, high, below))))
    ]

-- an actor of the run has its number
has_it : (n v : ℕ) (who : Who) → IsActor (Known n v) who → who_open v (number_of (Open v) who) ≡ who
has_it n v House acts = refl
has_it n v (Worker j) acts =
    let one : 1 + j ≡ suc j = omega arith in
    ap (who_open v) one ∙ ap (λ b. cond b (Worker j) (link_actor (j - v))) (lt-ltb j v acts)
has_it n v (Reader k) acts =
    let at : 1 + v + (k + k) ≡ suc (v + (k + k)) = omega arith in
    let past : v ≤ v + (k + k) = omega arith in
    ap (who_open v) at ∙ ap (λ b. cond b (Worker (v + (k + k))) (link_actor (v + (k + k) - v))) (le-ltb (v + (k + k)) v past) ∙ reader_has (v + (k + k) - v) k (omega arith)
has_it n v (Writer k) acts =
    let at : 2 + v + (k + k) ≡ suc (v + (k + k + 1)) = omega arith in
    let past : v ≤ v + (k + k + 1) = omega arith in
    ap (who_open v) at ∙ ap (λ b. cond b (Worker (v + (k + k + 1))) (link_actor (v + (k + k + 1) - v))) (le-ltb (v + (k + k + 1)) v past) ∙ writer_has (v + (k + k + 1) - v) k (omega arith)

-- no number of a run that is known is the house's or above
below_house : (n v : ℕ) (who : Who) → IsActor (Known n v) who → number_of (Known n v) who < number_of (Known n v) House + 1
below_house n v House acts = omega arith
below_house n v (Worker j) acts = omega (arith, acts)
below_house n v (Reader k) acts = omega (arith, acts)
below_house n v (Writer k) acts = omega (arith, acts)

pub renumbered_is_own : (A : Type 0) → NumbersAreApart → RenumberedIsOwn A
renumbered_is_own A are_apart n v steps who low acts =
    let a : ℕ = number_of (Open v) who in
    let is : who_open v a ≡ who = has_it n v who acts in
    let apart : (b : ℕ) → b < 1 + v + (n + n) → known_number n v b ≡ known_number n v a → b ≡ a =
    λ b below same.
    let one = who_has n v b below in
    let other : who_open v b ≡ who = are_apart (Known n v) (who_open v b) who one.acts acts (same ∙ ap (number_of (Known n v)) is) in
    sym one.number ∙ ap (number_of (Open v)) other in
    subst (λ m. mine (renumbered n v steps) m ≡ mine steps a) (ap (number_of (Known n v)) is) (mine_of_moved (known_number n v) (1 + v + (n + n)) a steps low apart)

pub renumbered_is_only : (A : Type 0) → RenumberedIsOnly A
renumbered_is_only A n v steps low =
    only_of_moved (known_number n v) (1 + v + (n + n)) (number_of (Known n v) House + 1) steps low (λ b below. below_house n v (who_open v b) (who_has n v b below).acts)
