-- Pieces that were written one after the other.
use Rattle.std.proofs.Common.{◌≡◌, ◌+◌, ◌<◌, ◌++◌, ◌∷◌, ◌∙◌, ℕ, List, arith, length-append, [], get_or, length, take, ap, append-nil, append_assoc, subst, sym}
use Rattle.std.specs.Prelude.{◌-◌, false, replicate, IfOk, Result, Ok, Err}
use Rattle.std.specs.List.{flat_map}
use Rattle.std.proofs.lemmas.List.{flat_map_more, take_more}
use Rattle.gn_show.specs.Pieces.{Puts, Written}
use Rattle.gn_show.specs.Plain.{aligned}

-- a part, and then one after it
infixr 5 ◌>>◌
pub ◌>>◌ : {X : Type 0} {a b c : Written X} {x y : List X} → Puts a b x → Puts b c y → Puts a c (x ++ y)
◌>>◌ {a = a} {x = x} {y = y} first next = record {
  before = λ ok. first.before (next.before ok);
  pieces = λ ok. next.pieces ok ∙ ap (λ xs. xs ++ y) (first.pieces (next.before ok)) ∙ append_assoc a.pieces x y;
}

-- what a loop has written, with the pieces of one item more
pub one_more : {X Y : Type 0} {a b c : Written Y} (f : X → List Y) (begun : List Y) (xs : List X) (i : ℕ) (x d : X) → i < length xs → x ≡ get_or xs i d
    → Puts a b (begun ++ flat_map f (take i xs)) → Puts b c (f x) → Puts a c (begun ++ flat_map f (take (i + 1) xs))
one_more {a = a} {c = c} f begun xs i x d below is so_far more =
    subst (λ pieces. Puts a c pieces)
    (flat_map_more f begun (take i xs) x ∙ ap (λ items. begun ++ flat_map f items) (ap (λ item. take i xs ++ item ∷ []) is ∙ sym (take_more xs i d below)))
    (so_far >> more)

-- the same, for parts that are joined from the left
infixl 5 ◌+>◌
pub ◌+>◌ : {X : Type 0} {a b c : Written X} {x y : List X} → Puts a b x → Puts b c y → Puts a c (x ++ y)
first +> next = first >> next

-- nothing was written
pub nothing : {X : Type 0} {a : Written X} → Puts a a []
nothing {a = a} = record { before = λ ok. ok; pieces = λ ok. sym (append-nil a.pieces) }

-- what was written, and spaces after it to the end of its column
pub column : {a b d : Written ℕ} {words : List ℕ} (width : ℕ) → Puts a b words → Puts b d (replicate (width - (length b.pieces - length a.pieces)) 32) → Puts a d (aligned width words)
column {a = a} {b = b} {words = words} width first next = record {
  before = λ ok. first.before (next.before ok);
  pieces = λ ok.
      let more : length b.pieces ≡ length (a.pieces ++ words) = ap length (first.pieces (next.before ok)) in
      let wide : length b.pieces - length a.pieces ≡ length words = omega (arith, simp length-append at more) in
      (first >> next).pieces ok ∙ ap (λ n. a.pieces ++ (words ++ replicate (width - n) 32)) wide;
}

-- the text that was begun with nothing, where memory didn't run out
pub whole_text : {V E : Type 0} (items : V → List ℕ) (r : Result V E) (begun after : Written ℕ) (text : List ℕ) → begun ≡ record { pieces = []; ran_out = false } → Puts begun after text
    → IfOk r (λ v. (after.ran_out ≡ false) × (items v ≡ after.pieces)) → IfOk r (λ v. items v ≡ text)
whole_text items (Ok v) begun after text new written whole = whole.1 ∙ written.pieces whole.0 ∙ ap (λ (w : Written ℕ). w.pieces ++ text) new
whole_text items (Err e) begun after text new written whole = _
