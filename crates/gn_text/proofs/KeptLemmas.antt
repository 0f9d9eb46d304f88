-- What stood in a text before it was appended to.
use Rattle.std.proofs.Common.{◌≡◌, ◌<◌, ◌≤◌, ◌+◌, ℕ, List, [], ◌∷◌, ◌++◌, get_or, length, take, drop, sym, ap, ◌∙◌, append_assoc, if◌then◌else◌, Result, Ok, Err}
use Rattle.std.specs.Prelude.{OnErr, OnOk}
use Rattle.std.specs.Result.{is_ok}
use Rattle.std.proofs.Math.Seq.{take-append_seam, take-length}
use Rattle.std.specs.List.{flat_map}
use Rattle.std.proofs.lemmas.List.{flat_map_more, take-append-drop, take_all, take_more}

-- a text that was appended to, once or more often, begins with what stood in it
pub ruleset kept = (append_assoc, take-append_seam, take-append-drop, take-length)

-- a text that is as it was begins with itself
pub same_kept : (old new : List ℕ) → new ≡ old → take (length old) new ≡ old
same_kept old new same = rw same (take-length old)

-- a text that was appended to begins with what stood in it
pub begins : (old more new : List ℕ) → new ≡ old ++ more → take (length old) new ≡ old
begins old more new is = rw is (take-append_seam old more)

-- what begins with a longer text begins with what that was made of
pub kept_before : (old more longer new : List ℕ) → longer ≡ old ++ more → take (length longer) new ≡ longer → take (length old) new ≡ old
kept_before old more longer new is begins =
    let rest = drop (length longer) new in
    let parts : new ≡ old ++ (more ++ rest) = sym (take-append-drop (length longer) new) ∙ ap (λ xs. xs ++ rest) (begins ∙ is) ∙ append_assoc old more rest in
    rw parts (take-append_seam old (more ++ rest))

pub on_error : {X E P : Type 0} (r : Result X E) → P → OnErr r P
on_error (Ok x) p = _
on_error (Err e) p = p

-- two parts, one appended after the other
pub two_parts : (old t1 t2 a b : List ℕ) → t1 ≡ old ++ a → t2 ≡ t1 ++ b → t2 ≡ old ++ (a ++ b)
two_parts old t1 t2 a b first second = second ∙ ap (λ xs. xs ++ b) first ∙ append_assoc old a b

-- parts that were appended one after the other, the last one only where all is well
pub whole_text : {X E : Type 0} (r : Result X E) (old t1 t2 new a b c : List ℕ) → t1 ≡ old ++ a → t2 ≡ t1 ++ b
    → new ≡ (if is_ok r then t2 ++ c else t2) → OnOk r (new ≡ old ++ ((a ++ b) ++ c))
whole_text (Ok x) old t1 t2 new a b c first second last = two_parts old t2 new (a ++ b) c (two_parts old t1 t2 a b first second) last
whole_text (Err e) old t1 t2 new a b c first second last = _

-- what failed and changed nothing leaves what stood there
pub unchanged : {X E : Type 0} (r : Result X E) (old new : List ℕ) → OnErr r (new ≡ old) → OnErr r (take (length old) new ≡ old)
unchanged (Ok x) old new same = _
unchanged (Err e) old new same = same_kept old new same

-- also after a part that was appended before
pub part_unchanged : {X E : Type 0} (r : Result X E) (old a now new : List ℕ) → now ≡ old ++ a → OnErr r (new ≡ now) → OnErr r (take (length old) new ≡ old)
part_unchanged (Ok x) old a now new first same = _
part_unchanged (Err e) old a now new first same = begins old a new (same ∙ first)

-- what failed and left the longer text leaves what that was made of
pub part_kept : {X E : Type 0} (r : Result X E) (old a now new : List ℕ) → now ≡ old ++ a → OnErr r (take (length now) new ≡ now) → OnErr r (take (length old) new ≡ old)
part_kept (Ok x) old a now new first begun = _
part_kept (Err e) old a now new first begun = kept_before old a now new first begun

-- bytes that were appended where that didn't fail
pub bytes_kept : {X E : Type 0} (r : Result X E) (old more new : List ℕ) → new ≡ (if is_ok r then old ++ more else old) → OnErr r (take (length old) new ≡ old)
bytes_kept (Ok x) old more new is = _
bytes_kept (Err e) old more new is = same_kept old new is

-- also after a part that was appended before
pub part_bytes_kept : {X E : Type 0} (r : Result X E) (old a now more new : List ℕ) → now ≡ old ++ a → new ≡ (if is_ok r then now ++ more else now)
    → OnErr r (take (length old) new ≡ old)
part_bytes_kept (Ok x) old a now more new first is = _
part_bytes_kept (Err e) old a now more new first is = begins old a new (is ∙ first)

-- what a loop has written, with the text of one item more
pub items_more : {X : Type 0} (f : X → List ℕ) (old now next : List ℕ) (xs : List X) (i : ℕ) (x d : X) → i < length xs → x ≡ get_or xs i d
    → now ≡ old ++ flat_map f (take i xs) → next ≡ now ++ f x → next ≡ old ++ flat_map f (take (i + 1) xs)
items_more f old now next xs i x d below is so_far more =
    more ∙ ap (λ text. text ++ f x) so_far ∙ flat_map_more f old (take i xs) x
    ∙ ap (λ items. old ++ flat_map f items) (ap (λ item. take i xs ++ item ∷ []) is ∙ sym (take_more xs i d below))

-- what a loop has written once it has gone through all
pub items_done : {X : Type 0} (f : X → List ℕ) (old now : List ℕ) (xs : List X) (i : ℕ) → length xs ≤ i → now ≡ old ++ flat_map f (take i xs)
    → now ≡ old ++ flat_map f xs
items_done f old now xs i past so_far = so_far ∙ ap (λ items. old ++ flat_map f items) (take_all i xs past)
