-- One write after another.
use Rattle.std.specs.Prelude.{◌==◌, ◌&&◌, not}
use Rattle.gn_io.specs.Counts.{counted}
use Rattle.gn_io.specs.Parts.{LeavesToWrite, AppendsPart, WaitsPart}
use Rattle.std.proofs.Common.{refl, subst, append-nil, zero, suc, ◌≡◌, ℕ, ◌+◌, ◌≤◌, ◌-◌, List, [], ◌++◌, length, take, drop, ap, ◌∙◌, sym, arith, append_assoc, Option, Some, None}
use Rattle.std.proofs.lemmas.List.{take-append-drop}
use Rattle.std.proofs.Math.Seq.{take-add}
use Rattle.std.specs.Io.KnownBytes.{Appends, Keeps}
use Rattle.std.proofs.lemmas.Grind.{common_steps}

-- what `&bytes[i..]` is
pub from_is : (bytes : List ℕ) (i : ℕ) → take (length bytes - i) (drop i bytes) ≡ drop i bytes
from_is bytes i = grind (arith, common_steps)

pub within_more : (bytes : List ℕ) (i n : ℕ) → i ≤ length bytes → n ≤ length (take (length bytes - i) (drop i bytes)) → i + n ≤ length bytes
within_more bytes i n h k = grind (arith, common_steps)

-- a piece from the middle
pub appends_more : (old mid new : Option (List ℕ)) (bytes : List ℕ) (i n : ℕ)
    → Appends old mid (take i bytes) → Appends mid new (take n (take (length bytes - i) (drop i bytes))) → Appends old new (take (i + n) bytes)
appends_more None mid new bytes i n a b = _
appends_more (Some xs) None new bytes i n a b = absurd a
appends_more (Some xs) (Some ys) None bytes i n a b = absurd b
appends_more (Some xs) (Some ys) (Some zs) bytes i n a b =
    let f = from_is bytes i in
    let e = take-add i n bytes in
    let s = append_assoc xs (take i bytes) (take n (drop i bytes)) in cc

-- a write that took some of a piece is no stall
pub stalls_same : (n s : ℕ) (piece : List ℕ) → (n ≡ 0 → ⊥) → counted ((n == 0) && not (length piece == 0)) s ≡ s
stalls_same zero s piece h = absurd (h refl)
stalls_same (suc n) s piece h = grind (arith, common_steps)

pub appends_after : (old mid new : Option (List ℕ)) (a b : List ℕ) → Appends old mid a → Appends mid new b → Appends old new (a ++ b)
appends_after None mid new a b h k = _
appends_after (Some xs) None new a b h k = absurd h
appends_after (Some xs) (Some ys) None a b h k = absurd k
appends_after (Some xs) (Some ys) (Some zs) a b h k = let s = append_assoc xs a b in cc

pub appends_kept : (old mid new : Option (List ℕ)) (a : List ℕ) → Appends old mid a → Keeps mid new → Appends old new a
appends_kept None mid new a h k = _
appends_kept (Some xs) None new a h k = absurd h
appends_kept (Some xs) (Some ys) None a h k = absurd k
appends_kept (Some xs) (Some ys) (Some zs) a h k = k ∙ h

pub leaves_all : (old : Option (List ℕ)) (all : List ℕ) → LeavesToWrite old old all all
leaves_all None all = ([], _, refl)
leaves_all (Some xs) all = ([], sym (append-nil xs), refl)

pub leaves_none : (old new : Option (List ℕ)) (all : List ℕ) → LeavesToWrite old new [] all → Appends old new all
leaves_none old new all h = let e : h.0 ≡ all = sym (append-nil h.0) ∙ h.2 in let P : List ℕ → Type 0 = λ t. Appends old new t in subst P e h.1

pub leaves_step : (old mid new : Option (List ℕ)) (t rest all : List ℕ) → LeavesToWrite old mid (t ++ rest) all → Appends mid new t → LeavesToWrite old new rest all
leaves_step old mid new t rest all h k = (h.0 ++ t, appends_after old mid new h.0 t h.1 k, append_assoc h.0 t rest ∙ h.2)

pub leaves_part : (old mid new : Option (List ℕ)) (t rest all : List ℕ) → LeavesToWrite old mid (t ++ rest) all → AppendsPart mid new t → AppendsPart old new all
leaves_part old mid new t rest all h k =
    let written = k.1.0 in
    let e : (h.0 ++ written) ++ (k.0 ++ rest) ≡ all =
    append_assoc h.0 written (k.0 ++ rest) ∙ (ap (λ r. h.0 ++ r) (sym (append_assoc written k.0 rest) ∙ ap (λ r. r ++ rest) k.1.2) ∙ h.2) in
    (k.0 ++ rest, (h.0 ++ written, appends_after old mid new h.0 written h.1 k.1.1, e))

pub nothing_kept : (old new : Option (List ℕ)) (n : ℕ) (xs : List ℕ) → n ≡ 0 → Appends old new (take n xs) → Keeps old new
nothing_kept None new n xs e h = _
nothing_kept (Some xs) None n ys e h = absurd h
nothing_kept (Some xs) (Some zs) n ys e h = h ∙ (ap (λ k. xs ++ take k ys) e ∙ append-nil xs)

-- after i bytes no more were taken
pub part_kept : (old mid new : Option (List ℕ)) (bytes : List ℕ) (i : ℕ) → Appends old mid (take i bytes) → Keeps mid new → AppendsPart old new bytes
part_kept old mid new bytes i h k = (drop i bytes, (take i bytes, appends_kept old mid new (take i bytes) h k, take-append-drop i bytes))

-- what was written whole leaves nothing
pub appended_leaves : (old new : Option (List ℕ)) (all : List ℕ) → Appends old new all → LeavesToWrite old new [] all
appended_leaves old new all h = (all, h, append-nil all)

-- what waited was written, whole or a prefix of it
pub rest_part : (old mid new : Option (List ℕ)) (waiting all : List ℕ) → WaitsPart old mid waiting all → Appends mid new waiting → AppendsPart old new all
rest_part old mid new waiting all h k = (h.0, leaves_step old mid new waiting h.0 all h.1 k)

pub rest_cut : (old mid new : Option (List ℕ)) (waiting all : List ℕ) → WaitsPart old mid waiting all → AppendsPart mid new waiting → AppendsPart old new all
rest_cut old mid new waiting all h k = leaves_part old mid new waiting h.0 all h.1 k

-- a prefix of what was left to write was written, and what waits is first of the rest
pub leaves_after : (old mid new : Option (List ℕ)) (x rest waiting all : List ℕ) → LeavesToWrite old mid (x ++ rest) all → LeavesToWrite mid new waiting x → LeavesToWrite old new (waiting ++ rest) all
leaves_after old mid new x rest waiting all h k =
    let e : (h.0 ++ k.0) ++ (waiting ++ rest) ≡ all =
    append_assoc h.0 k.0 (waiting ++ rest) ∙ (ap (λ r. h.0 ++ r) (sym (append_assoc k.0 waiting rest) ∙ ap (λ r. r ++ rest) k.2) ∙ h.2) in
    (h.0 ++ k.0, appends_after old mid new h.0 k.0 h.1 k.1, e)

-- a text was added after what waited, and what is over was written
pub leaves_text : (old mid new : Option (List ℕ)) (waited text rest waiting all : List ℕ) → LeavesToWrite old mid (waited ++ (text ++ rest)) all → LeavesToWrite mid new waiting (waited ++ text)
    → LeavesToWrite old new (waiting ++ rest) all
leaves_text old mid new waited text rest waiting all h k =
    leaves_after old mid new (waited ++ text) rest waiting all (subst (λ (xs : List ℕ). LeavesToWrite old mid xs all) (sym (append_assoc waited text rest)) h) k

pub waits_text : (old mid new : Option (List ℕ)) (waited text rest waiting all : List ℕ) → LeavesToWrite old mid (waited ++ (text ++ rest)) all → WaitsPart mid new waiting (waited ++ text)
    → WaitsPart old new waiting all
waits_text old mid new waited text rest waiting all h k =
    (k.0 ++ rest, subst (λ (xs : List ℕ). LeavesToWrite old new xs all) (append_assoc waiting k.0 rest) (leaves_text old mid new waited text rest (waiting ++ k.0) all h k.1))

-- what is left to write waits, and nothing else
pub leaves_waits : (old new : Option (List ℕ)) (waiting all : List ℕ) → LeavesToWrite old new waiting all → WaitsPart old new waiting all
leaves_waits old new waiting all h = ([], subst (λ (xs : List ℕ). LeavesToWrite old new xs all) (sym (append-nil waiting)) h)

-- all that waited was written
pub leaves_rest : (old mid new : Option (List ℕ)) (waiting all : List ℕ) → LeavesToWrite old mid waiting all → Appends mid new waiting → Appends old new all
leaves_rest old mid new waiting all h k =
    leaves_none old new all (leaves_step old mid new waiting [] all (subst (λ (xs : List ℕ). LeavesToWrite old mid xs all) (sym (append-nil waiting)) h) k)
