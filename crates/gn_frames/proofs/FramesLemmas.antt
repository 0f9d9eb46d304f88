-- The frames of a string, by its head, and of a string that goes on.
use Rattle.std.proofs.Common.{◌≡◌, ℕ, zero, suc, ◌+◌, ◌≤◌, List, [], ◌∷◌, ◌++◌, length, take, drop, Option, Some, None, refl, sym, ap, ◌∙◌, subst, arith, append_assoc, length-drop}
use Rattle.std.proofs.lemmas.List.{take-append-le, drop-append-le, append-nil}
use Rattle.gn_wire.specs.declared.header.FrameFault.{FrameFault}
use Rattle.gn_wire.specs.declared.header.Header.{Header}
use Rattle.gn_wire.specs.Packet.{Packet}
use Rattle.gn_frames.specs.declared.head.Head.{Head}
use Rattle.gn_frames.specs.declared.head.Head.TheVariants.{Open, Faulty, Whole}
use Rattle.gn_wire.specs.Encoding.{packet_from}
use Rattle.gn_frames.specs.Frames.{head_of, Frames, no_frames, prepended, frames_by, frames_within, frames_of, FramesAreCut}
use Rattle.gn_frames.proofs.HeadLemmas.{whole, whole_stays, faulty_stays}

-- frames by the head are the same where those of what stands after the descriptor are
by_same : (f g : List ℕ → Frames) (s : List ℕ) (head : Head) → ((h : Header) → f (drop (23 + h.length) s) ≡ g (drop (23 + h.length) s))
    → frames_by f s head ≡ frames_by g s head
by_same f g s Open same = refl
by_same f g s (Faulty fault) same = refl
by_same f g s (Whole h) same = ap (λ later. prepended (packet_from h (take h.length (drop 23 s)) ∷ []) later) (same h)

-- what stands after a descriptor is shorter
pub shorter : (s : List ℕ) (n k : ℕ) → length s ≤ suc n → length (drop (23 + k) s) ≤ n
shorter s n k h = let size = length-drop (23 + k) s in omega arith

-- any number that is no less than the length gives the same frames
enough : (n m : ℕ) (s : List ℕ) → length s ≤ n → length s ≤ m → frames_within n s ≡ frames_within m s
enough zero zero s hn hm = refl
enough zero (suc m) [] hn hm = refl
enough zero (suc m) (x ∷ xs) hn hm = absurd (omega arith)
enough (suc n) zero [] hn hm = refl
enough (suc n) zero (x ∷ xs) hn hm = absurd (omega arith)
enough (suc n) (suc m) s hn hm =
    by_same (frames_within n) (frames_within m) s (head_of s) (λ h. enough n m (drop (23 + h.length) s) (shorter s n h.length hn) (shorter s m h.length hm))

-- the frames of a string by its head
pub frames_of_head : (s : List ℕ) → frames_of s ≡ frames_by frames_of s (head_of s)
unfolding frames_of
frames_of_head [] = refl
frames_of_head (x ∷ xs) =
    by_same (frames_within (length xs)) frames_of (x ∷ xs) (head_of (x ∷ xs))
    (λ h. let rest = drop (23 + h.length) (x ∷ xs) in
    enough (length xs) (length rest) rest (shorter (x ∷ xs) (length xs) h.length (omega arith)) (omega arith))

pub frames_open : (s : List ℕ) → head_of s ≡ Open → frames_of s ≡ no_frames s None
frames_open s e = frames_of_head s ∙ ap (frames_by frames_of s) e

pub frames_faulty : (s : List ℕ) (fault : FrameFault) → head_of s ≡ Faulty fault → frames_of s ≡ no_frames s (Some fault)
frames_faulty s fault e = frames_of_head s ∙ ap (frames_by frames_of s) e

pub frames_whole : (s : List ℕ) (h : Header) → head_of s ≡ Whole h
    → frames_of s ≡ prepended (packet_from h (take h.length (drop 23 s)) ∷ []) (frames_of (drop (23 + h.length) s))
frames_whole s h e = frames_of_head s ∙ ap (frames_by frames_of s) e

-- descriptors before descriptors
pub prepended_twice : (ds es : List Packet) (f : Frames) → prepended (ds ++ es) f ≡ prepended ds (prepended es f)
prepended_twice ds es f = ap (λ xs. let g : Frames = record { descriptors = xs; rest = f.rest; fault = f.fault } in g) (append_assoc ds es f.descriptors)

-- a string that goes on, by the head of what it begins with
goes_on : (s more : List ℕ) (n : ℕ) → length s ≤ n → (head : Head) → head_of s ≡ head
    → frames_of (s ++ more) ≡ prepended (frames_of s).descriptors (frames_of ((frames_of s).rest ++ more))
goes_on s more n size Open e = rw (frames_open s e) refl
goes_on s more n size (Faulty fault) e = rw (frames_faulty s fault e) refl
goes_on s more zero size (Whole h) e = let fits = (whole s h e).fits in absurd (omega arith)
goes_on s more (suc n) size (Whole h) e =
    let fits = (whole s h e).fits in
    let d = packet_from h (take h.length (drop 23 s)) in
    let rest = drop (23 + h.length) s in
    let payload : take h.length (drop 23 (s ++ more)) ≡ take h.length (drop 23 s) =
    ap (take h.length) (drop-append-le 23 s more (omega arith)) ∙ take-append-le h.length (drop 23 s) more (rw length-drop (omega arith)) in
    let later : drop (23 + h.length) (s ++ more) ≡ rest ++ more = drop-append-le (23 + h.length) s more fits in
    let here : frames_of s ≡ prepended (d ∷ []) (frames_of rest) = frames_whole s h e in
    let there = goes_on rest more n (shorter s n h.length size) (head_of rest) refl in
    frames_whole (s ++ more) h (whole_stays s more h e)
    ∙ ap (λ xs. prepended (packet_from h xs ∷ []) (frames_of (drop (23 + h.length) (s ++ more)))) payload
    ∙ ap (λ xs. prepended (d ∷ []) (frames_of xs)) later
    ∙ ap (prepended (d ∷ [])) there
    ∙ ap (λ (f : Frames). prepended f.descriptors (frames_of (f.rest ++ more))) (sym here)

-- the head that a rest has, by its fault
abbrev head_at : Option FrameFault → Head
head_at None = Open
head_at (Some fault) = Faulty fault

-- what stands after the descriptors of a string is no descriptor
rest_head : (s : List ℕ) (n : ℕ) → length s ≤ n → (head : Head) → head_of s ≡ head → head_of (frames_of s).rest ≡ head_at (frames_of s).fault
rest_head s n size Open e = subst (λ (f : Frames). head_of f.rest ≡ head_at f.fault) (sym (frames_open s e)) e
rest_head s n size (Faulty fault) e = subst (λ (f : Frames). head_of f.rest ≡ head_at f.fault) (sym (frames_faulty s fault e)) e
rest_head s zero size (Whole h) e = let fits = (whole s h e).fits in absurd (omega arith)
rest_head s (suc n) size (Whole h) e =
    let rest = drop (23 + h.length) s in
    subst (λ (f : Frames). head_of f.rest ≡ head_at f.fault) (sym (frames_whole s h e))
    (rest_head rest n (shorter s n h.length size) (head_of rest) refl)

pub rest_open : (s : List ℕ) → (frames_of s).fault ≡ None → head_of (frames_of s).rest ≡ Open
rest_open s e = rest_head s (length s) (omega arith) (head_of s) refl ∙ ap head_at e

pub rest_faulty : (s : List ℕ) (fault : FrameFault) → (frames_of s).fault ≡ Some fault → head_of (frames_of s).rest ≡ Faulty fault
rest_faulty s fault e = rest_head s (length s) (omega arith) (head_of s) refl ∙ ap head_at e

-- a string may be cut anywhere
pub cut : (s more : List ℕ) → frames_of (s ++ more) ≡ prepended (frames_of s).descriptors (frames_of ((frames_of s).rest ++ more))
cut s more = goes_on s more (length s) (omega arith) (head_of s) refl

cut_faulty : (s more : List ℕ) (fault : FrameFault) → (frames_of s).fault ≡ Some fault
    → frames_of (s ++ more) ≡ record { descriptors = (frames_of s).descriptors; rest = (frames_of s).rest ++ more; fault = Some fault }
cut_faulty s more fault e =
    let rest = (frames_of s).rest in
    cut s more
    ∙ ap (prepended (frames_of s).descriptors) (frames_faulty (rest ++ more) fault (faulty_stays rest more fault (rest_faulty s fault e)))
    ∙ ap (λ ds. let f : Frames = record { descriptors = ds; rest = rest ++ more; fault = Some fault } in f) (append-nil (frames_of s).descriptors)

pub frames_are_cut : FramesAreCut
frames_are_cut s more = record { frames = cut s more; fault = cut_faulty s more }
