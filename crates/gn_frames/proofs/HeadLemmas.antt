-- The head of a string.
use Rattle.std.proofs.Common.{◌≡◌, ℕ, ◌+◌, ◌-◌, ◌<◌, ◌≤◌, ◌⊎◌, inl, inr, List, ◌++◌, length, take, Option, Some, None, Ok, Err, refl, sym, ap, ◌∙◌, arith, nat_lt, cond, true, false, length-append}
use Rattle.std.specs.Option.{option_map_or}
use Rattle.std.proofs.lemmas.Bool.Decides.{nat_tests}
use Rattle.std.proofs.lemmas.Bool.{cases_order}
use Rattle.std.proofs.lemmas.List.{take-append-le}
use Rattle.gn_wire.specs.declared.header.FrameFault.{FrameFault}
use Rattle.gn_wire.specs.declared.header.Header.{Header}
use Rattle.gn_wire.specs.Packet.{fault_of}
use Rattle.gn_wire.specs.Encoding.{header_at, reading}
use Rattle.gn_frames.specs.declared.head.Head.{Head}
use Rattle.gn_frames.specs.declared.head.Head.TheVariants.{Open, Faulty, Whole}
use Rattle.gn_frames.specs.Frames.{head_of, named_length, named_fault, IsOpen, IsFaulty}

less : (a b : ℕ) → a < b → nat_lt a b ≡ true
less a b h = grind (arith, nat_tests)

not_less : (a b : ℕ) → b ≤ a → nat_lt a b ≡ false
not_less a b h = grind (arith, nat_tests)

-- the head by the fault of its header, with n bytes after that
abbrev head_by : Option FrameFault → Header → ℕ → Head
head_by fault h n = option_map_or Faulty fault (cond (nat_lt n h.length) Open (Whole h))

-- the head of a string that has a header
head_long : (s : List ℕ) → 23 ≤ length s → head_of s ≡ head_by (named_fault s) (header_at (take 23 s)) (length s - 23)
head_long s long = ap (λ b. cond b Open (head_by (named_fault s) (header_at (take 23 s)) (length s - 23))) (not_less (length s) 23 long)

head_short : (s : List ℕ) → length s < 23 → head_of s ≡ Open
head_short s short = ap (λ b. cond b Open (head_by (named_fault s) (header_at (take 23 s)) (length s - 23))) (less (length s) 23 short)

-- of two numbers, one is below the other or it isn't
pub below_or_not : (a b : ℕ) → (a < b) ⊎ (b ≤ a)
below_or_not a b = elim (cases_order a b) [
  | inl same ↦ inr (omega arith)
  | inr other ↦ elim other [ inl below ↦ inl below | inr above ↦ inr (omega arith) ]
]

short_or_long : (s : List ℕ) → (length s < 23) ⊎ (23 ≤ length s)
short_or_long s = below_or_not (length s) 23

-- what a whole head says: its header, which is valid, and enough bytes after it
pub record IsWhole (s : List ℕ) (h : Header) : Type 0 where
  pub header : header_at (take 23 s) ≡ h
  pub valid : fault_of h.kind h.length ≡ None
  pub fits : 23 + h.length ≤ length s

whole_by : (fault : Option FrameFault) (h k : Header) (n : ℕ) → fault_of h.kind h.length ≡ fault → head_by fault h n ≡ Whole k
    → (h ≡ k) × (fault_of h.kind h.length ≡ None) × (h.length ≤ n)
whole_by None h k n is e = elim (below_or_not n h.length) [
  | inl below ↦ let shut : Open ≡ Whole k = sym (ap (λ b. cond b Open (Whole h)) (less n h.length below)) ∙ e in cc
  | inr fits ↦ let full : Whole h ≡ Whole k = sym (ap (λ b. cond b Open (Whole h)) (not_less n h.length fits)) ∙ e in (cc, is, fits)
]
whole_by (Some fault) h k n is e = cc

pub whole : (s : List ℕ) (h : Header) → head_of s ≡ Whole h → IsWhole s h
whole s h e = elim (short_or_long s) [
  | inl short ↦ let shut : Open ≡ Whole h = sym (head_short s short) ∙ e in cc
  | inr long ↦
      let k = header_at (take 23 s) in
      let known = whole_by (fault_of k.kind k.length) k h (length s - 23) refl (sym (head_long s long) ∙ e) in
      record {
        header = known.0;
        valid = sym (ap (λ (x : Header). fault_of x.kind x.length) known.0) ∙ known.1;
        fits = let n : k.length ≡ h.length = ap (λ (x : Header). x.length) known.0 in let fits = known.2 in omega arith;
      }
]

-- the head by the parts of its definition in words
pub head_whole : (s : List ℕ) → named_fault s ≡ None → 23 + named_length s ≤ length s → head_of s ≡ Whole (header_at (take 23 s))
head_whole s valid fits =
    head_long s (omega arith) ∙ ap (λ fault. head_by fault (header_at (take 23 s)) (length s - 23)) valid
    ∙ ap (λ b. cond b Open (Whole (header_at (take 23 s)))) (not_less (length s - 23) (named_length s) (omega arith))

pub head_open : (s : List ℕ) → IsOpen s → head_of s ≡ Open
head_open s (inl short) = head_short s short
head_open s (inr (long, valid, wanting)) =
    head_long s long ∙ ap (λ fault. head_by fault (header_at (take 23 s)) (length s - 23)) valid
    ∙ ap (λ b. cond b Open (Whole (header_at (take 23 s)))) (less (length s - 23) (named_length s) (omega arith))

pub head_faulty : (s : List ℕ) (fault : FrameFault) → IsFaulty s fault → head_of s ≡ Faulty fault
head_faulty s fault (long, invalid) =
    head_long s long ∙ ap (λ fault. head_by fault (header_at (take 23 s)) (length s - 23)) invalid

-- what is read of a header: what its bytes say, where they have no fault, else that
read_by : (fault : Option FrameFault) (h k : Header) → option_map_or Err fault (Ok h) ≡ Ok k → (h ≡ k) × (fault ≡ None)
read_by None h k e = (cc, refl)
read_by (Some fault) h k e = absurd (cc)

refused_by : (fault : Option FrameFault) (h : Header) (found : FrameFault) → option_map_or Err fault (Ok h) ≡ Err found → fault ≡ Some found
refused_by None h found e = absurd (cc)
refused_by (Some fault) h found e = cc

-- the head by what is read of its header
pub whole_read : (s start : List ℕ) (h : Header) → 23 ≤ length s → start ≡ take 23 s → reading start ≡ Ok h → h.length ≤ length s - 23 → Whole h ≡ head_of s
whole_read s start h long is read fits =
    let known = read_by (named_fault s) (header_at (take 23 s)) h (ap reading (sym is) ∙ read) in
    let size : named_length s ≡ h.length = ap (λ (x : Header). x.length) known.0 in
    sym (head_whole s known.1 (omega arith) ∙ ap Whole known.0)

pub open_read : (s start : List ℕ) (h : Header) → 23 ≤ length s → start ≡ take 23 s → reading start ≡ Ok h → length s - 23 < h.length → Open ≡ head_of s
open_read s start h long is read wanting =
    let known = read_by (named_fault s) (header_at (take 23 s)) h (ap reading (sym is) ∙ read) in
    let size : named_length s ≡ h.length = ap (λ (x : Header). x.length) known.0 in
    sym (head_open s (inr (long, known.1, omega arith)))

pub faulty_read : (s start : List ℕ) (fault : FrameFault) → 23 ≤ length s → start ≡ take 23 s → reading start ≡ Err fault → Faulty fault ≡ head_of s
faulty_read s start fault long is read =
    sym (head_faulty s fault (long, refused_by (named_fault s) (header_at (take 23 s)) fault (ap reading (sym is) ∙ read)))

-- what an open and a faulty head say
open_by : (fault : Option FrameFault) (h : Header) (n : ℕ) → head_by fault h n ≡ Open → (fault ≡ None) × (n < h.length)
open_by None h n e = elim (below_or_not n h.length) [
  | inl below ↦ (refl, below)
  | inr above ↦ let shut : Whole h ≡ Open = sym (ap (λ b. cond b Open (Whole h)) (not_less n h.length above)) ∙ e in cc
]
open_by (Some fault) h n e = cc

pub is_open : (s : List ℕ) → head_of s ≡ Open → IsOpen s
is_open s e = elim (short_or_long s) [
  | inl short ↦ inl short
  | inr long ↦
      let known = open_by (named_fault s) (header_at (take 23 s)) (length s - 23) (sym (head_long s long) ∙ e) in
      let wanting = known.1 in inr (long, known.0, omega arith)
]

faulty_by : (fault : Option FrameFault) (h : Header) (n : ℕ) (found : FrameFault) → head_by fault h n ≡ Faulty found → fault ≡ Some found
faulty_by None h n found e = elim (below_or_not n h.length) [
  | inl below ↦ let shut : Open ≡ Faulty found = sym (ap (λ b. cond b Open (Whole h)) (less n h.length below)) ∙ e in cc
  | inr above ↦ let shut : Whole h ≡ Faulty found = sym (ap (λ b. cond b Open (Whole h)) (not_less n h.length above)) ∙ e in cc
]
faulty_by (Some fault) h n found e = cc

pub is_faulty : (s : List ℕ) (fault : FrameFault) → head_of s ≡ Faulty fault → IsFaulty s fault
is_faulty s fault e = elim (short_or_long s) [
  | inl short ↦ let shut : Open ≡ Faulty fault = sym (head_short s short) ∙ e in cc
  | inr long ↦ (long, faulty_by (named_fault s) (header_at (take 23 s)) (length s - 23) fault (sym (head_long s long) ∙ e))
]

-- what more bytes leave of a head: a whole descriptor and a fault stay
head_bytes : (s more : List ℕ) → 23 ≤ length s → take 23 (s ++ more) ≡ take 23 s
head_bytes s more long = take-append-le 23 s more long

pub whole_stays : (s more : List ℕ) (h : Header) → head_of s ≡ Whole h → head_of (s ++ more) ≡ Whole h
whole_stays s more h e =
    let is = whole s h e in
    let size = length-append s more in
    let same : header_at (take 23 (s ++ more)) ≡ h = ap header_at (head_bytes s more (omega (arith, is.fits))) ∙ is.header in
    head_whole (s ++ more) (ap (λ (x : Header). fault_of x.kind x.length) same ∙ is.valid)
    (let n : named_length (s ++ more) ≡ h.length = ap (λ (x : Header). x.length) same in let fits = is.fits in omega arith)
    ∙ ap Whole same

pub faulty_stays : (s more : List ℕ) (fault : FrameFault) → head_of s ≡ Faulty fault → head_of (s ++ more) ≡ Faulty fault
faulty_stays s more fault e =
    let is = is_faulty s fault e in
    let size = length-append s more in
    let long = is.0 in
    head_faulty (s ++ more) fault (omega arith, ap (λ bytes. fault_of (header_at bytes).kind (header_at bytes).length) (head_bytes s more long) ∙ is.1)
