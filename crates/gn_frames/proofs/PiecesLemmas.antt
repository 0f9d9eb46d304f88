-- Held bytes, a piece, and the frames of both.
use Rattle.std.proofs.Common.{◌≡◌, ℕ, Bool, true, false, is_some, ◌+◌, ◌-◌, ◌<◌, ◌≤◌, List, [], ◌∷◌, ◌++◌, length, take, drop, Option, Some, None, refl, sym, ap, ◌∙◌, subst, arith, length-drop}
use Rattle.std.proofs.lemmas.List.{append-nil, drop-drop, length-take-le}
use Rattle.gn_wire.specs.declared.header.FrameFault.{FrameFault}
use Rattle.gn_wire.specs.declared.header.Header.{Header}
use Rattle.gn_wire.specs.Packet.{Packet}
use Rattle.gn_wire.specs.Encoding.{packet_from}
use Rattle.gn_frames.specs.declared.head.Head.TheVariants.{Open, Faulty, Whole}
use Rattle.gn_frames.specs.Frames.{head_of, Frames, no_frames, prepended, frames_of}
use Rattle.gn_frames.specs.Held.{IsHeld}
use Rattle.gn_frames.specs.Pieces.{IsFound, IsTaken}
use Rattle.gn_frames.proofs.HeadLemmas.{whole}
use Rattle.gn_frames.proofs.FramesLemmas.{frames_open, frames_faulty, frames_whole, prepended_twice, rest_open}

-- no more descriptors
taken_last : (bytes left : List ℕ) (before after : List Packet) (found : Option FrameFault) → frames_of left ≡ no_frames left found
    → prepended after (frames_of left) ≡ prepended before (frames_of bytes) → IsTaken bytes before after left found
taken_last bytes left before after found last so_far =
    let same : prepended before (frames_of bytes) ≡ prepended after (no_frames left found) = sym so_far ∙ ap (prepended after) last in
    record {
      descriptors = sym (append-nil after) ∙ sym (ap (λ (f : Frames). f.descriptors) same);
      rest = sym (ap (λ (f : Frames). f.rest) same);
      fault = sym (ap (λ (f : Frames). f.fault) same);
    }

pub taken_open : (bytes left : List ℕ) (before after : List Packet) → head_of left ≡ Open
    → prepended after (frames_of left) ≡ prepended before (frames_of bytes) → IsTaken bytes before after left None
taken_open bytes left before after head so_far = taken_last bytes left before after None (frames_open left head) so_far

pub taken_faulty : (bytes left : List ℕ) (before after : List Packet) (fault : FrameFault) → head_of left ≡ Faulty fault
    → prepended after (frames_of left) ≡ prepended before (frames_of bytes) → IsTaken bytes before after left (Some fault)
taken_faulty bytes left before after fault head so_far = taken_last bytes left before after (Some fault) (frames_faulty left fault head) so_far

payload_is_long : (after payload : List ℕ) (n : ℕ) → payload ≡ take n after → n ≤ length after → length payload ≡ n
payload_is_long after payload n is fits = ap length is ∙ length-take-le n after fits

-- the payload of a whole descriptor, cut out of what stands after its header
pub payload_size : (bytes after payload : List ℕ) (h : Header) → head_of bytes ≡ Whole h → after ≡ drop 23 bytes → payload ≡ take h.length after
    → length payload ≡ h.length
payload_size bytes after payload h head after_is payload_is =
    let fits = (whole bytes h head).fits in
    let size = length-drop 23 bytes in
    payload_is_long after payload h.length payload_is (rw after_is (omega (arith, size, fits)))

-- what stands after a whole descriptor is shorter
pub left_shorter : (bytes after left : List ℕ) (h : Header) → head_of bytes ≡ Whole h → after ≡ drop 23 bytes → left ≡ drop h.length after
    → length left < length bytes
left_shorter bytes after left h head after_is left_is =
    let fits = (whole bytes h head).fits in
    let size : length after ≡ length bytes - 23 = ap length after_is ∙ length-drop 23 bytes in
    let rest : length left ≡ length after - h.length = ap length left_is ∙ length-drop h.length after in
    omega arith

-- one descriptor more, of a payload and what is later
pub taken_more : (left : List ℕ) (h : Header) (before after : List Packet) (d : Packet) (payload later : List ℕ) → head_of left ≡ Whole h
    → after ≡ before ++ d ∷ [] → d ≡ packet_from h payload → payload ≡ take h.length (drop 23 left) → later ≡ drop h.length (drop 23 left)
    → prepended after (frames_of later) ≡ prepended before (frames_of left)
taken_more left h before after d payload later head added d_is payload_is later_is =
    let rest : later ≡ drop (23 + h.length) left = later_is ∙ drop-drop h.length 23 left in
    let items : after ≡ before ++ packet_from h (take h.length (drop 23 left)) ∷ [] =
    added ∙ ap (λ x. before ++ x ∷ []) (d_is ∙ ap (packet_from h) payload_is) in
    ap (λ xs. prepended xs (frames_of later)) items
    ∙ prepended_twice before (packet_from h (take h.length (drop 23 left)) ∷ []) (frames_of later)
    ∙ ap (λ xs. prepended before (prepended (packet_from h (take h.length (drop 23 left)) ∷ []) (frames_of xs))) rest
    ∙ ap (prepended before) (sym (frames_whole left h head))

-- what was taken of a copy of some bytes was found in them
pub found_taken : (bytes copied left kept : List ℕ) (before ds : List Packet) (found : Option FrameFault) → copied ≡ bytes → before ≡ []
    → IsTaken copied before ds left found → kept ≡ left → IsFound bytes ds found kept
found_taken bytes copied left kept before ds found same none taken kept_is =
    let of : IsTaken bytes before ds left found = subst (λ xs. IsTaken xs before ds left found) same taken in
    record {
      all = of.descriptors ∙ ap (λ xs. xs ++ (frames_of bytes).descriptors) none;
      fault = of.fault;
      rest = λ _. kept_is ∙ of.rest;
    }

-- open bytes have no descriptor, and all of them are kept
pub found_open : (bytes kept slice : List ℕ) (ds : List Packet) → kept ≡ bytes → slice ≡ kept → head_of slice ≡ Open → ds ≡ [] → IsFound bytes ds None kept
found_open bytes kept slice ds kept_is slice_is head none =
    let same : frames_of bytes ≡ no_frames bytes None = frames_open bytes (ap head_of (sym kept_is ∙ sym slice_is) ∙ head) in
    record {
      all = none ∙ ap (λ (f : Frames). f.descriptors) (sym same);
      fault = ap (λ (f : Frames). f.fault) (sym same);
      rest = λ _. kept_is ∙ ap (λ (f : Frames). f.rest) (sym same);
    }

-- an option that is none by a test
known_none : (found : Option FrameFault) (b : Bool) → b ≡ is_some found → b ≡ false → found ≡ None
known_none None b is given = refl
known_none (Some fault) b is given = let known : false ≡ true = sym given ∙ is in cc

-- what is kept without a fault is open
pub stays_open : (bytes kept : List ℕ) (ds : List Packet) (found : Option FrameFault) (b ended : Bool) → IsFound bytes ds found kept
    → b ≡ is_some found → b ≡ false → ended ≡ false → IsHeld ended kept
stays_open bytes kept ds found b ended is test given going =
    let none : found ≡ None = known_none found b test given in
    let head : head_of kept ≡ Open = ap head_of (is.rest none) ∙ rest_open bytes (sym is.fault ∙ none) in
    subst (λ (e : Bool). IsHeld e kept) (sym going) head
