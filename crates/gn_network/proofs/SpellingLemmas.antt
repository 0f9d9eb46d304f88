-- The descriptors of a beginning of encodings are the first of those that were encoded.
use Rattle.std.proofs.Common.{◌≡◌, ℕ, suc, ◌+◌, List, [], ◌∷◌, ◌++◌, length, take, drop, All, inl, refl, sym, ap, ◌∙◌, arith, length-append}
use Rattle.std.proofs.Math.Seq.{drop-append_seam}
use Rattle.std.proofs.lemmas.List.{take_at, drop-drop}
use Rattle.std.specs.List.{flat_map}
use Rattle.gn_wire.specs.declared.header.Header.{Header}
use Rattle.gn_wire.specs.Packet.{fault_of, IsDescriptor, Packet}
use Rattle.gn_wire.specs.Encoding.{bytes_of, header_at, header_bytes, header_of, packet_from}
use Rattle.gn_wire.proofs.EncodingLemmas.{header_at-stream, drop-stream, length-header_bytes}
use Rattle.gn_frames.specs.declared.head.Head.TheVariants.{Whole}
use Rattle.gn_frames.specs.Frames.{head_of, prepended, frames_of, named_length, Frames}
use Rattle.gn_frames.proofs.FramesLemmas.{cut, frames_open, frames_whole}
use Rattle.gn_frames.proofs.HeadLemmas.{head_whole, head_open}

-- a string that begins with an encoding has a whole head
whole_first : (d : Packet) (rest : List ℕ) → IsDescriptor d → head_of (bytes_of d ++ rest) ≡ Whole (header_of d)
whole_first d rest kept =
    let same : header_at (take 23 (bytes_of d ++ rest)) ≡ header_of d = header_at-stream d rest kept in
    let n : named_length (bytes_of d ++ rest) ≡ length d.payload = ap (λ (h : Header). h.length) same in
    let header : length (header_bytes (header_of d)) ≡ 23 = length-header_bytes (header_of d) kept.id_size in
    let size : length (bytes_of d ++ rest) ≡ 23 + length d.payload + length rest =
    length-append (bytes_of d) rest ∙ ap (λ (k : ℕ). k + length rest) (length-append (header_bytes (header_of d)) d.payload ∙ ap (λ (k : ℕ). k + length d.payload) header) in
    head_whole (bytes_of d ++ rest) (ap (λ (h : Header). fault_of h.kind h.length) same ∙ kept.valid) (omega arith)
    ∙ ap Whole same

-- and its frames are that descriptor, and those of the rest
frames_first : (d : Packet) (rest : List ℕ) → IsDescriptor d → frames_of (bytes_of d ++ rest) ≡ prepended (d ∷ []) (frames_of rest)
frames_first d rest kept =
    let s = bytes_of d ++ rest in
    let payload : take (length d.payload) (drop 23 s) ≡ d.payload =
    ap (take (length d.payload)) (drop-stream d rest kept) ∙ take_at d.payload rest (length d.payload) refl in
    let later : drop (23 + length d.payload) s ≡ rest =
    sym (drop-drop (length d.payload) 23 s) ∙ ap (drop (length d.payload)) (drop-stream d rest kept) ∙ drop-append_seam d.payload rest in
    frames_whole s (header_of d) (whole_first d rest kept)
    ∙ ap (λ xs. prepended (packet_from (header_of d) xs ∷ []) (frames_of (drop (23 + length d.payload) s))) payload
    ∙ ap (λ xs. prepended (d ∷ []) (frames_of xs)) later

-- the frames of encodings are what was encoded
frames_all : (ds : List Packet) → All IsDescriptor ds → (frames_of (flat_map bytes_of ds)).descriptors ≡ ds
frames_all [] valid = ap (λ (f : Frames). f.descriptors) (frames_open [] (head_open [] (inl (omega arith))))
frames_all (d ∷ ds) valid =
    ap (λ (f : Frames). f.descriptors) (frames_first d (flat_map bytes_of ds) (valid 0 d (omega arith)))
    ∙ ap (λ es. d ∷ es) (frames_all ds (λ k e h. valid (suc k) e (omega arith)))

-- these are the first of those
pub record AreFirst (ds all : List Packet) : Type 0 where
  pub later : List Packet
  pub whole : all ≡ ds ++ later

-- the descriptors of a beginning
pub first_frames : (all : List Packet) (s more : List ℕ) → All IsDescriptor all → flat_map bytes_of all ≡ s ++ more → AreFirst (frames_of s).descriptors all
first_frames all s more valid e = record {
  later = (frames_of ((frames_of s).rest ++ more)).descriptors;
  whole = sym (frames_all all valid) ∙ ap (λ bs. (frames_of bs).descriptors) e ∙ ap (λ (f : Frames). f.descriptors) (cut s more);
}
