-- A string of bytes has just one reading.
use Rattle.std.proofs.Common.{◌≡◌, ℕ, zero, suc, ◌+◌, ◌<◌, ◌≤◌, List, [], ◌∷◌, ◌++◌, length, get_or, take, drop, Option, Some, None, All, inl, inr, refl, sym, ap, ◌∙◌, subst, arith, lit<, append_assoc, length-append, length-drop}
use Rattle.std.proofs.Math.Seq.{take-add, drop-append_seam}
use Rattle.std.proofs.lemmas.List.Elements.{All-drop, All-take, All-cons}
use Rattle.std.proofs.lemmas.List.{length-take-le, take-append-drop, take_at, drop-drop, get_or_past}
use Rattle.std.specs.List.{flat_map}
use Rattle.gn_wire.specs.declared.header.FrameFault.{FrameFault}
use Rattle.gn_wire.specs.declared.header.Header.{Header}
use Rattle.gn_wire.specs.Packet.{IsStored, fault_of, IsDescriptor, Packet}
use Rattle.gn_wire.specs.Encoding.{bytes_of, header_at, header_bytes, header_of, packet_from}
use Rattle.gn_wire.proofs.HeaderLemmas.{header_bytes-header_at}
use Rattle.gn_wire.proofs.KindLemmas.{stored-kind_of}
use Rattle.gn_wire.proofs.EncodingLemmas.{header_at-stream, drop-stream, length-header_bytes}
use Rattle.gn_frames.specs.declared.head.Head.{Head}
use Rattle.gn_frames.specs.declared.head.Head.TheVariants.{Open, Faulty, Whole}
use Rattle.gn_frames.specs.Frames.{head_of, no_frames, prepended, frames_of, named_length, IsRest, IsFrames, FramesAreOne}
use Rattle.gn_frames.proofs.FramesLemmas.{frames_open, frames_faulty, frames_whole, shorter}
use Rattle.gn_frames.proofs.HeadLemmas.{below_or_not, IsWhole, whole, head_whole, head_open, head_faulty, is_open, is_faulty}

-- a string that begins with a descriptor has a whole head
whole_stream : (d : Packet) (rest : List ℕ) → IsDescriptor d → head_of (bytes_of d ++ rest) ≡ Whole (header_of d)
whole_stream d rest kept =
    let same : header_at (take 23 (bytes_of d ++ rest)) ≡ header_of d = header_at-stream d rest kept in
    let n : named_length (bytes_of d ++ rest) ≡ length d.payload = ap (λ (h : Header). h.length) same in
    let header : length (header_bytes (header_of d)) ≡ 23 = length-header_bytes (header_of d) kept.id_size in
    let size : length (bytes_of d ++ rest) ≡ 23 + length d.payload + length rest =
    length-append (bytes_of d) rest ∙ ap (λ (k : ℕ). k + length rest) (length-append (header_bytes (header_of d)) d.payload ∙ ap (λ (k : ℕ). k + length d.payload) header) in
    head_whole (bytes_of d ++ rest) (ap (λ (h : Header). fault_of h.kind h.length) same ∙ kept.valid) (omega arith)
    ∙ ap Whole same

-- and its frames are the descriptor and those of what stands after it
frames_stream : (d : Packet) (rest : List ℕ) → IsDescriptor d → frames_of (bytes_of d ++ rest) ≡ prepended (d ∷ []) (frames_of rest)
frames_stream d rest kept =
    let s = bytes_of d ++ rest in
    let payload : take (length d.payload) (drop 23 s) ≡ d.payload =
    ap (take (length d.payload)) (drop-stream d rest kept) ∙ take_at d.payload rest (length d.payload) refl in
    let later : drop (23 + length d.payload) s ≡ rest =
    sym (drop-drop (length d.payload) 23 s) ∙ ap (drop (length d.payload)) (drop-stream d rest kept) ∙ drop-append_seam d.payload rest in
    frames_whole s (header_of d) (whole_stream d rest kept)
    ∙ ap (λ xs. prepended (packet_from (header_of d) xs ∷ []) (frames_of (drop (23 + length d.payload) s))) payload
    ∙ ap (λ xs. prepended (d ∷ []) (frames_of xs)) later

-- a reading is the one that the function gives
ends : (r : List ℕ) (fault : Option FrameFault) → IsRest r fault → frames_of r ≡ no_frames r fault
ends r None ended = frames_open r (head_open r ended)
ends r (Some fault) ended = frames_faulty r fault (head_faulty r fault ended)

only : (ds : List Packet) (r : List ℕ) (fault : Option FrameFault) → All IsDescriptor ds → IsRest r fault
    → frames_of (flat_map bytes_of ds ++ r) ≡ record { descriptors = ds; rest = r; fault = fault }
only [] r fault valid ended = ends r fault ended
only (d ∷ ds) r fault valid ended =
    ap frames_of (append_assoc (bytes_of d) (flat_map bytes_of ds) r)
    ∙ frames_stream d (flat_map bytes_of ds ++ r) (valid 0 d (omega arith))
    ∙ ap (prepended (d ∷ [])) (only ds r fault (λ k e h. valid (suc k) e (omega arith)) ended)

-- a byte, at any place
byte_at : (s : List ℕ) → All (λ b. b < 256) s → (k : ℕ) → get_or s k 0 < 256
byte_at s bytes k = elim (below_or_not k (length s)) [
  | inl below ↦ bytes k 0 below
  | inr past ↦ rw (get_or_past s k 0 past) (lit< tt)
]

-- the payload of a whole head
payload_size : (s : List ℕ) (h : Header) → IsWhole s h → length (take h.length (drop 23 s)) ≡ h.length
payload_size s h is = length-take-le h.length (drop 23 s) (let fits = is.fits in rw length-drop (omega arith))

-- the descriptor of a whole head encodes it
known_whole : (s : List ℕ) (h : Header) → All (λ b. b < 256) s → IsWhole s h
    → bytes_of (packet_from h (take h.length (drop 23 s))) ++ drop (23 + h.length) s ≡ s
known_whole s h bytes is =
    let fits = is.fits in
    let start = take 23 s in
    let payload = take h.length (drop 23 s) in
    let header : header_bytes h ≡ start =
    ap header_bytes (sym is.header)
    ∙ header_bytes-header_at start (length-take-le 23 s (omega arith)) (byte_at start (All-take (λ b. b < 256) 23 s bytes)) in
    let encoded : bytes_of (packet_from h payload) ≡ take (23 + h.length) s =
    ap (λ (n : ℕ). header_bytes (record h { length = n }) ++ payload) (payload_size s h is)
    ∙ ap (λ xs. xs ++ payload) header
    ∙ sym (take-add 23 h.length s) in
    ap (λ xs. xs ++ drop (23 + h.length) s) encoded ∙ take-append-drop (23 + h.length) s

known_descriptor : (s : List ℕ) (h : Header) → All (λ b. b < 256) s → IsWhole s h → IsDescriptor (packet_from h (take h.length (drop 23 s)))
known_descriptor s h bytes is =
    let fits = is.fits in
    let start = take 23 s in
    let size : length start ≡ 23 = length-take-le 23 s (omega arith) in
    let byte = byte_at start (All-take (λ b. b < 256) 23 s bytes) in
    record {
      valid = ap (fault_of h.kind) (payload_size s h is) ∙ is.valid;
      stored = subst (λ (x : Header). IsStored x.kind) is.header (stored-kind_of (get_or start 16 0));
      id_size = sym (ap (λ (x : Header). length x.id.0) is.header) ∙ length-take-le 16 start (omega arith);
      ttl_fits = subst (λ (x : Header). x.ttl < 256) is.header (byte 17);
      hops_fits = subst (λ (x : Header). x.hops < 256) is.header (byte 18);
    }

-- the function gives a reading
known : (s : List ℕ) (n : ℕ) → length s ≤ n → All (λ b. b < 256) s → (head : Head) → head_of s ≡ head → IsFrames s (frames_of s)
known s n size bytes Open e =
    subst (IsFrames s) (sym (frames_open s e)) (record { encoded = refl; valid = λ k d h. absurd (omega arith); ended = is_open s e })
known s n size bytes (Faulty fault) e =
    subst (IsFrames s) (sym (frames_faulty s fault e)) (record { encoded = refl; valid = λ k d h. absurd (omega arith); ended = is_faulty s fault e })
known s zero size bytes (Whole h) e = let fits = (whole s h e).fits in absurd (omega arith)
known s (suc n) size bytes (Whole h) e =
    let is = whole s h e in
    let d = packet_from h (take h.length (drop 23 s)) in
    let rest = drop (23 + h.length) s in
    let there = known rest n (shorter s n h.length size) (All-drop (λ b. b < 256) (23 + h.length) s bytes) (head_of rest) refl in
    let f = frames_of rest in
    subst (IsFrames s) (sym (frames_whole s h e)) (record {
      encoded = sym (known_whole s h bytes is) ∙ ap (λ xs. bytes_of d ++ xs) there.encoded ∙ sym (append_assoc (bytes_of d) (flat_map bytes_of f.descriptors) f.rest);
      valid = All-cons IsDescriptor d f.descriptors (known_descriptor s h bytes is) there.valid;
      ended = there.ended;
    })

pub frames_are_one : FramesAreOne
frames_are_one s bytes f = (
  λ reading. sym (ap frames_of reading.encoded ∙ only f.descriptors f.rest f.fault reading.valid reading.ended),
  λ e. subst (IsFrames s) (sym e) (known s (length s) (omega arith) bytes (head_of s) refl),
)
