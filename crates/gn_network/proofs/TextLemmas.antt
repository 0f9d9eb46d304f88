-- What was written begins the opening text and all encodings, and what was read of it offers the first of the packets.
use Rattle.std.proofs.Common.{◌≡◌, ℕ, List, [], ◌∷◌, ◌++◌, length, map, take, drop, Some, All, inl, inr, refl, sym, ap, subst, ◌∙◌, append_assoc}
use Rattle.std.proofs.Math.Seq.{drop-append_seam}
use Rattle.std.proofs.lemmas.List.{append-nil, append_cancel_left, take-append-drop}
use Rattle.std.proofs.lemmas.List.Concat.{flat_map-cons}
use Rattle.std.proofs.lemmas.List.Elements.{filter_map-append}
use Rattle.std.proofs.lemmas.List.Folds.{concat-append}
use Rattle.std.specs.List.{concat, filter_map, flat_map}
use Rattle.gn_wire.specs.Encoding.{bytes_of}
use Rattle.gn_wire.specs.Packet.{IsDescriptor, Packet}
use Rattle.gn_frames.specs.Frames.{frames_of, Frames}
use Rattle.gn_shake.specs.declared.role.Role.{Role}
use Rattle.gn_shake.specs.declared.role.Role.TheVariants.{Accepting, Calling, Plain}
use Rattle.gn_shake.specs.declared.shake.ShakeState.TheVariants.{Done}
use Rattle.gn_shake.specs.Greeting.{greeting_of, greeting_state, request_text, IsAccepted, IsState}
use Rattle.gn_shake.proofs.GreetingLemmas.{known}
use Rattle.gn_rules.specs.declared.event.Event.{Event}
use Rattle.gn_rules.specs.declared.event.Event.TheVariants.{Admit, Connect, Close}
use Rattle.gn_rules.specs.Flight.{Admission, admission_of}
use Rattle.gn_bodies.specs.declared.ends.ReaderEnd.{ReaderEnd}
use Rattle.gn_bodies.specs.declared.ends.ReaderEnd.TheVariants.{Bytes, Fault, ReadFailed, Turns, NotLive}
use Rattle.gn_bodies.specs.declared.ends.WriterEnd.{WriterEnd}
use Rattle.gn_bodies.specs.declared.ends.WriterEnd.TheVariants.{Drained, WriteFailed, Closed, NeverOpened}
use Rattle.gn_bodies.specs.ReaderRows.{ConnectedRow, ReaderRow, WithClose}
use Rattle.gn_bodies.specs.Written.{opening_texts, WriterRow}
use Rattle.gn_network.specs.Sockets.{Greets}
use Rattle.gn_network.proofs.SpellingLemmas.{first_frames, AreFirst}

-- what a writer is to write of a link of this role, where it takes these packets
abbrev pub all_text : Role → List Packet → List ℕ
all_text role packets = concat (opening_texts role ++ map bytes_of packets)

-- bytes that begin a text
pub record Begins (bytes text : List ℕ) : Type 0 where
  pub more : List ℕ
  pub whole : text ≡ bytes ++ more

all_but_last : (texts done last : List (List ℕ)) (written : List ℕ) (n : ℕ) → texts ≡ done ++ last → written ≡ concat done ++ take n (concat last) → Begins written (concat texts)
all_but_last texts done last written n e w = record {
  more = drop n (concat last);
  whole = ap concat e
      ∙ concat-append done last
      ∙ ap (λ bs. concat done ++ bs) (sym (take-append-drop n (concat last)))
      ∙ sym (append_assoc (concat done) (take n (concat last)) (drop n (concat last)))
      ∙ ap (λ bs. bs ++ drop n (concat last)) (sym w);
}

-- however a writer ended, what it wrote begins all of it
pub written_begins : (batch : ℕ) (end : WriterEnd) (role : Role) (packets : List Packet) (written : List ℕ) → WriterRow batch end role (opening_texts role ++ map bytes_of packets) written → Begins written (all_text role packets)
written_begins batch Drained role packets written row = record { more = []; whole = sym row ∙ sym (append-nil written) }
written_begins batch Closed role packets written row = record { more = []; whole = sym row ∙ sym (append-nil written) }
written_begins batch WriteFailed role packets written row = all_but_last (opening_texts role ++ map bytes_of packets) row.0 row.1 written row.2 row.3 row.6
written_begins batch NeverOpened Calling packets written row = record {
  more = concat (map bytes_of packets);
  whole = concat-append (request_text ∷ []) (map bytes_of packets) ∙ ap (λ bs. bs ++ concat (map bytes_of packets)) (append-nil request_text ∙ sym row);
}
written_begins batch NeverOpened Accepting packets written row = record { more = all_text Accepting packets; whole = ap (λ bs. bs ++ all_text Accepting packets) (sym row) }
written_begins batch NeverOpened Plain packets written row = record { more = all_text Plain packets; whole = ap (λ bs. bs ++ all_text Plain packets) (sym row) }

-- encodings, joined
joined_is : (packets : List Packet) → concat (map bytes_of packets) ≡ flat_map bytes_of packets
joined_is [] = refl
joined_is (p ∷ packets) = ap (λ bs. bytes_of p ++ bs) (joined_is packets) ∙ sym (flat_map-cons bytes_of p packets)

-- what an event offers, as an admission of c
abbrev pub offer : ℕ → Packet → Admission
offer c p = record { origin = c; packet = p }

-- events offer the first of these packets on c, and nothing else
pub record OfferFirst {A : Type 0} (c : ℕ) (es : List (Event A)) (packets : List Packet) : Type 0 where
  pub offered : List Packet
  pub first : AreFirst offered packets
  pub are : filter_map admission_of es ≡ map (offer c) offered

admits_offer : (A : Type 0) (c : ℕ) (ds : List Packet) → filter_map (admission_of {A = A}) (map (Admit c) ds) ≡ map (offer c) ds
admits_offer A c [] = refl
admits_offer A c (d ∷ ds) = ap (λ offers. offer c d ∷ offers) (admits_offer A c ds)

-- the whole of a list is the first of it
all_first : (ds : List Packet) → AreFirst ds ds
all_first ds = record { later = []; whole = sym (append-nil ds) }

some_first : (n : ℕ) (ds : List Packet) → AreFirst (take n ds) ds
some_first n ds = record { later = drop n ds; whole = sym (take-append-drop n ds) }

connected_offers : {A : Type 0} (c : ℕ) (ds : List Packet) (es : List (Event A)) → es ≡ Connect ∷ map (Admit c) ds → filter_map admission_of es ≡ map (offer c) ds
connected_offers {A} c ds es is = ap (filter_map admission_of) is ∙ admits_offer A c ds

with_close : {A : Type 0} (c : ℕ) (ds : List Packet) (es : List (Event A)) → WithClose c es (Connect ∷ map (Admit c) ds) → filter_map admission_of es ≡ map (offer c) ds
with_close c ds es (inl is) = connected_offers c ds es is
with_close {A} c ds es (inr is) =
    ap (filter_map admission_of) is
    ∙ filter_map-append admission_of (Connect ∷ map (Admit c) ds) (Close c ∷ [])
    ∙ append-nil (filter_map (admission_of {A = A}) (Connect ∷ map (Admit c) ds))
    ∙ admits_offer A c ds

-- however a connected reader ended, it offered the first of its bytes' descriptors
connected_first : {A : Type 0} (end : ReaderEnd) (c : ℕ) (es : List (Event A)) (frames : Frames) → ConnectedRow end c es frames → OfferFirst c es frames.descriptors
connected_first Bytes c es frames row = record { offered = frames.descriptors; first = all_first frames.descriptors; are = connected_offers c frames.descriptors es row.1 }
connected_first (Fault f) c es frames row = record { offered = frames.descriptors; first = all_first frames.descriptors; are = with_close c frames.descriptors es row.1 }
connected_first ReadFailed c es frames row = record { offered = frames.descriptors; first = all_first frames.descriptors; are = with_close c frames.descriptors es row }
connected_first Turns c es frames row = record { offered = frames.descriptors; first = all_first frames.descriptors; are = with_close c frames.descriptors es row }
connected_first NotLive c es frames row = record { offered = take row.0 frames.descriptors; first = some_first row.0 frames.descriptors; are = connected_offers c (take row.0 frames.descriptors) es row.2 }
connected_first end c es frames row = absurd row

first_of_first : (xs ys zs : List Packet) → AreFirst xs ys → AreFirst ys zs → AreFirst xs zs
first_of_first xs ys zs a b = record {
  later = a.later ++ b.later;
  whole = b.whole ∙ ap (λ ps. ps ++ b.later) a.whole ∙ append_assoc xs a.later b.later;
}

-- a greeted stream: what was read begins with the greeting
accepted : (role : Role) (bytes : List ℕ) → greeting_state (greeting_of role) bytes ≡ Done → IsAccepted (greeting_of role) bytes
accepted role bytes done = subst (IsState (greeting_of role) bytes) done (known (greeting_of role) bytes)

-- a reader of a beginning of what a writer is to write offers the first of the packets
pub read_offers : {A : Type 0} (role other : Role) (end : ReaderEnd) (d : ℕ) (es : List (Event A)) (packets : List Packet) (read : List ℕ) → All IsDescriptor packets → Greets role other → Begins read (all_text role packets)
    → ReaderRow other end (Some d) es read → OfferFirst d es packets
read_offers {A} role other end d es packets read valid greets begins row =
    let greeting = greeting_of other in
    let came = accepted other read row.0 in
    let stream = came.0 in
    let left : drop (length greeting) read ≡ stream = ap (drop (length greeting)) came.1 ∙ drop-append_seam greeting stream in
    let text : all_text role packets ≡ greeting ++ flat_map bytes_of packets =
    concat-append (opening_texts role) (map bytes_of packets) ∙ ap (λ bs. bs ++ concat (map bytes_of packets)) greets ∙ ap (λ bs. greeting ++ bs) (joined_is packets) in
    let same : greeting ++ flat_map bytes_of packets ≡ greeting ++ (stream ++ begins.more) =
    sym text ∙ begins.whole ∙ ap (λ bs. bs ++ begins.more) came.1 ∙ append_assoc greeting stream begins.more in
    let all = first_frames packets stream begins.more valid (append_cancel_left greeting (flat_map bytes_of packets) (stream ++ begins.more) same) in
    let offers = connected_first end d es (frames_of (drop (length greeting) read)) row.1 in
    let here : AreFirst offers.offered (frames_of stream).descriptors = subst (λ bs. AreFirst offers.offered (frames_of bs).descriptors) left offers.first in
    record { offered = offers.offered; first = first_of_first offers.offered (frames_of stream).descriptors packets here all; are = offers.are }
