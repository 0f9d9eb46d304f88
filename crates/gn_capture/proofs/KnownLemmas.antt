-- A packet that is sent again.
use Rattle.std.proofs.Common.{◌≡◌, ℕ, zero, suc, ◌-◌, ◌==◌, Bool, true, List, [], ◌∷◌, ◌++◌, length, take, drop, refl, sym, subst, ap, ◌∙◌, arith, Option, Some, None, length-append, append_assoc, Bor}
use Rattle.std.specs.Prelude.{IfSome, slice_get, map, option_map}
use lib.Pointwise.{bytes_decides}
use Rattle.gn_wire.specs.Packet.{Packet}
use Rattle.gn_rules.specs.declared.sends.Sending.{Sending}
use Rattle.gn_text.specs.Lines.{is_word}
use Rattle.gn_numbers.specs.Numbers.{number_of, ◌>>=◌}
use Rattle.gn_capture.specs.Packets.{packet_parsed}
use Rattle.gn_capture.specs.Replies.{hex_of, mark_place, marked_parsed, sending_parsed, sends_parsed}
use Rattle.gn_capture.specs.Known.{SaysLast}

-- the same hex digits say the same packet
pub said_again : (hex digits : List ℕ) (packet : Packet) → is_word hex digits ≡ true → packet_parsed digits ≡ Some packet
    → Some packet ≡ packet_parsed hex
said_again hex digits packet same says = sym (ap packet_parsed ((bytes_decides hex digits).0 same) ∙ says)

abbrev sent : {A : Type 0} → ℕ → Bool → Packet → Sending A
sent c queued packet = record { to = c; packet = packet; queued = queued }

packet_in_it : {A : Type 0} (to : Option ℕ) (packet : Option Packet) (queued : Bool) (s : Sending A)
    → (to >>= λ c. packet >>= λ p. Some (sent {A = A} c queued p)) ≡ Some s → packet ≡ Some s.packet
packet_in_it None packet queued s e = absurd (cc)
packet_in_it (Some c) None queued s e = absurd (cc)
packet_in_it {A = A} (Some c) (Some p) queued s e =
    let same : sent {A = A} c queued p ≡ s = cc in
    ap (λ (x : Sending A). Some x.packet) same

marked_packet : {A : Type 0} (to marked : List ℕ) (s : Sending A) → marked_parsed to marked ≡ Some s → packet_parsed (drop 1 marked) ≡ Some s.packet
marked_packet to [] s e = absurd (cc)
marked_packet to (mark ∷ hex) s e = packet_in_it (number_of to) (packet_parsed hex) (mark == 43) s e

last_of : {X : Type 0} (head : List X) (x : X) (n : ℕ) → n ≡ length head → slice_get (head ++ x ∷ []) n ≡ Some x
last_of [] x zero is = refl
last_of [] x (suc n) is = absurd (omega (arith, is))
last_of (y ∷ head) x zero is = absurd (omega (arith, is))
last_of (y ∷ head) x (suc n) is = last_of head x n (omega (arith, is))

-- the last send is known
pub known_last : {A : Type 0} (sends : List (Sending A)) (hex : List ℕ) (last : Sending A) → Some last ≡ slice_get sends (length sends - 1)
    → SaysLast hex sends → packet_parsed hex ≡ Some last.packet
known_last {A = A} sends hex last is says =
    subst (λ (o : Option (Sending A)). IfSome o (λ s. packet_parsed hex ≡ Some s.packet)) (sym is) says

-- a field's hex digits say the packet of the send that the field says
pub says_sent : {A : Type 0} (head now : List (Sending A)) (field : List ℕ) (s : Sending A) → now ≡ head ++ s ∷ [] → Some s ≡ sending_parsed field
    → SaysLast (hex_of field) now
says_sent {A = A} head now field s is says =
    let packet = marked_packet (take (mark_place field) field) (drop (mark_place field) field) s (sym says) in
    let long = length-append head (s ∷ []) in
    let at : length (head ++ s ∷ []) - 1 ≡ length head = omega arith in
    let last : slice_get (head ++ s ∷ []) (length (head ++ s ∷ []) - 1) ≡ Some s = last_of head s (length (head ++ s ∷ []) - 1) at in
    let known : SaysLast (hex_of field) (head ++ s ∷ []) =
    subst (λ (o : Option (Sending A)). IfSome o (λ x. packet_parsed (hex_of field) ≡ Some x.packet)) (sym last) packet in
    subst (λ (xs : List (Sending A)). SaysLast (hex_of field) xs) (sym is) known

more_parsed : {A : Type 0} (head : List (Sending A)) (s : Sending A) (more : Option (List (Sending A)))
    → option_map (λ xs. (head ++ s ∷ []) ++ xs) more ≡ option_map (λ xs. head ++ xs) (more >>= λ others. Some (s ∷ others))
more_parsed head s None = refl
more_parsed head s (Some others) = ap Some (append_assoc head (s ∷ []) others)

-- what the fields left say, where the first of them says a send
pub sends_more : {A : Type 0} (head now : List (Sending A)) (left more : List (Bor (List ℕ))) (field : Bor (List ℕ)) (s : Sending A) (all : Option (List (Sending A)))
    → left ≡ field ∷ more → now ≡ head ++ s ∷ [] → Some s ≡ sending_parsed field.now
    → option_map (λ xs. head ++ xs) (sends_parsed (map (λ x. x.now) left)) ≡ all
    → option_map (λ xs. now ++ xs) (sends_parsed (map (λ x. x.now) more)) ≡ all
sends_more head now left more field s all first grown is known =
    let step : sends_parsed (map (λ x. x.now) left) ≡ (sends_parsed (map (λ x. x.now) more) >>= λ others. Some (s ∷ others)) = rw (first, ← is) refl in
    rw grown (more_parsed head s (sends_parsed (map (λ x. x.now) more)) ∙ ap (option_map (λ xs. head ++ xs)) (sym step) ∙ known)
