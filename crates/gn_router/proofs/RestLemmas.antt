-- Sends that are all found, with none left, are the same.
use Rattle.std.proofs.Common.{◌≡◌, ◌↔◌, IsTrue, ℕ, ◌==◌, Bool, true, false, ◌&&◌, cond, List, [], ◌∷◌, Option, Some, None, refl, sym, ap, ◌∙◌}
use Rattle.std.specs.Bool.{beq}
use Rattle.std.specs.List.{fold}
use Rattle.std.proofs.lemmas.Map.Views.{exact_unsigned_eq}
use Rattle.gn_wire.specs.Keys.{is_same_packet}
use Rattle.gn_wire.specs.Packet.{Packet}
use Rattle.gn_wire.proofs.EqualityLemmas.{same_packet, packet_is_itself}
use Rattle.gn_rules.specs.declared.sends.Sending.{Sending}
use Rattle.gn_rules.proofs.StepLemmas as number
use Rattle.gn_router.specs.Rest.{is_end, is_same_sending, without_first}

both : (a b : Bool) → (a && b) ≡ true → (a ≡ true) × (b ≡ true)
both true b h = (refl, h)
both false b h = cc

same_mark : (a b : Bool) → beq a b ≡ true → a ≡ b
same_mark true true h = refl
same_mark true false h = cc
same_mark false true h = cc
same_mark false false h = refl

mark_is_itself : (a : Bool) → beq a a ≡ true
mark_is_itself true = refl
mark_is_itself false = refl

abbrev sending_of : {A : Type 0} → ℕ → Packet → Bool → Sending A
sending_of to packet queued = record { to = to; packet = packet; queued = queued }

sending_from : {A : Type 0} (x y : Sending A) → x.to ≡ y.to → x.packet ≡ y.packet → x.queued ≡ y.queued → x ≡ y
sending_from x y to packet queued =
    ap (λ n. sending_of n x.packet x.queued) to ∙ ap (λ p. sending_of y.to p x.queued) packet ∙ ap (sending_of y.to y.packet) queued

same_sending : {A : Type 0} (x y : Sending A) → is_same_sending x y ≡ true → x ≡ y
same_sending x y h =
    let queued = both ((x.to == y.to) && is_same_packet x.packet y.packet) (beq x.queued y.queued) h in
    let packet = both (x.to == y.to) (is_same_packet x.packet y.packet) queued.0 in
    sending_from x y (exact_unsigned_eq x.to y.to packet.0) (same_packet x.packet y.packet packet.1) (same_mark x.queued y.queued queued.1)

sending_is_itself : {A : Type 0} (x : Sending A) → is_same_sending x x ≡ true
sending_is_itself x = rw (number.is_itself x.to, packet_is_itself x.packet, mark_is_itself x.queued) refl

-- what is left after these sends were looked for
abbrev left_of : {A : Type 0} → Option (List (Sending A)) → List (Sending A) → Option (List (Sending A))
left_of left xs = fold (λ rest x. without_first x rest) left xs

none_left : {A : Type 0} (xs : List (Sending A)) → left_of None xs ≡ None
none_left [] = refl
none_left (x ∷ xs) = none_left xs

not_end : {A : Type 0} (xs : List (Sending A)) → is_end (left_of None xs) ≡ true → false ≡ true
not_end xs h = sym (ap is_end (none_left xs)) ∙ h

same_sends : {A : Type 0} (xs ys : List (Sending A)) → is_end (left_of (Some ys) xs) ≡ true → xs ≡ ys
same_sends [] [] h = refl
same_sends [] (y ∷ ys) h = cc
same_sends (x ∷ xs) [] h = let no = not_end xs h in cc
same_sends (x ∷ xs) (y ∷ ys) h =
    elim (is_same_sending x y) as (λ b. is_same_sending x y ≡ b → is_end (left_of (cond b (Some ys) None) xs) ≡ true → x ∷ xs ≡ y ∷ ys) [
      | true ↦ λ e f. ap (λ z. z ∷ xs) (same_sending x y e) ∙ ap (λ zs. y ∷ zs) (same_sends xs ys f)
      | false ↦ λ e f. let no = not_end xs f in cc
    ] refl h

themselves : {A : Type 0} (xs : List (Sending A)) → is_end (left_of (Some xs) xs) ≡ true
themselves [] = refl
themselves (x ∷ xs) = ap (λ b. is_end (left_of (cond b (Some xs) None) xs)) (sending_is_itself x) ∙ themselves xs

-- all of these sends are found and none is left, just where the sends are those
pub all_found : {A : Type 0} (found : Bool) (xs ys : List (Sending A)) (first last : Option (List (Sending A))) → first ≡ Some ys → last ≡ left_of first xs → found ≡ is_end last
    → IsTrue found ↔ (xs ≡ ys)
all_found found xs ys first last first_is last_is found_is =
    let is : found ≡ is_end (left_of (Some ys) xs) = found_is ∙ ap is_end (last_is ∙ ap (λ left. left_of left xs) first_is) in
    (λ h. same_sends xs ys (sym is ∙ h), λ e. is ∙ ap (λ zs. is_end (left_of (Some zs) xs)) (sym e) ∙ themselves xs)
