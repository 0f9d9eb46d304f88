-- What holds of each element of a list that is gone through, and of a reply without packets.
use Rattle.std.proofs.Common.{◌≡◌, ℕ, zero, suc, ◌+◌, ◌<◌, ◌≤◌, Bool, List, [], ◌∷◌, length, take, get_or, refl, subst, arith}
use Rattle.std.specs.Prelude.{IfSome}
use Rattle.std.specs.List.{AllByRecursion}
use Rattle.std.proofs.lemmas.List.{take_all}
use Rattle.gn_wire.specs.Packet.{Packet}
use Rattle.gn_rules.specs.declared.reply.Reply.{Reply}
use Rattle.gn_rules.specs.declared.reply.Reply.TheVariants.{Routed, Taken, Sent}
use Rattle.gn_rules.specs.declared.sends.Sending.{Sending}
use Rattle.gn_rules.specs.Plain.{number_of}
use Rattle.gn_capture.specs.RoundTrip.{IsNumber, IsReply}

one_more : {X : Type 0} (P : X → Type 0) (xs : List X) (i : ℕ) (x : X) → i < length xs → x ≡ get_or xs i x → AllByRecursion P (take i xs) → P x
    → AllByRecursion P (take (suc i) xs)
one_more P [] i x below is head holds = absurd (omega arith)
one_more P (y ∷ ys) zero x below is head holds = (subst P is holds, tt)
one_more P (y ∷ ys) (suc i) x below is head holds = (head.0, one_more P ys i x (omega arith) is head.1 holds)

-- one element more
pub all_more : {X : Type 0} (P : X → Type 0) (xs : List X) (i : ℕ) (x : X) → i < length xs → x ≡ get_or xs i x → AllByRecursion P (take i xs) → P x
    → AllByRecursion P (take (i + 1) xs)
all_more P xs i x below is head holds =
    let next : suc i ≡ i + 1 = omega arith in subst (λ n. AllByRecursion P (take n xs)) next (one_more P xs i x below is head holds)

-- all of them
pub all_taken : {X : Type 0} (P : X → Type 0) (xs : List X) (i : ℕ) → length xs ≤ i → AllByRecursion P (take i xs) → AllByRecursion P xs
all_taken {X = X} P xs i past head = let of : List X → Type 0 = λ ys. AllByRecursion P ys in subst of (take_all i xs past) head

-- a reply without packets is one of numbers, where its number is one
pub packetless : {A : Type 0} (reply : Reply A) → ((sends : List (Sending A)) (local : Bool) → reply ≡ Routed sends local → ⊥)
    → ((packet : Packet) → reply ≡ Taken packet → ⊥) → ((sends : List (Sending A)) → reply ≡ Sent sends → ⊥) → IfSome (number_of reply) IsNumber → IsReply reply
packetless (Routed sends local) routed taken sent fits = absurd (routed sends local refl)
packetless (Taken packet) routed taken sent fits = absurd (taken packet refl)
packetless (Sent sends) routed taken sent fits = absurd (sent sends refl)
packetless reply routed taken sent fits = fits
