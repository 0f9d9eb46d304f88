-- What the fields of a step line say of its reply.
use Rattle.std.specs.Prelude.{ℕ, Bool, ◌==◌, ◌||◌, not, if◌then◌else◌, List, [], ◌∷◌, take, drop, codes, Option, Some, None}
use Rattle.std.specs.List.{prefix_len}
use Rattle.gn_rules.specs.declared.reply.Reply.{Reply}
use Rattle.gn_rules.specs.declared.reply.Reply.TheVariants.{Routed, Dropped, Taken, Sent}
use Rattle.gn_rules.specs.declared.sends.Sending.{Sending}
use Rattle.gn_rules.specs.declared.statistics.Counter.{Counter}
use Rattle.gn_rules.specs.declared.statistics.Counter.TheVariants as counter
use Rattle.gn_rules.specs.Plain.{plain_of}
use Rattle.gn_text.specs.Lines.{is_word}
use Rattle.gn_numbers.specs.Names.{counter_named, place_named, reason_named}
use Rattle.gn_numbers.specs.Numbers.{number_of, ◌>>=◌}
use Rattle.gn_capture.specs.Packets.{packet_parsed}

-- no mark of a send: neither + nor -
abbrev pub is_unmarked : ℕ → Bool
is_unmarked b = not (b == 43 || b == 45)

-- how many bytes stand before the mark of a send
abbrev pub mark_place : List ℕ → ℕ
mark_place field = prefix_len is_unmarked field

-- the send to the connection that the first text says: the mark, and the packet after it
abbrev pub marked_parsed : {A : Type 0} → List ℕ → List ℕ → Option (Sending A)
marked_parsed to [] = None
marked_parsed to (mark ∷ hex) = do
  c ← number_of to
  packet ← packet_parsed hex
  Some (record { to = c; packet = packet; queued = mark == 43 })

-- the send that a field says
abbrev pub sending_parsed : {A : Type 0} → List ℕ → Option (Sending A)
sending_parsed field = marked_parsed (take (mark_place field) field) (drop (mark_place field) field)

-- what of a field stands after the mark
abbrev pub hex_of : List ℕ → List ℕ
hex_of field = drop 1 (drop (mark_place field) field)

-- the sends that fields say, one each
abbrev pub sends_parsed : {A : Type 0} → List (List ℕ) → Option (List (Sending A))
sends_parsed [] = Some []
sends_parsed (field ∷ more) = do
  sending ← sending_parsed field
  others ← sends_parsed more
  Some (sending ∷ others)

-- what one field says, where it is alone
abbrev pub alone : {X : Type 0} → (List ℕ → Option X) → List (List ℕ) → Option X
alone parsed (field ∷ []) = parsed field
alone parsed fields = None

-- the place and the sends of a routed descriptor
abbrev pub routed_parsed : {A : Type 0} → List (List ℕ) → Option (Reply A)
routed_parsed [] = None
routed_parsed (place ∷ more) = do
  local ← place_named place
  sends ← sends_parsed more
  Some (Routed sends local)

-- a number or none, where there is at most one field
abbrev pub number_or_none : List (List ℕ) → Option (Option ℕ)
number_or_none [] = Some None
number_or_none (field ∷ []) = number_of field >>= λ n. Some (Some n)
number_or_none fields = None

-- the plain reply of this counter, by the fields behind its word
abbrev pub plain_parsed : {A : Type 0} → List (List ℕ) → Counter → Option (Reply A)
plain_parsed fields k = number_or_none fields >>= plain_of k

-- the reply of this counter, by the fields behind its word
abbrev pub counted_by : {A : Type 0} → List (List ℕ) → Counter → Option (Reply A)
counted_by fields counter.Routed = routed_parsed fields
counted_by fields counter.Taken = alone packet_parsed fields >>= λ packet. Some (Taken packet)
counted_by fields counter.Sent = sends_parsed fields >>= λ sends. Some (Sent sends)
counted_by fields k = plain_parsed fields k

-- the reply that fields say
abbrev pub reply_parsed : {A : Type 0} → List (List ℕ) → Option (Reply A)
reply_parsed [] = None
reply_parsed (word ∷ more) =
    if is_word word (codes "dropped") then (alone reason_named more >>= λ reason. Some (Dropped reason))
    else (counter_named word >>= counted_by more)
