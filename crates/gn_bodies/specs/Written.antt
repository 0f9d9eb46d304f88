-- What a writer's end says of its receipts, of the packets that it took, and of the bytes that it wrote.
use Rattle.std.specs.Prelude.{◌≡◌, ◌<◌, ◌≤◌, ◌⊎◌, ℕ, Bool, true, false, if◌then◌else◌, List, [], ◌∷◌, ◌++◌, length, take, map, Option, Some, None}
use Rattle.std.specs.List.{concat}
use Rattle.gn_rules.specs.declared.event.Event.TheVariants.{Close}
use Rattle.gn_rules.specs.declared.receipt.Receipt.{Receipt}
use Rattle.gn_rules.specs.declared.reply.Reply.TheVariants as reply
use Rattle.gn_shake.specs.declared.role.Role.{Role}
use Rattle.gn_shake.specs.declared.role.Role.TheVariants.{Accepting, Calling, Plain}
use Rattle.gn_shake.specs.Greeting.{is_calling, request_text, consent_text}
use Rattle.gn_links.specs.Halves.{WrittenHalf}
use Rattle.gn_hub.specs.ActorState.{receipt}
use Rattle.gn_hub.specs.Receipts.{TakenAt, taken_receipt}
use Rattle.gn_bodies.specs.declared.ends.WriterEnd.{WriterEnd}
use Rattle.gn_bodies.specs.declared.ends.WriterEnd.TheVariants.{Drained, WriteFailed, Closed, NeverOpened}

-- the opening text of a connected link: the connection request where it calls, the consent where it accepts, else none
abbrev pub opening_texts : Role → List (List ℕ)
opening_texts Accepting = consent_text ∷ []
opening_texts Calling = request_text ∷ []
opening_texts Plain = []

-- the table of ends for a writer: what its end says of what was written, where `texts` are the opening text and the encodings of the
-- packets that were taken, at most `batch` at once
abbrev pub WriterRow : (batch : ℕ) → WriterEnd → Role → List (List ℕ) → List ℕ → Type 0
-- all of them; so where it ended as Closed
WriterRow batch Drained role texts written = written ≡ concat texts
WriterRow batch Closed role texts written = written ≡ concat texts
-- all of them but the last ones, of which there are at most `batch`, and a prefix of these
WriterRow batch WriteFailed role texts written =
    (done last : List (List ℕ)) × (n : ℕ) × (texts ≡ done ++ last) × (0 < length last) × (length last ≤ batch)
    × (written ≡ concat done ++ take n (concat last))
-- nothing, but the request where the link calls
WriterRow batch NeverOpened role texts written = written ≡ (if is_calling role then request_text else [])

-- what was written of a text: all of it; or a prefix, where a write failed or took nothing
pub record HasWrittenText (is_all : Bool) (text : List ℕ) (before after : WrittenHalf) : Type 0 where
  pub known : after.is_known ≡ before.is_known
  pub all : is_all ≡ true → before.is_known ≡ true → after.bytes ≡ before.bytes ++ text
  pub part : is_all ≡ false → before.is_known ≡ true → (n : ℕ) × (after.bytes ≡ before.bytes ++ take n text)
  pub hurt : is_all ≡ false → (0 < after.failures) ⊎ (after.is_stuck ≡ true)

-- these are receipts of packets that were taken from connection c, and of nothing else
abbrev pub AreTakes : {A : Type 0} → ℕ → List (Receipt A) → Type 0
AreTakes c own = (taken : List TakenAt) × (own ≡ map (taken_receipt c) taken)

-- after these receipts comes one of a Close of c that discarded nothing, and this is the number of its step
abbrev pub ThenDrained : {A : Type 0} → ℕ → Option ℕ → List (Receipt A) → List (Receipt A) → Type 0
ThenDrained c idle before own =
    (index : ℕ) × (idle ≡ Some index) × (own ≡ before ++ receipt index (Close c) (reply.Closed 0) ∷ [])

-- after these receipts comes one of a Close of c; or none, and c was found closed, as this says
abbrev pub ThenClosed : {A : Type 0} → ℕ → Option ℕ → List (Receipt A) → List (Receipt A) → Type 0
ThenClosed c None before own = (index count : ℕ) × (own ≡ before ++ receipt index (Close c) (reply.Closed count) ∷ [])
ThenClosed c (Some found) before own = (found ≡ c) × (own ≡ before)

-- what the end of a writer says of its connection, of the connection that it found closed, of the number of the step that closed it
-- drained, and of its receipts
abbrev pub WriterSteps : {A : Type 0} → Role → WriterEnd → (conn found idle : Option ℕ) → List (Receipt A) → Type 0
-- it took packets of its connection, and then closed it when there was nothing left to discard
WriterSteps {A} role Drained (Some c) found idle own =
    (before : List (Receipt A)) × AreTakes c before × ThenDrained c idle before own
-- it took packets of its connection, and did nothing else
WriterSteps role Closed (Some c) found idle own = AreTakes c own
-- it took packets of its connection, and then closed it, or found it closed
WriterSteps {A} role WriteFailed (Some c) found idle own =
    (before : List (Receipt A)) × AreTakes c before × ThenClosed c found before own
-- it did nothing: the request of a link that calls couldn't be written
WriterSteps role WriteFailed None found idle own = (is_calling role ≡ true) × (own ≡ [])
-- it did nothing: the link never connected
WriterSteps role NeverOpened None found idle own = own ≡ []
-- no other end goes with a connection, or with none
WriterSteps role end conn found idle own = ⊥

-- what the end of a writer says of its connection and of its receipts, whatever it found closed, and whichever step closed it
abbrev pub WriterDid : {A : Type 0} → Role → WriterEnd → Option ℕ → List (Receipt A) → Type 0
WriterDid role end conn own = (found idle : Option ℕ) × WriterSteps role end conn found idle own
