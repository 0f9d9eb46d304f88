-- What a writer did, batch by batch.
use Rattle.std.specs.Prelude.{◌≡◌, ℕ, true, false, List, map, Option, Some, None, Result, Ok, Err, IfOk, ⊤}
use Rattle.std.specs.List.{concat}
use Rattle.gn_wire.specs.Encoding.{bytes_of}
use Rattle.gn_wire.specs.Packet.{Packet}
use Rattle.gn_rules.specs.declared.receipt.Receipt.{Receipt}
use Rattle.gn_shake.specs.declared.role.Role.{Role}
use Rattle.gn_links.specs.Halves.{WrittenHalf}
use Rattle.gn_hub.specs.ActorState.{ActorState}
use Rattle.gn_hub.specs.Receipts.{HasTakenSome, IsDrainedAt}
use Rattle.gn_hub.specs.declared.next.Outgoing.{Outgoing}
use Rattle.gn_hub.specs.declared.next.Outgoing.TheVariants as outgoing
use Rattle.gn_bodies.specs.declared.ends.BodyFault.{BodyFault}
use Rattle.gn_bodies.specs.declared.ends.WriterEnd.{WriterEnd}
use Rattle.gn_bodies.specs.declared.ends.WriterEnd.TheVariants.{Closed, Drained, NeverOpened, WriteFailed}
use Rattle.gn_bodies.specs.Done.{WritesAs}
use Rattle.gn_bodies.specs.Events.{packets_of}
use Rattle.gn_bodies.specs.Written.{AreTakes, HasWrittenText, ThenDrained}

-- what the end says of the receipts of a writer on connection c, before it closes what it closes; where it drained, this is the number
-- of the step that closed it
abbrev pub PacketSteps : {A : Type 0} → WriterEnd → ℕ → Option ℕ → List (Receipt A) → Type 0
PacketSteps {A} Drained c idle own = (before : List (Receipt A)) × AreTakes c before × ThenDrained c idle before own
PacketSteps Closed c idle own = AreTakes c own
PacketSteps WriteFailed c idle own = AreTakes c own
PacketSteps NeverOpened c idle own = ⊥

-- what a writer on connection c wrote and did that takes at most `batch` packets at once, where it would end so, before it closes
-- what it closes
pub record WritesPackets {A : Type 0} (batch : ℕ) (role : Role) (end : WriterEnd) (c : ℕ) (idle : Option ℕ) (me : ActorState A)
    (half : WrittenHalf) : Type 0 where
  pub written : WritesAs batch role end (packets_of me) half
  pub steps : PacketSteps end c idle me.receipts

-- the encodings of these packets, one after another
abbrev pub text_of : List Packet → List ℕ
text_of packets = concat (map bytes_of packets)

-- what was written of the text of these packets: all of it, or a part, where a write failed or took nothing
abbrev pub HasWrittenPackets : Option (Result WriterEnd BodyFault) → List Packet → WrittenHalf → WrittenHalf → Type 0
HasWrittenPackets None packets before after = HasWrittenText true (text_of packets) before after
HasWrittenPackets (Some (Ok WriteFailed)) packets before after = HasWrittenText false (text_of packets) before after
HasWrittenPackets (Some (Ok end)) packets before after = ⊥
HasWrittenPackets (Some (Err fault)) packets before after = ⊤

-- what a writer wrote and did that ends so, or goes on: then it has written all that it took, as one that finds its
-- connection closed
abbrev pub WritesOn : {A : Type 0} → ℕ → Role → Option (Result WriterEnd BodyFault) → ℕ → Option ℕ → ActorState A → WrittenHalf → Type 0
WritesOn batch role None c idle me half = WritesPackets batch role Closed c None me half
WritesOn batch role (Some end) c idle me half = IfOk end (λ e. WritesPackets batch role e c idle me half)

-- what an actor did that asked for the next packets of a connection, at most a batch, and was answered so: it took some; it closed
-- the drained connection, as `idle` says; or it did nothing
abbrev pub HasNext : {A : Type 0} → (batch c : ℕ) → Outgoing → (idle : Option ℕ) → ActorState A → ActorState A → Type 0
HasNext batch c outgoing.Packet idle me us = HasTakenSome batch c me us
HasNext batch c outgoing.Drained idle me us = IsDrainedAt c idle me us
HasNext batch c outgoing.Closed idle me us = us ≡ me
