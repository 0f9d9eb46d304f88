-- What is written is read again.
use Rattle.std.specs.Prelude.{◌≡◌, ◌<◌, ◌^◌, ℕ, List, length, IfSome, Some, Ok}
use Rattle.std.specs.List.{AllByRecursion}
use Rattle.hex.specs.Hex.{IsBytes}
use Rattle.gn_wire.specs.Packet.{IsDescriptor, Packet}
use Rattle.gn_wire.specs.Encoding.{bytes_of}
use Rattle.gn_rules.specs.declared.config.Config.{Config}
use Rattle.gn_rules.specs.declared.config.Own.{Own}
use Rattle.gn_rules.specs.declared.event.Event.{Event}
use Rattle.gn_rules.specs.declared.event.Event.TheVariants.{Connect, Close, Admit, Route, Take, Originate}
use Rattle.gn_rules.specs.declared.receipt.Step.{Step}
use Rattle.gn_rules.specs.declared.reply.Reply.{Reply}
use Rattle.gn_rules.specs.declared.reply.Reply.TheVariants.{Routed, Taken, Sent}
use Rattle.gn_rules.specs.declared.sends.Sending.{Sending}
use Rattle.gn_rules.specs.Plain.{number_of}
use Rattle.gn_text.specs.Settings.{settings_of}
use Rattle.gn_capture.specs.Packets.{packet_of}
use Rattle.gn_capture.specs.Histories.{history_of, history_text}

-- what each value of the types keeps: a number fits its 32 bits, a byte its 8

-- a number of 32 bits
abbrev pub IsNumber : ℕ → Type 0
IsNumber n = n < 2 ^ 32

-- a descriptor of bytes
pub record IsPacket (d : Packet) : Type 0 where
  pub kept : IsDescriptor d
  pub bytes : IsBytes (bytes_of d)

-- a send of such numbers and bytes
pub record IsSending {A : Type 0} (x : Sending A) : Type 0 where
  pub to : IsNumber x.to
  pub packet : IsPacket x.packet

-- an event of such numbers and bytes
abbrev pub IsEvent : {A : Type 0} → Event A → Type 0
IsEvent Connect = Unit {0}
IsEvent (Close c) = IsNumber c
IsEvent (Admit c d) = IsNumber c × IsPacket d
IsEvent (Route t) = IsNumber t
IsEvent (Take c) = IsNumber c
IsEvent (Originate d) = IsPacket d

-- a reply of such numbers and bytes
abbrev pub IsReply : {A : Type 0} → Reply A → Type 0
IsReply (Routed sends local) = AllByRecursion IsSending sends
IsReply (Taken d) = IsPacket d
IsReply (Sent sends) = AllByRecursion IsSending sends
IsReply reply = IfSome (number_of reply) IsNumber

-- a step of such numbers and bytes
pub record IsStep {A : Type 0} (step : Step A) : Type 0 where
  pub actor : IsNumber step.actor
  pub event : IsEvent step.event
  pub reply : IsReply step.reply

-- a servent of such numbers and bytes
pub record IsOwn (own : Own) : Type 0 where
  pub servent_size : length own.servent.0 ≡ 16
  pub servent : IsBytes own.servent.0
  pub ip_size : length own.ip ≡ 4
  pub ip : IsBytes own.ip
  pub port : own.port < 2 ^ 16
  pub files : IsNumber own.files
  pub kbytes : IsNumber own.kbytes

-- the text of a configuration and steps says that very configuration and those very steps
abbrev pub IsReadBack : {A : Type 0} → Config → List (Step A) → Type 0
IsReadBack s steps = history_of (history_text s steps) ≡ Ok (settings_of s, steps)

-- it does so for each configuration and steps of such numbers and bytes
abbrev pub WrittenIsRead : (A : Type 0) → Type 0
WrittenIsRead A = (s : Config) (steps : List (Step A)) → IsOwn s.own → AllByRecursion IsStep steps → IsReadBack s steps

-- a descriptor that bytes are read as is encoded by those very bytes
abbrev pub ReadIsEncoded : Type 0
ReadIsEncoded = (bytes : List ℕ) (d : Packet) → IsBytes bytes → packet_of bytes ≡ Some d → bytes_of d ≡ bytes
