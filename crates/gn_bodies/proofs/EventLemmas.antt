-- One receipt more.
use Rattle.std.proofs.Common.{◌≡◌, ◌⊎◌, inl, inr, ℕ, Bool, not, List, [], ◌∷◌, ◌++◌, filter, is_some, map, Option, Some, None, Ok, Err, ap, ◌∙◌, append-nil}
use Rattle.std.specs.Prelude.{IfErr, MatchResult, OnOk, Result}
use Rattle.std.proofs.lemmas.List.{map-append}
use Rattle.gn_wire.specs.Packet.{Packet}
use Rattle.gn_rules.specs.declared.event.Event.{Event}
use Rattle.gn_rules.specs.declared.event.Event.TheVariants.{Admit, Close, Route}
use Rattle.gn_rules.specs.declared.receipt.Receipt.{Receipt}
use Rattle.gn_rules.specs.declared.reply.Reply.TheVariants.{Closed, Admitted}
use Rattle.std.specs.Option.{option_or}
use Rattle.std.proofs.lemmas.List.Elements.{filter-append, filter_map-append}
use Rattle.gn_rules.specs.History.{connected_of, taken_of, ticket_of}
use Rattle.gn_laws.specs.Owners as laws
use Rattle.gn_actors.proofs.TallyLemmas.{known_push}
use Rattle.gn_stage.specs.Jobs.{Queued}
use Rattle.gn_hub.specs.ActorState.{ActorState, receipt, with_receipt}
use Rattle.gn_hub.specs.Receipts.{HasClosed, HasDrained, HasReceipt}
use Rattle.gn_bodies.specs.declared.ends.BodyFault.{BodyFault}
use Rattle.gn_bodies.specs.declared.piece.Halt.{Halt}
use Rattle.gn_bodies.specs.declared.piece.Halt.TheVariants as halt
use Rattle.gn_bodies.specs.Admitting.{HasAdmitted, KeepsConnection}
use Rattle.gn_bodies.specs.Events.{events_of, link_events, link_events_in, connection_of, packets_of}
use Rattle.gn_bodies.specs.ReaderRows.{WithClose}

link_events-push : {A : Type 0} (rs : List (Receipt A)) (r : Receipt A) → link_events_in (rs ++ r ∷ []) ≡ link_events_in rs ++ link_events_in (r ∷ [])
link_events-push {A} rs r =
    let is_link : Event A → Bool = λ event. not (is_some (ticket_of event)) in
    let event : Receipt A → Event A = λ x. x.event in
    ap (filter is_link) (map-append event rs (r ∷ [])) ∙ filter-append is_link (map event rs) (r.event ∷ [])

-- what one receipt does to the events, the connection and the packets
pub link_events-receipt : {A : Type 0} (me us : ActorState A) (r : Receipt A) → us ≡ with_receipt me r → link_events us ≡ link_events me ++ link_events_in (r ∷ [])
link_events-receipt me us r got = ap link_events got ∙ link_events-push me.receipts r

pub connection-receipt : {A : Type 0} (me us : ActorState A) (r : Receipt A) → us ≡ with_receipt me r → KeepsConnection me us
connection-receipt me us r got c was = ap connection_of got ∙ known_push me.receipts r ∙ ap (λ made. option_or made (connected_of r.reply)) was

pub packets-receipt : {A : Type 0} (me us : ActorState A) (r : Receipt A) → us ≡ with_receipt me r → packets_of us ≡ packets_of me ++ laws.packets_of (r ∷ [])
packets-receipt me us r got = ap packets_of got ∙ filter_map-append (λ x. taken_of x.reply) me.receipts (r ∷ [])

pub events-receipt : {A : Type 0} (me us : ActorState A) (r : Receipt A) → us ≡ with_receipt me r → events_of us ≡ events_of me ++ r.event ∷ []
events-receipt me us r got = ap events_of got ∙ map-append (λ x. x.event) me.receipts (r ∷ [])

-- a route is no event of a link
pub link_events-route : {A : Type 0} (t : ℕ) (me us : ActorState A) → HasReceipt (Route t) me us → link_events us ≡ link_events me
link_events-route t me us (index, reply, fits, got) = link_events-receipt me us (receipt index (Route t) reply) got ∙ append-nil (link_events me)

pub connection-route : {A : Type 0} (t : ℕ) (me us : ActorState A) → HasReceipt (Route t) me us → KeepsConnection me us
connection-route t me us (index, reply, fits, got) = connection-receipt me us (receipt index (Route t) reply) got

pub events-route : {A : Type 0} (t : ℕ) (me us : ActorState A) → HasReceipt (Route t) me us → events_of us ≡ events_of me ++ Route t ∷ []
events-route t me us (index, reply, fits, got) = events-receipt me us (receipt index (Route t) reply) got

pub number-route : {A : Type 0} (t : ℕ) (me us : ActorState A) → HasReceipt (Route t) me us → us.number ≡ me.number
number-route t me us (index, reply, fits, got) = ap (λ w. w.number) got

-- nor is one that was asked for
pub routed-events : {A E : Type 0} (answer : Result (Unit {0}) E) (t : ℕ) (me us : ActorState A) → MatchResult answer (λ _. HasReceipt (Route t) me us) (λ _. us ≡ me) → link_events us ≡ link_events me
routed-events (Ok u) t me us got = link_events-route t me us got
routed-events (Err e) t me us same = ap link_events same

pub routed-number : {A E : Type 0} (answer : Result (Unit {0}) E) (t : ℕ) (me us : ActorState A) → MatchResult answer (λ _. HasReceipt (Route t) me us) (λ _. us ≡ me) → us.number ≡ me.number
routed-number (Ok u) t me us got = number-route t me us got
routed-number (Err e) t me us same = ap (λ w. w.number) same

pub routed-connection : {A E : Type 0} (answer : Result (Unit {0}) E) (t : ℕ) (me us : ActorState A) → MatchResult answer (λ _. HasReceipt (Route t) me us) (λ _. us ≡ me) → KeepsConnection me us
routed-connection (Ok u) t me us got = connection-route t me us got
routed-connection (Err e) t me us same = λ c was. ap connection_of same ∙ was

-- what an admission does
pub admitted_number : {A : Type 0} (c : ℕ) (d : Packet) (job : Option Queued) (me us : ActorState A) → HasAdmitted c d job me us → us.number ≡ me.number
admitted_number c d None me us (index, reply, got, reached) = ap (λ w. w.number) got
admitted_number c d (Some job) me us (index, same, got) = ap (λ w. w.number) got

pub admitted_connection : {A : Type 0} (c : ℕ) (d : Packet) (job : Option Queued) (me us : ActorState A) → HasAdmitted c d job me us → KeepsConnection me us
admitted_connection c d None me us (index, reply, got, reached) = connection-receipt me us (receipt index (Admit c d) reply) got
admitted_connection c d (Some job) me us (index, same, got) = connection-receipt me us (receipt index (Admit c d) (Admitted job.ticket)) got

pub admitted_events : {A : Type 0} (c : ℕ) (d : Packet) (job : Option Queued) (me us : ActorState A) → HasAdmitted c d job me us → link_events us ≡ link_events me ++ Admit c d ∷ []
admitted_events c d None me us (index, reply, got, reached) = link_events-receipt me us (receipt index (Admit c d) reply) got
admitted_events c d (Some job) me us (index, same, got) = link_events-receipt me us (receipt index (Admit c d) (Admitted job.ticket)) got

-- what holds in any case holds of an Ok
pub on_ok_any : {T E : Type 0} (r : Result T E) (P : Type 0) → P → OnOk r P
on_ok_any (Ok x) P holds = holds
on_ok_any (Err e) P holds = tt

-- what never is, is nothing to answer for
pub never_not_live : (X : Type 0) (r : Result (Unit {0}) Halt) → IfErr r (λ why. why ≡ halt.NotLive → ⊥) → IfErr r (λ why. why ≡ halt.NotLive → X)
never_not_live X (Ok x) never = tt
never_not_live X (Err why) never = λ is. absurd (never is)

-- an actor got no receipt, or one of a close
abbrev pub MayClose : {A : Type 0} → ℕ → ActorState A → ActorState A → Type 0
MayClose {A} c me us = (us ≡ me) ⊎ ((index count : ℕ) × (us ≡ with_receipt me (receipt index (Close c) (Closed count))))

-- what a close does
pub may_close : {A : Type 0} (c : ℕ) (answer : Result (Option ℕ) BodyFault) (me us : ActorState A) → MatchResult answer (λ found. HasClosed c found me us) (λ _. us ≡ me) → MayClose c me us
may_close c (Ok None) me us (index, count, got) = inr (index, count, got)
may_close c (Ok (Some found)) me us (is, same) = inl same
may_close c (Err fault) me us same = inl same

pub close_number : {A : Type 0} (c : ℕ) (me us : ActorState A) → MayClose c me us → us.number ≡ me.number
close_number c me us (inl same) = ap (λ w. w.number) same
close_number c me us (inr (index, count, got)) = ap (λ w. w.number) got

pub close_connection : {A : Type 0} (c : ℕ) (me us : ActorState A) → MayClose c me us → KeepsConnection me us
close_connection c me us (inl same) = λ d was. ap connection_of same ∙ was
close_connection c me us (inr (index, count, got)) = connection-receipt me us (receipt index (Close c) (Closed count)) got

pub close_events : {A : Type 0} (c : ℕ) (me us : ActorState A) → MayClose c me us → WithClose c (link_events us) (link_events me)
close_events c me us (inl same) = inl (ap link_events same)
close_events c me us (inr (index, count, got)) = inr (link_events-receipt me us (receipt index (Close c) (Closed count)) got)

pub close_packets : {A : Type 0} (c : ℕ) (me us : ActorState A) → MayClose c me us → packets_of us ≡ packets_of me
close_packets c me us (inl same) = ap packets_of same
close_packets c me us (inr (index, count, got)) = packets-receipt me us (receipt index (Close c) (Closed count)) got ∙ append-nil (packets_of me)

pub closed_packets : {A : Type 0} (c : ℕ) (found : Option ℕ) (me us : ActorState A) → HasClosed c found me us → packets_of us ≡ packets_of me
closed_packets c None me us (index, count, got) = close_packets c me us (inr (index, count, got))
closed_packets c (Some found) me us (is, same) = close_packets c me us (inl same)

pub drained_packets : {A : Type 0} (c : ℕ) (me us : ActorState A) → HasDrained c me us → packets_of us ≡ packets_of me
drained_packets c me us (index, got) = packets-receipt me us (receipt index (Close c) (Closed 0)) got ∙ append-nil (packets_of me)
