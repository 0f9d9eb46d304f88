-- Steps that calls make.
use Rattle.std.proofs.Common.{◌≡◌, ℕ, true, length, Option, Some, None, Result, Ok, refl, sym, subst, ap, ◌∙◌}
use Rattle.gn_wire.specs.Packet.{Packet}
use Rattle.gn_rules.specs.declared.event.Event.{Event}
use Rattle.gn_rules.specs.declared.event.Event.TheVariants.{Close, Route, Take}
use Rattle.gn_rules.specs.declared.receipt.Receipt.{Receipt}
use Rattle.gn_rules.specs.declared.refusal.Refusal.{Refusal}
use Rattle.gn_rules.specs.declared.refusal.Refusal.TheVariants.{HistoryFull, NoMemory}
use Rattle.gn_rules.specs.declared.reply.Reply.{Reply}
use Rattle.gn_rules.specs.declared.reply.Reply.TheVariants as kind
use Rattle.gn_rules.specs.Fits.{AnswersFit, is_fit, refuses, replies}
use Rattle.gn_hub.specs.declared.next.Next.{Next}
use Rattle.gn_hub.specs.declared.next.Outgoing.{Outgoing}
use Rattle.gn_hub.specs.declared.next.Outgoing.TheVariants as outgoing
use Rattle.gn_hub.specs.ActorState.{ActorState, receipt, with_receipt}
use Rattle.gn_hub.specs.Calls.{Due, HasGot, HasStepped, IsNext, IsOutgoing, IsRefusal, IsStop, answer_now, next_of, over, take, close, later}
use Rattle.gn_hub.specs.Receipts.{HasClosed, HasDrained, HasReceipt, HasTaken, HasThis, is_stop}
use Rattle.gn_hub.specs.HubState.{HubState, past_of}

-- a receipt by its parts
pub receipt_is : {A : Type 0} (r : Receipt A) (index : ℕ) (event : Event A) → r.index ≡ index → r.event ≡ event → r ≡ receipt index event r.reply
receipt_is r index event e1 e2 = ap (λ i. receipt i r.event r.reply) e1 ∙ ap (λ v. receipt index v r.reply) e2

-- what is next for a writer, by what it is answered that waits while it is none
pub next_is : {A : Type 0} (due : Due) (answer : Option Outgoing) (next : Next) (c : ℕ) (before after : HubState A) (me us : ActorState A) → next ≡ next_of answer
    → IsOutgoing due answer c before me after us → IsNext due next c before me after us
next_is over answer next c before after me us is (same, kept, mine) = (is ∙ ap next_of same, kept, mine)
next_is take answer next c before after me us is (same, step) = (is ∙ ap next_of same, step)
next_is close answer next c before after me us is (same, none, step) = (is ∙ ap next_of same, none, step)
next_is later answer next c before after me us is (same, kept, mine) = (is ∙ ap next_of same, kept, mine)

-- what was done, by what a writer was answered
pub outgoing_packet : {A : Type 0} (due : Due) (answer : Option Outgoing) (c : ℕ) (before after : HubState A) (me us : ActorState A) → answer ≡ Some outgoing.Packet
    → IsOutgoing due answer c before me after us → HasStepped (answer_now before (Take c)) (Take c) before me after us
outgoing_packet over answer c before after me us is (same, kept, mine) = let no : Some outgoing.Packet ≡ Some outgoing.Closed = sym is ∙ same in absurd (cc)
outgoing_packet take answer c before after me us is (same, step) = step
outgoing_packet close answer c before after me us is (same, none, step) = let no : Some outgoing.Packet ≡ Some outgoing.Drained = sym is ∙ same in absurd (cc)
outgoing_packet later answer c before after me us is (same, kept, mine) = let no : Some outgoing.Packet ≡ None = sym is ∙ same in absurd (cc)

pub taken_reply : {A : Type 0} (c : ℕ) (reply : Reply A) → replies (Take c) reply ≡ true → (packet : Packet) × (reply ≡ kind.Taken packet)
taken_reply c (kind.Taken packet) fits = (packet, refl)
taken_reply c reply fits = absurd (cc)

pub packet_taken : {A : Type 0} (due : Due) (answer : Option Outgoing) (c : ℕ) (before after : HubState A) (me us : ActorState A) → AnswersFit A → answer ≡ Some outgoing.Packet
    → IsOutgoing due answer c before me after us → HasTaken c me us
packet_taken due answer c before after me us fit is did =
    let (reply, replied, made, got) = outgoing_packet due answer c before after me us is did in
    let fits : replies (Take c) reply ≡ true = subst (λ r. is_fit (Take c) r ≡ true) replied (fit before.settings (past_of before) (Take c)) in
    let (packet, same) = taken_reply c reply fits in
    (length before.steps, packet, got ∙ ap (λ r. with_receipt me (receipt (length before.steps) (Take c) r)) same)

pub drained_at : {A : Type 0} (due : Due) (answer : Option Outgoing) (c : ℕ) (before after : HubState A) (me us : ActorState A) → answer ≡ Some outgoing.Drained
    → IsOutgoing due answer c before me after us → us ≡ with_receipt me (receipt (length before.steps) (Close c) (kind.Closed 0))
drained_at over answer c before after me us is (same, kept, mine) = let no : Some outgoing.Drained ≡ Some outgoing.Closed = sym is ∙ same in absurd (cc)
drained_at take answer c before after me us is (same, step) = let no : Some outgoing.Drained ≡ Some outgoing.Packet = sym is ∙ same in absurd (cc)
drained_at {A} close answer c before after me us is (same, none, (reply, replied, made, got)) =
    let both : Ok (kind.Closed 0) ≡ Ok reply = sym none ∙ replied in
    let closed : reply ≡ kind.Closed 0 = cc in
    got ∙ ap (λ r. with_receipt me (receipt (length before.steps) (Close c) r)) closed
drained_at later answer c before after me us is (same, kept, mine) = let no : Some outgoing.Drained ≡ None = sym is ∙ same in absurd (cc)

pub drained : {A : Type 0} (due : Due) (answer : Option Outgoing) (c : ℕ) (before after : HubState A) (me us : ActorState A) → answer ≡ Some outgoing.Drained
    → IsOutgoing due answer c before me after us → HasDrained c me us
drained due answer c before after me us is did = (length before.steps, drained_at due answer c before after me us is did)

-- a connection that is over, or has nothing yet: nothing was done
pub closed_same : {A : Type 0} (due : Due) (answer : Option Outgoing) (c : ℕ) (before after : HubState A) (me us : ActorState A) → answer ≡ Some outgoing.Closed
    → IsOutgoing due answer c before me after us → us ≡ me
closed_same over answer c before after me us is (same, kept, mine) = mine
closed_same take answer c before after me us is (same, step) = let no : Some outgoing.Closed ≡ Some outgoing.Packet = sym is ∙ same in absurd (cc)
closed_same close answer c before after me us is (same, none, step) = let no : Some outgoing.Closed ≡ Some outgoing.Drained = sym is ∙ same in absurd (cc)
closed_same later answer c before after me us is (same, kept, mine) = mine

pub none_same : {A : Type 0} (due : Due) (answer : Option Outgoing) (c : ℕ) (before after : HubState A) (me us : ActorState A) → answer ≡ None
    → IsOutgoing due answer c before me after us → (after ≡ before) × (us ≡ me)
none_same over answer c before after me us is (same, kept, mine) = (kept, mine)
none_same take answer c before after me us is (same, step) = let no : None ≡ Some outgoing.Packet = sym is ∙ same in absurd (cc)
none_same close answer c before after me us is (same, none, step) = let no : None ≡ Some outgoing.Drained = sym is ∙ same in absurd (cc)
none_same later answer c before after me us is (same, kept, mine) = (kept, mine)

-- a refusal where no step can be made
pub stops : {A : Type 0} (refusal : Refusal) (h : HubState A) → IsStop refusal h → is_stop refusal ≡ true
stops HistoryFull h is = refl
stops NoMemory h is = refl
stops refusal h is = absurd is

-- a step that was made is one that fits its event, and so is a refusal
pub receipt_fits : {A : Type 0} (answer : Result (Reply A) Refusal) (event : Event A) (before after : HubState A) (me us : ActorState A) → is_fit event answer ≡ true
    → HasStepped answer event before me after us → HasReceipt event me us
receipt_fits answer event before after me us fit (reply, replied, made, got) = (length before.steps, reply, subst (λ a. is_fit event a ≡ true) replied fit, got)

pub this_fits : {A : Type 0} (answer : Result (Reply A) Refusal) (event : Event A) (r : Receipt A) (me us : ActorState A) → is_fit event answer ≡ true → HasGot answer event r me us → HasThis event r me us
this_fits answer event r me us fit (replied, of, got) = (subst (λ a. is_fit event a ≡ true) replied fit, got ∙ ap (λ w. with_receipt me w) (receipt_is r r.index event refl of))

pub route_fits : {A : Type 0} (answer : Result (Reply A) Refusal) (ticket : ℕ) (reply : Reply A) → is_fit {A = A} (Route ticket) answer ≡ true → answer ≡ Ok reply
    → replies {A = A} (Route ticket) reply ≡ true
route_fits {A} answer ticket reply fit is = subst (λ a. is_fit {A = A} (Route ticket) a ≡ true) is fit

pub refusal_fits : {A : Type 0} (answer : Result (Reply A) Refusal) (event : Event A) (refusal : Refusal) → is_fit event answer ≡ true → IsRefusal refusal answer → refuses event refusal ≡ true
refusal_fits answer event HistoryFull fit is = refl
refusal_fits answer event NoMemory fit is = refl
refusal_fits answer event refusal fit is = subst (λ a. is_fit event a ≡ true) is fit

-- a connection that was closed, or found closed
pub closed_reply : {A : Type 0} (c : ℕ) (reply : Reply A) → replies (Close c) reply ≡ true → (count : ℕ) × (reply ≡ kind.Closed count)
closed_reply c (kind.Closed count) fits = (count, refl)
closed_reply c reply fits = absurd (cc)

pub closed_now : {A : Type 0} (c : ℕ) (before after : HubState A) (me us : ActorState A) → AnswersFit A → HasStepped (answer_now before (Close c)) (Close c) before me after us
    → HasClosed c None me us
closed_now c before after me us fit (reply, replied, made, got) =
    let fits : replies (Close c) reply ≡ true = subst (λ r. is_fit (Close c) r ≡ true) replied (fit before.settings (past_of before) (Close c)) in
    let (count, same) = closed_reply c reply fits in
    (length before.steps, count, got ∙ ap (λ r. with_receipt me (receipt (length before.steps) (Close c) r)) same)
