-- Receipts of a batch of packets.
use Rattle.std.proofs.Common.{◌≡◌, ℕ, ◌+◌, ◌-◌, ◌<◌, ◌≤◌, true, List, [], ◌∷◌, ◌++◌, map, Option, Some, Result, Ok, Err, IfOk, IfErr, refl, sym, subst, ap, ◌∙◌, arith, append_assoc, append-nil}
use Rattle.std.proofs.lemmas.List.{length_push, map-append}
use Rattle.gn_rules.specs.declared.refusal.Refusal.{Refusal}
use Rattle.gn_hub.specs.declared.next.Outgoing.{Outgoing}
use Rattle.gn_hub.specs.declared.next.Outgoing.TheVariants.{Packet, Drained}
use Rattle.gn_hub.specs.ActorState.{ActorState, with_receipt}
use Rattle.gn_hub.specs.HubState.{HubState}
use Rattle.gn_hub.specs.Receipts.{HasTaken, HasTakenMore, HasTakenSome, TakenAt, is_stop, taken_receipt}
use Rattle.gn_hub.specs.Waking.{LeavesWaiting}
use Rattle.gn_hub.specs.declared.wakes.Wakes.{Wakes}
use Rattle.gn_hub.specs.declared.wakes.Wakes.TheVariants.{Nobody}
use Rattle.gn_hub.proofs.KeptLemmas.{when_ok}

pub none_more : {A : Type 0} (most c : ℕ) (me us : ActorState A) → us ≡ me → HasTakenMore most c me us
none_more {A} most c me us same =
    let none : List TakenAt = [] in
    (none, omega arith, same ∙ ap (λ w. record me { receipts = w }) (sym (append-nil me.receipts)))

pub grown : {A : Type 0} (n m c : ℕ) (me us : ActorState A) → n ≤ m → HasTakenMore n c me us → HasTakenMore m c me us
grown n m c me us more (taken, low, is) = (taken, omega arith, is)

pub one_more : {A : Type 0} (n m c : ℕ) (me mid us : ActorState A) → m ≡ n + 1 → HasTakenMore n c me mid → HasTaken c mid us → HasTakenMore m c me us
one_more {A} n m c me mid us next (taken, low, is) (index, packet, got) =
    let at : TakenAt = record { index = index; packet = packet } in
    let f = taken_receipt {A = A} c in
    let joined : (me.receipts ++ map f taken) ++ f at ∷ [] ≡ me.receipts ++ map f (taken ++ at ∷ []) =
    append_assoc me.receipts (map f taken) (f at ∷ []) ∙ ap (λ w. me.receipts ++ w) (sym (map-append f taken (at ∷ []))) in
    let long = length_push taken at in
    (taken ++ at ∷ [], omega arith, got ∙ ap (λ w. with_receipt w (f at)) is ∙ ap (λ w. record me { receipts = w }) joined)

pub some_taken : {A : Type 0} (most c : ℕ) (me mid us : ActorState A) → 0 < most → HasTaken c me mid → HasTakenMore (most - 1) c mid us → HasTakenSome most c me us
some_taken {A} most c me mid us few (index, packet, got) (taken, low, is) =
    let at : TakenAt = record { index = index; packet = packet } in
    let f = taken_receipt {A = A} c in
    (at ∷ taken, omega arith, omega arith, is ∙ ap {A = ActorState A} (λ w. record w { receipts = w.receipts ++ map f taken }) got ∙ ap (λ w. record me { receipts = w }) (append_assoc me.receipts (f at ∷ []) (map f taken)))

-- the same, where what was answered first was a packet
pub then_more : {A : Type 0} (answer : Result (Option Outgoing) Refusal) (n most c : ℕ) (me mid us : ActorState A) → n ≡ most → 0 < n
    → IfOk answer (λ next. next ≡ Some Packet → HasTaken c me mid) → HasTakenMore (n - 1) c mid us → IfOk answer (λ next. next ≡ Some Packet → HasTakenSome most c me us)
then_more {A} (Ok next) n most c me mid us same few first more =
    λ is. subst (λ w. HasTakenSome w c me us) same (some_taken n c me mid us few (first is) more)
then_more (Err refusal) n most c me mid us same few first more = tt

-- what a call did that was answered, where a thread has waited
pub drained_since : {A : Type 0} (Did : ActorState A → ActorState A → Type 0) (answer : Result (Option Outgoing) Refusal) (at : Option Outgoing) (next : Outgoing) (me mid us : ActorState A) → answer ≡ Ok at → at ≡ Some next
    → mid ≡ me → IfOk answer (λ next. next ≡ Some Drained → Did mid us) → next ≡ Drained → Did me us
drained_since Did answer at next me mid us is some same did end = subst (λ w. Did w us) same (when_ok answer at (λ next. next ≡ Some Drained → Did mid us) is did (some ∙ ap Some end))

pub taken_since : {A : Type 0} (answer : Result (Option Outgoing) Refusal) (at : Option Outgoing) (next : Outgoing) (most c : ℕ) (me mid us : ActorState A) → answer ≡ Ok at → at ≡ Some next
    → mid ≡ me → IfOk answer (λ next. next ≡ Some Packet → HasTakenSome most c mid us) → next ≡ Packet → HasTakenSome most c me us
taken_since answer at next most c me mid us is some same did packet =
    subst (λ w. HasTakenSome most c w us) same (when_ok answer at (λ next. next ≡ Some Packet → HasTakenSome most c mid us) is did (some ∙ ap Some packet))

pub refused_since : {A : Type 0} (answer : Result (Option Outgoing) Refusal) (refusal : Refusal) (me mid us : ActorState A) → answer ≡ Err refusal
    → mid ≡ me → IfErr answer (λ refusal. (is_stop refusal ≡ true) × (us ≡ mid)) → (is_stop refusal ≡ true) × (us ≡ me)
refused_since answer refusal me mid us is same did =
    let (stops, kept) : (is_stop refusal ≡ true) × (us ≡ mid) = subst (λ w. IfErr w (λ refusal. (is_stop refusal ≡ true) × (us ≡ mid))) is did in
    (stops, kept ∙ same)

pub same_since : {A : Type 0} (answer : Result (Option Outgoing) Refusal) (at found : Option Outgoing) (me mid us : ActorState A) → answer ≡ Ok at → at ≡ found
    → mid ≡ me → IfOk answer (λ next. next ≡ found → us ≡ mid) → us ≡ me
same_since answer at found me mid us is there same did = when_ok answer at (λ next. next ≡ found → us ≡ mid) is did there ∙ same

-- two calls one after the other, of which the second wakes nobody
pub waiting_still : {A : Type 0} (wakes : Wakes) (before mid after : HubState A) → LeavesWaiting wakes [] before mid → LeavesWaiting Nobody [] mid after → LeavesWaiting wakes [] before after
waiting_still wakes before mid after first second =
    record { at_door = λ none link h. second.at_door refl link (first.at_door none link h); for_next = λ c none h. second.for_next c refl (first.for_next c none h) }
