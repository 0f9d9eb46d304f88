-- A step that wakes nobody leaves everybody waiting who had to wait.
use Rattle.std.proofs.Common.{◌≡◌, ◌==◌, ℕ, zero, suc, Bool, true, false, ◌&&◌, ◌||◌, cond, if◌then◌else◌, not, List, [], ◌∷◌, ◌++◌, length, drop, filter, map, reverse, set, Result, Ok, refl, sym, subst, ap, ◌∙◌, arith}
use Rattle.std.specs.List.{slice_get}
use Rattle.std.proofs.lemmas.Bool.Decides.{nat_tests}
use Rattle.std.proofs.lemmas.List.{nil_from_length, reverse-append}
use Rattle.gn_wire.specs.Packet.{Packet}
use Rattle.gn_rules.specs.declared.event.Event.{Event}
use Rattle.gn_rules.specs.declared.event.Event.TheVariants.{Connect, Close, Take}
use Rattle.gn_rules.specs.declared.receipt.Step.{Step}
use Rattle.gn_rules.specs.declared.refusal.Refusal.{Refusal}
use Rattle.gn_rules.specs.declared.reply.Reply.{Reply}
use Rattle.gn_rules.specs.declared.reply.Reply.TheVariants as kind
use Rattle.gn_rules.specs.Fits.{AnswersFit, is_fit, replies}
use Rattle.gn_rules.specs.declared.sends.Sending.{Sending}
use Rattle.gn_rules.specs.Flight.{flying}
use Rattle.gn_rules.specs.History.{connected_of, is_at, is_close, is_take, sends_of, live}
use Rattle.gn_rules.specs.Output.{out, queued_to, waiting}
use Rattle.gn_shake.specs.declared.role.Role.{Role}
use Rattle.gn_hub.specs.ActorState.{ActorState, receipt}
use Rattle.gn_hub.specs.Calls.{HasConnected, HasStepped, answer_now, over, take, close, later}
use Rattle.gn_hub.specs.HubState.{HubState, are_read, door_of, is_closing, mark_at, may_take, new_mark, past_of, with_slot}
use Rattle.gn_hub.specs.Waking.{LeavesOthers, LeavesWaiting, are_doors_woken, concerned, is_queued_to, is_woken, wakes_of}
use Rattle.gn_hub.specs.declared.mark.Door.TheVariants.{Unmet}
use Rattle.gn_hub.specs.declared.mark.Mark.{Mark}
use Rattle.gn_hub.specs.declared.wakes.Wakes.{Wakes}
use Rattle.gn_hub.specs.declared.wakes.Wakes.TheVariants.{Nobody, Writer, Doors, Everybody}
use Rattle.gn_hub.proofs.StepLemmas.{closed_reply, taken_reply}

-- where no packet was queued to c, nothing is queued to it
queued_none : {A : Type 0} (c : ℕ) (sends : List (Sending A)) → is_queued_to c sends ≡ false → queued_to c sends ≡ []
queued_none c [] e = refl
queued_none {A} c (s ∷ sends) e =
    elim ((s.to == c) && s.queued) as (λ b. (b || is_queued_to c sends) ≡ false → map (λ x. x.packet) (cond b (s ∷ filter (λ x. (x.to == c) && x.queued) sends) (filter (λ x. (x.to == c) && x.queued) sends)) ≡ []) [
      | true ↦ λ h. absurd (cc)
      | false ↦ λ h. queued_none c sends h
    ] e

-- nothing is due yet: the connection isn't over, nothing waits, and the run doesn't close
later_is : (o e k : Bool) → cond o over (cond (not e) take (cond k close later)) ≡ later → (o ≡ false) × (e ≡ true) × (k ≡ false)
later_is true e k is = absurd (cc)
later_is false false k is = absurd (cc)
later_is false true true is = absurd (cc)
later_is false true false is = (refl, refl, refl)

is_later : (o e k : Bool) → o ≡ false → e ≡ true → k ≡ false → cond o over (cond (not e) take (cond k close later)) ≡ later
is_later o e k p q r = rw (p, q, r) refl

alive : (l f : Bool) → (not l || f) ≡ false → (l ≡ true) × (f ≡ false)
alive true true e = absurd (cc)
alive true false e = (refl, refl)
alive false f e = absurd (cc)

is_zero : (n : ℕ) → (n == 0) ≡ true → n ≡ 0
is_zero n e = grind (arith, nat_tests)

-- a connection that lives and has nothing waiting does so after a step that neither closes it nor queues a packet to it
step_later : {A : Type 0} (past : List (Step A)) (step : Step A) (c : ℕ) → is_close c step.event ≡ false → is_queued_to c (sends_of step.reply) ≡ false
    → live past c ≡ true → (waiting past c == 0) ≡ true → (live (step ∷ past) c ≡ true) × ((waiting (step ∷ past) c == 0) ≡ true)
step_later past step c other no_queue lives none =
    let still : live (step ∷ past) c ≡ true = rw (other, lives) (or_true (is_at c (connected_of step.reply))) in
    let empty : out past c ≡ [] = nil_from_length (out past c) (is_zero (length (out past c)) (sym (ap (λ b. cond b (length (out past c)) 0 == 0) lives) ∙ none)) in
    let after : out (step ∷ past) c ≡ [] = rw (empty, queued_none c (sends_of step.reply) no_queue) (taken_none (is_take c step.event)) in
    (still, rw (still, after) refl)
  where
    or_true : (b : Bool) → (b || true) ≡ true
    or_true true = refl
    or_true false = refl

    taken_none : (b : Bool) → ◌≡◌ {A = List Packet} ((if b then drop 1 [] else []) ++ []) []
    taken_none true = refl
    taken_none false = refl

-- where everybody is woken nobody is left
pub all_woken : {A : Type 0} (sends : List (Sending A)) (before after : HubState A) → LeavesWaiting Everybody sends before after
all_woken sends before after = record { at_door = λ woken. absurd (cc); for_next = λ c woken. absurd (cc) }

-- a step after which the run goes on, and which wakes these
pub goes_on : {A : Type 0} (h after : HubState A) (step : Step A) (wakes : Wakes) (sends : List (Sending A)) → after.steps ≡ h.steps ++ step ∷ [] → after.failed ≡ h.failed
    → (are_doors_woken wakes ≡ false → after.links ≡ h.links)
    → ((c : ℕ) → is_woken wakes sends c ≡ false → (is_close c step.event ≡ false) × (is_queued_to c (sends_of step.reply) ≡ false))
    → is_closing after ≡ false → LeavesWaiting wakes sends h after
goes_on {A} h after step wakes sends made same_run same_links others open_run =
    let past_is : past_of after ≡ step ∷ past_of h = ap (λ w. reverse w) made ∙ reverse-append h.steps (step ∷ []) in
    record {
      at_door = λ none link unmet. (ap (λ w. door_of (slice_get w link)) (same_links none) ∙ unmet.0, same_run ∙ unmet.1);
      for_next = λ c none is.
          let was = later_is (not (live (past_of h) c) || h.failed) (waiting (past_of h) c == 0) (is_closing h) is in
          let lives = alive (live (past_of h) c) h.failed was.0 in
          let (other, no_queue) = others c none in
          let now = step_later (past_of h) step c other no_queue lives.0 was.1 in
          is_later (not (live (past_of after) c) || after.failed) (waiting (past_of after) c == 0) (is_closing after)
          (rw (past_is, now.0, same_run, lives.1) refl) (rw past_is now.1) open_run;
    }

-- the same, whether the run goes on or closes
pub step_leaves : {A : Type 0} (h after : HubState A) (step : Step A) (wakes all : Wakes) (sends : List (Sending A)) → after.steps ≡ h.steps ++ step ∷ [] → after.failed ≡ h.failed
    → (are_doors_woken wakes ≡ false → after.links ≡ h.links)
    → ((c : ℕ) → is_woken wakes sends c ≡ false → (is_close c step.event ≡ false) × (is_queued_to c (sends_of step.reply) ≡ false))
    → all ≡ (if is_closing after then Everybody else wakes) → LeavesWaiting all sends h after
step_leaves {A} h after step wakes all sends made same_run same_links others is =
    let both : (b : Bool) → is_closing after ≡ b → LeavesWaiting (cond b Everybody wakes) sends h after = λ b e. elim b as (λ b. is_closing after ≡ b → LeavesWaiting (cond b Everybody wakes) sends h after) [
      | true ↦ λ e. all_woken sends h after
      | false ↦ λ e. goes_on h after step wakes sends made same_run same_links others e
    ] e in
    rw is (both (is_closing after) refl)

connect_sends : {A : Type 0} (reply : Reply A) → replies Connect reply ≡ true → sends_of reply ≡ []
connect_sends (kind.Connected d) fits = refl
connect_sends kind.TooMany fits = refl
connect_sends reply fits = absurd (cc)

close_sends : {A : Type 0} (c : ℕ) (reply : Reply A) → replies (Close c) reply ≡ true → sends_of reply ≡ []
close_sends c reply fits = ap sends_of (closed_reply c reply fits).1

take_sends : {A : Type 0} (c : ℕ) (reply : Reply A) → replies (Take c) reply ≡ true → sends_of reply ≡ []
take_sends c reply fits = ap sends_of (taken_reply c reply fits).1

none_queued : {A : Type 0} (c : ℕ) (sends : List (Sending A)) → sends ≡ [] → is_queued_to c sends ≡ false
none_queued c sends none = ap (λ w. is_queued_to c w) none

-- whom a step doesn't wake it doesn't concern
others_of : {A : Type 0} (event : Event A) (reply : Reply A) → replies event reply ≡ true
    → (c : ℕ) → is_woken (concerned event) (sends_of reply) c ≡ false → (is_close c event ≡ false) × (is_queued_to c (sends_of reply) ≡ false)
others_of (Close d) reply fits c none = (none, none_queued c (sends_of reply) (close_sends d reply fits))
others_of event reply fits c none = (refl, none)

fitting : {A : Type 0} (event : Event A) (answer : Result (Reply A) Refusal) (reply : Reply A) → is_fit event answer ≡ true → answer ≡ Ok reply → replies event reply ≡ true
fitting event answer reply fit is = subst (λ a. is_fit event a ≡ true) is fit

-- a call that stepped
pub call_leaves : {A : Type 0} (answer : Result (Reply A) Refusal) (event : Event A) (before after : HubState A) (me us : ActorState A) (wakes : Wakes) → is_fit event answer ≡ true
    → HasStepped answer event before me after us → wakes ≡ wakes_of event after → LeavesOthers wakes us before after
call_leaves answer event before after me us wakes fit (reply, is, made, got) e = (
  me.receipts,
  receipt (length before.steps) event reply,
  ap (λ w. w.receipts) got,
  step_leaves before after (record { actor = me.number; event = event; reply = reply }) (concerned event) wakes (sends_of reply) (ap (λ w. w.steps) made) (ap (λ w. w.failed) made)
      (λ none. ap (λ w. w.links) made) (others_of event reply (fitting event answer reply fit is)) e,
)

-- a Take, a Close and a Connect
pub take_leaves : {A : Type 0} (c : ℕ) (before after : HubState A) (me us : ActorState A) (wakes : Wakes) → AnswersFit A
    → HasStepped (answer_now before (Take c)) (Take c) before me after us → wakes ≡ (if is_closing after then Everybody else Nobody) → LeavesWaiting wakes [] before after
take_leaves {A} c before after me us wakes fit (reply, is, made, got) e =
    let sends = take_sends c reply (fitting (Take c) (answer_now before (Take c)) reply (fit before.settings (past_of before) (Take c)) is) in
    step_leaves before after (record { actor = me.number; event = Take c; reply = reply }) Nobody wakes [] (ap (λ w. w.steps) made) (ap (λ w. w.failed) made)
    (λ none. ap (λ w. w.links) made) (λ d other. (refl, none_queued d (sends_of reply) sends)) e

pub close_leaves : {A : Type 0} (c : ℕ) (before after : HubState A) (me us : ActorState A) (wakes : Wakes) → AnswersFit A
    → HasStepped (answer_now before (Close c)) (Close c) before me after us → wakes ≡ (if is_closing after then Everybody else Writer c) → LeavesWaiting wakes [] before after
close_leaves {A} c before after me us wakes fit (reply, is, made, got) e =
    let sends = close_sends c reply (fitting (Close c) (answer_now before (Close c)) reply (fit before.settings (past_of before) (Close c)) is) in
    step_leaves before after (record { actor = me.number; event = Close c; reply = reply }) (Writer c) wakes [] (ap (λ w. w.steps) made) (ap (λ w. w.failed) made)
    (λ none. ap (λ w. w.links) made) (λ d other. (other, none_queued d (sends_of reply) sends)) e

pub connect_leaves : {A : Type 0} (link : ℕ) (before after : HubState A) (me us : ActorState A) (wakes : Wakes) → AnswersFit A
    → HasConnected link before me after us → wakes ≡ (if is_closing after then Everybody else Doors) → LeavesWaiting wakes [] before after
connect_leaves {A} link before after me us wakes fit (reply, is, made, got) e =
    let sends = connect_sends reply (fitting Connect (answer_now before Connect) reply (fit before.settings (past_of before) Connect) is) in
    step_leaves before after (record { actor = me.number; event = Connect; reply = reply }) Doors wakes [] (ap (λ w. w.steps) made) (ap (λ w. w.failed) made)
    (λ woken. absurd (cc)) (λ d other. (refl, none_queued d (sends_of reply) sends)) e

-- nothing changed
pub unchanged : {A : Type 0} (wakes : Wakes) (sends : List (Sending A)) (before after : HubState A) → after ≡ before → LeavesWaiting wakes sends before after
unchanged wakes sends before after same = rw same (record { at_door = λ none link h. h; for_next = λ c none h. h })

-- a run to which links may come doesn't close
open_goes_on : {A : Type 0} (h : HubState A) → h.is_open ≡ true → is_closing h ≡ false
open_goes_on h comes = ap (λ b. not b && (length (flying (past_of h)) == 0) && are_read h.all_call h.links) comes

and_first : (a b : Bool) → (a && b) ≡ true → a ≡ true
and_first true b both = refl
and_first false b both = absurd (cc)

-- an unmet door is unmet still where a link comes
still_unmet : (links : List Mark) (slot link : ℕ) (role : Role) → door_of (slice_get links link) ≡ Unmet → door_of (slice_get (set links slot (new_mark role)) link) ≡ Unmet
still_unmet [] slot link role unmet = unmet
still_unmet (mark ∷ links) zero zero role unmet = refl
still_unmet (mark ∷ links) zero (suc link) role unmet = unmet
still_unmet (mark ∷ links) (suc slot) zero role unmet = unmet
still_unmet (mark ∷ links) (suc slot) (suc link) role unmet = still_unmet links slot link role unmet

-- a link that comes wakes nobody
pub coming_leaves : {A : Type 0} (slot : ℕ) (role : Role) (before after : HubState A) → may_take before slot ≡ true → after ≡ with_slot before slot role → LeavesWaiting Nobody [] before after
coming_leaves {A} slot role before after may is =
    let comes = and_first before.is_open (mark_at before slot).is_done may in
    rw is (record {
      at_door = λ woken link unmet. (still_unmet before.links slot link role unmet.0, unmet.1);
      for_next = λ c woken waits.
          let was = later_is (not (live (past_of before) c) || before.failed) (waiting (past_of before) c == 0) (is_closing before) waits in
          is_later (not (live (past_of before) c) || before.failed) (waiting (past_of before) c == 0) (is_closing (with_slot before slot role)) was.0 was.1 (open_goes_on (with_slot before slot role) comes);
    })
