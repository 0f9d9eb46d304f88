-- What the end of a link's reader or writer says of the history follows from what the body promises of its own receipts, and from who
-- closed the connection.
use Rattle.std.proofs.Common.{◌≡◌, ◌≤◌, ◌+◌, ◌==◌, ℕ, Bool, true, false, not, ◌&&◌, ◌||◌, cond, List, [], ◌∷◌, ◌++◌, map, length, is_some, Option, Some, None, inl, inr, refl, sym, ap, ◌∙◌, subst, append-nil, arith}
use Rattle.std.specs.List.{count_by, list_all, list_any}
use Rattle.std.proofs.Math.Bool.{or-true}
use Rattle.std.proofs.lemmas.Bool.{eq-eqb}
use Rattle.std.proofs.lemmas.List.Folds.{list_all-append}
use Rattle.gn_wire.specs.Packet.{Packet}
use Rattle.gn_rules.specs.declared.event.Event.{Event}
use Rattle.gn_rules.specs.declared.event.Event.TheVariants.{Connect, Close, Admit, Route, Take, Originate}
use Rattle.gn_rules.specs.declared.receipt.Receipt.{Receipt}
use Rattle.gn_rules.specs.declared.receipt.Step.{Step}
use Rattle.gn_rules.specs.declared.reply.Reply.TheVariants as reply
use Rattle.gn_rules.specs.History.{is_close, mine, ticket_of}
use Rattle.gn_shake.specs.declared.role.Role.{Role}
use Rattle.gn_shake.specs.Greeting.{is_calling}
use Rattle.gn_laws.specs.Owners.{is_writers}
use Rattle.gn_laws.proofs.CountLemmas.{tally, count-cons}
use Rattle.gn_actors.specs.ActorState.{receipt}
use Rattle.gn_hub.specs.Receipts.{TakenAt, taken_receipt}
use Rattle.gn_bodies.specs.declared.ends.ReaderEnd.{ReaderEnd}
use Rattle.gn_bodies.specs.declared.ends.ReaderEnd.TheVariants.{Bytes, Fault, ReadFailed, Turns, GreetingRefused, GreetingCut, TooMany, NotLive}
use Rattle.gn_bodies.specs.declared.ends.WriterEnd.{WriterEnd}
use Rattle.gn_bodies.specs.declared.ends.WriterEnd.TheVariants.{Drained, WriteFailed, Closed, NeverOpened}
use Rattle.gn_bodies.specs.Events.{link_events_in}
use Rattle.gn_bodies.specs.ReaderRows.{ClosesMaybe, ReaderDid, closes}
use Rattle.gn_bodies.specs.Written.{AreTakes, ThenClosed, WriterDid, WriterSteps}
use Rattle.gn_report.proofs.DidLemmas.{closed_nothing}
use Rattle.gn_report.specs.BodyEnds.{is_connect, is_reader_end, is_turned_away, is_writer_end}
use Rattle.gn_report.specs.Seen.{IsSameLink, must_be_gone}
use Rattle.gn_report.proofs.ClosedLemmas.{closed_by_others}
use Rattle.gn_report.proofs.ComparedLemmas.{is_last_close}

-- where none passes a test, not any does
not_any : {X : Type 0} (p : X → Bool) (xs : List X) → list_all (λ x. not (p x)) xs ≡ true → list_any p xs ≡ false
not_any p [] none = refl
not_any p (x ∷ xs) none = by_head (p x) none (not_any p xs)
  where
    by_head : (b : Bool) → (not b && list_all (λ y. not (p y)) xs) ≡ true → (list_all (λ y. not (p y)) xs ≡ true → list_any p xs ≡ false) → (b || list_any p xs) ≡ false
    by_head true all later = absurd (cc)
    by_head false all later = later all

-- Connects stand among the events that aren't Routes
connects_in : {A : Type 0} (own : List (Receipt A)) → count_by (λ r. is_connect r.event) own ≡ count_by is_connect (link_events_in own)
connects_in [] = refl
connects_in {A} (r ∷ own) =
    let rest = connects_in own in
    let more = count-cons (λ (x : Receipt A). is_connect x.event) r own in
    let next = count-cons is_connect r.event (link_events_in own) in
    by_event r.event more next rest
  where
    all : ℕ
    all = count_by (λ (x : Receipt A). is_connect x.event) (r ∷ own)

    fewer : ℕ
    fewer = count_by (λ (x : Receipt A). is_connect x.event) own

    others : List (Event A)
    others = link_events_in own

    by_event : (event : Event A) → all ≡ tally (is_connect event) + fewer → count_by is_connect (event ∷ others) ≡ tally (is_connect event) + count_by is_connect others → fewer ≡ count_by is_connect others
        → all ≡ count_by is_connect (cond (not (is_some (ticket_of event))) (event ∷ others) others)
    by_event Connect more next rest = omega (arith, more, next, rest)
    by_event (Close c) more next rest = omega (arith, more, next, rest)
    by_event (Admit c d) more next rest = omega (arith, more, next, rest)
    by_event (Route t) more next rest = omega (arith, more, rest)
    by_event (Take c) more next rest = omega (arith, more, next, rest)
    by_event (Originate d) more next rest = omega (arith, more, next, rest)

-- Admits, and what has no Connect, have none
none_connects : {A : Type 0} (c : ℕ) (ds : List Packet) (last : List (Event A)) → count_by is_connect last ≡ 0 → count_by is_connect (map (Admit c) ds ++ last) ≡ 0
none_connects c [] last none = none
none_connects {A} c (d ∷ ds) last none =
    let rest = none_connects c ds last none in
    let more = count-cons is_connect (Admit c d) (map (Admit c) ds ++ last) in
    omega (arith, more, rest)

one_connects : {A : Type 0} (c : ℕ) (ds : List Packet) (last : List (Event A)) → count_by is_connect last ≡ 0 → count_by is_connect (Connect ∷ (map (Admit c) ds ++ last)) ≡ 1
one_connects {A} c ds last none =
    let rest = none_connects c ds last none in
    let more = count-cons is_connect Connect (map (Admit c) ds ++ last) in
    omega (arith, more, rest)

joined_once : {A : Type 0} (b : Bool) (c : ℕ) (ds : List Packet) (es : List (Event A)) → ClosesMaybe b c es (Connect ∷ map (Admit c) ds) → count_by is_connect es ≡ 1
joined_once {A} false c ds es is = ap (count_by is_connect) (is ∙ ap (λ (l : List (Event A)). Connect ∷ l) (sym (append-nil (map (Admit c) ds)))) ∙ one_connects c ds [] refl
joined_once {A} true c ds es (inl is) = ap (count_by is_connect) (is ∙ ap (λ (l : List (Event A)). Connect ∷ l) (sym (append-nil (map (Admit c) ds)))) ∙ one_connects c ds [] refl
joined_once {A} true c ds es (inr is) = ap (count_by is_connect) is ∙ one_connects c ds (Close c ∷ []) refl

-- a reader connected at most once
pub connected_once : {A : Type 0} (end : ReaderEnd) (conn : Option ℕ) (own : List (Receipt A)) → ReaderDid end conn own → count_by (λ r. is_connect r.event) own ≤ 1
connected_once {A} end (Some c) own (joined, ds, events) = let inside = connects_in own in let one = joined_once (closes end) c ds (link_events_in own) events in omega (arith, inside, one)
connected_once {A} Bytes None own did = let other = did.0 in absurd (cc)
connected_once {A} (Fault f) None own did = let other = did.0 in absurd (cc)
connected_once {A} NotLive None own did = let other = did.0 in absurd (cc)
connected_once {A} end None own did = let same = ap (λ (rs : List (Receipt A)). count_by (λ r. is_connect r.event) rs) did.1 in omega (arith, same)

-- a reader's end is right, where somebody closed its connection that must be closed, and where its writer closed first at NotLive
pub reader_end_is : {A : Type 0} (steps : List (Step A)) (writer : ℕ) (first : Bool) (own : List (Receipt A)) (end : ReaderEnd) (written conn : Option ℕ) → ReaderDid end conn own
    → (must_be_gone end written ≡ true → (c : ℕ) → conn ≡ Some c → list_any (λ step. is_close c step.event) steps ≡ true)
    → ((c : ℕ) → conn ≡ Some c → end ≡ NotLive → (first && list_any (λ step. (step.actor == writer) && is_close c step.event) steps) ≡ true)
    → is_reader_end steps writer first own end conn ≡ true
reader_end_is {A} steps writer first own Bytes written (Some c) did closed by_writer = ap not (not_any (λ (r : Receipt A). is_close c r.event) own (closed_nothing Bytes c own refl did))
reader_end_is steps writer first own (Fault f) written (Some c) did closed by_writer = closed refl c refl
reader_end_is steps writer first own ReadFailed written (Some c) did closed by_writer = closed refl c refl
reader_end_is steps writer first own Turns written (Some c) did closed by_writer = closed refl c refl
reader_end_is steps writer first own NotLive written (Some c) did closed by_writer = by_writer c refl refl
reader_end_is steps writer first own ReadFailed written None did closed by_writer = refl
reader_end_is steps writer first own Turns written None did closed by_writer = refl
reader_end_is {A} steps writer first own GreetingRefused written None did closed by_writer = ap (λ (rs : List (Receipt A)). length rs == 0) did.1
reader_end_is {A} steps writer first own GreetingCut written None did closed by_writer = ap (λ (rs : List (Receipt A)). length rs == 0) did.1
reader_end_is {A} steps writer first own TooMany written None did closed by_writer = ap (λ (rs : List (Receipt A)). (length rs == 1) && list_all (λ r. is_turned_away r.event r.reply) rs) did.1
reader_end_is steps writer first own end written conn did closed by_writer = let other = did.0 in absurd (cc)

-- takes pass a test that each Take does
takes_pass : {A : Type 0} (f : Event A → Bool) (c : ℕ) (taken : List TakenAt) → f (Take c) ≡ true → list_all (λ r. f r.event) (map (taken_receipt {A = A} c) taken) ≡ true
takes_pass f c [] is = refl
takes_pass f c (t ∷ taken) is = rw is (takes_pass f c taken is)

all_takes : {A : Type 0} (f : Event A → Bool) (c : ℕ) (own : List (Receipt A)) → f (Take c) ≡ true → AreTakes c own → list_all (λ r. f r.event) own ≡ true
all_takes {A} f c own is (taken, same) = ap (λ (rs : List (Receipt A)). list_all (λ r. f r.event) rs) same ∙ takes_pass f c taken is

-- one receipt more
all_and_one : {A : Type 0} (f : Event A → Bool) (before own : List (Receipt A)) (r : Receipt A) → list_all (λ x. f x.event) before ≡ true → f r.event ≡ true → own ≡ before ++ r ∷ [] → list_all (λ x. f x.event) own ≡ true
all_and_one {A} f before own r all one is =
    let p : Receipt A → Bool = λ x. f x.event in
    ap (list_all p) is ∙ list_all-append p before (r ∷ []) ∙ ap (λ b. b && (f r.event && true)) all ∙ ap (λ b. b && true) one

then_closed : {A : Type 0} (f : Event A → Bool) (c : ℕ) (found : Option ℕ) (before own : List (Receipt A)) → f (Close c) ≡ true → list_all (λ r. f r.event) before ≡ true → ThenClosed c found before own → list_all (λ r. f r.event) own ≡ true
then_closed f c None before own close all (index, count, is) = all_and_one f before own (receipt index (Close c) (reply.Closed count)) all close is
then_closed {A} f c (Some d) before own close all (same, is) = ap (λ (rs : List (Receipt A)). list_all (λ r. f r.event) rs) is ∙ all

-- a writer's events are those of its connection
writer_alone : {A : Type 0} (role : Role) (end : WriterEnd) (written found idle : Option ℕ) (own : List (Receipt A)) → WriterSteps role end written found idle own → list_all (λ r. is_writers written r.event) own ≡ true
writer_alone role Drained (Some c) found idle own (before, takes, (index, at, is)) =
    all_and_one (is_writers (Some c)) before own (receipt index (Close c) (reply.Closed 0)) (all_takes (is_writers (Some c)) c before (eq-eqb c c refl) takes) (eq-eqb c c refl) is
writer_alone role Closed (Some c) found idle own takes = all_takes (is_writers (Some c)) c own (eq-eqb c c refl) takes
writer_alone role WriteFailed (Some c) found idle own (before, takes, closed) = then_closed (is_writers (Some c)) c found before own (eq-eqb c c refl) (all_takes (is_writers (Some c)) c before (eq-eqb c c refl) takes) closed
writer_alone {A} role WriteFailed None found idle own did = ap (λ (rs : List (Receipt A)). list_all (λ r. is_writers None r.event) rs) did.1
writer_alone {A} role NeverOpened None found idle own did = ap (λ (rs : List (Receipt A)). list_all (λ r. is_writers None r.event) rs) did
writer_alone role end written found idle own did = absurd did

-- where a writer has no connection, it made no event
writer_idle : {A : Type 0} (conn : Option ℕ) (own : List (Receipt A)) → own ≡ [] → list_all (λ r. is_writers conn r.event) own ≡ true
writer_idle {A} conn own none = ap (λ (rs : List (Receipt A)). list_all (λ r. is_writers conn r.event) rs) none

-- so they are those of its link's connection
pub writers_alone : {A : Type 0} (role : Role) (end : WriterEnd) (written conn : Option ℕ) (own : List (Receipt A)) → WriterDid role end written own → IsSameLink end written conn → list_all (λ r. is_writers conn r.event) own ≡ true
writers_alone {A} role Drained written conn own (found, idle, did) same = subst (λ o. list_all (λ (r : Receipt A). is_writers o r.event) own ≡ true) same (writer_alone role Drained written found idle own did)
writers_alone {A} role Closed written conn own (found, idle, did) same = subst (λ o. list_all (λ (r : Receipt A). is_writers o r.event) own ≡ true) same (writer_alone role Closed written found idle own did)
writers_alone {A} role WriteFailed (Some c) conn own (found, idle, did) same = subst (λ o. list_all (λ (r : Receipt A). is_writers o r.event) own ≡ true) same (writer_alone role WriteFailed (Some c) found idle own did)
writers_alone role WriteFailed None conn own (found, idle, did) same = writer_idle conn own did.1
writers_alone role NeverOpened None conn own (found, idle, did) same = writer_idle conn own did
writers_alone role NeverOpened (Some c) conn own (found, idle, did) same = absurd did

-- a writer that made no event, since the request of its link that calls couldn't be written
idle_call : {A : Type 0} (role : Role) (own : List (Receipt A)) → (is_calling role ≡ true) × (own ≡ []) → (is_calling role && (length own == 0)) ≡ true
idle_call {A} role own did = ap (λ b. b && (length own == 0)) did.0 ∙ ap (λ (rs : List (Receipt A)). length rs == 0) did.1

-- a writer's end is right, where somebody closed its connection, and where its last receipt is right at Drained
pub writer_end_is : {A : Type 0} (settled : ℕ → Bool) (roles : List Role) (steps : List (Step A)) (w : ℕ) (role : Role) (own : List (Receipt A)) (end : WriterEnd) (written conn : Option ℕ) → own ≡ mine steps w
    → WriterDid role end written own → IsSameLink end written conn
    → ((c : ℕ) → written ≡ Some c → conn ≡ Some c → list_any (λ step. is_close c step.event) steps ≡ true)
    → (end ≡ Drained → (c index : ℕ) (before : List (Receipt A)) → own ≡ before ++ receipt index (Close c) (reply.Closed 0) ∷ [] → list_any (is_last_close settled roles steps c) own ≡ true)
    → is_writer_end settled roles steps w role own end conn ≡ true
writer_end_is settled roles steps w role own Drained (Some c) conn mine_is (found, idle, (before, takes, (index, at, is))) same closed drained =
    subst (λ o. is_writer_end settled roles steps w role own Drained o ≡ true) same (drained refl c index before is)
writer_end_is settled roles steps w role own Drained None conn mine_is (found, idle, did) same closed drained = absurd did
writer_end_is {A} settled roles steps w role own Closed (Some c) conn mine_is (found, idle, did) same closed drained =
    let none : list_all (λ (r : Receipt A). not (is_close c r.event)) own ≡ true = all_takes (λ event. not (is_close c event)) c own refl did in
    subst (λ o. is_writer_end settled roles steps w role own Closed o ≡ true) same
    (closed_by_others c w steps (closed c refl (sym same)) (subst (λ (rs : List (Receipt A)). list_all (λ r. not (is_close c r.event)) rs ≡ true) mine_is none))
writer_end_is settled roles steps w role own Closed None conn mine_is (found, idle, did) same closed drained = absurd did
writer_end_is settled roles steps w role own WriteFailed (Some c) conn mine_is did same closed drained =
    subst (λ o. is_writer_end settled roles steps w role own WriteFailed o ≡ true) same
    (ap (λ b. (is_calling role && (length own == 0)) || b) (closed c refl (sym same)) ∙ or-true (is_calling role && (length own == 0)))
writer_end_is {A} settled roles steps w role own WriteFailed None (Some c) mine_is (found, idle, did) same closed drained =
    ap (λ b. b || list_any (λ (step : Step A). is_close c step.event) steps) (idle_call role own did)
writer_end_is settled roles steps w role own WriteFailed None None mine_is (found, idle, did) same closed drained = idle_call role own did
writer_end_is settled roles steps w role own NeverOpened written conn mine_is did same closed drained = subst (λ o. is_writer_end settled roles steps w role own NeverOpened o ≡ true) (sym same) refl
