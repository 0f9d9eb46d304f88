-- The line of a step is read again.
use Rattle.std.proofs.Common.{◌≡◌, ℕ, ◌<◌, ◌^◌, List, [], ◌∷◌, ◌++◌, length, take, drop, map, Bool, true, false, refl, sym, ap, ◌∙◌, arith, Option, Some, None, append-nil, append_assoc, codes, decimal}
use Rattle.std.specs.Char.{is_ascii_digit}
use Rattle.std.specs.List.{list_all, AllByRecursion}
use Rattle.std.specs.Option.{option_map_or}
use Rattle.std.specs.Prelude.{IfSome}
use Rattle.std.proofs.lemmas.Bool.{and_parts}
use Rattle.std.proofs.lemmas.Bool.Decides.{nat_tests}
use Rattle.std.proofs.lemmas.Grind.{flat_map-append}
use Rattle.std.proofs.lemmas.List.{take_at, drop_at}
use Rattle.gn_wire.specs.Packet.{Packet}
use Rattle.gn_rules.specs.declared.event.Event.{Event}
use Rattle.gn_rules.specs.declared.event.Event.TheVariants.{Connect, Close, Admit, Route, Take, Originate}
use Rattle.gn_rules.specs.declared.receipt.Step.{Step}
use Rattle.gn_rules.specs.declared.reply.DropReason.{DropReason}
use Rattle.gn_rules.specs.declared.reply.Reply.{Reply}
use Rattle.gn_rules.specs.declared.reply.Reply.TheVariants.{Routed, Dropped, Taken, Sent}
use Rattle.gn_rules.specs.declared.sends.Sending.{Sending}
use Rattle.gn_rules.specs.declared.statistics.Counter.{Counter}
use Rattle.gn_rules.specs.declared.statistics.Counter.TheVariants.{Connected}
use Rattle.gn_rules.specs.Plain.{number_of, plain_of}
use Rattle.gn_rules.specs.Statistics.{counter_of, drop_counter}
use Rattle.gn_numbers.specs.Names.{counter_name, event_name, place_name, reason_name, reason_named, word_of}
use Rattle.gn_numbers.specs.Numbers.{◌>>=◌, number_of as number_said}
use Rattle.gn_numbers.proofs.NameLemmas.{names_read}
use Rattle.gn_text.specs.Lines.{fields_of, is_word}
use Rattle.gn_capture.specs.Histories.{ending}
use Rattle.gn_text.specs.Settings.{field_text}
use Rattle.gn_text.specs.Steps.{event_rest, event_text, mark_text, packet_text, reply_name, reply_rest, reply_text, sending_text, sends_text, step_line}
use Rattle.gn_capture.specs.Events.{event_first}
use Rattle.gn_capture.specs.Replies.{is_unmarked, mark_place, marked_parsed, number_or_none, reply_parsed, sending_parsed, sends_parsed}
use Rattle.gn_capture.specs.RoundTrip.{IsEvent, IsNumber, IsPacket, IsReply, IsSending, IsStep}
use Rattle.gn_capture.specs.Steps.{step_parsed}
use Rattle.gn_capture.proofs.DescriptorsAgain.{hex_plain, packet_again}
use Rattle.gn_capture.proofs.NumbersAgain.{number_again, number_digits, number_nonempty, number_plain}
use Rattle.gn_capture.proofs.LinesAgain.{IsParsed, number_parsed, number_goes_on}
use Rattle.gn_capture.proofs.Spaced.{IsLine, IsPlain, all_append, fields_again, fields_append, is_plain, spaced_line, tail_text, weaker}

-- ---- the fields of an event

-- those behind its word
abbrev behind_event : {A : Type 0} → Event A → List (List ℕ)
behind_event Connect = []
behind_event (Close c) = decimal c ∷ []
behind_event (Admit c d) = decimal c ∷ packet_text d ∷ []
behind_event (Route t) = decimal t ∷ []
behind_event (Take c) = decimal c ∷ []
behind_event (Originate d) = packet_text d ∷ []

abbrev event_fields : {A : Type 0} → Event A → List (List ℕ)
event_fields e = event_name (word_of e) ∷ behind_event e

last_one : (word field : List ℕ) → word ++ field ≡ word ++ (field ++ [])
last_one word field = ap (λ (t : List ℕ). word ++ t) (sym (append-nil field))

last_two : (word a b : List ℕ) → ((word ++ a) ++ codes " ") ++ b ≡ word ++ (a ++ (32 ∷ (b ++ [])))
last_two word a b = simp (append_assoc, append-nil)

behind_spaced : {A : Type 0} (e : Event A) → event_rest e ≡ tail_text (behind_event e)
behind_spaced Connect = refl
behind_spaced (Close c) = last_one (codes " ") (decimal c)
behind_spaced (Admit c d) = last_two (codes " ") (decimal c) (packet_text d)
behind_spaced (Route t) = last_one (codes " ") (decimal t)
behind_spaced (Take c) = last_one (codes " ") (decimal c)
behind_spaced (Originate d) = last_one (codes " ") (packet_text d)

event_spaced : {A : Type 0} (e : Event A) → codes " " ++ event_text e ≡ tail_text (event_fields e)
event_spaced e = ap (λ (t : List ℕ). codes " " ++ (event_name (word_of e) ++ t)) (behind_spaced e)

packet_plain : (d : Packet) → IsPacket d → IsPlain (packet_text d)
packet_plain d h = hex_plain _ h.bytes

event_plain : {A : Type 0} (e : Event A) → IsEvent e → AllByRecursion IsPlain (event_fields e)
event_plain Connect h = (refl, tt)
event_plain (Close c) h = (refl, (number_plain c h, tt))
event_plain (Admit c d) h = (refl, (number_plain c h.0, (packet_plain d h.1, tt)))
event_plain (Route t) h = (refl, (number_plain t h, tt))
event_plain (Take c) h = (refl, (number_plain c h, tt))
event_plain (Originate d) h = (refl, (packet_plain d h, tt))

event_again : {A : Type 0} (e : Event A) (more : List (List ℕ)) → IsEvent e → event_first (event_fields e ++ more) ≡ Some (e, more)
event_again Connect more h = refl
event_again (Close c) more h = rw (number_again c h) refl
event_again (Admit c d) more h = rw (number_again c h.0, packet_again d h.1) refl
event_again (Route t) more h = rw (number_again t h) refl
event_again (Take c) more h = rw (number_again c h) refl
event_again (Originate d) more h = rw (packet_again d h) refl

-- ---- the field of a send

abbrev sending_field : {A : Type 0} → Sending A → List ℕ
sending_field x = decimal x.to ++ mark_text x.queued ++ packet_text x.packet

sends_spaced : {A : Type 0} (sends : List (Sending A)) → sends_text sends ≡ tail_text (map sending_field sends)
sends_spaced [] = refl
sends_spaced (x ∷ xs) = ap (λ (t : List ℕ). sending_text x ++ t) (sends_spaced xs)

place_at : (ds rest : List ℕ) (mark : ℕ) → list_all is_unmarked ds ≡ true → is_unmarked mark ≡ false → mark_place (ds ++ mark ∷ rest) ≡ length ds
place_at [] rest mark h e = rw e refl
place_at (x ∷ xs) rest mark h e =
    let parts = and_parts (is_unmarked x) (list_all is_unmarked xs) h in
    let more = place_at xs rest mark parts.1 e in rw (parts.0, more) (omega arith)

cut_at : {A : Type 0} (n : ℕ) (ds rest : List ℕ) → n ≡ length ds → marked_parsed {A = A} (take n (ds ++ rest)) (drop n (ds ++ rest)) ≡ marked_parsed ds rest
cut_at n ds rest e = rw (take_at ds rest n (sym e), drop_at ds rest n (sym e)) refl

digit_unmarked : (x : ℕ) → is_ascii_digit x ≡ true → is_unmarked x ≡ true
digit_unmarked x h = grind (arith, nat_tests)

marked_again : {A : Type 0} (to mark : ℕ) (hex : List ℕ) → to < 2 ^ 32 → is_unmarked mark ≡ false
    → sending_parsed {A = A} (decimal to ++ mark ∷ hex) ≡ marked_parsed (decimal to) (mark ∷ hex)
marked_again to mark hex h e =
    let digits = weaker is_ascii_digit is_unmarked digit_unmarked (decimal to) (number_digits to h) in
    cut_at (mark_place (decimal to ++ mark ∷ hex)) (decimal to) (mark ∷ hex) (place_at (decimal to) hex mark digits e)

send_again : {A : Type 0} (to : ℕ) (d : Packet) (queued : Bool) → to < 2 ^ 32 → IsPacket d
    → sending_parsed {A = A} ((decimal to ++ mark_text queued) ++ packet_text d) ≡ Some (record { to = to; packet = d; queued = queued })
send_again to d true h k =
    ap sending_parsed (append_assoc (decimal to) (codes "+") (packet_text d)) ∙ marked_again to 43 (packet_text d) h refl
    ∙ rw (number_again to h, packet_again d k) refl
send_again to d false h k =
    ap sending_parsed (append_assoc (decimal to) (codes "-") (packet_text d)) ∙ marked_again to 45 (packet_text d) h refl
    ∙ rw (number_again to h, packet_again d k) refl

sending_again : {A : Type 0} (x : Sending A) → IsSending x → sending_parsed (sending_field x) ≡ Some x
sending_again x h = send_again x.to x.packet x.queued h.to h.packet

mark_plain : (queued : Bool) → IsPlain (mark_text queued)
mark_plain true = refl
mark_plain false = refl

sending_plain : {A : Type 0} (x : Sending A) → IsSending x → IsPlain (sending_field x)
sending_plain x h =
    all_append is_plain (decimal x.to ++ mark_text x.queued) (packet_text x.packet)
    (all_append is_plain (decimal x.to) (mark_text x.queued) (number_plain x.to h.to) (mark_plain x.queued)) (packet_plain x.packet h.packet)

sends_plain : {A : Type 0} (xs : List (Sending A)) → AllByRecursion IsSending xs → AllByRecursion IsPlain (map sending_field xs)
sends_plain [] h = tt
sends_plain (x ∷ xs) h = (sending_plain x h.0, sends_plain xs h.1)

one_more : {A : Type 0} (x : Sending A) (xs : List (Sending A)) (field : List ℕ) (more : List (List ℕ)) → sending_parsed field ≡ Some x → sends_parsed more ≡ Some xs
    → sends_parsed (field ∷ more) ≡ Some (x ∷ xs)
one_more x xs field more e f = rw (e, f) refl

sends_again : {A : Type 0} (xs : List (Sending A)) → AllByRecursion IsSending xs → sends_parsed (map sending_field xs) ≡ Some xs
sends_again [] h = refl
sends_again (x ∷ xs) h = one_more x xs (sending_field x) (map sending_field xs) (sending_again x h.0) (sends_again xs h.1)

-- ---- the fields of a reply

abbrev number_fields : Option ℕ → List (List ℕ)
number_fields None = []
number_fields (Some n) = decimal n ∷ []

-- those behind its word
abbrev behind_reply : {A : Type 0} → Reply A → List (List ℕ)
behind_reply (Routed sends local) = place_name local ∷ map sending_field sends
behind_reply (Dropped reason) = reason_name reason ∷ []
behind_reply (Taken d) = packet_text d ∷ []
behind_reply (Sent sends) = map sending_field sends
behind_reply r = number_fields (number_of r)

abbrev reply_fields : {A : Type 0} → Reply A → List (List ℕ)
reply_fields r = reply_name r ∷ behind_reply r

number_spaced : (number : Option ℕ) → option_map_or field_text number [] ≡ tail_text (number_fields number)
number_spaced None = refl
number_spaced (Some n) = last_one (codes " ") (decimal n)

reply_rest_spaced : {A : Type 0} (r : Reply A) → reply_rest r ≡ tail_text (behind_reply r)
reply_rest_spaced (Routed sends local) = ap (λ (t : List ℕ). (codes " " ++ place_name local) ++ t) (sends_spaced sends)
reply_rest_spaced (Dropped reason) = last_one (codes " ") (reason_name reason)
reply_rest_spaced (Taken d) = last_one (codes " ") (packet_text d)
reply_rest_spaced (Sent sends) = sends_spaced sends
reply_rest_spaced r = number_spaced (number_of r)

reply_spaced : {A : Type 0} (r : Reply A) → codes " " ++ reply_text r ≡ tail_text (reply_fields r)
reply_spaced r = ap (λ (t : List ℕ). codes " " ++ (reply_name r ++ t)) (reply_rest_spaced r)

-- the names are fields

counter_plain : (k : Counter) → IsPlain (counter_name k)
counter_plain Connected = refl
counter_plain k = refl

reply_name_plain : {A : Type 0} (r : Reply A) → IsPlain (reply_name r)
reply_name_plain (Dropped reason) = refl
reply_name_plain r = counter_plain (counter_of r)

place_plain : (local : Bool) → IsPlain (place_name local)
place_plain true = refl
place_plain false = refl

number_fields_plain : (number : Option ℕ) → IfSome number IsNumber → AllByRecursion IsPlain (number_fields number)
number_fields_plain None h = tt
number_fields_plain (Some n) h = (number_plain n h, tt)

behind_reply_plain : {A : Type 0} (r : Reply A) → IsReply r → AllByRecursion IsPlain (behind_reply r)
behind_reply_plain (Routed sends local) h = (place_plain local, sends_plain sends h)
behind_reply_plain (Dropped reason) h = (counter_plain (drop_counter reason), tt)
behind_reply_plain (Taken d) h = (packet_plain d h, tt)
behind_reply_plain (Sent sends) h = sends_plain sends h
behind_reply_plain r h = number_fields_plain (number_of r) h

reply_plain : {A : Type 0} (r : Reply A) → IsReply r → AllByRecursion IsPlain (reply_fields r)
reply_plain r h = (reply_name_plain r, behind_reply_plain r h)

-- and are read

routed_again : {A : Type 0} (sends : List (Sending A)) (local : Bool) (more : List (List ℕ)) → sends_parsed more ≡ Some sends
    → reply_parsed (codes "routed" ∷ place_name local ∷ more) ≡ Some (Routed sends local)
routed_again sends true more e = rw e refl
routed_again sends false more e = rw e refl

sent_again : {A : Type 0} (sends : List (Sending A)) (more : List (List ℕ)) → sends_parsed more ≡ Some sends
    → reply_parsed (codes "sent" ∷ more) ≡ Some (Sent sends)
sent_again sends more e = rw e refl

dropped_again : {A : Type 0} (field : List ℕ) (reason : DropReason) → reason_named field ≡ Some reason
    → reply_parsed {A = A} (codes "dropped" ∷ field ∷ []) ≡ Some (Dropped reason)
dropped_again field reason e = rw e refl

number_fields_again : (number : Option ℕ) → IfSome number IsNumber → number_or_none (number_fields number) ≡ Some number
number_fields_again None h = refl
number_fields_again (Some n) h = rw (number_again n h) refl

reply_again : {A : Type 0} (r : Reply A) → IsReply r → reply_parsed (reply_fields r) ≡ Some r
reply_again (Routed sends local) h = routed_again sends local (map sending_field sends) (sends_again sends h)
reply_again (Dropped reason) h = dropped_again (reason_name reason) reason (names_read.reasons reason)
reply_again (Taken d) h = rw (packet_again d h) refl
reply_again (Sent sends) h = sent_again sends (map sending_field sends) (sends_again sends h)
reply_again {A} r h = ap (λ (number : Option (Option ℕ)). number >>= plain_of {A = A} (counter_of r)) (number_fields_again (number_of r) h)

-- ---- a step

-- the fields after the actor of a step
abbrev step_fields : {A : Type 0} → Step A → List (List ℕ)
step_fields step = event_fields step.event ++ codes "=" ∷ reply_fields step.reply

joined : (a e r : List ℕ) → ((((a ++ codes " ") ++ e) ++ codes " = ") ++ r) ≡ a ++ ((codes " " ++ e) ++ (codes " =" ++ (codes " " ++ r)))
joined a e r = simp append_assoc

step_spaced : {A : Type 0} (step : Step A) → step_line step ≡ decimal step.actor ++ tail_text (step_fields step)
step_spaced step =
    let whole : List ℕ → List ℕ → List ℕ = λ e r. decimal step.actor ++ (e ++ (codes " =" ++ r)) in
    joined (decimal step.actor) (event_text step.event) (reply_text step.reply)
    ∙ ap (λ (e : List ℕ). whole e (codes " " ++ reply_text step.reply)) (event_spaced step.event)
    ∙ ap (λ (r : List ℕ). whole (tail_text (event_fields step.event)) r) (reply_spaced step.reply)
    ∙ ap (λ (t : List ℕ). decimal step.actor ++ t) (sym (flat_map-append (λ field. 32 ∷ field) (event_fields step.event) (codes "=" ∷ reply_fields step.reply)))

step_plain : {A : Type 0} (step : Step A) → IsStep step → AllByRecursion IsPlain (step_fields step)
step_plain step h =
    fields_append (event_fields step.event) (codes "=" ∷ reply_fields step.reply) (event_plain step.event h.event) (refl, reply_plain step.reply h.reply)

pub step_line_is : {A : Type 0} (step : Step A) → IsStep step → IsLine (step_line step)
step_line_is step h = rw (step_spaced step) (spaced_line (decimal step.actor) (step_fields step) (number_plain step.actor h.actor) (step_plain step h))

pub step_line_parsed : {A : Type 0} (step : Step A) → IsStep step → IsParsed (step_line step)
step_line_parsed step h =
    rw (step_spaced step) (number_parsed (decimal step.actor) (tail_text (step_fields step)) (number_nonempty step.actor h.actor) (number_digits step.actor h.actor))

pub step_goes_on : {A : Type 0} (step : Step A) → IsStep step → is_word (step_line step) ending ≡ false
step_goes_on step h =
    rw (step_spaced step) (number_goes_on (decimal step.actor) (tail_text (step_fields step)) (number_nonempty step.actor h.actor) (number_digits step.actor h.actor))

-- a step is said by the fields of its actor, its event and its reply
said_by_parts : {A : Type 0} (step : Step A) (actor : List ℕ) (fields answer : List (List ℕ)) → number_said actor ≡ Some step.actor
    → event_first fields ≡ Some (step.event, codes "=" ∷ answer) → reply_parsed answer ≡ Some step.reply → step_parsed (actor ∷ fields) ≡ Some step
said_by_parts step actor fields answer e f g = rw (e, f, g) refl

parsed_again : {A : Type 0} (step : Step A) → IsStep step → step_parsed (decimal step.actor ∷ step_fields step) ≡ Some step
parsed_again step h =
    said_by_parts step (decimal step.actor) (step_fields step) (reply_fields step.reply) (number_again step.actor h.actor)
    (event_again step.event (codes "=" ∷ reply_fields step.reply) h.event) (reply_again step.reply h.reply)

-- the line of a step is read again
pub step_again : {A : Type 0} (step : Step A) → IsStep step → step_parsed (fields_of (step_line step)) ≡ Some step
step_again step h =
    ap (λ (line : List ℕ). step_parsed (fields_of line)) (step_spaced step)
    ∙ ap step_parsed (fields_again (decimal step.actor) (step_fields step) (number_plain step.actor h.actor) (step_plain step h))
    ∙ parsed_again step h
