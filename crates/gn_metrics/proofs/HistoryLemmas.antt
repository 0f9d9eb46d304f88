-- What is counted of the text of a history: the steps with each reply or reason to drop.
use Rattle.std.proofs.Common.{◌≡◌, ◌<◌, ◌+◌, ◌-◌, ◌/◌, ◌%◌, ◌^◌, ℕ, zero, suc, Bool, true, false, List, [], ◌∷◌, ◌++◌, get_or, map, count_by, refl, sym, ap, ◌∙◌, arith, append_assoc}
use Rattle.std.specs.Prelude.{◌==◌, ◌&&◌, codes, decimal, if◌then◌else◌, min, not}
use Rattle.std.specs.Fmt.{digit_glyph, digits, digits_onto}
use Rattle.std.specs.List.{flat_map, list_all}
use Rattle.std.proofs.lemmas.Bool.{and_parts}
use Rattle.std.proofs.lemmas.Bool.Decides.{nat_tests}
use Rattle.std.proofs.lemmas.List.Folds.{list_all-append}
use mathlib.Core.List.{reverse_aux}
use Rattle.hex.specs.Hex.{encode_lower, encode_with, lower_digits}
use Rattle.gn_wire.specs.Encoding.{bytes_of}
use Rattle.gn_numbers.specs.declared.version.Version.{Version}
use Rattle.gn_numbers.specs.declared.version.Version.TheVariants.{First, Second, Third}
use Rattle.gn_numbers.specs.Versions.{later_text, version_for}
use Rattle.gn_rules.specs.declared.config.Config.{Config}
use Rattle.gn_rules.specs.declared.config.Own.{Own}
use Rattle.gn_rules.specs.declared.event.Event.TheVariants as event
use Rattle.gn_rules.specs.declared.event.Event.{Event as Happening}
use Rattle.gn_rules.specs.declared.limits.Numbers.{Numbers}
use Rattle.gn_rules.specs.declared.receipt.Step.{Step}
use Rattle.gn_rules.specs.declared.reply.DropReason.{DropReason}
use Rattle.gn_rules.specs.declared.reply.DropReason.TheVariants.{UnknownKind}
use Rattle.gn_rules.specs.declared.reply.Reply.{Reply}
use Rattle.gn_rules.specs.declared.reply.Reply.TheVariants as reply
use Rattle.gn_rules.specs.declared.sends.Sending.{Sending}
use Rattle.gn_rules.specs.declared.statistics.Counter.{Counter}
use Rattle.gn_rules.specs.declared.statistics.Counter.TheVariants.{Connected}
use Rattle.gn_rules.specs.Statistics.{counter_of, counter_place, counters, drop_counter, is_same_counter, raised, stats_of}
use Rattle.gn_rules.proofs.CounterLemmas.{stats_more}
use Rattle.gn_numbers.specs.Names.{place_name, reason_name}
use Rattle.gn_text.specs.Addresses.{ip_text}
use Rattle.gn_text.specs.Header.{header_text, title_text}
use Rattle.gn_text.specs.Settings.{config_line, config_text, field_text, own_line, own_text, settings_text, six_text}
use Rattle.gn_text.specs.Steps.{event_text, mark_text, packet_text, reply_text, sending_text, sends_text, step_text}
use Rattle.gn_numbers.specs.declared.titles.Text.TheVariants.{History}
use Rattle.gn_metrics.specs.Counting.{Standing, after_bytes, at_first, listed}
use Rattle.gn_metrics.specs.Sums.{counted}
use Rattle.gn_metrics.specs.declared.tally.Place.{Place}
use Rattle.gn_metrics.specs.declared.tally.Place.TheVariants.{Start, Event, Word, Rest}
use Rattle.gn_metrics.proofs.TallyLemmas.{after_both}

-- a byte that neither ends a line, nor begins a comment, nor parts an event from its reply
abbrev is_quiet : ℕ → Bool
is_quiet b = not (b == 10) && (not (b == 35) && not (b == 61))

-- a text of such bytes
abbrev IsQuiet : List ℕ → Type 0
IsQuiet bytes = list_all is_quiet bytes ≡ true

-- a place with no word, and these counts
abbrev stands : Place → List ℕ → Standing
stands place counts = record { place = place; word = []; counts = counts }

both : (x y : Bool) → x ≡ true → y ≡ true → (x && y) ≡ true
both x y e f = rw (e, f) refl

joined : (xs ys : List ℕ) → IsQuiet xs → IsQuiet ys → IsQuiet (xs ++ ys)
joined xs ys h k = list_all-append is_quiet xs ys ∙ both (list_all is_quiet xs) (list_all is_quiet ys) h k

pick : (x : Bool) (xs ys : List ℕ) → IsQuiet xs → IsQuiet ys → IsQuiet (if x then xs else ys)
pick true xs ys h k = h
pick false xs ys h k = k

-- digits are quiet
glyph_quiet : (d : ℕ) → d < 10 → is_quiet (digit_glyph false d) ≡ true
glyph_quiet d small = grind (arith, nat_tests)

digits_quiet : (k n : ℕ) (acc : List ℕ) → IsQuiet acc → IsQuiet (digits_onto k 10 false n acc)
digits_quiet zero n acc h = h
digits_quiet (suc k) n acc h =
    let glyph = digit_glyph false (n % 10) in
    let more : IsQuiet (glyph ∷ acc) = both (is_quiet glyph) (list_all is_quiet acc) (glyph_quiet (n % 10) (omega arith)) h in
    pick (n / 10 == 0) (glyph ∷ acc) (digits_onto k 10 false (n / 10) (glyph ∷ acc)) more (digits_quiet k (n / 10) (glyph ∷ acc) more)

decimal_quiet : (n : ℕ) → IsQuiet (decimal n)
unfolding digits
decimal_quiet n = digits_quiet 64 n [] refl

item_quiet : (xs : List ℕ) (i : ℕ) → IsQuiet xs → is_quiet (get_or xs i 0) ≡ true
item_quiet [] i h = refl
item_quiet (x ∷ xs) zero h = (and_parts (is_quiet x) (list_all is_quiet xs) h).0
item_quiet (x ∷ xs) (suc i) h = item_quiet xs i (and_parts (is_quiet x) (list_all is_quiet xs) h).1

hex_quiet : (bytes : List ℕ) → IsQuiet (encode_lower bytes)
unfolding encode_with
hex_quiet [] = refl
hex_quiet (b ∷ bytes) =
    both (is_quiet (get_or lower_digits (b / 16) 0)) _ (item_quiet lower_digits (b / 16) refl)
    (both (is_quiet (get_or lower_digits (b % 16) 0)) _ (item_quiet lower_digits (b % 16) refl) (hex_quiet bytes))

-- bytes that are quiet change nothing before `=`, nor in what is left of a line
start_quiet : (x y z : Bool) → (not x && (not y && not z)) ≡ true → (if x then Start else (if y then Rest else (if z then Word else Event))) ≡ Event
start_quiet true y z h = cc
start_quiet false true z h = cc
start_quiet false false true h = cc
start_quiet false false false h = refl

event_quiet : (x y z : Bool) → (not x && (not y && not z)) ≡ true → (if z then Word else (if x then Start else Event)) ≡ Event
event_quiet true y z h = cc
event_quiet false true z h = cc
event_quiet false false true h = cc
event_quiet false false false h = refl

rest_quiet : (x y z : Bool) → (not x && (not y && not z)) ≡ true → (if x then Start else Rest) ≡ Rest
rest_quiet true y z h = cc
rest_quiet false y z h = refl

event_on : (c bytes : List ℕ) → IsQuiet bytes → after_bytes (stands Event c) bytes ≡ stands Event c
event_on c [] h = refl
event_on c (b ∷ bytes) h =
    let parts = and_parts (is_quiet b) (list_all is_quiet bytes) h in
    ap (λ (p : Place). after_bytes (stands p c) bytes) (event_quiet (b == 10) (b == 35) (b == 61) parts.0) ∙ event_on c bytes parts.1

rest_on : (c bytes : List ℕ) → IsQuiet bytes → after_bytes (stands Rest c) bytes ≡ stands Rest c
rest_on c [] h = refl
rest_on c (b ∷ bytes) h =
    let parts = and_parts (is_quiet b) (list_all is_quiet bytes) h in
    ap (λ (p : Place). after_bytes (stands p c) bytes) (rest_quiet (b == 10) (b == 35) (b == 61) parts.0) ∙ rest_on c bytes parts.1

-- what begins a line is read on
begun : (c first more : List ℕ) → after_bytes (stands Start c) first ≡ stands Event c → IsQuiet more → after_bytes (stands Start c) (first ++ more) ≡ stands Event c
begun c first more is quiet = after_both (stands Start c) first more ∙ ap (λ (s : Standing). after_bytes s more) is ∙ event_on c more quiet

-- a line without a mark counts nothing
unmarked : (c line : List ℕ) → after_bytes (stands Start c) line ≡ stands Event c → after_bytes (stands Start c) (line ++ codes "\n") ≡ stands Start c
unmarked c line is = after_both (stands Start c) line (codes "\n") ∙ ap (λ (s : Standing). after_bytes s (codes "\n")) is

-- decimals and a space begin a line
numbered : (c ds : List ℕ) → IsQuiet ds → after_bytes (stands Start c) (ds ++ codes " ") ≡ stands Event c
numbered c [] h = refl
numbered c (d ∷ ds) h =
    let parts = and_parts (is_quiet d) (list_all is_quiet ds) h in
    ap (λ (p : Place). after_bytes (stands p c) (ds ++ codes " ")) (start_quiet (d == 10) (d == 35) (d == 61) parts.0)
    ∙ event_on c (ds ++ codes " ") (joined ds (codes " ") parts.1 refl)

-- a word behind `=` that is counted, and the rest of its line
counts_word : (c d first more : List ℕ) → after_bytes (stands Word c) first ≡ stands Rest d → IsQuiet more
    → after_bytes (stands Word c) ((first ++ more) ++ codes "\n") ≡ stands Start d
counts_word c d first more is quiet =
    after_both (stands Word c) (first ++ more) (codes "\n")
    ∙ ap (λ (s : Standing). after_bytes s (codes "\n"))
    (after_both (stands Word c) first more ∙ ap (λ (s : Standing). after_bytes s more) is ∙ rest_on d more quiet)

mark_quiet : (queued : Bool) → IsQuiet (mark_text queued)
mark_quiet true = refl
mark_quiet false = refl

place_quiet : (local : Bool) → IsQuiet (place_name local)
place_quiet true = refl
place_quiet false = refl

sending_quiet : {A : Type 0} (x : Sending A) → IsQuiet (sending_text x)
sending_quiet x =
    let to = decimal x.to in
    joined ((codes " " ++ to) ++ mark_text x.queued) (packet_text x.packet)
    (joined (codes " " ++ to) (mark_text x.queued) (joined (codes " ") to refl (decimal_quiet x.to)) (mark_quiet x.queued)) (hex_quiet (bytes_of x.packet))

sends_quiet : {A : Type 0} (sends : List (Sending A)) → IsQuiet (sends_text sends)
sends_quiet [] = refl
sends_quiet (x ∷ sends) = joined (sending_text x) (sends_text sends) (sending_quiet x) (sends_quiet sends)

event_text_quiet : {A : Type 0} (e : Happening A) → IsQuiet (event_text e)
event_text_quiet event.Connect = refl
event_text_quiet (event.Close c) = joined (codes "close ") (decimal c) refl (decimal_quiet c)
event_text_quiet (event.Admit c d) =
    joined ((codes "admit " ++ decimal c) ++ codes " ") (packet_text d)
    (joined (codes "admit " ++ decimal c) (codes " ") (joined (codes "admit ") (decimal c) refl (decimal_quiet c)) refl) (hex_quiet (bytes_of d))
event_text_quiet (event.Route t) = joined (codes "route ") (decimal t) refl (decimal_quiet t)
event_text_quiet (event.Take c) = joined (codes "take ") (decimal c) refl (decimal_quiet c)
event_text_quiet (event.Originate d) = joined (codes "originate ") (packet_text d) refl (hex_quiet (bytes_of d))

dropped_read : (c : List ℕ) (why : DropReason) → after_bytes (stands Word c) (codes "dropped " ++ reason_name why ++ codes "\n")
    ≡ stands Start (counted (counter_place (drop_counter why)) c)
dropped_read c UnknownKind = refl
dropped_read c why = refl

sent_read : {A : Type 0} (c : List ℕ) (sends : List (Sending A)) → after_bytes (stands Word c) (codes "sent" ++ sends_text sends ++ codes "\n")
    ≡ stands Start (counted 15 c)
sent_read c [] = refl
sent_read c (x ∷ sends) =
    let more = ((decimal x.to ++ mark_text x.queued) ++ packet_text x.packet) ++ sends_text sends in
    counts_word c (counted 15 c) (codes "sent ") more refl
    (joined ((decimal x.to ++ mark_text x.queued) ++ packet_text x.packet) (sends_text sends)
    (joined (decimal x.to ++ mark_text x.queued) (packet_text x.packet)
    (joined (decimal x.to) (mark_text x.queued) (decimal_quiet x.to) (mark_quiet x.queued)) (hex_quiet (bytes_of x.packet))) (sends_quiet sends))

-- a reply is counted under its name
reply_read : {A : Type 0} (c : List ℕ) (reply : Reply A) → after_bytes (stands Word c) (reply_text reply ++ codes "\n")
    ≡ stands Start (counted (counter_place (counter_of reply)) c)
reply_read c (reply.Connected n) = counts_word c (counted 0 c) (codes "connected ") (decimal n) refl (decimal_quiet n)
reply_read c (reply.Closed n) = counts_word c (counted 2 c) (codes "closed ") (decimal n) refl (decimal_quiet n)
reply_read c (reply.Admitted n) = counts_word c (counted 3 c) (codes "admitted ") (decimal n) refl (decimal_quiet n)
reply_read c (reply.Routed sends local) =
    counts_word c (counted 6 c) (codes "routed ") (place_name local ++ sends_text sends) refl
    (joined (place_name local) (sends_text sends) (place_quiet local) (sends_quiet sends))
reply_read c (reply.Dropped why) = dropped_read c why
reply_read c (reply.Taken packet) = counts_word c (counted 14 c) (codes "taken ") (packet_text packet) refl (hex_quiet (bytes_of packet))
reply_read c (reply.Sent sends) = sent_read c sends
reply_read c r = refl

-- a step is counted under its reply
step_read : {A : Type 0} (c : List ℕ) (step : Step A) → after_bytes (stands Start c) (step_text step)
    ≡ stands Start (counted (counter_place (counter_of step.reply)) c)
step_read c step =
    let happened = (decimal step.actor ++ codes " ") ++ event_text step.event in
    let answered = reply_text step.reply in
    let begins : after_bytes (stands Start c) happened ≡ stands Event c =
    begun c (decimal step.actor ++ codes " ") (event_text step.event) (numbered c (decimal step.actor) (decimal_quiet step.actor))
    (event_text_quiet step.event) in
    ap (λ (text : List ℕ). after_bytes (stands Start c) text)
    (append_assoc (happened ++ codes " = ") answered (codes "\n") ∙ append_assoc happened (codes " = ") (answered ++ codes "\n"))
    ∙ after_both (stands Start c) happened (codes " = " ++ (answered ++ codes "\n"))
    ∙ ap (λ (s : Standing). after_bytes s (codes " = " ++ (answered ++ codes "\n"))) begins ∙ reply_read c step.reply

-- one more of a count that stays at the last u32
capped : (n : ℕ) → min (min n (2 ^ 32 - 1) + 1) (2 ^ 32 - 1) ≡ min (n + 1) (2 ^ 32 - 1)
capped n = omega arith

-- one more at a counter's place is one more of it, case by case
counter_more : (k : Counter) (f : Counter → ℕ)
    → counted (counter_place k) (listed (record { counts = map f counters })) ≡ listed (raised k (record { counts = map f counters }))
counter_more Connected f = rw (capped (f Connected)) refl
counter_more k f = rw (capped (f k)) refl

-- one step more is one more of its counter
step_more : {A : Type 0} (step : Step A) (earlier : List (Step A))
    → counted (counter_place (counter_of step.reply)) (listed (stats_of earlier)) ≡ listed (stats_of (step ∷ earlier))
step_more {A} step earlier =
    let has : Counter → Step A → Bool = λ k past. is_same_counter (counter_of past.reply) k in
    counter_more (counter_of step.reply) (λ k. count_by (has k) earlier) ∙ ap listed (sym (stats_more step earlier))

-- steps are counted behind those that were
steps_read : {A : Type 0} (earlier steps : List (Step A)) → after_bytes (stands Start (listed (stats_of earlier))) (flat_map step_text steps)
    ≡ stands Start (listed (stats_of (reverse_aux steps earlier)))
steps_read earlier [] = refl
steps_read earlier (step ∷ steps) =
    let now = stands Start (listed (stats_of earlier)) in
    after_both now (step_text step) (flat_map step_text steps)
    ∙ ap (λ (s : Standing). after_bytes s (flat_map step_text steps))
    (step_read (listed (stats_of earlier)) step ∙ ap (λ (c : List ℕ). stands Start c) (step_more step earlier))
    ∙ steps_read (step ∷ earlier) steps

-- the lines of a header count nothing
title_read : (c : List ℕ) (version : Version) → after_bytes (stands Start c) (title_text History version) ≡ stands Start c
title_read c First = refl
title_read c Second = refl
title_read c Third = refl

field_quiet : (n : ℕ) → IsQuiet (field_text n)
field_quiet n = joined (codes " ") (decimal n) refl (decimal_quiet n)

later_quiet : (version : Version) (n : Numbers) → IsQuiet (later_text version n)
later_quiet First n = refl
later_quiet Second n = field_quiet n.life
later_quiet Third n =
    joined ((codes " " ++ decimal n.life) ++ codes " ") (decimal n.crowd)
    (joined (codes " " ++ decimal n.life) (codes " ") (field_quiet n.life) refl) (decimal_quiet n.crowd)

config_read : (c : List ℕ) (s : Config) → after_bytes (stands Start c) (config_text s) ≡ stands Start c
config_read c s =
    let n = s.numbers in
    let one = codes "config" ++ field_text n.neighbours in
    let two = one ++ field_text n.seen in
    let three = two ++ field_text n.servents in
    let four = three ++ field_text n.stage in
    let five = four ++ field_text n.out in
    unmarked c (config_line s)
    (begun c (six_text n) (later_text (version_for n) n)
    (begun c five (field_text n.steps)
    (begun c four (field_text n.out)
    (begun c three (field_text n.stage)
    (begun c two (field_text n.servents)
    (begun c one (field_text n.seen) (begun c (codes "config") (field_text n.neighbours) refl (field_quiet n.neighbours)) (field_quiet n.seen))
    (field_quiet n.servents)) (field_quiet n.stage)) (field_quiet n.out)) (field_quiet n.steps)) (later_quiet (version_for n) n))

dotted : (first : List ℕ) (n : ℕ) → IsQuiet first → IsQuiet ((first ++ codes ".") ++ decimal n)
dotted first n h = joined (first ++ codes ".") (decimal n) (joined first (codes ".") h refl) (decimal_quiet n)

ip_quiet : (ip : List ℕ) → IsQuiet (ip_text ip)
ip_quiet ip =
    let one = decimal (get_or ip 0 0) in
    let two = (one ++ codes ".") ++ decimal (get_or ip 1 0) in
    let three = (two ++ codes ".") ++ decimal (get_or ip 2 0) in
    dotted three (get_or ip 3 0) (dotted two (get_or ip 2 0) (dotted one (get_or ip 1 0) (decimal_quiet (get_or ip 0 0))))

own_read : (c : List ℕ) (own : Own) → after_bytes (stands Start c) (own_text own) ≡ stands Start c
own_read c own =
    let one = codes "own " ++ encode_lower own.servent.0 in
    let two = one ++ codes " " in
    let three = two ++ ip_text own.ip in
    let four = three ++ field_text own.port in
    let five = four ++ field_text own.files in
    unmarked c (own_line own)
    (begun c five (field_text own.kbytes)
    (begun c four (field_text own.files)
    (begun c three (field_text own.port)
    (begun c two (ip_text own.ip)
    (begun c one (codes " ") (begun c (codes "own ") (encode_lower own.servent.0) refl (hex_quiet own.servent.0)) refl)
    (ip_quiet own.ip)) (field_quiet own.port)) (field_quiet own.files)) (field_quiet own.kbytes))

header_read : (c : List ℕ) (s : Config) → after_bytes (stands Start c) (header_text History s) ≡ stands Start c
header_read c s =
    let title = title_text History (version_for s.numbers) in
    after_both (stands Start c) title (settings_text s) ∙ ap (λ (t : Standing). after_bytes t (settings_text s)) (title_read c (version_for s.numbers))
    ∙ after_both (stands Start c) (config_text s) (own_text s.own) ∙ ap (λ (t : Standing). after_bytes t (own_text s.own)) (config_read c s)
    ∙ own_read c s.own

-- the counts of the text of a history are those of its steps
pub history_read : {A : Type 0} (s : Config) (steps : List (Step A)) → after_bytes at_first (header_text History s ++ flat_map step_text steps)
    ≡ stands Start (listed (stats_of (reverse_aux steps [])))
history_read s steps =
    let none = listed (stats_of {A = ℕ} []) in
    after_both (stands Start none) (header_text History s) (flat_map step_text steps)
    ∙ ap (λ (t : Standing). after_bytes t (flat_map step_text steps)) (header_read none s) ∙ steps_read [] steps
