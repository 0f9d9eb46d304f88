-- A capture makes at most 256 links.
use Rattle.std.proofs.Common.{◌≡◌, ℕ, zero, suc, ◌+◌, ◌≤◌, ◌==◌, ◌&&◌, Bool, true, false, if◌then◌else◌, List, [], ◌∷◌, length, refl, subst, arith, Result, Ok, Err, IfOk, nat_le, length-append}
use Rattle.std.proofs.lemmas.List.{length-set}
use Rattle.gn_links.specs.Memory.{Memory}
use Rattle.gn_text.specs.Bytes.{bytes_parsed}
use Rattle.gn_text.specs.Lines.{fields_of}
use Rattle.gn_numbers.specs.Names.{line_word_named}
use Rattle.gn_numbers.specs.Numbers.{number_of}
use Rattle.gn_numbers.specs.declared.causes.Cause.{Cause}
use Rattle.gn_numbers.specs.declared.causes.Cause.TheVariants as cause
use Rattle.gn_numbers.specs.declared.words.LineWord.{LineWord}
use Rattle.gn_numbers.specs.declared.words.LineWord.TheVariants as word
use Rattle.gn_text.specs.declared.fault.CaptureFault.{CaptureFault}
use Rattle.gn_text.specs.Faults.{◌>>=◌}
use Rattle.gn_text.specs.Parsed.{parsed_of}
use Rattle.gn_capture.specs.declared.capture.Capture.{Capture}
use Rattle.gn_capture.specs.declared.line.Line.{Line}
use Rattle.gn_capture.specs.declared.line.Line.TheVariants.{Join, Greeted, Piece, Route, RouteAll, Take, Close, Originate, Stats}
use Rattle.gn_capture.specs.CaptureLines.{alone_of, data_of, fields_say, is_route_all, known, line_in, line_of, link_of, links_after, number_alone}
use Rattle.gn_capture.specs.Captures.{Parsed, capture_header, capture_of, capture_seen, has_all, lines_from}
use Rattle.gn_capture.specs.Outcomes.{numbered, parsed}
use Rattle.gn_capture.specs.Requests.{ping_of, query_of}
use Rattle.gn_load.specs.Links.{given, line_taken, links_from}

-- what holds after the next step, where it holds whatever came before it
joined : {X Y E : Type 0} (first : Result X E) (next : X → Result Y E) (P : Y → Type 0) → ((x : X) → IfOk (next x) P) → IfOk (first >>= next) P
joined (Ok x) next P h = h x
joined (Err e) next P h = _

-- the same, of what holds of what came before it
pub joined_with : {X Y E : Type 0} (first : Result X E) (next : X → Result Y E) (Q : X → Type 0) (P : Y → Type 0)
    → IfOk first Q → ((x : X) → Q x → IfOk (next x) P) → IfOk (first >>= next) P
joined_with (Ok x) next Q P q h = h x q
joined_with (Err e) next Q P q h = _

-- a line after which there are at most 256 links
abbrev LeavesFew : {A : Type 0} → ℕ → Line A → Type 0
LeavesFew links line = links_after links line ≤ 256

room : {A : Type 0} (line : Line A) (links : ℕ) → links_after links line ≡ links + 1 → links ≤ 256 → (full : Bool) → (links == 256) ≡ full
    → IfOk (let made : Result (Line A) Cause = if full then Err cause.Link else Ok line in made) (λ l. LeavesFew links l)
room line links after few true is = _
room line links after few false is = let less : links + 1 ≤ 256 = grind arith in rw after less

-- a line that makes a link
made_few : {A : Type 0} (line : Line A) (links : ℕ) (fields : List (List ℕ)) → links_after links line ≡ links + 1 → links ≤ 256
    → IfOk (link_of line links fields) (λ l. LeavesFew links l)
made_few line links [] after few = room line links after few (links == 256) refl
made_few line links (field ∷ more) after few = _

given_few : (A : Type 0) (links i : ℕ) (bytes : List ℕ) → links ≤ 256 → (there : Bool)
    → IfOk (let piece : Result (Line A) Cause = if there then Ok (Piece i bytes) else Err cause.Link in piece) (λ l. LeavesFew links l)
given_few A links i bytes few true = few
given_few A links i bytes few false = _

-- a line with a piece
piece_few : (A : Type 0) (links : ℕ) (fields : List (List ℕ)) → links ≤ 256 → IfOk (data_of {A = A} links fields) (λ l. LeavesFew links l)
piece_few A links [] few = _
piece_few A links (link ∷ []) few = _
piece_few A links (link ∷ hex ∷ []) few =
    joined (parsed (number_of link)) _ _ (λ i. joined (parsed (bytes_parsed hex)) _ _ (λ bytes. given_few A links i bytes few (nat_le 1 i && nat_le i links)))
piece_few A links (link ∷ hex ∷ field ∷ more) few = _

alone_few : (A : Type 0) (links : ℕ) (fields : List (List ℕ)) → links ≤ 256 → IfOk (alone_of {X = Line A} Stats fields) (λ l. LeavesFew links l)
alone_few A links [] few = few
alone_few A links (field ∷ more) few = _

-- what holds of either choice
either : (b : Bool) {X : Type 0} (P : X → Type 0) (x y : X) → P x → P y → P (if b then x else y)
either true P x y p q = p
either false P x y p q = q

-- what the fields behind each word say
said_few : (A : Type 0) (links : ℕ) (fields : List (List ℕ)) → links ≤ 256 → (said : LineWord) → IfOk (fields_say {A = A} links fields said) (λ l. LeavesFew links l)
said_few A links fields few word.Join = made_few Join links fields refl few
said_few A links fields few word.Open = made_few Greeted links fields refl few
said_few A links fields few word.Data = piece_few A links fields few
said_few A links fields few word.Route = joined (number_alone fields) _ (λ (l : Line A). LeavesFew links l) (λ x. few)
said_few A links fields few word.Take = joined (number_alone fields) _ (λ (l : Line A). LeavesFew links l) (λ x. few)
said_few A links fields few word.Close = joined (number_alone fields) _ (λ (l : Line A). LeavesFew links l) (λ x. few)
said_few A links fields few word.Ping = joined (ping_of fields) _ (λ (l : Line A). LeavesFew links l) (λ x. few)
said_few A links fields few word.Query = joined (query_of fields) _ (λ (l : Line A). LeavesFew links l) (λ x. few)
said_few A links fields few word.Stats = alone_few A links fields few

-- each line
line_few : (A : Type 0) (links : ℕ) (fields : List (List ℕ)) → links ≤ 256 → IfOk (line_of {A = A} links fields) (λ l. LeavesFew links l)
line_few A links [] few = _
line_few A links (first ∷ fields) few =
    joined (known (line_word_named first)) (fields_say {A = A} links fields) (λ (l : Line A). LeavesFew links l) (said_few A links fields few)

-- and in a version with `route all` or without it
in_few : (A : Type 0) (all : Bool) (links : ℕ) (fields : List (List ℕ)) → links ≤ 256 → IfOk (line_in {A = A} all links fields) (λ l. LeavesFew links l)
in_few A all links fields few =
    either (all && is_route_all fields) (λ (line : Result (Line A) Cause). IfOk line (λ l. LeavesFew links l)) (Ok RouteAll) (line_of links fields) few (line_few A links fields few)

numbered_few : {A : Type 0} (links n : ℕ) (line : Result (Line A) Cause) → IfOk line (λ l. LeavesFew links l) → IfOk (numbered n line) (λ l. LeavesFew links l)
numbered_few links n (Ok line) few = few
numbered_few links n (Err cause) few = _

given_length : (links : List Memory) (i : ℕ) (bytes : List ℕ) → length (given links i bytes) ≡ length links
given_length links zero bytes = refl
given_length links (suc at) bytes = length-set links at _

-- a line that is taken makes as many links as it says
taken_length : {A : Type 0} (links : List Memory) (n : ℕ) (line : Line A) → IfOk (line_taken links (n, line)) (λ after. length after ≡ links_after (length links) line)
taken_length links n Join = length-append links _
taken_length links n Greeted = length-append links _
taken_length links n (Piece i bytes) = given_length links i bytes
taken_length links n (Route t) = _
taken_length links n RouteAll = _
taken_length links n (Take c) = _
taken_length links n (Close c) = _
taken_length links n (Originate d) = _
taken_length links n Stats = _

-- at most 256 links are made
abbrev HasFew : Result (List Memory) CaptureFault → Type 0
HasFew made = IfOk made (λ links. length links ≤ 256)

-- the links before a line, and what the lines after it make of those after it
step_few : {A : Type 0} (all : Bool) (links n : ℕ) (line : Line A) (more : List (ℕ × List ℕ)) (after : Result (List Memory) CaptureFault)
    → IfOk after (λ made. length made ≡ links_after links line) → LeavesFew links line
    → ((made : List Memory) → length made ≤ 256 → IfOk (lines_from {A = A} all (length made) more) (λ lines. HasFew (links_from made lines)))
    → IfOk (lines_from {A = A} all (links_after links line) more) (λ lines. HasFew (after >>= λ made. links_from made lines))
step_few {A} all links n line more (Ok made) is few later =
    let P : ℕ → Type 0 = λ count. IfOk (lines_from {A = A} all count more) (λ lines. HasFew (links_from made lines)) in
    subst P is (later made (rw is few))
step_few {A} all links n line more (Err fault) is few later =
    elim (lines_from {A = A} all (links_after links line) more) as (λ read. IfOk read (λ lines. Unit {0})) [ Ok lines ↦ tt | Err e ↦ tt ]

-- lines after so many links
lines_few : (A : Type 0) (all : Bool) (texts : List (ℕ × List ℕ)) (links : List Memory) → length links ≤ 256
    → IfOk (lines_from {A = A} all (length links) texts) (λ lines. HasFew (links_from links lines))
lines_few A all [] links few = few
lines_few A all ((n, text) ∷ more) links few =
    joined_with (numbered n (line_in {A = A} all (length links) (fields_of text))) _ (λ line. LeavesFew (length links) line) _
    (numbered_few (length links) n (line_in all (length links) (fields_of text)) (in_few A all (length links) (fields_of text) few))
    (λ line leaves. joined_with (lines_from all (links_after (length links) line) more) _ (λ lines. HasFew (line_taken links (n, line) >>= λ made. links_from made lines)) _
    (step_few all (length links) n line more (line_taken links (n, line)) (taken_length links n line) leaves (λ made h. lines_few A all more made h))
    (λ lines h. h))

capture_few : (A : Type 0) (text : List ℕ) → IfOk (capture_of {A = A} text) (λ read. HasFew (links_from [] read.lines))
capture_few A text =
    joined (capture_header text) _ _
    (λ header. joined_with (lines_from {A = A} (has_all (parsed_of text)) 0 header.1) _ (λ lines. HasFew (links_from [] lines)) _ (lines_few A (has_all (parsed_of text)) header.1 [] (omega arith)) (λ lines h. h))

-- a capture that was read makes at most 256 links
pub few_links : {A : Type 0} (text : List ℕ) (capture : Capture A) (links : List Memory) → capture_of text ≡ Ok (capture_seen capture)
    → links_from [] capture.lines.items ≡ Ok links → length links ≤ 256
few_links {A} text capture links read made =
    let P : Result (Parsed A) CaptureFault → Type 0 = λ r. IfOk r (λ p. HasFew (links_from [] p.lines)) in
    subst HasFew made (subst P read (capture_few A text))
