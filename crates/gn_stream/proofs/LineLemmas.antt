-- The lines of a text that is read a piece at a time.
use Rattle.std.proofs.Common.{◌≡◌, ◌⊎◌, inl, inr, ◌+◌, ◌<◌, ◌≤◌, ◌==◌, ◌^◌, ◌∙◌, ℕ, Bool, true, false, List, [], ◌∷◌, ◌++◌, length, Option, Some, None, zero, suc, true≢false, refl, sym, ap, subst, arith, append_assoc, append-nil, length-append}
use Rattle.std.specs.Prelude.{◌≢◌, All, Result, Ok, Err}
use Rattle.std.proofs.KnownBytes.{Consumes-nil}
use Rattle.std.proofs.lemmas.Bool.Decides.{nat_tests}
use Rattle.std.proofs.lemmas.Grind.{common_steps}
use Rattle.std.proofs.lemmas.List.Elements.{All-append}
use Rattle.std.specs.Result.{IsErrAnd}
use Rattle.std.proofs.lemmas.Bool.{eq-eqb}
use Rattle.gn_io.specs.Counts.{Rises}
use Rattle.gn_io.specs.Streams.{SourceState}
use Rattle.gn_io.specs.declared.input.InputFault.{InputFault}
use Rattle.gn_io.specs.declared.input.InputFault.TheVariants.{Read, TooLarge, NoMemory}
use Rattle.gn_text.specs.Lines.{lines_of}
use Rattle.gn_text.proofs.PartLemmas.{line_alone, lines_cut}
use Rattle.std.specs.List.{slice_split}
use Rattle.std.proofs.lemmas.Bool.{ne_eqb}
use Rattle.std.proofs.lemmas.List.Splits.{length-slice_split, slice_split_at, slice_split_none}
use Rattle.gn_text.specs.Lines.{is_word}
use Rattle.gn_capture.specs.Histories.{ending}
use Rattle.gn_stream.specs.declared.ending.Ending.{Ending}
use Rattle.gn_stream.specs.declared.ending.Ending.TheVariants.{Own, Due, Stands, Added}
use Rattle.gn_stream.specs.Left.{IsCutOf, IsFirst, IsTooLong, Left, line_limit}
use Rattle.gn_stream.specs.Lines.{AreNone, IsCounted, IsKept, IsLastFault, IsLastOf, IsLineRead, IsOver, TakesOn}
use Rattle.gn_stream.specs.Unfinished.{but_last, cut_line, ending_after, finished, is_lacking, lacks_end, last_part, left_out, lines_read, whole_lines}
use Rattle.gn_stream.specs.Reading.{HasEnded, IsPieceFault, IsReadingFault, MayCome, Passes, Place, Reading, left_of}
use Rattle.gn_stream.proofs.PassLemmas.{ended_then, given_then}

-- no line feed is among these
abbrev pub IsFree : List ℕ → Type 0
IsFree bytes = All (λ b. b ≢ 10) bytes

-- a line that ends, and what follows
pub line_ends : (line rest : List ℕ) → IsFree line → lines_of (line ++ 10 ∷ rest) ≡ line ∷ lines_of rest
line_ends line rest free =
    let some : (length (line ++ 10 ∷ rest) == 0) ≡ false = grind (arith, nat_tests, length-append line (10 ∷ rest)) in
    lines_cut (line ++ 10 ∷ rest) line rest some refl free

-- the last line, which no line feed ends
pub line_lasts : (line : List ℕ) → IsFree line → 0 < length line → lines_of line ≡ line ∷ []
line_lasts line free some =
    let filled : (length line == 0) ≡ false = grind (arith, nat_tests) in
    line_alone line line filled refl free

one_free : (b : ℕ) → (b == 10) ≡ false → IsFree (b ∷ [])
one_free b is zero d within at = true≢false (sym (eq-eqb b 10 at) ∙ is)
one_free b is (suc k) d within at = absurd (omega (arith, within))

-- the parts of a text that a line begins are that line and the others
split_ends : (line rest : List ℕ) → IsFree line → slice_split (λ b. b == 10) (line ++ 10 ∷ rest) ≡ line ∷ slice_split (λ b. b == 10) rest
split_ends line rest free = slice_split_at (λ b. b == 10) line 10 rest (λ k d within. ne_eqb _ 10 (free k d within)) refl

split_lasts : (line : List ℕ) → IsFree line → slice_split (λ b. b == 10) line ≡ line ∷ []
split_lasts line free = slice_split_none (λ b. b == 10) line (λ k d within. ne_eqb _ 10 (free k d within))

-- some part is the last
but_last_more : (part : List ℕ) (parts : List (List ℕ)) (n : ℕ) → length parts ≡ n + 1 → (but_last (part ∷ parts) ≡ part ∷ but_last parts) × (last_part (part ∷ parts) ≡ last_part parts)
but_last_more part [] n some = absurd (omega (arith, some))
but_last_more part (next ∷ more) n some = (refl, refl)

parts_more : (line rest : List ℕ) → IsFree line → (whole_lines (line ++ 10 ∷ rest) ≡ line ∷ whole_lines rest) × (cut_line (line ++ 10 ∷ rest) ≡ cut_line rest)
parts_more line rest free =
    let more = but_last_more line (slice_split (λ b. b == 10) rest) _ (length-slice_split (λ b. b == 10) rest) in
    (ap but_last (split_ends line rest free) ∙ more.0, ap last_part (split_ends line rest free) ∙ more.1)

parts_last : (line : List ℕ) → IsFree line → (whole_lines line ≡ []) × (cut_line line ≡ line)
parts_last line free = (ap but_last (split_lasts line free), ap last_part (split_lasts line free))

-- the lines that are read where a line feed ends the first
finished_more : (line : List ℕ) (rest : List ℕ) → finished (line ∷ whole_lines rest) ≡ line ∷ lines_read (ending_after Due line) rest
finished_more line rest = by (is_word line ending) refl
  where
    by : (t : Bool) → is_word line ending ≡ t → finished (line ∷ whole_lines rest) ≡ line ∷ lines_read (ending_after Due line) rest
    by true word = rw word refl
    by false word = rw word refl

pub read_ends : (ends : Ending) (line rest : List ℕ) → IsFree line
    → (lines_read ends (line ++ 10 ∷ rest) ≡ line ∷ lines_read (ending_after ends line) rest) × (left_out ends (line ++ 10 ∷ rest) ≡ left_out (ending_after ends line) rest)
    × (is_lacking ends (line ++ 10 ∷ rest) ≡ is_lacking (ending_after ends line) rest)
read_ends Own line rest free = (line_ends line rest free, refl, refl)
read_ends Due line rest free =
    let more = parts_more line rest free in
    let then = by (is_word line ending) refl in
    (ap finished more.0 ∙ finished_more line rest, more.1 ∙ then.0, ap lacks_end more.0 ∙ then.1)
  where
    by : (t : Bool) → is_word line ending ≡ t
        → (cut_line rest ≡ left_out (ending_after Due line) rest) × (lacks_end (line ∷ whole_lines rest) ≡ is_lacking (ending_after Due line) rest)
    by true word = (rw word refl, rw word refl)
    by false word = (rw word refl, rw word refl)
read_ends Stands line rest free = let more = parts_more line rest free in (more.0, more.1, refl)
read_ends Added line rest free = let more = parts_more line rest free in (more.0, more.1, refl)

-- the first line of a text is too long
abbrev pub IsLong : List ℕ → Type 0
IsLong text = (first : List ℕ) × (more : List (List ℕ)) × (lines_of text ≡ first ∷ more) × (line_limit < length first)

-- the first line of a text that begins with so many bytes and no line feed is as long at least
pub long_first : (line rest : List ℕ) → IsFree line → line_limit < length line → IsLong (line ++ rest)
long_first line [] free over =
    (line, [], ap lines_of (append-nil line) ∙ line_lasts line free (omega (arith, over)), over)
long_first line (b ∷ rest) free over = by (b == 10) refl (long_first (line ++ b ∷ []) rest)
  where
    by : (t : Bool) → (b == 10) ≡ t → (IsFree (line ++ b ∷ []) → line_limit < length (line ++ b ∷ []) → IsLong ((line ++ b ∷ []) ++ rest)) → IsLong (line ++ b ∷ rest)
    by true is later =
        let feed : b ≡ 10 = grind (arith, nat_tests) in
        (line, lines_of rest, ap (λ (c : ℕ). lines_of (line ++ c ∷ rest)) feed ∙ line_ends line rest free, over)
    by false is later =
        let more = later (All-append (λ c. c ≢ 10) line (b ∷ []) free (one_free b is)) (omega (arith, over, length-append line (b ∷ []))) in
        (more.0, more.1, ap lines_of (sym (append_assoc line (b ∷ []) rest)) ∙ more.2, more.3)

-- so is the first whole line of a text, or what stands behind its lines
abbrev pub HasLong : List ℕ → Type 0
HasLong text = ((first : List ℕ) × (more : List (List ℕ)) × (whole_lines text ≡ first ∷ more) × (line_limit < length first)) ⊎ (line_limit < length (cut_line text))

long_part : (line rest : List ℕ) → IsFree line → line_limit < length line → HasLong (line ++ rest)
long_part line [] free over = inr (subst (λ (xs : List ℕ). line_limit < length xs) (sym (ap cut_line (append-nil line) ∙ (parts_last line free).1)) over)
long_part line (b ∷ rest) free over = by (b == 10) refl (long_part (line ++ b ∷ []) rest)
  where
    by : (t : Bool) → (b == 10) ≡ t → (IsFree (line ++ b ∷ []) → line_limit < length (line ++ b ∷ []) → HasLong ((line ++ b ∷ []) ++ rest)) → HasLong (line ++ b ∷ rest)
    by true is later =
        let feed : b ≡ 10 = grind (arith, nat_tests) in
        inl (line, whole_lines rest, ap (λ (c : ℕ). whole_lines (line ++ c ∷ rest)) feed ∙ (parts_more line rest free).0, over)
    by false is later =
        subst HasLong (append_assoc line (b ∷ []) rest)
        (later (All-append (λ c. c ≢ 10) line (b ∷ []) free (one_free b is)) (omega (arith, over, length-append line (b ∷ []))))

over_whole : (text : List ℕ) (n : ℕ) (t : Bool) → HasLong text → IsTooLong (record { lines = whole_lines text; first = n; cut = cut_line text; lacks = t })
over_whole text n t (inl long) = inl ([], long.0, long.1, long.2, long.3)
over_whole text n t (inr long) = inr (inl long)

over_finished : (text : List ℕ) (n : ℕ) (t : Bool) → HasLong text → IsTooLong (record { lines = finished (whole_lines text); first = n; cut = cut_line text; lacks = t })
over_finished text n t (inl long) = inl ([], long.0, _, ap finished long.2, long.3)
over_finished text n t (inr long) = inr (inl long)

-- what is left of a text that begins with a line that is too long is so
over_left : (ends : Ending) (line rest : List ℕ) (n : ℕ) → IsFree line → line_limit < length line
    → IsTooLong (record { lines = lines_read ends (line ++ rest); first = n; cut = left_out ends (line ++ rest); lacks = is_lacking ends (line ++ rest) })
over_left Own line rest n free over = let long = long_first line rest free over in inl ([], long.0, long.1, long.2, long.3)
over_left Due line rest n free over = over_finished (line ++ rest) n (is_lacking Due (line ++ rest)) (long_part line rest free over)
over_left Stands line rest n free over = over_whole (line ++ rest) n false (long_part line rest free over)
over_left Added line rest n free over = over_whole (line ++ rest) n true (long_part line rest free over)

-- nothing was read, and nothing gone over
pub takes_none : (source : SourceState) (old new : Reading) → new.held ≡ old.held → new.is_ended ≡ old.is_ended → new.next ≡ old.next → new.ending ≡ old.ending
    → TakesOn [] (record { source = source; reading = old }) (record { source = source; reading = new })
takes_none source old new held ended next ends = record {
  bytes = [];
  given = record { told = sym (append-nil source.told); rest = Consumes-nil source.rest; unfailed = refl };
  ended = record { none = λ is. (refl, ended ∙ is); end = λ known is. known (sym ended ∙ is) };
  taken = append-nil old.held ∙ sym held;
  next = next;
  ending = ends;
}

-- a part is gone over of what is held
pub takes_part : (source : SourceState) (old new : Reading) (part : List ℕ) → old.held ≡ part ++ new.held → new.is_ended ≡ old.is_ended → new.next ≡ old.next → new.ending ≡ old.ending
    → TakesOn part (record { source = source; reading = old }) (record { source = source; reading = new })
takes_part source old new part held ended next ends = record {
  bytes = [];
  given = record { told = sym (append-nil source.told); rest = Consumes-nil source.rest; unfailed = refl };
  ended = record { none = λ is. (refl, ended ∙ is); end = λ known is. known (sym ended ∙ is) };
  taken = append-nil old.held ∙ held;
  next = next;
  ending = ends;
}

-- one part after another
pub takes_then : (a b c : Place) (one two : List ℕ) → TakesOn one a b → TakesOn two b c → TakesOn (one ++ two) a c
takes_then a b c one two first second = record {
  bytes = first.bytes ++ second.bytes;
  given = given_then a.source b.source c.source first.bytes second.bytes first.given second.given;
  ended = ended_then a b c first.bytes second.bytes first.ended second.ended;
  taken =
      sym (append_assoc a.reading.held first.bytes second.bytes) ∙ ap (λ (xs : List ℕ). xs ++ second.bytes) first.taken
      ∙ append_assoc one b.reading.held second.bytes ∙ ap (λ (xs : List ℕ). one ++ xs) second.taken
      ∙ sym (append_assoc one two c.reading.held);
  next = second.next ∙ first.next;
  ending = second.ending ∙ first.ending;
}

-- the text that was left is what was gone over, and then what is left
text_left : (part : List ℕ) (a b : Place) (takes : TakesOn part a b) (more : List ℕ) → a.reading.held ++ (takes.bytes ++ more) ≡ part ++ (b.reading.held ++ more)
text_left part a b takes more =
    sym (append_assoc a.reading.held takes.bytes more) ∙ ap (λ (xs : List ℕ). xs ++ more) takes.taken ∙ append_assoc part b.reading.held more

text_cut : (a b : Place) (line part rest : List ℕ) (takes : TakesOn line a b) → b.reading.held ≡ part ++ 10 ∷ rest → (more : List ℕ)
    → a.reading.held ++ (takes.bytes ++ more) ≡ (line ++ part) ++ 10 ∷ (rest ++ more)
text_cut a b line part rest takes held more =
    text_left line a b takes more ∙ ap (λ (xs : List ℕ). line ++ (xs ++ more)) held ∙ ap (λ (xs : List ℕ). line ++ xs) (append_assoc part (10 ∷ rest) more)
    ∙ sym (append_assoc line part (10 ∷ (rest ++ more)))

-- a line of what was left is gone, whatever its length
pub record IsFound (line : List ℕ) (old new : Left) : Type 0 where
  pub lines : old.lines ≡ line ∷ new.lines
  pub cut : IsCutOf old new
  pub lacks : new.lacks ≡ old.lacks

-- the end of a reading that goes on from b
ended_on : (a b : Place) (bytes : List ℕ) (new : Reading) → HasEnded a b bytes → new.is_ended ≡ b.reading.is_ended → HasEnded a (record { source = b.source; reading = new }) bytes
ended_on a b bytes new ended same = record {
  none = λ was. let none = ended.none was in (none.0, same ∙ none.1);
  end = λ known was. ended.end known (sym same ∙ was);
}

-- a line that a line feed ends
pub ends_found : (a b : Place) (line part whole : List ℕ) (new : Reading) → TakesOn line a b → IsFree line → b.reading.held ≡ part ++ 10 ∷ new.held
    → IsFree part → whole ≡ line ++ part → new.is_ended ≡ b.reading.is_ended → new.ending ≡ ending_after b.reading.ending whole
    → Passes (IsFound whole) a (record { source = b.source; reading = new })
ends_found a b line part whole new takes free held parted is ended ends = record {
  bytes = takes.bytes;
  given = takes.given;
  ended = ended_on a b takes.bytes new takes.ended ended;
  holds = λ more may.
      let text = text_cut a b line part new.held takes held more ∙ ap (λ (xs : List ℕ). xs ++ 10 ∷ (new.held ++ more)) (sym is) in
      let found = read_ends a.reading.ending whole (new.held ++ more) (subst IsFree (sym is) (All-append (λ c. c ≢ 10) line part free parted)) in
      let later : ending_after a.reading.ending whole ≡ new.ending = ap (λ (e : Ending). ending_after e whole) (sym takes.ending) ∙ sym ends in
      record {
        lines = ap (lines_read a.reading.ending) text ∙ found.0 ∙ ap (λ (e : Ending). whole ∷ lines_read e (new.held ++ more)) later;
        cut = inl (sym (ap (left_out a.reading.ending) text ∙ found.1 ∙ ap (λ (e : Ending). left_out e (new.held ++ more)) later));
        lacks = sym (ap (is_lacking a.reading.ending) text ∙ found.2 ∙ ap (λ (e : Ending). is_lacking e (new.held ++ more)) later);
      };
}

-- nothing is left behind what was gone over, at the end
all_gone : (a b : Place) (line : List ℕ) (new : Reading) (takes : TakesOn line a b) → b.reading.held ≡ [] → b.reading.is_ended ≡ true → new.held ≡ b.reading.held
    → new.is_ended ≡ b.reading.is_ended → (more : List ℕ) → MayCome new more → (a.reading.held ++ (takes.bytes ++ more) ≡ line) × (new.held ++ more ≡ [])
all_gone a b line new takes none over held ended more may =
    let rest : more ≡ [] = may (ended ∙ over) in (
      text_left line a b takes more ∙ ap (λ (xs : List ℕ). line ++ (xs ++ more)) none ∙ ap (λ (xs : List ℕ). line ++ xs) rest ∙ append-nil line,
      ap (λ (xs : List ℕ). xs ++ more) (held ∙ none) ∙ rest,
    )

-- the last line, which no line feed ends, where lines end as they stand
pub last_found : (a b : Place) (line : List ℕ) (new : Reading) → TakesOn line a b → IsFree line → 0 < length line → b.reading.held ≡ []
    → b.reading.is_ended ≡ true → new.held ≡ b.reading.held → new.is_ended ≡ b.reading.is_ended → b.reading.ending ≡ Own → new.ending ≡ Own
    → Passes (IsFound line) a (record { source = b.source; reading = new })
last_found a b line new takes free some none over held ended own still = record {
  bytes = takes.bytes;
  given = takes.given;
  ended = ended_on a b takes.bytes new takes.ended ended;
  holds = λ more may.
      let all = all_gone a b line new takes none over held ended more may in
      let first : a.reading.ending ≡ Own = sym takes.ending ∙ own in
      record {
        lines =
            ap (λ (e : Ending). lines_read e (a.reading.held ++ (takes.bytes ++ more))) first ∙ ap lines_of all.0 ∙ line_lasts line free some
            ∙ ap (λ (xs : List ℕ). line ∷ lines_of xs) (sym all.1) ∙ ap (λ (e : Ending). line ∷ lines_read e (new.held ++ more)) (sym still);
        cut = inr (ap (λ (e : Ending). left_out e (new.held ++ more)) still);
        lacks =
            ap (λ (e : Ending). is_lacking e (new.held ++ more)) still
            ∙ sym (ap (λ (e : Ending). is_lacking e (a.reading.held ++ (takes.bytes ++ more))) first);
      };
}

-- `end`, which the text lacks
pub end_added : (a b : Place) (line : List ℕ) (new : Reading) → TakesOn line a b → IsFree line → b.reading.held ≡ []
    → b.reading.is_ended ≡ true → new.held ≡ b.reading.held → new.is_ended ≡ b.reading.is_ended → b.reading.ending ≡ Due → new.ending ≡ Added
    → Passes (IsFound ending) a (record { source = b.source; reading = new })
end_added a b line new takes free none over held ended due added = record {
  bytes = takes.bytes;
  given = takes.given;
  ended = ended_on a b takes.bytes new takes.ended ended;
  holds = λ more may.
      let all = all_gone a b line new takes none over held ended more may in
      let first : a.reading.ending ≡ Due = sym takes.ending ∙ due in
      record {
        lines =
            ap (λ (e : Ending). lines_read e (a.reading.held ++ (takes.bytes ++ more))) first
            ∙ ap (λ (xs : List ℕ). finished (whole_lines xs)) all.0 ∙ ap finished (parts_last line free).0
            ∙ ap (λ (xs : List ℕ). ending ∷ whole_lines xs) (sym all.1) ∙ ap (λ (e : Ending). ending ∷ lines_read e (new.held ++ more)) (sym added);
        cut = inr (ap (λ (e : Ending). left_out e (new.held ++ more)) added ∙ ap cut_line all.1);
        lacks =
            ap (λ (e : Ending). is_lacking e (new.held ++ more)) added
            ∙ sym (ap (λ (e : Ending). is_lacking e (a.reading.held ++ (takes.bytes ++ more))) first
            ∙ ap (λ (xs : List ℕ). lacks_end (whole_lines xs)) all.0 ∙ ap lacks_end (parts_last line free).0);
      };
}

-- its number
pub first_of : (a c : Place) (line : List ℕ) (number : ℕ) → Passes (IsFound line) a c → number ≡ a.reading.next → c.reading.next ≡ number + 1 → length line ≤ line_limit
    → Passes (IsFirst number line) a c
first_of a c line number found counted next short = record {
  bytes = found.bytes;
  given = found.given;
  ended = found.ended;
  holds = λ more may. record {
    lines = (found.holds more may).lines;
    counted = counted;
    first = next ∙ ap (λ (n : ℕ). n + 1) counted;
    short = short;
    cut = (found.holds more may).cut;
    lacks = (found.holds more may).lacks;
  };
}

-- no line is left, where lines end as they stand
pub none_gone : (a b : Place) (line : List ℕ) (new : Reading) → TakesOn line a b → line ≡ [] → b.reading.held ≡ [] → b.reading.is_ended ≡ true
    → IsKept b.reading new → b.reading.ending ≡ Own → Passes AreNone a (record { source = b.source; reading = new })
none_gone a b line new takes empty none over kept own = record {
  bytes = takes.bytes;
  given = takes.given;
  ended = ended_on a b takes.bytes new takes.ended kept.is_ended;
  holds = λ more may.
      let all = all_gone a b line new takes none over kept.held kept.is_ended more may in
      let first : a.reading.ending ≡ Own = sym takes.ending ∙ own in
      record {
        none = ap (λ (e : Ending). lines_read e (a.reading.held ++ (takes.bytes ++ more))) first ∙ ap lines_of (all.0 ∙ empty);
        still = ap (λ (e : Ending). lines_read e (new.held ++ more)) (kept.ending ∙ own) ∙ ap lines_of all.1;
        first = kept.next ∙ takes.next;
        cut = inr (ap (λ (e : Ending). left_out e (new.held ++ more)) (kept.ending ∙ own));
        lacks =
            ap (λ (e : Ending). is_lacking e (new.held ++ more)) (kept.ending ∙ own)
            ∙ sym (ap (λ (e : Ending). is_lacking e (a.reading.held ++ (takes.bytes ++ more))) first);
      };
}

-- nor where `end` was given
pub none_whole : (ends : Ending) → ((text : List ℕ) → lines_read ends text ≡ whole_lines text) → ((text : List ℕ) → left_out ends text ≡ cut_line text)
    → ((one two : List ℕ) → is_lacking ends one ≡ is_lacking ends two)
    → (a b : Place) (line : List ℕ) (new : Reading) → TakesOn line a b → IsFree line → b.reading.held ≡ [] → b.reading.is_ended ≡ true
    → IsKept b.reading new → b.reading.ending ≡ ends → Passes AreNone a (record { source = b.source; reading = new })
none_whole ends lines outs same a b line new takes free none over kept is = record {
  bytes = takes.bytes;
  given = takes.given;
  ended = ended_on a b takes.bytes new takes.ended kept.is_ended;
  holds = λ more may.
      let all = all_gone a b line new takes none over kept.held kept.is_ended more may in
      let first : a.reading.ending ≡ ends = sym takes.ending ∙ is in
      let still : new.ending ≡ ends = kept.ending ∙ is in
      record {
        none =
            ap (λ (e : Ending). lines_read e (a.reading.held ++ (takes.bytes ++ more))) first ∙ lines (a.reading.held ++ (takes.bytes ++ more))
            ∙ ap whole_lines all.0 ∙ (parts_last line free).0;
        still = ap (λ (e : Ending). lines_read e (new.held ++ more)) still ∙ lines (new.held ++ more) ∙ ap whole_lines all.1;
        first = kept.next ∙ takes.next;
        cut = inr (ap (λ (e : Ending). left_out e (new.held ++ more)) still ∙ outs (new.held ++ more) ∙ ap cut_line all.1);
        lacks =
            ap (λ (e : Ending). is_lacking e (new.held ++ more)) still ∙ same (new.held ++ more) (a.reading.held ++ (takes.bytes ++ more))
            ∙ sym (ap (λ (e : Ending). is_lacking e (a.reading.held ++ (takes.bytes ++ more))) first);
      };
}

-- a line is too long
pub line_over : (a b : Place) (line : List ℕ) (new : Reading) → TakesOn line a b → IsFree line → line_limit < length line → new.is_ended ≡ b.reading.is_ended
    → Passes (λ left _. IsTooLong left) a (record { source = b.source; reading = new })
line_over a b line new takes free over ended = record {
  bytes = takes.bytes;
  given = takes.given;
  ended = ended_on a b takes.bytes new takes.ended ended;
  holds = λ more may.
      subst (λ (xs : List ℕ). IsTooLong (record { lines = lines_read a.reading.ending xs; first = a.reading.next; cut = left_out a.reading.ending xs; lacks = is_lacking a.reading.ending xs }))
      (sym (text_left line a b takes more)) (over_left a.reading.ending line (b.reading.held ++ more) a.reading.next free over);
}

too_long : (line : List ℕ) (l m : Left) (next : ℕ) → IsFound line l m → next ≡ l.first → (line_limit < length line) ⊎ (2 ^ 64 ≤ next + 1) → IsTooLong l
too_long line l m next found is (inl long) = inl ([], line, m.lines, found.lines, long)
too_long line l m next found is (inr many) = inr (inr (omega (arith, many, is, ap length found.lines)))

-- a line that was found is too long, or its number is the last
pub found_over : (line : List ℕ) (a b : Place) (next : ℕ) → Passes (IsFound line) a b → next ≡ a.reading.next → (line_limit < length line) ⊎ (2 ^ 64 ≤ next + 1)
    → Passes (λ left _. IsTooLong left) a b
found_over line a b next found is over = record {
  bytes = found.bytes;
  given = found.given;
  ended = found.ended;
  holds = λ more may. too_long line (left_of a.reading (found.bytes ++ more)) (left_of b.reading more) next (found.holds more may) is over;
}

-- a line is too long, whatever is left
pub over_there : (a b : Place) (new : Reading) → new.is_ended ≡ b.reading.is_ended → Passes (λ left _. IsTooLong left) a b
    → Passes (λ left _. IsTooLong left) a (record { source = b.source; reading = new })
over_there a b new same over = record {
  bytes = over.bytes;
  given = over.given;
  ended = ended_on a b over.bytes new over.ended same;
  holds = λ more may. over.holds more (λ is. may (same ∙ is));
}

-- the same part goes on where it got nothing more
pub takes_same : (a b c : Place) (line : List ℕ) → TakesOn line a b → TakesOn [] b c → c.reading.line ≡ line → TakesOn c.reading.line a c
takes_same a b c line first second same =
    subst (λ (xs : List ℕ). TakesOn xs a c) (append-nil line ∙ sym same) (takes_then a b c line [] first second)

-- all that was held goes to the line
pub takes_held : (a b : Place) (new : Reading) → TakesOn b.reading.line a b → new.held ≡ [] → new.is_ended ≡ b.reading.is_ended → new.next ≡ b.reading.next → new.ending ≡ b.reading.ending
    → new.line ≡ b.reading.line ++ b.reading.held → TakesOn new.line a (record { source = b.source; reading = new })
takes_held a b new first none ended next ends grown =
    let all : b.reading.held ≡ b.reading.held ++ new.held = sym (append-nil b.reading.held) ∙ ap (λ (xs : List ℕ). b.reading.held ++ xs) (sym none) in
    subst (λ (xs : List ℕ). TakesOn xs a (record { source = b.source; reading = new })) (sym grown)
    (takes_then a b (record { source = b.source; reading = new }) b.reading.line b.reading.held first (takes_part b.source b.reading new b.reading.held all ended next ends))

-- a read failed, or memory ran out
pub line_failed : (r : Result (Option ℕ) InputFault) (fault : InputFault) (a b c : Place) (line : List ℕ) → IsErrAnd r (λ e. e ≡ fault) → TakesOn line a b
    → IsPieceFault fault b.source c.source → IsLineRead r a c
line_failed (Ok x) fault a b c line is takes failed = absurd is
line_failed (Err e) fault a b c line is takes failed = subst (λ (f : InputFault). IsReadingFault f a c) (sym is) (by fault failed)
  where
    by : (f : InputFault) → IsPieceFault f b.source c.source → IsReadingFault f a c
    by Read failed = subst (λ (n : ℕ). Rises n c.source.failures) takes.given.unfailed failed
    by TooLarge failed = absurd failed
    by NoMemory failed = tt

-- a line that is whole is too long
pub whole_over : (r : Result (Option ℕ) InputFault) (fault : InputFault) (a b : Place) → IsErrAnd r (λ e. e ≡ fault) → fault ≡ TooLarge → Passes (λ left _. IsTooLong left) a b
    → IsLineRead r a b
whole_over (Ok x) fault a b is large long = absurd is
whole_over (Err e) fault a b is large long = subst (λ (f : InputFault). IsReadingFault f a b) (sym (is ∙ large)) long

-- what is given of a line that no line feed ends
module _ (a b : Place) (new : Reading) (takes : TakesOn b.reading.line a b) (free : IsFree b.reading.line) (held : b.reading.held ≡ []) (over : b.reading.is_ended ≡ true) where
  abbrev there : Place
  there = record { source = b.source; reading = new }

  counted : (number : ℕ) (line : List ℕ) → Passes (IsFound line) a there → IsCounted number line b.reading new → Passes (IsFirst number new.line) a there
  counted number line found is =
      subst (λ (xs : List ℕ). Passes (IsFirst number xs) a there) (sym is.given) (first_of a there line number found (is.counted ∙ takes.next) is.next is.short)

  fails : (ends : Ending) (fault : InputFault) → b.reading.ending ≡ ends → IsLastFault ends fault b.reading new → IsReadingFault fault a there
  fails ends Read is failed = absurd failed
  fails ends NoMemory is failed = tt
  fails Own TooLarge is failed =
      found_over b.reading.line a there b.reading.next
      (last_found a b b.reading.line new takes free failed.2 held over failed.0.held failed.0.is_ended is (failed.0.ending ∙ is)) takes.next failed.1
  fails Due TooLarge is failed = over_number (ap (λ (n : ℕ). n) takes.next)
    where
      over_number : b.reading.next ≡ a.reading.next → Passes (λ left _. IsTooLong left) a there
      over_number same = record {
        bytes = takes.bytes;
        given = takes.given;
        ended = ended_on a b takes.bytes new takes.ended failed.0.is_ended;
        holds = λ more may. inr (inr (one_at_least a.reading.ending (sym takes.ending ∙ is) (a.reading.held ++ (takes.bytes ++ more))));
      }
        where
          finished_some : (lines : List (List ℕ)) → 1 ≤ length (finished lines)
          finished_some [] = omega arith
          finished_some (line ∷ more) = omega arith

          one_at_least : (e : Ending) → e ≡ Due → (text : List ℕ) → 2 ^ 64 ≤ length (lines_read e text) + a.reading.next
          one_at_least e due text =
              subst (λ (x : Ending). 2 ^ 64 ≤ length (lines_read x text) + a.reading.next) (sym due)
              (omega (arith, failed.1, same, finished_some (whole_lines text)))
  fails Stands TooLarge is failed = absurd failed
  fails Added TooLarge is failed = absurd failed

  pub last_read : (r : Result (Option ℕ) InputFault) (ends : Ending) → b.reading.ending ≡ ends → IsLastOf ends r b.reading new → IsLineRead r a there
  last_read (Ok (Some number)) Own is last =
      counted number b.reading.line (last_found a b b.reading.line new takes free last.0 held over last.1.held last.1.is_ended is last.2) last.1
  last_read (Ok None) Own is last = none_gone a b b.reading.line new takes last.0 held over last.1 is
  last_read (Ok (Some number)) Due is last = counted number ending (end_added a b b.reading.line new takes free held over last.0.held last.0.is_ended is last.1) last.0
  last_read (Ok None) Due is last = absurd last
  last_read (Ok (Some number)) Stands is last = absurd last
  last_read (Ok None) Stands is last = none_whole Stands (λ text. refl) (λ text. refl) (λ one two. refl) a b b.reading.line new takes free held over last is
  last_read (Ok (Some number)) Added is last = absurd last
  last_read (Ok None) Added is last = none_whole Added (λ text. refl) (λ text. refl) (λ one two. refl) a b b.reading.line new takes free held over last is
  last_read (Err fault) Own is last = fails Own fault is last
  last_read (Err fault) Due is last = fails Due fault is last
  last_read (Err fault) Stands is last = fails Stands fault is last
  last_read (Err fault) Added is last = fails Added fault is last
