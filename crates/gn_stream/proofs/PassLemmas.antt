-- One reading after another.
use Rattle.std.proofs.Common.{◌≡◌, ◌<◌, ◌⊎◌, inl, inr, ◌∙◌, ◌+◌, ◌^◌, ◌≤◌, ℕ, true, false, true≢false, List, [], ◌∷◌, ◌++◌, drop, length, length-append, All, Option, Some, None, IfSome, Result, Ok, Err, refl, sym, ap, subst, arith, append_assoc}
use Rattle.std.proofs.KnownBytes.{Consumes-trans, Consumes-nil}
use Rattle.std.proofs.lemmas.List.{append-nil}
use Rattle.std.proofs.lemmas.List.Elements.{All-append, All-nil}
use Rattle.std.proofs.Math.Seq.{drop-append_seam}
use Rattle.std.specs.Io.KnownBytes.{Consumes, IsAtEnd}
use Rattle.gn_io.specs.Counts.{Rises}
use Rattle.gn_io.specs.Streams.{SourceState, foreknown_or_told, text_between}
use Rattle.gn_io.specs.declared.input.InputFault.{InputFault}
use Rattle.gn_io.specs.declared.input.InputFault.TheVariants.{Read, TooLarge, NoMemory}
use Rattle.gn_text.specs.declared.fault.CaptureRefusal.{CaptureRefusal}
use Rattle.gn_stream.specs.declared.fault.StreamFault.{StreamFault}
use Rattle.gn_stream.specs.declared.fault.StreamFault.TheVariants.{Input, Text}
use Rattle.gn_stream.specs.declared.ending.Ending.{Ending}
use Rattle.gn_stream.specs.Left.{AreGone, IsCutOf, IsFirst, IsTooLong, Left, line_limit}
use Rattle.gn_stream.specs.Reading.{HasEnded, HasGiven, IsReadOf, IsReadingFault, MayCome, Passes, Place, Reading, fresh, left_of}
use Rattle.gn_stream.specs.Unfinished.{is_lacking, left_out, lines_read}

-- what a source gave, and then more
pub given_then : (a b c : SourceState) (xs ys : List ℕ) → HasGiven a b xs → HasGiven b c ys → HasGiven a c (xs ++ ys)
given_then a b c xs ys first second = record {
  told = second.told ∙ ap (λ (zs : List ℕ). zs ++ ys) first.told ∙ append_assoc a.told xs ys;
  rest = Consumes-trans a.rest b.rest c.rest xs ys first.rest second.rest;
  unfailed = second.unfailed ∙ first.unfailed;
}

pub ended_then : (a b c : Place) (xs ys : List ℕ) → HasEnded a b xs → HasEnded b c ys → HasEnded a c (xs ++ ys)
ended_then a b c xs ys first second = record {
  none = λ is.
      let one = first.none is in
      let two = second.none one.1 in
      (ap (λ (zs : List ℕ). zs ++ ys) one.0 ∙ two.0, two.1);
  end = λ known. second.end (first.end known);
}

-- what may come after the second may come after the first, behind what the second read
pub may_before : (b c : Place) (ys more : List ℕ) → HasEnded b c ys → MayCome c.reading more → MayCome b.reading (ys ++ more)
may_before b c ys more ended may = λ is. let none = ended.none is in ap (λ (zs : List ℕ). zs ++ more) none.0 ∙ may none.1

pub passes_then : (First Second Both : Left → Left → Type 0) (a b c : Place) → ((l m n : Left) → First l m → Second m n → Both l n)
    → Passes First a b → Passes Second b c → Passes Both a c
passes_then First Second Both a b c both first second = record {
  bytes = first.bytes ++ second.bytes;
  given = given_then a.source b.source c.source first.bytes second.bytes first.given second.given;
  ended = ended_then a b c first.bytes second.bytes first.ended second.ended;
  holds = λ more may.
      subst (λ (xs : List ℕ). Both (left_of a.reading xs) (left_of c.reading more)) (sym (append_assoc first.bytes second.bytes more))
      (both (left_of a.reading (first.bytes ++ (second.bytes ++ more))) (left_of b.reading (second.bytes ++ more)) (left_of c.reading more)
      (first.holds (second.bytes ++ more) (may_before b c second.bytes more second.ended may)) (second.holds more may));
}

-- the same of what it means
pub passes_so : (First Both : Left → Left → Type 0) (a b : Place) → ((l m : Left) → First l m → Both l m) → Passes First a b → Passes Both a b
passes_so First Both a b both first = record {
  bytes = first.bytes;
  given = first.given;
  ended = first.ended;
  holds = λ more may. both (left_of a.reading (first.bytes ++ more)) (left_of b.reading more) (first.holds more may);
}

pub gone_none : (l : Left) → AreGone l l
gone_none l = record { gone = []; lines = refl; first = omega arith; short = All-nil (λ line. length line ≤ line_limit); cut = inl refl; lacks = refl }

cut_then : (l m n : Left) → IsCutOf l m → IsCutOf m n → IsCutOf l n
cut_then l m n (inl one) (inl two) = inl (two ∙ one)
cut_then l m n (inr one) (inl two) = inr (two ∙ one)
cut_then l m n one (inr two) = inr two

pub gone_then : (l m n : Left) → AreGone l m → AreGone m n → AreGone l n
gone_then l m n one two = record {
  gone = one.gone ++ two.gone;
  lines = one.lines ∙ ap (λ (xs : List (List ℕ)). one.gone ++ xs) two.lines ∙ sym (append_assoc one.gone two.gone n.lines);
  first = omega (arith, one.first, two.first, length-append one.gone two.gone);
  short = All-append (λ line. length line ≤ line_limit) one.gone two.gone one.short two.short;
  cut = cut_then l m n one.cut two.cut;
  lacks = two.lacks ∙ one.lacks;
}

pub first_gone : (number : ℕ) (line : List ℕ) (l m : Left) → IsFirst number line l m → AreGone l m
first_gone number line l m first = record {
  gone = line ∷ [];
  lines = first.lines;
  first = omega (arith, first.first);
  short = λ k d within. grind (arith, first.short);
  cut = first.cut;
  lacks = first.lacks;
}

-- a line that is too long is so behind those that are gone
pub long_behind : (l m : Left) → AreGone l m → IsTooLong m → IsTooLong l
long_behind l m gone (inl (before, line, after, is, over)) = inl (
  gone.gone ++ before,
  line,
  after,
  gone.lines ∙ ap (λ (xs : List (List ℕ)). gone.gone ++ xs) is ∙ sym (append_assoc gone.gone before (line ∷ after)),
  over,
)
long_behind l m gone (inr (inl over)) = inr (inl (by gone.cut))
  where
    by : IsCutOf l m → line_limit < length l.cut
    by (inl same) = subst (λ (xs : List ℕ). line_limit < length xs) same over
    by (inr none) = absurd (omega (arith, over, ap length none))
long_behind l m gone (inr (inr many)) = inr (inr (omega (arith, many, gone.first, ap length gone.lines, length-append gone.gone m.lines)))

-- a fault of the input, after what went well
pub fault_then : (First : Left → Left → Type 0) (a b c : Place) (fault : InputFault) → ((l m : Left) → First l m → AreGone l m) → Passes First a b
    → IsReadingFault fault b c → IsReadingFault fault a c
fault_then First a b c Read goes first failed = subst (λ (n : ℕ). Rises n c.source.failures) first.given.unfailed failed
fault_then First a b c TooLarge goes first failed =
    passes_then First (λ left _. IsTooLong left) (λ left _. IsTooLong left) a b c (λ l m n one long. long_behind l m (goes l m one) long) first failed
fault_then First a b c NoMemory goes first failed = tt

-- a reading after what went well
pub read_then : {T : Type 0} (First : Left → Left → Type 0) (Then : T → Left → Left → Type 0) (Refuses : CaptureRefusal → Left → Type 0)
    (Both : T → Left → Left → Type 0) (Also : CaptureRefusal → Left → Type 0) (a b c : Place) (r : Result T StreamFault)
    → ((l m : Left) → First l m → AreGone l m) → ((x : T) (l m n : Left) → First l m → Then x m n → Both x l n)
    → ((refusal : CaptureRefusal) (l m : Left) → First l m → Refuses refusal m → Also refusal l)
    → Passes First a b → IsReadOf Then Refuses r b c → IsReadOf Both Also r a c
read_then First Then Refuses Both Also a b c (Ok x) goes both also first read = passes_then First (Then x) (Both x) a b c (both x) first read
read_then First Then Refuses Both Also a b c (Err (Text refusal)) goes both also first read =
    passes_then First (λ left _. Refuses refusal left) (λ left _. Also refusal left) a b c (λ l m n. also refusal l m) first read
read_then First Then Refuses Both Also a b c (Err (Input fault)) goes both also first read = fault_then First a b c fault goes first read

-- nothing was read
pub passes_none : (Holds : Left → Left → Type 0) (a : Place) → ((l : Left) → Holds l l) → Passes Holds a a
passes_none Holds a same = record {
  bytes = [];
  given = record { told = sym (append-nil a.source.told); rest = Consumes-nil a.source.rest; unfailed = refl };
  ended = record { none = λ is. (refl, is); end = λ known. known };
  holds = λ more may. same (left_of a.reading more);
}

-- all lines that are read of a text
abbrev pub lines_whole : Ending → List ℕ → Left
lines_whole ends text = record { lines = lines_read ends text; first = 1; cut = left_out ends text; lacks = is_lacking ends text }

-- a reader that begins with a source goes over its text
pub whole_text : (Holds : Left → Left → Type 0) (P : List ℕ → Type 0) (a b : Place) (ends : Ending) → a.reading ≡ record fresh { ending = ends }
    → ((text : List ℕ) (rest : Left) → Holds (lines_whole ends text) rest → P text) → Passes Holds a b → IfSome (text_between a.source b.source) P
whole_text Holds P a b ends new means passes =
    by a.source.rest b.source.rest passes.given.rest (passes.ended.end (λ is. absurd (true≢false (sym is ∙ ap (λ (r : Reading). r.is_ended) new))))
  where
    there : (more : List ℕ) → MayCome b.reading more → P (passes.bytes ++ more)
    there more may =
        means (passes.bytes ++ more) (left_of b.reading more) (subst (λ (r : Reading). Holds (left_of r (passes.bytes ++ more)) (left_of b.reading more)) new (passes.holds more may))

    by : (old new : Option (List ℕ)) → Consumes old new passes.bytes → (b.reading.is_ended ≡ true → IsAtEnd new)
        → IfSome (foreknown_or_told old (drop (length a.source.told) b.source.told)) P
    by None new taken end =
        subst P (append-nil passes.bytes ∙ sym (ap (drop (length a.source.told)) passes.given.told ∙ drop-append_seam a.source.told passes.bytes)) (there [] (λ is. refl))
    by (Some all) None taken end = absurd taken
    by (Some all) (Some rest) taken end = subst P (sym taken) (there rest end)
