-- Lines that are played and written one by one.
use Rattle.std.proofs.Common.{◌≡◌, ◌++◌, ℕ, List, [], ◌∷◌, length, Option, Result, Ok, Err, IfOk, OnErr, refl, sym, ap, ◌∙◌, subst, append-nil, append_assoc, arith, reverse}
use Rattle.std.proofs.lemmas.List.{reverse-append}
use Rattle.std.specs.Io.KnownBytes.{Appends}
use Rattle.gn_io.specs.Parts.{LeavesToWrite, AppendsPart, WaitsPart}
use Rattle.gn_io.proofs.StreamLemmas.{leaves_all, leaves_rest, leaves_text, leaves_waits, rest_cut, waits_text}
use Rattle.gn_rules.specs.declared.config.Config.{Config}
use Rattle.gn_rules.specs.declared.receipt.Step.{Step}
use Rattle.gn_capture.specs.declared.line.Line.{Line}
use Rattle.gn_replay.specs.Events.{Played}
use Rattle.gn_replay.specs.Links.{LinkState, AreLinks}
use Rattle.gn_replay.specs.declared.form.Form.{Form}
use Rattle.gn_replay.specs.declared.form.Form.TheVariants.{Whole}
use Rattle.gn_replay.specs.Playing.{Playing, HasPlayed, refused_more, said}
use Rattle.gn_replay.specs.ReplayText.{After, capture_plays, play_lines, plays}
use Rattle.gn_replay.specs.Runs.{HasPassed, HasPrinted, HasRun, HasWritten, IsNew}
use Rattle.gn_replay.proofs.AdmitLemmas.{refused_both, said_both, said_nothing}

-- what holds anyway, holds at an error
pub on_err : {T E P : Type 0} (r : Result T E) → P → OnErr r P
on_err (Ok x) p = tt
on_err (Err e) p = p

-- a line that is played with nothing printed before it
from_clear : {A : Type 0} (before cleared after : Playing A) (line : Line A) → cleared ≡ record before { out = [] }
    → ((states : List LinkState) → AreLinks cleared.links states → HasPlayed cleared after (plays cleared.settings cleared.past states line))
    → (states : List LinkState) → AreLinks before.links states → HasPlayed (record before { out = [] }) after (plays before.settings before.past states line)
from_clear before cleared after line clear played =
    subst (λ (v : Playing _). (states : List LinkState) → AreLinks v.links states → HasPlayed v after (plays v.settings v.past states line)) clear played

-- it was played, and of what waited and what it printed all was written but what waits
pub written : {A : Type 0} (before cleared after : Playing A) (old new : Option (List ℕ)) (waited held waiting : List ℕ) (line : Line A) (bytes : List ℕ) → cleared ≡ record before { out = [] }
    → ((states : List LinkState) → AreLinks cleared.links states → HasPlayed cleared after (plays cleared.settings cleared.past states line))
    → bytes ≡ after.out → held ≡ waited ++ bytes → LeavesToWrite old new waiting held
    → (states : List LinkState) → AreLinks before.links states → HasWritten before after old new waited waiting (plays before.settings before.past states line)
written before cleared after old new waited held waiting line bytes clear play is added leaves states are =
    let played = from_clear before cleared after line clear play states are in
    record {
      form = ap (λ (v : Playing _). v.form) played.played;
      settings = ap (λ (v : Playing _). v.settings) played.played;
      past = ap (λ (v : Playing _). v.past) played.played;
      refusals = ap (λ (v : Playing _). v.refusals) played.played;
      links = played.links;
      text = subst (λ (text : List ℕ). LeavesToWrite old new waiting text) (added ∙ ap (λ (text : List ℕ). waited ++ text) (is ∙ ap (λ (v : Playing _). v.out) played.played)) leaves;
    }

-- only a prefix of it was written, and nothing waits any more
pub part_written : {A : Type 0} (before cleared after : Playing A) (old new : Option (List ℕ)) (waited held waiting : List ℕ) (line : Line A) (bytes : List ℕ) → cleared ≡ record before { out = [] }
    → ((states : List LinkState) → AreLinks cleared.links states → HasPlayed cleared after (plays cleared.settings cleared.past states line))
    → bytes ≡ after.out → held ≡ waited ++ bytes → waiting ≡ [] → AppendsPart old new held
    → (states : List LinkState) → AreLinks before.links states → WaitsPart old new waiting (waited ++ said before.form (plays before.settings before.past states line).played)
part_written before cleared after old new waited held waiting line bytes clear play is added empty part states are =
    let played = from_clear before cleared after line clear play states are in
    rw empty (subst (λ (text : List ℕ). AppendsPart old new text) (added ∙ ap (λ (text : List ℕ). waited ++ text) (is ∙ ap (λ (v : Playing _). v.out) played.played)) part)

-- nothing was written yet, and what waited still waits
pub still_waits : (old : Option (List ℕ)) (waited waiting text : List ℕ) → waiting ≡ waited → WaitsPart old old waiting (waited ++ text)
still_waits old waited waiting text same = rw same (text, leaves_all old (waited ++ text))

-- nothing was written yet
pub none_written : (old : Option (List ℕ)) (text : List ℕ) → AppendsPart old old text
none_written old text = (text, leaves_all old text)

-- the last of a list is the first of the same turned round
pub turned : {X : Type 0} (now rest : List X) (x : X) → now ≡ rest ++ x ∷ [] → reverse now ≡ x ∷ reverse rest
turned now rest x is = ap reverse is ∙ reverse-append rest (x ∷ [])

-- a loop over all lines, where those of `left` are still to come
pub record IsRunning {A : Type 0} (form : Form) (begun : List ℕ) (s : Config) (now : Playing A) (first last : Option (List ℕ)) (waiting : List ℕ) (left all : List (ℕ × Line A)) : Type 0 where
  pub states : List LinkState
  pub links : AreLinks now.links states
  pub form_is : now.form ≡ form
  pub settings : now.settings ≡ s
  pub past : (play_lines s now.past states left).past ≡ (capture_plays s all).past
  pub refusals : refused_more (play_lines s now.past states left).refusals now.refusals ≡ refused_more (capture_plays s all).refusals 0
  pub leaves : LeavesToWrite first last (waiting ++ said form (play_lines s now.past states left)) (begun ++ said form (capture_plays s all))

-- no line was played yet
pub running_start : {A : Type 0} (v : Playing A) (old : Option (List ℕ)) (begun : List ℕ) (all left : List (ℕ × Line A)) → left ≡ all → IsNew v
    → IsRunning v.form begun v.settings v old old begun left all
running_start v old begun all left whole new = record {
  states = [];
  links = rw new.links tt;
  form_is = refl;
  settings = refl;
  past = rw (new.past, whole) refl;
  refusals = rw (new.past, new.refusals, whole) refl;
  leaves = rw (new.past, whole) (leaves_all old (begun ++ said v.form (capture_plays v.settings all)));
}

-- what a line did, by the configuration of the loop
here_done : {A : Type 0} (form : Form) (begun : List ℕ) (s : Config) (now after : Playing A) (first mid last : Option (List ℕ)) (waited waiting : List ℕ) (line : Line A) (left all : List (ℕ × Line A)) (r : IsRunning form begun s now first mid waited left all)
    → ((states : List LinkState) → AreLinks now.links states → HasWritten now after mid last waited waiting (plays now.settings now.past states line))
    → HasWritten now after mid last waited waiting (plays s now.past r.states line)
here_done form begun s now after first mid last waited waiting line left all r wrote =
    subst (λ (c : Config). HasWritten now after mid last waited waiting (plays c now.past r.states line)) r.settings (wrote r.states r.links)

-- one line more
pub running_more : {A : Type 0} (form : Form) (begun : List ℕ) (s : Config) (now after : Playing A) (first mid last : Option (List ℕ)) (waited waiting : List ℕ) (n : ℕ) (line : Line A) (left all : List (ℕ × Line A))
    → IsRunning form begun s now first mid waited ((n, line) ∷ left) all
    → ((states : List LinkState) → AreLinks now.links states → HasWritten now after mid last waited waiting (plays now.settings now.past states line))
    → IsRunning form begun s after first last waiting left all
running_more {A} form begun s now after first mid last waited waiting n line left all r wrote =
    let done = here_done form begun s now after first mid last waited waiting line ((n, line) ∷ left) all r wrote in
    let here : After A = plays s now.past r.states line in
    let later : Played A = play_lines s here.played.past here.links left in
    let whole : List ℕ = begun ++ said form (capture_plays s all) in
    let same : play_lines s after.past here.links left ≡ later = ap (λ p. play_lines s p here.links left) done.past in
    record {
      states = here.links;
      links = done.links;
      form_is = done.form ∙ r.form_is;
      settings = done.settings ∙ r.settings;
      past = ap (λ (p : Played A). p.past) same ∙ r.past;
      refusals =
          ap (λ (p : Played A). refused_more p.refusals after.refusals) same ∙ ap (λ (n : ℕ). refused_more later.refusals n) done.refusals
          ∙ refused_both here.played.refusals later.refusals now.refusals ∙ r.refusals;
      leaves =
          subst (λ (p : Played A). LeavesToWrite first last (waiting ++ said form p) whole) (sym same)
          (leaves_text first mid last waited (said form here.played) (said form later) waiting whole
          (subst (λ (bytes : List ℕ). LeavesToWrite first mid (waited ++ bytes) whole) (said_both form here.played later) r.leaves)
          (subst (λ (f : Form). LeavesToWrite mid last waiting (waited ++ said f here.played)) r.form_is done.text));
    }

-- none is left
running_all : {A : Type 0} (form : Form) (begun : List ℕ) (s : Config) (now : Playing A) (first last : Option (List ℕ)) (waiting : List ℕ) (all : List (ℕ × Line A))
    → IsRunning form begun s now first last waiting [] all → HasPassed form begun (capture_plays s all) now.past now.refusals first last waiting
running_all form begun s now first last waiting all r =
    record {
      past = r.past;
      refusals = r.refusals;
      leaves =
          subst (λ (xs : List ℕ). LeavesToWrite first last xs (begun ++ said form (capture_plays s all)))
          (ap (λ bytes. waiting ++ bytes) (said_nothing form now.past) ∙ append-nil waiting) r.leaves;
    }

pub running_done : {A : Type 0} (form : Form) (begun : List ℕ) (s : Config) (now : Playing A) (first last : Option (List ℕ)) (waiting : List ℕ) (left all : List (ℕ × Line A)) → length left ≡ 0
    → IsRunning form begun s now first last waiting left all → HasPassed form begun (capture_plays s all) now.past now.refusals first last waiting
running_done form begun s now first last waiting [] all none r = running_all form begun s now first last waiting all r
running_done form begun s now first last waiting (x ∷ left) all none r = absurd (omega arith)

-- the next line wasn't played, or not all of its text was taken
pub running_part : {A : Type 0} (form : Form) (begun : List ℕ) (s : Config) (now : Playing A) (first mid last : Option (List ℕ)) (waited waiting : List ℕ) (n : ℕ) (line : Line A) (left all : List (ℕ × Line A))
    → IsRunning form begun s now first mid waited ((n, line) ∷ left) all
    → ((states : List LinkState) → AreLinks now.links states → WaitsPart mid last waiting (waited ++ said now.form (plays now.settings now.past states line).played))
    → WaitsPart first last waiting (begun ++ said form (capture_plays s all))
running_part {A} form begun s now first mid last waited waiting n line left all r part =
    let here : After A = plays s now.past r.states line in
    let later : Played A = play_lines s here.played.past here.links left in
    let whole : List ℕ = begun ++ said form (capture_plays s all) in
    let some : WaitsPart mid last waiting (waited ++ said form here.played) =
    subst (λ (f : Form). WaitsPart mid last waiting (waited ++ said f here.played)) r.form_is
    (subst (λ (c : Config). WaitsPart mid last waiting (waited ++ said now.form (plays c now.past r.states line).played)) r.settings (part r.states r.links)) in
    waits_text first mid last waited (said form here.played) (said form later) waiting whole
    (subst (λ (bytes : List ℕ). LeavesToWrite first mid (waited ++ bytes) whole) (said_both form here.played later) r.leaves) some

-- all that is left waits with the ending
held_left : {A : Type 0} (form : Form) (begun : List ℕ) (played : Played A) (ending : List ℕ) (first mid : Option (List ℕ)) (waiting held : List ℕ)
    → LeavesToWrite first mid waiting (begun ++ said form played) → held ≡ waiting ++ ending → LeavesToWrite first mid held (begun ++ said form played ++ ending)
held_left form begun played ending first mid waiting held h added =
    (h.0, h.1, ap (λ r. h.0 ++ r) added ∙ sym (append_assoc h.0 waiting ending) ∙ ap (λ r. r ++ ending) h.2)

alone : (begun text ending : List ℕ) → begun ≡ [] → ending ≡ [] → begun ++ text ++ ending ≡ text
alone begun text ending none nothing = ap (λ b. b ++ text ++ ending) none ∙ ap (λ e. text ++ e) nothing ∙ append-nil text

-- what waited after the last line was written, and the ending
pub run_written : {A : Type 0} (form : Form) (begun : List ℕ) (played : Played A) (ending : List ℕ) (steps : List (Step A)) (count : ℕ) (first mid last : Option (List ℕ)) (waiting held : List ℕ)
    → HasPassed form begun played steps count first mid waiting → held ≡ waiting ++ ending → Appends mid last held
    → HasPrinted form begun played ending steps count first last
run_written form begun played ending steps count first mid last waiting held p added rest =
    record { past = p.past; refusals = p.refusals; text = leaves_rest first mid last held (begun ++ said form played ++ ending) (held_left form begun played ending first mid waiting held p.leaves added) rest }

-- only a prefix of it was
pub run_cut : {A : Type 0} (form : Form) (begun : List ℕ) (played : Played A) (ending : List ℕ) (steps : List (Step A)) (count : ℕ) (first mid last : Option (List ℕ)) (waiting held : List ℕ)
    → HasPassed form begun played steps count first mid waiting → held ≡ waiting ++ ending → AppendsPart mid last held
    → AppendsPart first last (begun ++ said form played ++ ending)
run_cut form begun played ending steps count first mid last waiting held p added rest =
    let whole : List ℕ = begun ++ said form played ++ ending in
    rest_cut first mid last held whole (leaves_waits first mid held whole (held_left form begun played ending first mid waiting held p.leaves added)) rest

-- there was no memory for the ending
pub run_unended : {A : Type 0} (form : Form) (begun : List ℕ) (played : Played A) (ending : List ℕ) (steps : List (Step A)) (count : ℕ) (first last : Option (List ℕ)) (waiting : List ℕ)
    → HasPassed form begun played steps count first last waiting → AppendsPart first last (begun ++ said form played ++ ending)
run_unended form begun played ending steps count first last waiting p =
    (waiting ++ ending, held_left form begun played ending first last waiting (waiting ++ ending) p.leaves refl)

-- a prefix of what is printed is a prefix of that with an ending
pub part_of : (first last : Option (List ℕ)) (begun text ending : List ℕ) → AppendsPart first last (begun ++ text) → AppendsPart first last (begun ++ text ++ ending)
part_of first last begun text ending k =
    (k.0 ++ ending, (k.1.0, k.1.1, sym (append_assoc k.1.0 k.0 ending) ∙ ap (λ r. r ++ ending) k.1.2))

-- what waited before a line that wasn't played was
pub run_stopped : (first mid last : Option (List ℕ)) (waiting all : List ℕ) → WaitsPart first mid waiting all → Appends mid last waiting → AppendsPart first last all
run_stopped first mid last waiting all w rest = rest_cut first mid last waiting all w ([], (waiting, rest, append-nil waiting))

-- nothing of it was
pub run_left : (first last : Option (List ℕ)) (waiting all : List ℕ) → WaitsPart first last waiting all → AppendsPart first last all
run_left first last waiting all w = (waiting ++ w.0, w.1)

-- a run without a beginning or an ending
pub run_alone : {A : Type 0} (begun : List ℕ) (played : Played A) (ending : List ℕ) (steps : List (Step A)) (count : ℕ) (first last : Option (List ℕ)) → begun ≡ [] → ending ≡ []
    → HasPrinted Whole begun played ending steps count first last → HasRun played steps count first last
run_alone begun played ending steps count first last none nothing p =
    record { past = p.past; refusals = p.refusals; text = subst (λ (all : List ℕ). Appends first last all) (alone begun played.text ending none nothing) p.text }

-- so of what was replayed
pub played_alone : {A X E : Type 0} (r : Result X E) (begun : List ℕ) (played : Played A) (ending : List ℕ) (steps : X → List (Step A)) (count : X → ℕ) (first last : Option (List ℕ)) → begun ≡ [] → ending ≡ []
    → IfOk r (λ x. HasPrinted Whole begun played ending (steps x) (count x) first last) → IfOk r (λ x. HasRun played (steps x) (count x) first last)
played_alone (Ok x) begun played ending steps count first last none nothing p = run_alone begun played ending (steps x) (count x) first last none nothing p
played_alone (Err e) begun played ending steps count first last none nothing p = tt

pub part_alone : {X E : Type 0} (r : Result X E) (begun text ending : List ℕ) (first last : Option (List ℕ)) → begun ≡ [] → ending ≡ [] → OnErr r (AppendsPart first last (begun ++ text ++ ending))
    → OnErr r (AppendsPart first last text)
part_alone (Ok x) begun text ending first last none nothing part = tt
part_alone (Err e) begun text ending first last none nothing part = subst (λ (all : List ℕ). AppendsPart first last all) (alone begun text ending none nothing) part
