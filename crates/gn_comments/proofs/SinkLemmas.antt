-- A text with comments, as it is written.
use Rattle.std.proofs.Common.{◌≡◌, ◌⊎◌, ◌≤◌, ◌<◌, ◌+◌, ◌-◌, ◌∙◌, ◌++◌, [], ℕ, Bool, true, false, List, Option, None, Some, Result, Ok, Err, ap, refl, sym, subst, arith, append_assoc, append-nil, drop, drop-drop, drop_of_length-le, inl, inr, is_err, length, min, take, take-append-drop}
use Rattle.std.specs.Io.KnownBytes.{Appends, Keeps}
use Rattle.std.proofs.lemmas.Grind.{common_steps}
use Rattle.gn_io.proofs.StreamLemmas.{from_is}
use Rattle.gn_io.specs.declared.fault.IoFault.{IoFault}
use Rattle.gn_io.specs.Counts.{counted, last_count}
use Rattle.gn_io.specs.Streams.{HasWriteFailed, SinkState}
use Rattle.gn_comments.specs.Comments.{bare, place_behind}
use Rattle.gn_comments.specs.Comments.Place.{start}
use Rattle.gn_comments.specs.Sinks.{HasWrittenBoth, grown, has_stalled, known_by, without_comments}
use Rattle.gn_comments.proofs.CommentLemmas.{bare_of_both, place_of_both}

-- what waits once all was written
pub none_waits : (comments : List ℕ) (done : ℕ) → done ≡ length comments → drop done comments ≡ []
none_waits comments done all = drop_of_length-le comments (omega (arith, all))

pub with_none : (both comments : List ℕ) (done : ℕ) → done ≡ length comments → both ++ drop done comments ≡ both
with_none both comments done all = ap (λ waiting. both ++ waiting) (none_waits comments done all) ∙ append-nil both

-- comments were asked for or not
abbrev pub Asked : Bool → List ℕ → List ℕ → ℕ → ℕ → Type 0
Asked begins old new done done_new = ((new ≡ old) × (done_new ≡ done)) ⊎ ((begins ≡ true) × (done ≡ length old) × (done_new ≡ 0))

pub asked_within : (begins : Bool) (old new : List ℕ) (done done_new : ℕ) → Asked begins old new done done_new → done ≤ length old → done_new ≤ length new
asked_within begins old new done done_new (inl (same, still)) within = omega (arith, ap (λ xs. length xs) same, still, within)
asked_within begins old new done done_new (inr (is, all, zero)) within = omega (arith, zero)

pub asked_place : (begins : Bool) (text both old new : List ℕ) (done done_new : ℕ) → Asked begins old new done done_new → (begins ≡ true → place_behind start text ≡ start)
    → place_behind start (both ++ drop done old) ≡ place_behind start text → place_behind start new ≡ start
    → place_behind start (both ++ drop done_new new) ≡ place_behind start text
asked_place begins text both old new done done_new (inl (same, still)) line place whole =
    ap (λ n. place_behind start (both ++ drop n new)) still ∙ (ap (λ xs. place_behind start (both ++ drop done xs)) same ∙ place)
asked_place begins text both old new done done_new (inr (is, all, zero)) line place whole =
    let at : place_behind start both ≡ place_behind start text = sym (ap (λ xs. place_behind start xs) (with_none both old done all)) ∙ place in
    ap (λ n. place_behind start (both ++ drop n new)) zero
    ∙ (place_of_both start both new ∙ (ap (λ place. place_behind place new) (at ∙ line is) ∙ (whole ∙ sym (line is))))

pub asked_bare : (begins : Bool) (text both old new : List ℕ) (done done_new : ℕ) → Asked begins old new done done_new → (begins ≡ true → place_behind start text ≡ start)
    → place_behind start (both ++ drop done old) ≡ place_behind start text → bare start (both ++ drop done old) ≡ bare start text → bare start new ≡ []
    → bare start (both ++ drop done_new new) ≡ bare start text
asked_bare begins text both old new done done_new (inl (same, still)) line place left none =
    ap (λ n. bare start (both ++ drop n new)) still ∙ (ap (λ xs. bare start (both ++ drop done xs)) same ∙ left)
asked_bare begins text both old new done done_new (inr (is, all, zero)) line place left none =
    let at : place_behind start both ≡ place_behind start text = sym (ap (λ xs. place_behind start xs) (with_none both old done all)) ∙ place in
    let same : bare start both ≡ bare start text = sym (ap (λ xs. bare start xs) (with_none both old done all)) ∙ left in
    ap (λ n. bare start (both ++ drop n new)) zero
    ∙ (bare_of_both start both new
    ∙ (ap (λ place. bare start both ++ bare place new) (at ∙ line is) ∙ (ap (λ more. bare start both ++ more) none ∙ (append-nil (bare start both) ∙ same))))

-- what waits goes over to what was written
pub moved : (both comments more waiting : List ℕ) (done count : ℕ) → waiting ≡ take (length comments - done) (drop done comments) → more ≡ both ++ take count waiting
    → more ++ drop (done + count) comments ≡ both ++ drop done comments
moved both comments more waiting done count is e =
    let all : waiting ≡ drop done comments = is ∙ from_is comments done in
    let left : drop (done + count) comments ≡ drop count waiting = sym (drop-drop count done comments) ∙ ap (λ xs. drop count xs) (sym all) in
    ap (λ more. more ++ drop (done + count) comments) e
    ∙ (append_assoc both (take count waiting) (drop (done + count) comments)
    ∙ (ap (λ rest. both ++ (take count waiting ++ rest)) left ∙ (ap (λ xs. both ++ xs) (take-append-drop count waiting) ∙ ap (λ xs. both ++ xs) all)))

-- so many bytes of those that wait are so many more of all
pub waiting_within : (comments waiting : List ℕ) (done count : ℕ) → waiting ≡ take (length comments - done) (drop done comments) → done ≤ length comments → count ≤ length waiting
    → done + count ≤ length comments
waiting_within comments waiting done count is within few =
    let all : length waiting ≡ length (drop done comments) = ap (λ xs. length xs) (is ∙ from_is comments done) in grind (arith, common_steps)

pub waiting_all : (comments waiting : List ℕ) (done count : ℕ) → waiting ≡ take (length comments - done) (drop done comments) → done ≤ length comments → count ≡ length waiting
    → done + count ≡ length comments
waiting_all comments waiting done count is within few =
    let all : length waiting ≡ length (drop done comments) = ap (λ xs. length xs) (is ∙ from_is comments done) in grind (arith, common_steps)

-- known bytes that grew, and grow on
pub grown_more : (begun now new : Option (List ℕ)) (both more all : List ℕ) → known_by begun now ≡ grown begun both → Appends now new more → all ≡ both ++ more → known_by begun new ≡ grown begun all
grown_more None now new both more all e h is = refl
grown_more (Some xs) None new both more all e h is = cc
grown_more (Some xs) (Some ys) None both more all e h is = absurd h
grown_more (Some xs) (Some ys) (Some zs) both more all e h is = let s = append_assoc xs both more in cc

pub grown_kept : (begun now new : Option (List ℕ)) (both : List ℕ) → known_by begun now ≡ grown begun both → Keeps now new → known_by begun new ≡ grown begun both
grown_kept None now new both e h = refl
grown_kept (Some xs) None new both e h = cc
grown_kept (Some xs) (Some ys) None both e h = absurd h
grown_kept (Some xs) (Some ys) (Some zs) both e h = cc

pub grown_appends : (begun now : Option (List ℕ)) (both : List ℕ) → known_by begun now ≡ grown begun both → Appends begun now both
grown_appends None now both e = _
grown_appends (Some xs) None both e = cc
grown_appends (Some xs) (Some ys) both e = cc

-- a count never falls, where it isn't beyond its last value
pub counted_on : (happened : Bool) (first now new : ℕ) → min first last_count ≤ now → new ≡ counted happened now → min first last_count ≤ new
counted_on true first now new h e = grind (arith, common_steps)
counted_on false first now new h e = omega (arith, h, e)

-- a failure is seen by a count
pub rises : (first now new : ℕ) → min first last_count ≤ now → new ≡ counted true now → (first + 0 < new) ⊎ (last_count ≤ new)
rises first now new h e = grind (arith, common_steps)

-- all was written, unless a write failed
pub all_written : (begun now new : SinkState) (result : Result Bool IoFault) (reached all : ℕ) → min begun.failures last_count ≤ now.failures → min begun.stalls last_count ≤ now.stalls
    → new.failures ≡ counted (is_err result) now.failures → new.stalls ≡ counted (has_stalled result) now.stalls
    → (result ≡ Ok true → reached ≡ all) → (HasWriteFailed begun new → ⊥) → reached ≡ all
all_written begun now new (Ok true) reached all f s fails stalls is none = is refl
all_written begun now new (Ok false) reached all f s fails stalls is none = absurd (none (inr (rises begun.stalls now.stalls new.stalls s stalls)))
all_written begun now new (Err fault) reached all f s fails stalls is none = absurd (none (inl (rises begun.failures now.failures new.failures f fails)))

-- more of a text was written, where no comments wait
pub place_on : (text both text_new both_new comments more : List ℕ) (done : ℕ) → done ≡ length comments → place_behind start (both ++ drop done comments) ≡ place_behind start text
    → text_new ≡ text ++ more → both_new ≡ both ++ more → place_behind start (both_new ++ drop done comments) ≡ place_behind start text_new
place_on text both text_new both_new comments more done all place e₁ e₂ =
    let at : place_behind start both ≡ place_behind start text = sym (ap (λ xs. place_behind start xs) (with_none both comments done all)) ∙ place in
    ap (λ xs. place_behind start xs) (with_none both_new comments done all ∙ e₂)
    ∙ (place_of_both start both more ∙ (ap (λ place. place_behind place more) at ∙ (sym (place_of_both start text more) ∙ ap (λ xs. place_behind start xs) (sym e₁))))

pub bare_on : (text both text_new both_new comments more : List ℕ) (done : ℕ) → done ≡ length comments → place_behind start (both ++ drop done comments) ≡ place_behind start text
    → bare start (both ++ drop done comments) ≡ bare start text → text_new ≡ text ++ more → both_new ≡ both ++ more
    → bare start (both_new ++ drop done comments) ≡ bare start text_new
bare_on text both text_new both_new comments more done all place left e₁ e₂ =
    let at : place_behind start both ≡ place_behind start text = sym (ap (λ xs. place_behind start xs) (with_none both comments done all)) ∙ place in
    let same : bare start both ≡ bare start text = sym (ap (λ xs. bare start xs) (with_none both comments done all)) ∙ left in
    ap (λ xs. bare start xs) (with_none both_new comments done all ∙ e₂)
    ∙ (bare_of_both start both more
    ∙ (ap (λ first. first ++ bare (place_behind start both) more) same
    ∙ (ap (λ place. bare start text ++ bare place more) at ∙ (sym (bare_of_both start text more) ∙ ap (λ xs. bare start xs) (sym e₁)))))

-- what was written of both in the end
pub written_both : (begun now : SinkState) (text both comments : List ℕ) (done : ℕ) → bare start (both ++ drop done comments) ≡ bare start text
    → known_by begun.written now.written ≡ grown begun.written both → ((HasWriteFailed begun now → ⊥) → done ≡ length comments) → HasWrittenBoth begun now text
written_both begun now text both comments done same written whole =
    let appends = grown_appends begun.written now.written both written in
    record {
      both = both ++ drop done comments;
      same = same;
      part = (drop done comments, (both, appends, refl));
      whole = λ none. subst (λ all. Appends begun.written now.written all) (sym (with_none both comments done (whole none))) appends;
    }

-- a sink to which nothing was written
grown_none : (known : Option (List ℕ)) → grown known [] ≡ known
grown_none None = refl
grown_none (Some xs) = ap Some (append-nil xs)

appends_none : (known : Option (List ℕ)) → Appends known known []
appends_none None = _
appends_none (Some xs) = sym (append-nil xs)

pub nothing_said : (sink : SinkState) → without_comments sink sink [] ≡ sink
nothing_said sink = ap (λ (known : Option (List ℕ)). record sink { written = known }) (grown_none sink.written)

pub nothing_both : (sink : SinkState) → HasWrittenBoth sink sink []
nothing_both sink =
    record {
      both = [];
      same = refl;
      part = ([], ([], appends_none sink.written, refl));
      whole = λ none. appends_none sink.written;
    }
