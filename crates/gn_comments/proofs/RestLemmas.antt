-- A text of which the first lines are left out.
use Rattle.std.proofs.Common.{◌≡◌, ◌∙◌, ◌++◌, [], ℕ, List, Option, None, Some, ap, append_assoc, append-nil, refl, sym}
use Rattle.gn_io.specs.Streams.{SinkState}
use Rattle.gn_comments.specs.Rests.{HasWrittenRest, with_all}
use Rattle.gn_comments.specs.Sinks.{grown, known_by}
use Rattle.gn_comments.proofs.SinkLemmas.{grown_appends, nothing_said}

-- more of the rest was written
pub rest_more : (text left rest text_new rest_new more : List ℕ) → text ≡ left ++ rest → text_new ≡ text ++ more → rest_new ≡ rest ++ more → text_new ≡ left ++ rest_new
rest_more text left rest text_new rest_new more parted e₁ e₂ =
    e₁ ∙ (ap (λ xs. xs ++ more) parted ∙ (append_assoc left rest more ∙ ap (λ xs. left ++ xs) (sym e₂)))

-- more was left out, as nothing of the rest was written yet
pub left_more : (text left rest text_new left_new more : List ℕ) → text ≡ left ++ rest → rest ≡ [] → text_new ≡ text ++ more → left_new ≡ left ++ more → text_new ≡ left_new ++ rest
left_more text left rest text_new left_new more parted none e₁ e₂ =
    let all : text ≡ left = parted ∙ (ap (λ xs. left ++ xs) none ∙ append-nil left) in
    e₁ ∙ (ap (λ xs. xs ++ more) all ∙ (sym e₂ ∙ (sym (append-nil left_new) ∙ ap (λ xs. left_new ++ xs) (sym none))))

-- what is known of a sink to which nothing was written
known_still : (known : Option (List ℕ)) → known_by known known ≡ grown known []
known_still None = refl
known_still (Some bytes) = ap Some (sym (append-nil bytes))

-- what was written in the end
pub written_rest : (begun now : SinkState) (text left rest : List ℕ) → text ≡ left ++ rest → known_by begun.written now.written ≡ grown begun.written rest → HasWrittenRest begun now text
written_rest begun now text left rest parted written = record {
  left = left;
  rest = rest;
  all = parted;
  written = grown_appends begun.written now.written rest written;
}

-- a sink to which nothing was written
pub nothing_left : (sink : SinkState) → with_all sink sink [] ≡ sink
nothing_left sink = nothing_said sink

pub nothing_rested : (sink : SinkState) → HasWrittenRest sink sink []
nothing_rested sink = written_rest sink sink [] [] [] refl (known_still sink.written)
