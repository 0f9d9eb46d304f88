-- A scribe that ends.
use Rattle.std.proofs.Common.{◌≡◌, ◌∙◌, ◌<◌, ℕ, List, [], ◌++◌, length, Result, Ok, Err, ap, append-nil, append_assoc, refl, subst, sym}
use Rattle.std.specs.Prelude.{⊤}
use Rattle.std.specs.Result.{IsErrAnd}
use Rattle.std.proofs.lemmas.Grind.{flat_map-append}
use Rattle.rtrb.specs.Ring.{SameConsumer, known_items, received}
use Rattle.gn_rules.specs.declared.receipt.Step.{Step}
use Rattle.gn_text.specs.Steps.{step_text}
use Rattle.gn_capture.specs.Histories.{steps_text}
use Rattle.gn_io.specs.Parts.{AppendsPart, LeavesToWrite, block_size}
use Rattle.gn_io.specs.Streams.{SinkState}
use Rattle.gn_printed.specs.declared.ending.Waiting.{Waiting}
use Rattle.gn_printed.specs.declared.printed.PrintFault.{PrintFault}
use Rattle.gn_scribe.specs.declared.scribe.Scribe.{Scribe}
use Rattle.gn_printed.specs.Printed.{IsPrintFault}
use Rattle.gn_scribe.specs.Written.{HasBroken, HasEnded, HasFollowed, HasJournalled, HasWritten}
use Rattle.gn_printed.proofs.PrintLemmas.{cause_after, more_cut, more_left, part_of}
use Rattle.gn_scribe.proofs.WrittenLemmas.{begun_same, broken_after, only_looked, written_more}

module _ {A : Type 0} where
  -- the text of some steps and of others after them
  both : (waited : List ℕ) (steps more : List (Step A)) → (waited ++ steps_text steps) ++ steps_text more ≡ waited ++ steps_text (steps ++ more)
  both waited steps more = append_assoc waited (steps_text steps) (steps_text more) ∙ ap (λ r. waited ++ r) (sym (flat_map-append step_text steps more))

  -- steps that were taken, and others after them
  taken_and : (first taken all steps more : List (Step A)) → taken ≡ first ++ steps → all ≡ taken ++ more → all ≡ first ++ (steps ++ more)
  taken_and first taken all steps more h k = k ∙ (ap (λ r. r ++ more) h ∙ append_assoc first steps more)

  -- a scribe that looked into its ring, and has all of these steps taken or before it
  pub record HasLooked (s0 s1 : Scribe A) (steps : List (Step A)) : Type 0 where
    pub same : SameConsumer s0.steps s1.steps
    pub taken : received s1.steps ≡ received s0.steps
    pub block : s1.block ≡ s0.block
    pub begun : s1.is_begun ≡ s0.is_begun
    pub all : received s1.steps ++ known_items s1.steps ≡ steps

  module _ (s0 s1 : Scribe A) (steps : List (Step A)) (looked : HasLooked s0 s1 steps) where
    all_of : steps ≡ received s0.steps ++ known_items s1.steps
    all_of = sym looked.all ∙ ap (λ r. r ++ known_items s1.steps) looked.taken

    -- nothing was written any more
    pub stayed : (k : SinkState) (before : Result ⊤ PrintFault) (first : PrintFault) → before ≡ Err first → HasEnded s0 steps k k before (Err first)
    stayed k before first is =
        subst (λ r. HasEnded s0 steps k k r (Err first)) (sym is) (record { more = known_items s1.steps; all = all_of; same = refl; reason = refl })

    module _ (s2 : Scribe A) (k0 k1 : SinkState) (before : Result ⊤ PrintFault) (x : ⊤) (could : before ≡ Ok x) where
      -- all were written, and this waits
      pub ended_all : (waiting : Waiting A) → HasWritten s1 s2 k0 k1 → known_items s2.steps ≡ [] → received s2.steps ++ known_items s2.steps ≡ received s1.steps ++ known_items s1.steps
          → waiting.block ≡ s2.block → waiting.is_begun ≡ s2.is_begun → HasEnded s0 steps k0 k1 before (Ok waiting)
      ended_all waiting h none ahead block begun =
          let all : steps ≡ received s2.steps = sym looked.all ∙ (sym ahead ∙ (ap (λ r. received s2.steps ++ r) none ∙ append-nil (received s2.steps))) in
          let so_far = written_more s0 s1 s2 k0 k0 k1 (only_looked s0 s1 k0 looked.same looked.taken looked.block looked.begun) h in
          subst (λ r. HasEnded s0 steps k0 k1 r (Ok waiting)) (sym could) (record {
            more = so_far.steps;
            all = all ∙ so_far.taken;
            left = subst (λ (b : List ℕ). LeavesToWrite k0.written k1.written b (s0.block ++ steps_text so_far.steps)) (sym block) so_far.left;
            small = λ less. subst (λ (b : List ℕ). length b < block_size) (sym block) (so_far.small less);
            unfailed = so_far.unfailed;
            begun = λ knows. begun_same s2.is_begun waiting.is_begun (received s2.steps) steps begun all (so_far.begun knows);
          })

      -- only a prefix was
      pub ended_cut : (fault : PrintFault) → HasBroken s1 s2 k0 k1 → received s2.steps ++ known_items s2.steps ≡ received s1.steps ++ known_items s1.steps → IsPrintFault fault k0 k1
          → HasEnded s0 steps k0 k1 before (Err fault)
      ended_cut fault h ahead cause =
          let so_far = broken_after s0 s1 s2 k0 k0 k1 (only_looked s0 s1 k0 looked.same looked.taken looked.block looked.begun) h in
          let rest = known_items s2.steps in
          subst (λ r. HasEnded s0 steps k0 k1 r (Err fault)) (sym could) (record {
            more = so_far.steps ++ rest;
            all = taken_and (received s0.steps) (received s2.steps) steps so_far.steps rest so_far.taken (sym looked.all ∙ sym ahead);
            part = part_of k0.written k1.written (s0.block ++ steps_text so_far.steps) (steps_text rest) (s0.block ++ steps_text (so_far.steps ++ rest)) so_far.part
                (both s0.block so_far.steps rest);
            cause = cause;
          })

  -- what is handed on at a fault
  pub handed_end : (s : Scribe A) (steps : List (Step A)) (k0 k1 : SinkState) (before : Result ⊤ PrintFault) (r : Result (Waiting A) PrintFault) (fault : PrintFault)
      → IsErrAnd r (λ e. e ≡ fault) → HasEnded s steps k0 k1 before (Err fault) → HasEnded s steps k0 k1 before r
  handed_end s steps k0 k1 before (Ok w) fault is h = absurd is
  handed_end s steps k0 k1 before (Err e) fault is h = subst (λ f. HasEnded s steps k0 k1 before (Err f)) (sym is) h

  -- so from a heading and no step on
  module _ (s0 s1 : Scribe A) (k0 k1 k2 : SinkState) (steps : List (Step A)) (none : received s0.steps ≡ []) where
    from_none : (some more : List (Step A)) → received s1.steps ≡ received s0.steps ++ some → steps ≡ received s1.steps ++ more → some ++ more ≡ steps
    from_none some more taken all = sym (taken_and (received s0.steps) (received s1.steps) steps some more taken all ∙ ap (λ r. r ++ (some ++ more)) none)

    text_of : (some more : List (Step A)) → received s1.steps ≡ received s0.steps ++ some → steps ≡ received s1.steps ++ more
        → (s0.block ++ steps_text some) ++ steps_text more ≡ s0.block ++ steps_text steps
    text_of some more taken all = both s0.block some more ∙ ap (λ (r : List (Step A)). s0.block ++ steps_text r) (from_none some more taken all)

    pub journalled : (written : Result ⊤ PrintFault) (waiting : Result (Waiting A) PrintFault) → HasFollowed s0 s1 k0 k1 written → HasEnded s1 steps k1 k2 written waiting
        → HasJournalled s0.block steps k0 k2 waiting
    journalled (Ok x) (Ok waiting) h e = (
      subst (λ (all : List ℕ). LeavesToWrite k0.written k2.written waiting.block all) (text_of h.steps e.more h.taken e.all)
          (more_left k0.written k1.written k2.written s1.block waiting.block (steps_text e.more) (s0.block ++ steps_text h.steps) h.left e.left),
      λ less. e.small (h.small less),
      (e.unfailed.0 ∙ h.unfailed.0, e.unfailed.1 ∙ h.unfailed.1),
    )
    journalled (Ok x) (Err fault) h e = (
      more_cut k0.written k1.written k2.written s1.block (steps_text e.more) [] (s0.block ++ steps_text h.steps) (s0.block ++ steps_text steps) h.left e.part
          (append-nil _ ∙ text_of h.steps e.more h.taken e.all),
      cause_after fault k0 k1 k2 h.unfailed e.cause,
    )
    journalled (Err first) (Ok waiting) h e = absurd e
    journalled (Err first) (Err fault) h e = (
      subst (λ (k : SinkState). AppendsPart k0.written k.written (s0.block ++ steps_text steps)) (sym e.same)
          (part_of k0.written k1.written (s0.block ++ steps_text h.0.steps) (steps_text e.more) (s0.block ++ steps_text steps) h.0.part (text_of h.0.steps e.more h.0.taken e.all)),
      subst (λ (k : SinkState). IsPrintFault fault k0 k) (sym e.same) (subst (λ f. IsPrintFault f k0 k1) (sym e.reason) h.1),
    )
