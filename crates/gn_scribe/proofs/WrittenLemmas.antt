-- Steps that a scribe took and wrote, and more after them.
use Rattle.std.proofs.Common.{◌≡◌, ◌∙◌, ◌+◌, ◌↔◌, ◌<◌, ℕ, Bool, true, List, [], ◌∷◌, ◌++◌, length, refl, sym, ap, subst, arith, append-nil, append_assoc, length-append}
use Rattle.std.proofs.lemmas.Grind.{flat_map-append}
use Rattle.std.proofs.lemmas.List.{nil_from_length}
use Rattle.std.specs.Io.KnownBytes.{Appends}
use Rattle.rtrb.specs.Ring.{SameConsumer, known_items, received}
use Rattle.rtrb.specs.declared.consumer.Consumer.{Consumer}
use Rattle.gn_rules.specs.declared.receipt.Step.{Step}
use Rattle.gn_text.specs.Steps.{step_text}
use Rattle.gn_capture.specs.Histories.{steps_text}
use Rattle.gn_io.specs.Parts.{AppendsPart, LeavesToWrite, block_size}
use Rattle.gn_io.specs.Streams.{NoWriteFailed, SinkState}
use Rattle.gn_io.proofs.StreamLemmas.{leaves_all}
use Rattle.gn_scribe.specs.declared.scribe.Scribe.{Scribe}
use Rattle.std.specs.Prelude.{◌≢◌}
use Rattle.gn_scribe.specs.Written.{HasBroken, HasWritten}
use Rattle.gn_printed.proofs.PrintLemmas.{more_cut, more_left}

module _ {A : Type 0} where
  pub same_then : {P : Type 0} (a b c : Consumer (Step A) A P) → SameConsumer a b → SameConsumer b c → SameConsumer a c
  same_then a b c h k = ((k.0.0 ∙ h.0.0, k.0.1 ∙ h.0.1, k.0.2 ∙ h.0.2, k.0.3 ∙ h.0.3), k.1 ∙ h.1)

  -- whether there is a step, of the same steps
  pub begun_same : (a b : Bool) (xs ys : List (Step A)) → b ≡ a → ys ≡ xs → (a ≡ true) ↔ (xs ≢ []) → (b ≡ true) ↔ (ys ≢ [])
  begun_same a b xs ys is same knows = subst (λ x. (x ≡ true) ↔ (ys ≢ [])) (sym is) (subst (λ (r : List (Step A)). (a ≡ true) ↔ (r ≢ [])) (sym same) knows)

  -- one step more is a step
  begun_more : (b : Bool) (xs ys : List (Step A)) (x : Step A) → b ≡ true → ys ≡ xs ++ x ∷ [] → (b ≡ true) ↔ (ys ≢ [])
  begun_more b xs ys x is more = ((λ _ none. omega (arith, ap length (sym more ∙ none), length-append xs (x ∷ []))), (λ _. is))

  -- a scribe has looked into the ring, and taken and written nothing
  pub only_looked : (s0 s1 : Scribe A) (k : SinkState) → SameConsumer s0.steps s1.steps → received s1.steps ≡ received s0.steps → s1.block ≡ s0.block → s1.is_begun ≡ s0.is_begun → HasWritten s0 s1 k k
  only_looked s0 s1 k same taken block begun = record {
    same = same;
    steps = [];
    taken = taken ∙ sym (append-nil (received s0.steps));
    left = subst (λ (all : List ℕ). LeavesToWrite k.written k.written s1.block all) (block ∙ sym (append-nil s0.block)) (leaves_all k.written s1.block);
    small = λ less. subst (λ (b : List ℕ). length b < block_size) (sym block) less;
    unfailed = (refl, refl);
    begun = begun_same s0.is_begun s1.is_begun (received s0.steps) (received s1.steps) begun taken;
  }

  same_self : {P : Type 0} (c : Consumer (Step A) A P) → SameConsumer c c
  same_self c = ((refl, refl, refl, refl), refl)

  pub written_none : (s : Scribe A) (k : SinkState) → HasWritten s s k k
  written_none s k = only_looked s s k (same_self s.steps) refl refl refl

  -- the text of some steps and of others after them
  both_texts : (waited : List ℕ) (steps more : List (Step A)) → (waited ++ steps_text steps) ++ steps_text more ≡ waited ++ steps_text (steps ++ more)
  both_texts waited steps more = append_assoc waited (steps_text steps) (steps_text more) ∙ ap (λ r. waited ++ r) (sym (flat_map-append step_text steps more))

  -- all that waited was written
  pub waiting_written : (s0 s1 : Scribe A) (k0 k1 : SinkState) → s1.steps ≡ s0.steps → s1.block ≡ [] → s1.is_begun ≡ s0.is_begun → Appends k0.written k1.written s0.block → NoWriteFailed k0 k1 → HasWritten s0 s1 k0 k1
  waiting_written s0 s1 k0 k1 steps block begun all unfailed = record {
    same = subst (λ (c : Consumer (Step A) A _). SameConsumer s0.steps c) (sym steps) (same_self s0.steps);
    steps = [];
    taken = ap (λ c. received c) steps ∙ sym (append-nil (received s0.steps));
    left = (s0.block, all, ap (λ r. s0.block ++ r) block);
    small = λ _. subst (λ (b : List ℕ). length b < block_size) (sym block) (omega (arith));
    unfailed = unfailed;
    begun = begun_same s0.is_begun s1.is_begun (received s0.steps) (received s1.steps) begun (ap (λ c. received c) steps);
  }

  -- only a prefix of what waited was
  pub waiting_broken : (s0 s1 : Scribe A) (k0 k1 : SinkState) → s1.steps ≡ s0.steps → AppendsPart k0.written k1.written s0.block → HasBroken s0 s1 k0 k1
  waiting_broken s0 s1 k0 k1 steps part = record {
    same = subst (λ (c : Consumer (Step A) A _). SameConsumer s0.steps c) (sym steps) (same_self s0.steps);
    steps = [];
    taken = ap (λ c. received c) steps ∙ sym (append-nil (received s0.steps));
    part = subst (λ (all : List ℕ). AppendsPart k0.written k1.written all) (sym (append-nil s0.block)) part;
  }

  module _ (s0 s1 s2 : Scribe A) (k0 k1 k2 : SinkState) (so_far : HasWritten s0 s1 k0 k1) where
    taken_on : (more : List (Step A)) → received s2.steps ≡ received s1.steps ++ more → received s2.steps ≡ received s0.steps ++ (so_far.steps ++ more)
    taken_on more taken = taken ∙ (ap (λ r. r ++ more) so_far.taken ∙ append_assoc (received s0.steps) so_far.steps more)

    -- more was written
    pub written_more : HasWritten s1 s2 k1 k2 → HasWritten s0 s2 k0 k2
    written_more more = record {
      same = same_then s0.steps s1.steps s2.steps so_far.same more.same;
      steps = so_far.steps ++ more.steps;
      taken = taken_on more.steps more.taken;
      left = subst (λ (all : List ℕ). LeavesToWrite k0.written k2.written s2.block all) (both_texts s0.block so_far.steps more.steps)
          (more_left k0.written k1.written k2.written s1.block s2.block (steps_text more.steps) (s0.block ++ steps_text so_far.steps) so_far.left more.left);
      small = λ less. more.small (so_far.small less);
      unfailed = (more.unfailed.0 ∙ so_far.unfailed.0, more.unfailed.1 ∙ so_far.unfailed.1);
      begun = λ knows. more.begun (so_far.begun knows);
    }

    -- only a prefix of more was
    pub broken_after : HasBroken s1 s2 k1 k2 → HasBroken s0 s2 k0 k2
    broken_after more = record {
      same = same_then s0.steps s1.steps s2.steps so_far.same more.same;
      steps = so_far.steps ++ more.steps;
      taken = taken_on more.steps more.taken;
      part = more_cut k0.written k1.written k2.written s1.block (steps_text more.steps) [] (s0.block ++ steps_text so_far.steps) (s0.block ++ steps_text (so_far.steps ++ more.steps)) so_far.left
          more.part (append-nil _ ∙ both_texts s0.block so_far.steps more.steps);
    }

  -- a step was taken, and its line written
  module _ (s0 s1 s2 : Scribe A) (k0 k1 : SinkState) (x : Step A) (same : SameConsumer s0.steps s1.steps) (taken : received s1.steps ≡ received s0.steps ++ x ∷ [])
      (steps : s2.steps ≡ s1.steps) where
    line_text : s0.block ++ step_text x ≡ s0.block ++ steps_text (x ∷ [])
    line_text = ap (λ (r : List ℕ). s0.block ++ r) (sym (append-nil (step_text x)))

    same_ring : SameConsumer s0.steps s2.steps
    same_ring = subst (λ (c : Consumer (Step A) A _). SameConsumer s0.steps c) (sym steps) same

    pub line_written : LeavesToWrite k0.written k1.written s2.block (s0.block ++ step_text x) → length s2.block < block_size → NoWriteFailed k0 k1 → s2.is_begun ≡ true → HasWritten s0 s2 k0 k1
    line_written left small unfailed begun = record {
      same = same_ring;
      steps = x ∷ [];
      taken = ap (λ c. received c) steps ∙ taken;
      left = subst (λ (all : List ℕ). LeavesToWrite k0.written k1.written s2.block all) line_text left;
      small = λ _. small;
      unfailed = unfailed;
      begun = λ _. begun_more s2.is_begun (received s0.steps) (received s2.steps) x begun (ap (λ c. received c) steps ∙ taken);
    }

    -- or only a prefix of it
    pub line_cut : AppendsPart k0.written k1.written (s0.block ++ step_text x) → HasBroken s0 s2 k0 k1
    line_cut part = record {
      same = same_ring;
      steps = x ∷ [];
      taken = ap (λ c. received c) steps ∙ taken;
      part = subst (λ (all : List ℕ). AppendsPart k0.written k1.written all) line_text part;
    }

  -- i of the steps that had come were taken, and their lines written; what was taken and what has come stay all of them
  pub record IsWriting (s0 s1 : Scribe A) (k0 k1 : SinkState) (i : ℕ) : Type 0 where
    pub so_far : HasWritten s0 s1 k0 k1
    pub ahead : known_items s0.steps ≡ so_far.steps ++ known_items s1.steps
    pub many : length so_far.steps ≡ i

  pub writing_none : (s : Scribe A) (k : SinkState) → IsWriting s s k k 0
  unfolding written_none only_looked
  writing_none s k = record { so_far = written_none s k; ahead = refl; many = refl }

  pub writing_more : (s0 s1 s2 : Scribe A) (k0 k1 k2 : SinkState) (i : ℕ) (x : Step A) → IsWriting s0 s1 k0 k1 i → (next : HasWritten s1 s2 k1 k2) → next.steps ≡ x ∷ []
      → known_items s1.steps ≡ x ∷ known_items s2.steps → IsWriting s0 s2 k0 k2 (i + 1)
  unfolding written_more
  writing_more s0 s1 s2 k0 k1 k2 i x h next one ahead = record {
    so_far = written_more s0 s1 s2 k0 k1 k2 h.so_far next;
    ahead =
        h.ahead
        ∙ (ap (λ r. h.so_far.steps ++ r) (ahead ∙ ap (λ (r : List (Step A)). r ++ known_items s2.steps) (sym one))
        ∙ sym (append_assoc h.so_far.steps next.steps (known_items s2.steps)));
    many = omega (arith, h.many, ap length one, length-append h.so_far.steps next.steps);
  }

  -- so where the next was taken, and its line written
  pub writing_next : (s0 s1 s2 s3 : Scribe A) (k0 k1 k2 : SinkState) (i : ℕ) (x : Step A) → IsWriting s0 s1 k0 k1 i → SameConsumer s1.steps s2.steps
      → received s2.steps ≡ received s1.steps ++ x ∷ [] → known_items s1.steps ≡ x ∷ known_items s2.steps → s3.steps ≡ s2.steps
      → LeavesToWrite k1.written k2.written s3.block (s1.block ++ step_text x) → length s3.block < block_size → NoWriteFailed k1 k2 → s3.is_begun ≡ true → IsWriting s0 s3 k0 k2 (i + 1)
  unfolding line_written
  writing_next s0 s1 s2 s3 k0 k1 k2 i x h same taken ahead steps left small unfailed begun =
      writing_more s0 s1 s3 k0 k1 k2 i x h (line_written s1 s2 s3 k1 k2 x same taken steps left small unfailed begun) refl (ahead ∙ ap (λ c. x ∷ known_items c) (sym steps))

  -- a step is there where fewer were taken than had come
  pub one_ahead : (s0 s1 : Scribe A) (k0 k1 : SinkState) (i : ℕ) → IsWriting s0 s1 k0 k1 i → i < length (known_items s0.steps) → 0 < length (known_items s1.steps)
  one_ahead s0 s1 k0 k1 i h less = omega (arith, less, h.many, ap length h.ahead, length-append h.so_far.steps (known_items s1.steps))

  -- all that had come were taken
  pub none_ahead : (s0 s1 : Scribe A) (k0 k1 : SinkState) (i : ℕ) → IsWriting s0 s1 k0 k1 i → i ≡ length (known_items s0.steps) → known_items s1.steps ≡ []
  none_ahead s0 s1 k0 k1 i h all = nil_from_length (known_items s1.steps) (omega (arith, all, h.many, ap length h.ahead, length-append h.so_far.steps (known_items s1.steps)))

  -- what was taken and what has come is what it was
  pub stays_ahead : (s0 s1 : Scribe A) (k0 k1 : SinkState) (i : ℕ) → IsWriting s0 s1 k0 k1 i → received s1.steps ++ known_items s1.steps ≡ received s0.steps ++ known_items s0.steps
  stays_ahead s0 s1 k0 k1 i h =
      ap (λ r. r ++ known_items s1.steps) h.so_far.taken
      ∙ (append_assoc (received s0.steps) h.so_far.steps (known_items s1.steps) ∙ ap (λ r. received s0.steps ++ r) (sym h.ahead))

  -- so after one more was taken
  pub one_taken : {P : Type 0} (c0 c1 c2 : Consumer (Step A) A P) (x : Step A) → received c1 ++ known_items c1 ≡ received c0 ++ known_items c0 → received c2 ≡ received c1 ++ x ∷ []
      → known_items c1 ≡ x ∷ known_items c2 → received c2 ++ known_items c2 ≡ received c0 ++ known_items c0
  one_taken c0 c1 c2 x all taken ahead =
      ap (λ r. r ++ known_items c2) taken ∙ (append_assoc (received c1) (x ∷ []) (known_items c2) ∙ (ap (λ r. received c1 ++ r) (sym ahead) ∙ all))
