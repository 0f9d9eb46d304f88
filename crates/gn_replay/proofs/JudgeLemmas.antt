-- A router that is given the steps of a history again, one step more.
use Rattle.std.proofs.Common.{◌≡◌, ◌<◌, ◌+◌, ◌^◌, ◌++◌, ◌∙◌, ℕ, List, [], ◌∷◌, get_or, length, take, reverse, Some, Result, Ok, Err, refl, sym, ap, subst, arith, length-append}
use Rattle.std.specs.Prelude.{IsOk}
use Rattle.std.proofs.lemmas.List.{length-reverse, reverse-append}
use Rattle.std.proofs.lemmas.Option.{slice_get_read}
use Rattle.std.proofs.Math.Seq.{get_or-append_seam, take-append_seam}
use Rattle.gn_rules.specs.declared.config.Config.{Config}
use Rattle.gn_rules.specs.declared.receipt.Step.{Step}
use Rattle.gn_rules.specs.declared.refusal.Refusal.{Refusal}
use Rattle.gn_rules.specs.declared.reply.Reply.{Reply}
use Rattle.gn_rules.specs.Answer.{answer, IsLegal}
use Rattle.gn_rules.specs.Legality.{IsFirstWrong}
use Rattle.gn_rules.proofs.LegalLemmas.{legal_within}
use Rattle.gn_rules.proofs.PastLemmas.{past_more}
use Rattle.gn_text.specs.declared.fault.CaptureFault.{CaptureFault}
use Rattle.gn_text.specs.Parsed.{Numbered}
use Rattle.gn_capture.specs.Histories.{IsNextOf, map_result, steps_left}
use Rattle.gn_capture.proofs.StepsLemmas.{known, one_known}
use Rattle.gn_replay.specs.declared.judgement.Judgement.TheVariants.{WrongAt}
use Rattle.gn_replay.specs.declared.judgement.WrongStep.{WrongStep}
use Rattle.gn_replay.specs.Judgements.{IsAnsweredAt, IsFound}

-- steps stand before what is left, and with it they are all
abbrev pub IsLeftOf : {A : Type 0} → Result (List (Step A)) CaptureFault → Numbered → Type 0
IsLeftOf {A = A} all left = (head : List (Step A)) × (known head left ≡ all)

-- a router of these settings has made the steps before those that are left, so many, and they are legal
pub record IsRepeating {A : Type 0} (s now : Config) (made : List (Step A)) (left : Numbered) (all : Result (List (Step A)) CaptureFault) (i : ℕ) : Type 0 where
  pub same : now ≡ s
  pub known : known made left ≡ all
  pub legal : IsLegal s (reverse made)
  pub counted : i ≡ length made

-- a legal history has few steps
pub legal_few : {A : Type 0} (s : Config) (made : List (Step A)) → IsLegal s (reverse made) → length made < 2 ^ 32
legal_few s made legal =
    let most = s.within.steps.greatest in
    omega (arith, most, legal_within s (reverse made) legal, length-reverse made)

-- the history that was made, with one step more, as the rules are asked for it
one_more : {A : Type 0} (made : List (Step A)) (step : Step A) → reverse (made ++ step ∷ []) ≡ step ∷ reverse made
one_more made step = reverse-append made (step ∷ [])

-- a step is left
module _ {A : Type 0} (s now : Config) (made : List (Step A)) (old new : Numbered) (all : Result (List (Step A)) CaptureFault) (i : ℕ) (step : Step A)
    (next : IsNextOf (Ok (Some step)) (steps_left old) (steps_left new)) (so_far : IsRepeating s now made old all i) where
  -- what the router was asked is what the rules answer after the steps that were made
  asked : answer now (reverse made) step.event ≡ answer s (reverse made) step.event
  asked = rw so_far.same refl

  -- with it, all is still known
  grown_known : known (made ++ step ∷ []) new ≡ all
  grown_known = one_known made old new step next ∙ so_far.known

  -- its reply is the rules' answer, and the step was made
  pub repeating_more : (later : Config) (grown : List (Step A)) → answer now (reverse made) step.event ≡ Ok step.reply → later ≡ now → grown ≡ made ++ step ∷ []
      → IsRepeating s later grown new all (i + 1)
  repeating_more later grown answered same grew = record {
    same = same ∙ so_far.same;
    known = rw grew grown_known;
    legal = subst (λ (past : List (Step A)). IsLegal s past) (sym (ap reverse grew ∙ one_more made step)) (sym asked ∙ answered, so_far.legal);
    counted = omega (arith, so_far.counted, ap length grew, length-append made (step ∷ []));
  }

  -- it is what stands at the index, where the others that are left were read too
  module _ (more : List (Step A)) where
    abbrev whole : List (Step A)
    whole = made ++ step ∷ more

    before : take i whole ≡ made
    before = ap (λ n. take n whole) so_far.counted ∙ take-append_seam made (step ∷ more)

    all_read : steps_left new ≡ Ok more → all ≡ Ok whole
    all_read read = sym so_far.known ∙ ap (map_result (λ xs. made ++ xs)) (next ∙ ap (map_result (λ xs. step ∷ xs)) read)

    within : i < length whole
    within = omega (arith, length-append made (step ∷ more), so_far.counted)

    stands : step ≡ get_or whole i step
    stands = sym (ap (λ n. get_or whole n step) so_far.counted ∙ get_or-append_seam made step more step)

    answered_there : answer now (reverse made) step.event ≡ answer s (reverse (take i whole)) step.event
    answered_there = asked ∙ ap (λ xs. answer s (reverse xs) step.event) (sym before)

    is_answered : (rules : Result (Reply A) Refusal) → answer now (reverse made) step.event ≡ rules → IsAnsweredAt s whole i rules
    is_answered rules found = record {
      step = step;
      at = slice_get_read whole (length whole) i step refl within stands;
      answered = sym answered_there ∙ found;
    }

    is_wrong : (answer now (reverse made) step.event ≡ Ok step.reply → ⊥) → IsFirstWrong s whole i
    is_wrong other = record {
      within = within;
      before = subst (λ (xs : List (Step A)). IsLegal s (reverse xs)) (sym before) so_far.legal;
      wrong = λ legal. other (answered_there ∙ (subst (λ (past : List (Step A)). IsLegal s past) (past_more whole i step within stands) legal).0);
    }

  -- its reply isn't the rules' answer, and the steps left were read
  wrong_of : (left : Result (List (Step A)) CaptureFault) (wrong : WrongStep A) → wrong.index ≡ i → steps_left new ≡ left → IsOk left
      → answer now (reverse made) step.event ≡ wrong.rules → (answer now (reverse made) step.event ≡ Ok step.reply → ⊥) → IsFound s all (WrongAt wrong) i
  wrong_of (Err fault) wrong at is read found other = absurd (cc)
  wrong_of (Ok more) wrong at is read found other = record {
    steps = whole more;
    parsed = all_read more is;
    judged = subst (λ (n : ℕ). IsFirstWrong s (whole more) n × IsAnsweredAt s (whole more) n wrong.rules) (sym at) (is_wrong more other, is_answered more wrong.rules found);
    counted = λ legal. absurd (cc);
  }

  pub found_wrong : (wrong : WrongStep A) → wrong.index ≡ i → IsOk (steps_left {A = A} new) → answer now (reverse made) step.event ≡ wrong.rules
      → (answer now (reverse made) step.event ≡ Ok step.reply → ⊥) → IsFound s all (WrongAt wrong) i
  found_wrong wrong at read found other = wrong_of (steps_left new) wrong at refl read found other

-- one step fewer is left
pub rest_more : {A : Type 0} (all : Result (List (Step A)) CaptureFault) (old new : Numbered) (step : Step A) → IsLeftOf all old
    → IsNextOf (Ok (Some step)) (steps_left old) (steps_left new) → IsLeftOf all new
rest_more all old new step rest next = (rest.0 ++ step ∷ [], one_known rest.0 old new step next ∙ rest.1)
