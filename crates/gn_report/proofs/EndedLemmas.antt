-- What is known of a link that has ended stands in each longer history.
use Rattle.std.proofs.Common.{◌≡◌, ◌==◌, ◌||◌, ℕ, Bool, true, List, ◌++◌, length, take, reverse, Option, Some, None, sym, ap, ◌∙◌, subst, arith}
use mathlib.Core.List.{IsPrefix}
use Rattle.std.specs.List.{list_any}
use Rattle.std.proofs.lemmas.List.{length-append, take-append-le}
use Rattle.std.proofs.lemmas.List.Folds.{list_any-append}
use Rattle.gn_rules.specs.declared.receipt.Step.{Step}
use Rattle.gn_rules.specs.Flight.{flying}
use Rattle.gn_rules.specs.History.{is_close}
use Rattle.gn_report.specs.declared.account.LinkAccount.{LinkAccount}
use Rattle.gn_report.specs.BodyEnds.{is_closed}
use Rattle.gn_report.specs.Ended.{IsIdleAfter, IsLinkEnded, LinkViews}

-- who closed a connection did so in each longer history
closed_longer : {A : Type 0} (seen steps : List (Step A)) (c : ℕ) → IsPrefix seen steps → is_closed seen c ≡ true → is_closed steps c ≡ true
closed_longer {A} seen steps c begun closed =
    let closes : Step A → Bool = λ step. is_close c step.event in
    ap (list_any closes) (sym begun.1) ∙ list_any-append closes seen begun.0 ∙ ap (λ b. b || list_any closes begun.0) closed

-- nothing was in flight after the first steps of each longer history
idle_longer : {A : Type 0} (seen steps : List (Step A)) (idle : Option ℕ) → IsPrefix seen steps → IsIdleAfter seen idle → IsIdleAfter steps idle
idle_longer seen steps None begun is = tt
idle_longer {A} seen steps (Some at) begun is =
    let low = is.0 in
    let same : take at (seen ++ begun.0) ≡ take at seen = take-append-le at seen begun.0 low in
    subst (λ (more : List (Step A)). IsIdleAfter more (Some at)) begun.1
    (omega (arith, low, length-append seen begun.0), subst (λ (first : List (Step A)). (length (flying (reverse first)) == 0) ≡ true) (sym same) is.1)

-- what is known of a link by the steps that were seen is known by all of them
pub ended_longer : {Rd W A O : Type 0} (turns batch : ℕ) (views : LinkViews Rd W O) (seen steps : List (Step A)) (link : LinkAccount Rd W A) → IsPrefix seen steps
    → IsLinkEnded turns batch views seen link → IsLinkEnded turns batch views steps link
ended_longer turns batch views seen steps link begun is = record {
  read = is.read;
  known = is.known;
  own = is.own;
  failed = is.failed;
  wrote = is.wrote;
  finished = is.finished;
  one = is.one;
  found = is.found;
  did = is.did;
  idle = idle_longer seen steps link.idle begun is.idle;
  same = is.same;
  closed = λ must c conn. closed_longer seen steps c begun (is.closed must c conn);
  first = is.first;
}
