-- What is found where the events of a history are answered again.
use Rattle.std.specs.Prelude.{◌≡◌, ◌+◌, ℕ, List, [], length, reverse, take, Some, IsOk, Result, Ok}
use Rattle.std.specs.List.{slice_get}
use Rattle.gn_rules.specs.declared.config.Config.{Config}
use Rattle.gn_rules.specs.declared.legality.Legality.{Legality}
use Rattle.gn_rules.specs.declared.legality.Legality.TheVariants as verdict
use Rattle.gn_rules.specs.declared.receipt.Step.{Step}
use Rattle.gn_rules.specs.declared.refusal.Refusal.{Refusal}
use Rattle.gn_rules.specs.declared.reply.Reply.{Reply}
use Rattle.gn_rules.specs.Answer.{answer, IsLegal}
use Rattle.gn_rules.specs.Legality.{IsFirstWrong}
use Rattle.gn_text.specs.declared.fault.CaptureFault.{CaptureFault}
use Rattle.gn_numbers.specs.declared.titles.Text.TheVariants.{History}
use Rattle.gn_text.specs.Faults.{IsRefused}
use Rattle.gn_text.specs.Header.{header_of}
use Rattle.gn_text.specs.Settings.{settings_of}
use Rattle.gn_capture.specs.Histories.{steps_left}
use Rattle.gn_stream.specs.declared.fault.StreamFault.{StreamFault}
use Rattle.gn_stream.specs.Left.{AreGone, Left, all_lines, numbered_left}
use Rattle.gn_stream.specs.Reading.{IsReadOf, Place}
use Rattle.gn_stream.specs.Steps.{AreRefused, history_left}
use Rattle.gn_replay.specs.Explained.{lines_before}
use Rattle.gn_replay.specs.declared.judgement.Judgement.{Judgement}
use Rattle.gn_replay.specs.declared.judgement.Judgement.TheVariants.{Legal, WrongAt}

-- what is found of a history, without the answer
abbrev pub legality_of : {A : Type 0} → Judgement A → Legality
legality_of Legal = verdict.Legal
legality_of (WrongAt wrong) = verdict.WrongAt wrong.index

-- the step at the index, and what the rules answer to its event after the steps before it
pub record IsAnsweredAt {A : Type 0} (s : Config) (steps : List (Step A)) (i : ℕ) (rules : Result (Reply A) Refusal)
    : Type 0 where
  pub step : Step A
  pub at : slice_get steps i ≡ Some step
  pub answered : answer s (reverse (take i steps)) step.event ≡ rules

-- a judgement is true: the steps are a legal history; or the step at the index is the first wrong one, and the rules
-- answer so to its event
abbrev pub IsTrueOf : {A : Type 0} → Config → List (Step A) → Judgement A → Type 0
IsTrueOf s steps Legal = IsLegal s (reverse steps)
IsTrueOf s steps (WrongAt wrong) = IsFirstWrong s steps wrong.index × IsAnsweredAt s steps wrong.index wrong.rules

-- what is left of a history says steps, and the judgement is true of them; where they are legal, there are so many
pub record IsFound {A : Type 0} (s : Config) (left : Result (List (Step A)) CaptureFault) (judgement : Judgement A) (count : ℕ) : Type 0 where
  pub steps : List (Step A)
  pub parsed : left ≡ Ok steps
  pub judged : IsTrueOf s steps judgement
  pub counted : judgement ≡ Legal → count ≡ length steps

-- a wrong step stands in this line, among those that aren't skipped
abbrev pub StandsIn : {A : Type 0} → List (ℕ × List ℕ) → Judgement A → Type 0
StandsIn lines Legal = Unit {0}
StandsIn lines (WrongAt wrong) = slice_get lines wrong.index ≡ Some (wrong.number, wrong.line.items)

-- the lines of steps are gone up to the end of a history, and this was found of them
pub record IsFoundIn {A : Type 0} (s : Config) (judgement : Judgement A) (count : ℕ) (old new : Left) : Type 0 where
  pub gone : AreGone old new
  pub none : new.lines ≡ []
  pub found : IsFound s (steps_left (numbered_left old)) judgement count
  pub stands : StandsIn (numbered_left old).lines judgement

-- the lines of steps are gone up to the end of a history
pub record ArePassed (A : Type 0) (old new : Left) : Type 0 where
  pub gone : AreGone old new
  pub none : new.lines ≡ []
  pub read : IsOk (steps_left {A = A} (numbered_left old))

abbrev pub IsPassedOf : (A : Type 0) → Result (Unit {0}) StreamFault → Place → Place → Type 0
IsPassedOf A result old new = IsReadOf (λ _. ArePassed A) (AreRefused A) result old new

abbrev pub IsFoundOf : {A : Type 0} → Config → Result (Judgement A × ℕ) StreamFault → Place → Place → Type 0
IsFoundOf {A} s result old new = IsReadOf (λ found. IsFoundIn s found.0 found.1) (AreRefused A) result old new

-- what is left of a history says the steps that a router made
abbrev pub SayMade : {A : Type 0} → List (Step A) → Left → Left → Type 0
SayMade steps old new = steps_left (numbered_left old) ≡ Ok steps

-- a wrong step stands in this line, among those of a text that aren't skipped
abbrev pub StandsAt : {A : Type 0} → List (ℕ × List ℕ) → Judgement A → Type 0
StandsAt lines Legal = Unit {0}
StandsAt lines (WrongAt wrong) = slice_get lines (lines_before + wrong.index) ≡ Some (wrong.number, wrong.line.items)

-- the lines of a text say a configuration and steps, and the judgement is true of them; where they are legal, there are so many
pub record IsJudgedOf (A : Type 0) (all : Left) (judgement : Judgement A) (count : ℕ) : Type 0 where
  pub settings : Config
  pub steps : List (Step A)
  pub parsed : history_left all ≡ Ok (settings_of settings, steps)
  pub judged : IsTrueOf settings steps judgement
  pub counted : judgement ≡ Legal → count ≡ length steps
  pub stands : StandsAt (numbered_left all).lines judgement

-- so those of a text as they stand
abbrev pub IsJudged : (A : Type 0) → List ℕ → Judgement A → ℕ → Type 0
IsJudged A text judgement count = IsJudgedOf A (all_lines text) judgement count

-- all lines of a text are gone, and this was found of it
pub record IsFoundWhole {A : Type 0} (judgement : Judgement A) (count : ℕ) (old new : Left) : Type 0 where
  pub settings : Config
  pub rest : Left
  pub gone : AreGone old rest
  pub header : header_of History (numbered_left old).after (numbered_left old).lines ≡ Ok (settings_of settings, (numbered_left rest).lines)
  pub found : IsFoundIn settings judgement count rest new

abbrev pub IsFoundWholeOf : {A : Type 0} → Result (Judgement A × ℕ) StreamFault → Place → Place → Type 0
IsFoundWholeOf {A} result old new =
    IsReadOf (λ found. IsFoundWhole found.0 found.1) (λ refusal left. IsRefused refusal (history_left {A = A} left)) result old new
