-- What a run answers.
use Rattle.std.specs.Prelude.{◌≡◌, ◌↔◌, ℕ, length, map, reverse, List, IfErr, IfOk, IfSome, Option, Result, Vec}
use Rattle.gn_rules.specs.declared.config.Config.{Config}
use Rattle.gn_rules.specs.declared.receipt.Step.{Step}
use Rattle.gn_rules.specs.Answer.{IsLegal}
use Rattle.gn_rules.specs.Limits.{IsCrew}
use Rattle.gn_links.specs.Halves.{ReadHalf, Source}
use Rattle.gn_report.specs.declared.report.Report.{Report}
use Rattle.gn_report.specs.declared.unkept.Unkept.{Unkept}
use Rattle.gn_threads.specs.Headline.{AreOfOne, LinksReadOwn}
use Rattle.gn_start.specs.declared.fault.RunFault.{RunFault}
use Rattle.gn_start.specs.declared.fault.RunFault.TheVariants.{BadWorkers, HistoryFull}
use Rattle.gn_threads.specs.declared.halted.Halted.{Halted}
use Rattle.gn_threads.specs.declared.stopped.Stopped.{Stopped}

-- what a run of so many workers answers: something of which `report` makes a report, of which all of `headline` and `origin` hold, or
-- something of which `why` makes the fault, one of `faults`
pub record IsRunAnswer {Rd W A Q F : Type 0} (workers : ℕ) (faults : RunFault → Type 0) (headline origin : Report Rd W A → Type 0)
    (report : Q → Report Rd W A) (why : F → RunFault) (answer : Result Q F) : Type 0 where
  -- a report comes of 1 to 64 workers alone, and BadWorkers exactly of no such number
  pub crew : IfOk answer (λ _. IsCrew workers)
  pub bad_workers : IfErr answer (λ f. (why f ≡ BadWorkers) ↔ (¬ IsCrew workers))
  -- of 1 to 64 workers, a fault is one that the run may have
  pub fault : IfErr answer (λ f. IsCrew workers → faults (why f))
  pub holds : IfOk answer (λ q. headline (report q))
  pub made : IfOk answer (λ q. origin (report q))

-- what is known of a run at a fault: the fault, what stands of the history, and the steps of that
pub record FaultViews (F H A : Type 0) : Type 0 where
  pub fault : F → RunFault
  pub history : F → Option H
  pub steps : H → List (Step A)

-- so of a run whose router keeps its steps
abbrev pub stopped_views : {A : Type 0} → FaultViews (Stopped A) (Vec (Step A) A) A
stopped_views = record { fault = λ stopped. stopped.fault; history = λ stopped. stopped.history; steps = λ history. history.items }

-- and of one whose steps nobody keeps
abbrev pub halted_views : {A : Type 0} → FaultViews (Halted A) (Unkept (Step A)) A
halted_views = record { fault = λ halted. halted.fault; history = λ halted. halted.history; steps = λ history. history.items }

-- what a run of this configuration answers that tells at a fault what stands of its history, too
pub record IsKeptAnswer {Rd W A Q F H : Type 0} (s : Config) (workers : ℕ) (faults : RunFault → Type 0)
    (headline origin : Report Rd W A → Type 0) (report : Q → Report Rd W A) (told : FaultViews F H A) (answer : Result Q F) : Type 0 where
  pub run : IsRunAnswer workers faults headline origin report told.fault answer
  -- the history is legal by that configuration
  pub kept : IfErr answer (λ f. IfSome (told.history f) (λ history. IsLegal s (reverse (told.steps history))))
  -- it has as many steps as it may have, where the fault is that it is full
  pub full : IfErr answer (λ f. told.fault f ≡ HistoryFull
      → IfSome (told.history f) (λ history. length (told.steps history) ≡ s.numbers.steps))

-- what is known of links that came one after another: each reader read what the link that it was made of gives, and both halves of a
-- link were made of one
pub record AreArrived {Rd W A O : Type 0} (reads : Rd → ReadHalf) (gives : O → Source) (reader_of : Rd → O) (writer_of : W → O)
    (report : Report Rd W A) : Type 0 where
  pub bytes : LinksReadOwn reads (map (λ link. gives (reader_of link.reader)) report.links.items) report
  pub one : AreOfOne reader_of writer_of report
