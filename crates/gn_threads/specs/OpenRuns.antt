-- What a run answers whose links come one after another.
use Rattle.std.specs.Prelude.{◌≡◌, ◌<◌, ◌+◌, ◌==◌, ◌^◌, ℕ, Bool, true, nat_lt, List, length, map, reverse, IfSome, Some, Result, Ok, Err}
use Rattle.std.specs.List.{list_all, slice_get}
use Rattle.std.proofs.Math.Path.{subst, sym}
use Rattle.std.proofs.lemmas.List.{length-map}
use Rattle.gn_rules.specs.declared.config.Config.{Config}
use Rattle.gn_rules.specs.declared.receipt.Step.{Step}
use Rattle.gn_rules.specs.Answer.{IsLegal}
use Rattle.gn_rules.specs.Flight.{flying}
use Rattle.gn_rules.specs.Limits.{most_reads}
use Rattle.gn_rules.specs.Statistics.{stats_of}
use Rattle.gn_shake.specs.declared.role.Role.{Role}
use Rattle.gn_actors.specs.Registry.{AreWhole}
use Rattle.gn_report.specs.declared.account.Account.{Account}
use Rattle.gn_report.specs.declared.account.LinkAccount.{LinkAccount}
use Rattle.gn_report.specs.declared.report.Report.{Report}
use Rattle.gn_report.specs.Accounts.{all_receipts, is_routing, report_of, unkept_list}
use Rattle.gn_report.specs.Ended.{LinkViews}
use Rattle.gn_report.specs.Vectors.{vec_of}
use Rattle.gn_renumber.specs.Renumbered.{known_number, renumbered}
use Rattle.gn_start.specs.Faults.{IsArrivingFault}
use Rattle.gn_start.specs.Over.{AllEnded}
use Rattle.gn_start.specs.declared.fault.RunFault.{RunFault}
use Rattle.gn_threads.specs.Answers.{AreArrived}
use Rattle.gn_threads.specs.Headline.{HoldsAs}
use Rattle.gn_report.specs.declared.looks.Looks.{Looks}
use Rattle.gn_threads.specs.Left.{IsGathered}
use Rattle.gn_threads.specs.declared.halted.Halted.{Halted}
use Rattle.gn_threads.specs.declared.open_account.OpenAccount.{OpenAccount}
use Rattle.gn_threads.specs.declared.open_ending.OpenGathered.{OpenGathered}

-- the steps of an account, in the numbers of a run whose links are all known beforehand
abbrev pub known_steps : {Rd W A : Type 0} → OpenAccount Rd W A → List (Step A)
known_steps account = renumbered (length account.links.items) (length account.workers.items) account.history.items

-- the account, with its steps in those numbers: as many steps, so that they still fit
abbrev pub known_account : {Rd W A : Type 0} → OpenAccount Rd W A → Account Rd W A
known_account {Rd} {W} {A} account = record {
  history = record account.history {
    items = known_steps account;
    few = subst (λ n. n < 2 ^ 63)
        (sym (length-map account.history.items (λ (step : Step A). record step { actor = known_number (length account.links.items) (length account.workers.items) step.actor })))
        account.history.few;
  };
  links = vec_of account.workers.alloc account.links;
  workers = account.workers;
  house = account.house;
  stats = account.stats;
  numbered = account.numbered;
}

-- its report, in those numbers
abbrev pub known_report : {Rd W A : Type 0} → OpenAccount Rd W A → Report Rd W A
known_report account = report_of (known_account account)

-- what holds of the account of an open run of this configuration and of so many workers, whose own servent sends descriptors or not
pub record IsOpenEnded {Rd W A O : Type 0} (originates : Bool) (views : LinkViews Rd W O) (batch : ℕ) (s : Config) (workers : ℕ) (account : OpenAccount Rd W A) : Type 0 where
  -- its history is legal, and no step is of anybody but its actors
  pub legal : IsLegal s (reverse account.history.items)
  pub only : list_all (λ step. nat_lt step.actor (1 + workers + (length account.links.items + length account.links.items))) account.history.items ≡ true
  -- the headline holds of its report in the numbers of known links, which are these
  pub holds : HoldsAs originates batch views.reads views.writes s (map (λ link. link.role) account.links.items) workers (known_report account)
  -- each reader read what the link that it was made of gives, and both halves of a link were made of one
  pub arrived : AreArrived views.reads views.gives views.reader_of views.writer_of (known_report account)

-- what such a run answers whose links might come so: link k in this role, where this was known of it before it came
pub record IsOpenAnswer {Rd W A O F : Type 0} (originates : Bool) (views : LinkViews Rd W O) (foreknown : O → F) (batch : ℕ) (s : Config) (workers : ℕ)
    (may : ℕ → Role → F → Type 0) (account : OpenAccount Rd W A) : Type 0 where
  pub ended : IsOpenEnded originates views batch s workers account
  -- each link came as it might
  pub may_come : (k : ℕ) (link : LinkAccount Rd W A) → slice_get account.links.items k ≡ Some link
      → may k link.role (foreknown (views.reader_of link.reader))

-- what holds of the account of an open run of this configuration and of so many workers, whatever steps of before its house made again
pub record IsOpenHistory {Rd W A O : Type 0} (views : LinkViews Rd W O) (s : Config) (workers : ℕ) (account : OpenAccount Rd W A) : Type 0 where
  -- its history is legal, and no step is of anybody but its actors
  pub legal : IsLegal s (reverse account.history.items)
  pub only : list_all (λ step. nat_lt step.actor (1 + workers + (length account.links.items + length account.links.items))) account.history.items ≡ true
  -- each actor's receipts are its own steps, each once and in order, in the numbers of known links
  pub own : AreWhole (known_steps account) (all_receipts account.links.items account.workers.items account.house)
  -- the workers made no event but Route; at the end nothing is in flight
  pub routes : (list_all is_routing (map unkept_list account.workers.items) ≡ true) × ((length (flying (reverse account.history.items)) == 0) ≡ true)
  -- each link ended as `IsLinkEnded` says, in those numbers, its writer with some most packets at once; no order of ends is said
  pub each : (batch : ℕ) × AllEnded (most_reads s.numbers.steps) batch views (known_steps account) account.links.items
  -- each reader read what the link that it was made of gives, and both halves of a link were made of one
  pub arrived : AreArrived views.reads views.gives views.reader_of views.writer_of (known_report account)
  -- the account's statistics are those of the history
  pub stats : account.stats ≡ stats_of (reverse account.history.items)

-- what such a run answers whose links might come so
pub record IsRecalledAnswer {Rd W A O F : Type 0} (views : LinkViews Rd W O) (foreknown : O → F) (s : Config) (workers : ℕ)
    (may : ℕ → Role → F → Type 0) (account : OpenAccount Rd W A) : Type 0 where
  pub kept : IsOpenHistory views s workers account
  -- each link came as it might
  pub may_come : (k : ℕ) (link : LinkAccount Rd W A) → slice_get account.links.items k ≡ Some link
      → may k link.role (foreknown (views.reader_of link.reader))

-- a fault of a run over some number of links
abbrev pub IsOpenFault : Bool → ℕ → RunFault → Type 0
IsOpenFault has_peers workers fault = (came : ℕ) × IsArrivingFault has_peers came workers fault

-- these are the steps of such a run that was answered, or what stands of those of one that stopped
abbrev pub AreOpenStepsOf : {Rd W A : Type 0} → Result (OpenAccount Rd W A) (Halted A) → List (Step A) → Type 0
AreOpenStepsOf (Ok account) steps = account.history.items ≡ steps
AreOpenStepsOf (Err halted) steps = IfSome halted.history (λ history. history.items ≡ steps)

-- what was gathered of such a run without a fault that has these steps
pub record IsOpenGathered {Rd W A O : Type 0} (views : LinkViews Rd W O) (turns batch : ℕ) (steps : List (Step A)) (all : OpenGathered Rd W A)
    (looks : Looks) : Type 0 where
  pub only : list_all (λ step. nat_lt step.actor (1 + length all.workers.items + (length all.links.items + length all.links.items))) steps ≡ true
  pub gathered : IsGathered views turns batch (renumbered (length all.links.items) (length all.workers.items) steps) all.links.items
      all.workers.items all.house looks
