-- What a fault of a run says.
use Rattle.std.specs.Prelude.{◌≡◌, ℕ, ◌+◌, ◌<◌, ⊤, Bool, true, List, length, Some}
use Rattle.std.specs.List.{slice_get}
use Rattle.gn_links.specs.declared.split.SplitFault.{SplitFault}
use Rattle.gn_links.specs.declared.split.SplitFault.TheVariants as split
use Rattle.gn_actors.specs.declared.who.Numbering.TheVariants.{Known}
use Rattle.gn_actors.specs.declared.who.Who.TheVariants.{House}
use Rattle.gn_actors.specs.Who.{number_of}
use Rattle.gn_start.specs.declared.fault.RunFault.{RunFault}
use Rattle.gn_start.specs.declared.fault.RunFault.TheVariants.{BadWorkers, Listen, Call, Link, HistoryFull, NoMemory, Stage, Audit}

-- the faults of a run over this many split links, and with this many workers: all but BadWorkers, Listen, Call and Link;
-- an Audit names an actor of the run
abbrev pub IsFaultOf : ℕ → ℕ → RunFault → Type 0
IsFaultOf links workers BadWorkers = ⊥
IsFaultOf links workers Listen = ⊥
IsFaultOf links workers (Call k) = ⊥
IsFaultOf links workers (Link k) = ⊥
IsFaultOf links workers HistoryFull = ⊤
IsFaultOf links workers NoMemory = ⊤
IsFaultOf links workers (Stage fault) = ⊤
IsFaultOf links workers (Audit a) = a < number_of (Known links workers) House + 1

-- the faults of a run whose links come one after another: those of `IsFaultOf`, and, where neighbours are called and accepted,
-- Listen, Call and Link
abbrev pub IsArrivingFault : Bool → ℕ → ℕ → RunFault → Type 0
IsArrivingFault has_peers links workers Listen = has_peers ≡ true
IsArrivingFault has_peers links workers (Call k) = (has_peers ≡ true) × (k < links)
IsArrivingFault has_peers links workers (Link k) = (has_peers ≡ true) × (k < links)
IsArrivingFault has_peers links workers fault = IsFaultOf links workers fault

-- the faults of a run over links that aren't split yet: those of `IsFaultOf`, and Link with the number of a link whose split may
-- fail
abbrev pub IsWholeFault : List Bool → ℕ → RunFault → Type 0
IsWholeFault may_not_split workers (Link k) = slice_get may_not_split k ≡ Some true
IsWholeFault may_not_split workers fault = IsFaultOf (length may_not_split) workers fault

-- the fault of a run whose links couldn't be taken apart
abbrev pub of_split : SplitFault → RunFault
of_split (split.Link k) = Link k
of_split split.NoMemory = NoMemory
