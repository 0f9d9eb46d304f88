-- What a load makes of its input, and what it writes.
use Rattle.std.specs.Prelude.{◌≡◌, ◌⊎◌, ◌<◌, ℕ, List, [], length, map, slice_index_or, Option, IfSome, Result, Ok}
use Rattle.std.specs.Io.KnownBytes.{Appends, Keeps}
use Rattle.gn_rules.specs.declared.config.Config.{Config}
use Rattle.gn_rules.specs.declared.config.Own.{Own}
use Rattle.gn_rules.specs.Limits.{IsCrew}
use Rattle.gn_links.specs.Memory.{Memory, MemoryReading, MemoryWriting, half_read, half_written, source_of}
use Rattle.gn_bodies.specs.declared.ends.ReaderEnd.TheVariants.{ReadFailed}
use Rattle.gn_report.specs.declared.report.LinkReport.{LinkReport}
use Rattle.gn_report.specs.declared.report.Report.{Report}
use Rattle.gn_threads.specs.Headline.{AreMadeOf, Holds, LinksReadOwn}
use Rattle.gn_text.specs.declared.fault.CaptureFault.{CaptureFault}
use Rattle.gn_text.specs.Faults.{◌>>=◌}
use Rattle.gn_rules.specs.declared.limits.Numbers.{Numbers}
use Rattle.gn_text.specs.Settings.{settings_of}
use Rattle.gn_capture.specs.Captures.{capture_of}
use Rattle.gn_capture.specs.Histories.{history_text, map_result}
use Rattle.gn_io.specs.Parts.{AppendsPart}
use Rattle.gn_replay.specs.declared.fault.ReplayFault.TheVariants.{NoMemory, Write}
use Rattle.gn_load.specs.declared.fault.LoadFault.{LoadFault}
use Rattle.gn_load.specs.declared.fault.LoadFault.TheVariants.{Text}
use Rattle.gn_load.specs.Links.{links_from}

-- what a load reads of an input: how the router is set up, and the links that the lines make; or its first fault as a capture;
-- or, where it has none, the first line that a load doesn't take
abbrev pub load_of : (A : Type 0) → List ℕ → Result ((Numbers × Own) × List Memory) CaptureFault
load_of A input = do
  parsed ← capture_of {A = A} input
  map_result (λ links. ((parsed.numbers, parsed.own), links)) (links_from [] parsed.lines)

-- no reader ended because a read failed
abbrev pub NoReadFailed : {Rd W A : Type 0} → Report Rd W A → Type 0
NoReadFailed {Rd} {W} {A} report =
    (k : ℕ) (link : LinkReport Rd W A) → k < length report.links.items
    → ¬ ((slice_index_or report.links.items k link).reader_end ≡ ReadFailed)

-- a text is the history of a run with so many workers, 1 to 64, over the links of the input, whose writers write at most so many
-- packets at once: there is a report of such a run, of which all of the headline holds, and the text is that of its history
pub record IsLoadText (A : Type 0) (batch workers : ℕ) (input text : List ℕ) : Type 0 where
  pub settings : Config
  pub links : List Memory
  pub report : Report MemoryReading MemoryWriting A
  pub read : load_of A input ≡ Ok (settings_of settings, links)
  pub holds : Holds batch half_read half_written settings (map (λ link. link.role) links) workers report
  pub bytes : LinksReadOwn half_read (map source_of links) report
  -- both halves of each link were split from that very link of the input
  pub made : AreMadeOf (λ (half : MemoryReading). half.link) (λ (half : MemoryWriting). half.link) links report
  pub unfailed : NoReadFailed report
  pub within : IsCrew workers
  pub printed : text ≡ history_text settings report.history.items

-- known bytes grew by the text of such a history
abbrev pub AppendsLoad : (A : Type 0) → ℕ → ℕ → List ℕ → Option (List ℕ) → Option (List ℕ) → Type 0
AppendsLoad A batch workers input old new = (text : List ℕ) × IsLoadText A batch workers input text × Appends old new text

-- known bytes grew by a prefix of the text of such a history
abbrev pub AppendsLoadPart : (A : Type 0) → ℕ → ℕ → List ℕ → Option (List ℕ) → Option (List ℕ) → Type 0
AppendsLoadPart A batch workers input old new = (text : List ℕ) × IsLoadText A batch workers input text × AppendsPart old new text

-- what was written where a load stopped: a prefix of such a text at Write, where a write failed or took nothing; where memory
-- ran out, nothing or such a prefix; at any other fault nothing
abbrev pub HasStopped : (A : Type 0) → ℕ → ℕ → LoadFault → Option (List ℕ) → Option (List ℕ) → Option (List ℕ) → Type 0
HasStopped A batch workers (Text Write) rest old new = IfSome rest (λ input. AppendsLoadPart A batch workers input old new)
HasStopped A batch workers (Text NoMemory) rest old new =
    Keeps old new ⊎ IfSome rest (λ input. AppendsLoadPart A batch workers input old new)
HasStopped A batch workers fault rest old new = Keeps old new
