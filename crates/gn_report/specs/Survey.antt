-- What one look at a whole report finds, so that no actor's comparison walks over the history.
use Rattle.std.specs.Prelude.{◌≡◌, ◌≤◌, ◌<◌, ◌+◌, ◌-◌, ℕ, Bool, true, false, ◌&&◌, not, nat_lt, List, length, slice_index_or, Option, Some, None}
use Rattle.std.specs.List.{list_all, slice_get}
use Rattle.gn_rules.specs.declared.event.Event.{Event}
use Rattle.gn_rules.specs.declared.event.Event.TheVariants.{Close}
use Rattle.gn_rules.specs.declared.receipt.Step.{Step}
use Rattle.gn_shake.specs.declared.role.Role.{Role}
use Rattle.gn_shake.specs.Greeting.{is_calling}
use Rattle.gn_bodies.specs.declared.ends.WriterEnd.{WriterEnd}
use Rattle.gn_bodies.specs.declared.ends.WriterEnd.TheVariants.{Drained}
use Rattle.gn_report.specs.declared.report.LinkReport.{LinkReport}
use Rattle.gn_report.specs.declared.report.Report.{Report}
use Rattle.gn_report.specs.declared.survey.Survey.{Survey}
use Rattle.gn_report.specs.Actors.{AreOwn, is_awaited_reader}
use Rattle.gn_report.specs.BodyEnds.{is_settled}

-- whether an event is a Close, of whatever connection
abbrev pub is_any_close : {A : Type 0} → Event A → Bool
is_any_close (Close c) = true
is_any_close event = false

-- whether a writer ended Drained
abbrev pub is_drained : WriterEnd → Bool
is_drained Drained = true
is_drained end = false

-- whether a link's writer ended Drained, where there is such a link
abbrev pub has_drained : {Rd W A : Type 0} → Option (LinkReport Rd W A) → Bool
has_drained None = false
has_drained (Some link) = is_drained link.writer_end

-- whether actor a is the writer of a link, and ended Drained
abbrev pub is_drained_writer : {Rd W A : Type 0} → List (LinkReport Rd W A) → ℕ → Bool
is_drained_writer links a = not (nat_lt a (length links)) && has_drained (slice_get links (a - length links))

-- whether a step is a Close by the writer of a link, where that ended Drained
abbrev pub is_drains_close : {Rd W A : Type 0} → List (LinkReport Rd W A) → Step A → Bool
is_drains_close links step = is_any_close step.event && is_drained_writer links step.actor

-- step k is one
pub record IsDrainsCloseAt {Rd W A : Type 0} (links : List (LinkReport Rd W A)) (steps : List (Step A)) (k : ℕ) : Type 0 where
  pub within : k < length steps
  pub is : (d : Step A) → is_drains_close links (slice_index_or steps k d) ≡ true

-- nothing is in flight at each Close by a writer that ended Drained
abbrev pub AreSettled : {Rd W A : Type 0} → List (LinkReport Rd W A) → List (Step A) → Type 0
AreSettled {Rd} {W} {A} links steps =
    (k : ℕ) (d : Step A) → k < length steps → is_drains_close links (slice_index_or steps k d) ≡ true → is_settled steps k ≡ true

-- the last step of a reader that the run waits for is the n-th one; n is 0 where there is none
pub record IsReadUntil {A : Type 0} (roles : List Role) (steps : List (Step A)) (n : ℕ) : Type 0 where
  pub within : n ≤ length steps
  pub none : (k : ℕ) (d : Step A) → n ≤ k → k < length steps → is_awaited_reader roles (slice_index_or steps k d).actor ≡ false
  pub last : (k : ℕ) (d : Step A) → n ≡ k + 1 → is_awaited_reader roles (slice_index_or steps k d).actor ≡ true

-- what a survey says is true of the report
pub record IsSurvey {Rd W A : Type 0} (roles : List Role) (report : Report Rd W A) (survey : Survey) : Type 0 where
  pub own : survey.are_own ≡ true → AreOwn report
  pub calls : survey.all_call ≡ list_all is_calling roles
  pub routed : survey.are_routed ≡ is_settled report.history.items (length report.history.items)
  pub settled : survey.are_settled ≡ true → AreSettled report.links.items report.history.items
  pub read : IsReadUntil roles report.history.items survey.read
