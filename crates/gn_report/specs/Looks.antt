-- What is counted of the links of a run as their bodies have ended.
use Rattle.std.specs.Prelude.{◌≡◌, ◌≤◌, ◌<◌, ℕ, Bool, true, false, List, length, map, slice_index_or, Option, Some, None, ⊤}
use Rattle.std.specs.List.{list_all, slice_get}
use Rattle.gn_shake.specs.Greeting.{is_awaited, is_calling}
use Rattle.gn_bodies.specs.declared.ends.ReaderEnd.TheVariants.{NotLive}
use Rattle.gn_bodies.specs.declared.ends.WriterEnd.TheVariants.{Drained}
use Rattle.gn_report.specs.declared.account.LinkAccount.{LinkAccount}
use Rattle.gn_report.specs.declared.account.LinkEnd.{LinkEnd}
use Rattle.gn_report.specs.declared.account.LinkEnd.TheVariants.{Whole}
use Rattle.gn_report.specs.declared.looks.Looks.{Looks}
use Rattle.gn_report.specs.BodyEnds.{may_close_first}

-- a place is this one or a later one, of which there is one
abbrev pub IsFrom : Option ℕ → ℕ → Type 0
IsFrom None place = ⊥
IsFrom (Some from) place = from ≤ place

-- a place is before this one, where there is one
abbrev pub IsBefore : ℕ → Option ℕ → Type 0
IsBefore place None = ⊤
IsBefore place (Some from) = place < from

-- looks count a link that has ended
pub record IsCounted {Rd W A : Type 0} (looks : Looks) (link : LinkAccount Rd W A) : Type 0 where
  -- its reader's last step
  pub read : is_calling link.role ≡ false → link.last_read ≤ looks.read_until
  pub called : is_calling link.role ≡ true → link.last_read ≤ looks.called_until
  -- that of its writer, where it drained its connection; and whether the reader found that closed
  pub drained : link.writer_end ≡ Drained → IsFrom looks.drained_from link.last_written
  pub needs : link.reader_end ≡ NotLive → link.writer_end ≡ Drained → looks.needs_caller ≡ true

-- whether a link calls, where both its bodies have an end
abbrev pub calls_so_far : {Rd W A : Type 0} → Option (LinkEnd Rd W A) → Bool
calls_so_far (Some (Whole link)) = is_calling link.role
calls_so_far end = true

-- looks count each link of those that came both of whose bodies have an end, and know whether all of these call
pub record AreCounted {Rd W A : Type 0} (looks : Looks) (links : List (Option (LinkEnd Rd W A))) : Type 0 where
  pub each : (k : ℕ) (link : LinkAccount Rd W A) → slice_get links k ≡ Some (Some (Whole link)) → IsCounted looks link
  pub calls : looks.all_call ≡ list_all calls_so_far links

-- by these looks all that is awaited came before the last step of each writer that drained its connection, and no such writer closed
-- first where all links call
pub record AreRight (looks : Looks) : Type 0 where
  pub read : IsBefore looks.read_until looks.drained_from
  pub called : looks.all_call ≡ true → IsBefore looks.called_until looks.drained_from
  pub first : looks.all_call ≡ true → looks.needs_caller ≡ false

-- a reader that is awaited made its last step before that of each writer that drained its connection; and who may close first where not
-- all links call may do so here
pub record IsInOrder {Rd W A : Type 0} (all_call : Bool) (links : List (LinkAccount Rd W A)) : Type 0 where
  pub later : (j k : ℕ) (d : LinkAccount Rd W A) → j < length links → k < length links → is_awaited all_call (slice_index_or links j d).role ≡ true
      → (slice_index_or links k d).writer_end ≡ Drained → (slice_index_or links j d).last_read < (slice_index_or links k d).last_written
  pub first : (k : ℕ) (d : LinkAccount Rd W A) → k < length links → (slice_index_or links k d).reader_end ≡ NotLive
      → may_close_first false (slice_index_or links k d).role (slice_index_or links k d).writer_end ≡ true
      → may_close_first all_call (slice_index_or links k d).role (slice_index_or links k d).writer_end ≡ true

-- links that are counted are in order where the looks are right
abbrev pub CountsSay : Type 0 → Type 0 → Type 0 → Type 0
CountsSay Rd W A =
    (looks : Looks) (links : List (LinkAccount Rd W A)) → AreCounted looks (map (λ link. Some (Whole link)) links) → AreRight looks
    → IsInOrder (list_all (λ link. is_calling link.role) links) links
