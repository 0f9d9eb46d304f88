-- Which ring an end is of.
use denote.RawPtr.{Ptr}
use Rattle.rtrb.specs.Shared.{Names}
use Rattle.rtrb.specs.declared.end.End.{End}

-- what a ring goes by
pub record RingName (A : Type 0) : Type 0 where
  pub words : Ptr
  pub slots : Ptr
  pub names : Names
  pub heap : A

abbrev pub name_of : {T A P : Type 0} → End T A P → RingName A
name_of e = record { words = e.words; slots = e.slots; names = e.names; heap = e.heap }
