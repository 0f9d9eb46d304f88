-- How a link ends, once its threads are joined.
use Rattle.std.specs.Prelude.{◌≡◌, ◌-◌, ℕ, ⊤, Bool, true, false, is_some, Option, None, Ok, List, slice_set}
use Rattle.gn_rules.specs.declared.receipt.Receipt.{Receipt}
use Rattle.gn_rules.specs.declared.receipt.Step.{Step}
use Rattle.gn_actors.specs.Registry.{RegistryState}
use Rattle.gn_actors.specs.Tallies.{last_place, tally_of}
use Rattle.gn_bodies.specs.declared.ends.ReaderEnd.{ReaderEnd}
use Rattle.gn_bodies.specs.declared.ends.ReaderEnd.TheVariants.{NotLive}
use Rattle.gn_bodies.specs.declared.ends.WriterEnd.{WriterEnd}
use Rattle.gn_bodies.specs.declared.reader.ReaderDone.{ReaderDone}
use Rattle.gn_bodies.specs.declared.writer.WriterDone.{WriterDone}
use Rattle.gn_hub.specs.declared.retiring.Retired.{Retired}
use Rattle.gn_report.specs.BodyEnds.{may_close_first}
use Rattle.gn_report.specs.Seen.{IsSameLink, must_be_gone}
use Rattle.gn_report.specs.declared.account.LinkAccount.{LinkAccount}
use Rattle.gn_report.specs.declared.account.LinkEnd.{LinkEnd}
use Rattle.gn_report.specs.declared.account.LinkEnd.TheVariants.{Whole, Cut}
use Rattle.gn_start.specs.declared.fault.RunFault.{RunFault}
use Rattle.gn_start.specs.declared.homing.Ends.{Ends}

-- what is left of the two bodies of a link without their actors
abbrev pub ends_left : {Rd W B A : Type 0} → ReaderDone Rd B A → WriterDone W B A → Ends Rd W
ends_left reader writer = record {
  role = reader.role;
  reader = reader.reader;
  reader_end = reader.end;
  conn = reader.connection;
  writer = writer.writer;
  writer_end = writer.end;
  written_on = writer.connection;
  tally = record { read = tally_of reader.actor.receipts; written = tally_of writer.actor.receipts };
  last_read = last_place reader.actor.receipts;
  last_written = last_place writer.actor.receipts;
}

-- this is the account of a link that left so much, and whose bodies ended so
pub record IsAccountOf {Rd W A : Type 0} (left : Ends Rd W) (retired : Retired A) (reading : ReaderEnd) (writing : WriterEnd)
    (link : LinkAccount Rd W A) : Type 0 where
  pub role : link.role ≡ left.role
  pub conn : link.conn ≡ left.conn
  pub reader : link.reader ≡ left.reader
  pub reader_end : link.reader_end ≡ reading
  pub reads : link.reader_receipts.items ≡ retired.read.items
  pub writer : link.writer ≡ left.writer
  pub writer_end : link.writer_end ≡ writing
  pub writes : link.writer_receipts.items ≡ retired.written.items
  pub written_on : link.written_on ≡ left.written_on
  pub idle : link.idle ≡ retired.idle
  pub tally : (link.read ≡ left.tally.read) × (link.written ≡ left.tally.written)

-- what is looked at of a link that has ended
pub record IsRightLink {Rd W A : Type 0} (is_gone : Bool) (link : LinkAccount Rd W A) : Type 0 where
  pub same : IsSameLink link.writer_end link.written_on link.conn
  pub first : link.reader_end ≡ NotLive → may_close_first false link.role link.writer_end ≡ true
  pub gone : must_be_gone link.reader_end link.written_on ≡ true → is_gone ≡ true

-- a link that left so much has ended with an account
pub record EndsWhole {Rd W A : Type 0} (left : Ends Rd W) (retired : Retired A) (end : LinkEnd Rd W A) : Type 0 where
  pub link : LinkAccount Rd W A
  pub reading : ReaderEnd
  pub writing : WriterEnd
  pub is : end ≡ Whole link
  pub read : left.reader_end ≡ Ok reading
  pub wrote : left.writer_end ≡ Ok writing
  pub account : IsAccountOf left retired reading writing link
  pub right : IsRightLink retired.is_gone link

-- it has ended so: without a fault it has an account, with one it is cut
pub record HaveEnded {Rd W A : Type 0} (left : Ends Rd W) (retired : Retired A) (end : LinkEnd Rd W A) (fault : Option RunFault) : Type 0 where
  pub whole : fault ≡ None → EndsWhole left retired end
  pub cut : is_some fault ≡ true → end ≡ Cut left.tally

-- whether a link has an account
abbrev pub IsWhole : {Rd W A : Type 0} → LinkEnd Rd W A → Type 0
IsWhole (Whole link) = ⊤
IsWhole (Cut tally) = ⊥

-- two actors of these numbers are home with these receipts, when so many steps were seen
abbrev pub with_lists : {A : Type 0} → RegistryState A → ℕ → List (Receipt A) → ℕ → List (Receipt A) → List (Step A) → RegistryState A
with_lists r a reads b writes seen = record { lists = slice_set (slice_set r.lists a reads) b writes; out = r.out - 1 - 1; seen = seen }
