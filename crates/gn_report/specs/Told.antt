-- The report that was made of an account and the history of its run.
use Rattle.std.specs.Prelude.{◌≡◌, ℕ, List, [], ◌∷◌, ◌++◌, length, map, Option, Vec}
use Rattle.gn_rules.specs.declared.receipt.Receipt.{Receipt}
use Rattle.gn_bodies.specs.declared.ends.ReaderEnd.{ReaderEnd}
use Rattle.gn_bodies.specs.declared.ends.WriterEnd.{WriterEnd}
use Rattle.gn_report.specs.Accounts.{report_of}
use Rattle.gn_report.specs.Actors.{receipts_of}
use Rattle.gn_report.specs.declared.account.Account.{Account}
use Rattle.gn_report.specs.declared.account.LinkAccount.{LinkAccount}
use Rattle.gn_report.specs.declared.report.LinkReport.{LinkReport}
use Rattle.gn_report.specs.declared.report.Report.{Report}

-- how the bodies of a link ended, and the halves of the link
pub record LinkEnds (Rd W : Type 0) : Type 0 where
  pub conn : Option ℕ
  pub reader_end : ReaderEnd
  pub reader : Rd
  pub writer_end : WriterEnd
  pub writer : W

-- those of a report's link
abbrev pub ends_of : {Rd W A : Type 0} → LinkReport Rd W A → LinkEnds Rd W
ends_of link = record { conn = link.conn; reader_end = link.reader_end; reader = link.reader; writer_end = link.writer_end; writer = link.writer }

-- and of an account's
abbrev pub account_ends : {Rd W A : Type 0} → LinkAccount Rd W A → LinkEnds Rd W
account_ends link = record { conn = link.conn; reader_end = link.reader_end; reader = link.reader; writer_end = link.writer_end; writer = link.writer }

-- the receipts of each actor, in the order of the actors' numbers, by those of the links, of the workers and of the house
abbrev pub lists_of : {Rd W A : Type 0} → List (LinkReport Rd W A) → List (Vec (Receipt A) A) → Vec (Receipt A) A → List (List (Receipt A))
lists_of links workers house =
    map (λ link. link.reader_receipts.items) links ++ (
    map (λ link. link.writer_receipts.items) links ++ (map (λ worker. worker.items) workers ++ house.items ∷ []))

-- a report has what the account tells
pub record Tells {Rd W A : Type 0} (account : Account Rd W A) (report : Report Rd W A) : Type 0 where
  pub history : report.history.items ≡ account.history.items
  pub many : (length report.links.items ≡ length account.links.items) × (length report.workers.items ≡ length account.workers.items)
  pub ends : map ends_of report.links.items ≡ map account_ends account.links.items
  pub receipts : receipts_of report ≡ receipts_of (report_of account)
  pub stats : report.stats ≡ account.stats
