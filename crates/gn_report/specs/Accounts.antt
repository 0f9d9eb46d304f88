-- The report that an account tells: its lists, in vectors. And what is known of a link that has ended.
use Rattle.std.specs.Prelude.{◌≡◌, ◌++◌, ◌∷◌, ◌||◌, Bool, true, false, List, [], map, is_some, Option, None, Some}
use Rattle.std.specs.List.{list_all}
use Rattle.gn_rules.specs.declared.event.Event.{Event}
use Rattle.gn_rules.specs.declared.receipt.Receipt.{Receipt}
use Rattle.gn_rules.specs.Fits.{originates}
use Rattle.gn_rules.specs.History.{ticket_of}
use Rattle.gn_report.specs.declared.account.Account.{Account}
use Rattle.gn_report.specs.declared.account.LinkAccount.{LinkAccount}
use Rattle.gn_report.specs.declared.account.LinkEnd.{LinkEnd}
use Rattle.gn_report.specs.declared.account.LinkEnd.TheVariants.{Cut, Whole}
use Rattle.gn_report.specs.declared.account.LinkTally.{LinkTally}
use Rattle.gn_report.specs.declared.report.LinkReport.{LinkReport}
use Rattle.gn_report.specs.declared.report.Report.{Report}
use Rattle.gn_report.specs.declared.unkept.Unkept.{Unkept}
use Rattle.gn_report.specs.Vectors.{map_vec, mapped_numbered, vec_of}

-- what the report has of a link
abbrev pub link_of : {Rd W A : Type 0} → A → LinkAccount Rd W A → LinkReport Rd W A
link_of heap link = record {
  conn = link.conn;
  reader_end = link.reader_end;
  reader_receipts = vec_of heap link.reader_receipts;
  reader = link.reader;
  writer_end = link.writer_end;
  writer_receipts = vec_of heap link.writer_receipts;
  writer = link.writer;
}

-- the report that an account tells
abbrev pub report_of : {Rd W A : Type 0} → Account Rd W A → Report Rd W A
report_of account = record {
  history = vec_of account.links.alloc account.history;
  links = map_vec (link_of account.links.alloc) account.links;
  workers = map_vec (vec_of account.links.alloc) account.workers;
  house = vec_of account.links.alloc account.house;
  stats = account.stats;
  numbered = mapped_numbered (link_of account.links.alloc) (vec_of account.links.alloc) account.links.items account.workers.items account.numbered;
}

-- a report has the links, the workers and the house of which these are the accounts and the receipts
pub record IsReportOf {Rd W A : Type 0} (heap : A) (links : List (LinkAccount Rd W A)) (workers : List (Unkept (Receipt A)))
    (house : Unkept (Receipt A)) (report : Report Rd W A) : Type 0 where
  pub links_are : report.links.items ≡ map (link_of heap) links
  pub workers_are : report.workers.items ≡ map (vec_of heap) workers
  pub house_is : report.house.items ≡ house.items

-- receipts that nobody keeps
abbrev pub unkept_list : {A : Type 0} → Unkept (Receipt A) → List (Receipt A)
unkept_list list = list.items

-- whether these receipts are of routes alone
abbrev pub is_routing : {A : Type 0} → List (Receipt A) → Bool
is_routing receipts = list_all (λ r. is_some (ticket_of r.event)) receipts

-- whether the house may make an event: it routes; and, where the own servent sends descriptors, it originates them
abbrev pub is_houses : {A : Type 0} → Bool → Event A → Bool
is_houses false event = is_some (ticket_of event)
is_houses true event = is_some (ticket_of event) || originates event

-- whether these receipts are of such events alone
abbrev pub are_houses : {A : Type 0} → Bool → List (Receipt A) → Bool
are_houses own receipts = list_all (λ r. is_houses own r.event) receipts

-- the receipts of a link's reader, as its account has them
abbrev pub reader_receipts : {Rd W A : Type 0} → LinkAccount Rd W A → List (Receipt A)
reader_receipts link = link.reader_receipts.items

-- those of its writer
abbrev pub writer_receipts : {Rd W A : Type 0} → LinkAccount Rd W A → List (Receipt A)
writer_receipts link = link.writer_receipts.items

-- the receipts of all actors, in the order of their numbers
abbrev pub all_receipts : {Rd W A : Type 0} → List (LinkAccount Rd W A) → List (Unkept (Receipt A)) → Unkept (Receipt A) → List (List (Receipt A))
all_receipts links workers house =
    map reader_receipts links ++ (map writer_receipts links ++ (map unkept_list workers ++ house.items ∷ []))

-- the account of a link, where both its bodies have an end
abbrev pub account_in : {Rd W A : Type 0} → Option (LinkEnd Rd W A) → Option (LinkAccount Rd W A)
account_in (Some (Whole link)) = Some link
account_in end = None

-- what the two actors of a link counted that has ended
abbrev pub tally_in : {Rd W A : Type 0} → Option (LinkEnd Rd W A) → Option LinkTally
tally_in (Some (Whole link)) = Some (record { read = link.read; written = link.written })
tally_in (Some (Cut tally)) = Some tally
tally_in None = None
