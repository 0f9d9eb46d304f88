-- Where each actor's receipts stand among those of all actors.
use Rattle.std.proofs.Common.{◌≡◌, ◌<◌, ◌+◌, ◌-◌, ℕ, List, [], ◌∷◌, ◌++◌, length, map, get_or, take, Vec, sym, ap, ◌∙◌, arith, length-append}
use Rattle.std.specs.List.{sum_by}
use Rattle.std.proofs.Math.Seq.{take-length}
use Rattle.std.proofs.lemmas.List.{get_or-append_right, get_or-map, get_or_append_left, length-map}
use Rattle.std.proofs.lemmas.List.Sums.{sum_by_more}
use Rattle.gn_rules.specs.declared.receipt.Receipt.{Receipt}
use Rattle.gn_laws.specs.Owners.{AreFitting}
use Rattle.gn_laws.proofs.FittingLemmas.{fitting_are_mine}
use Rattle.gn_report.specs.declared.report.LinkReport.{LinkReport}
use Rattle.gn_report.specs.declared.report.Report.{Report}
use Rattle.gn_actors.specs.declared.who.Who.TheVariants.{House}
use Rattle.gn_report.specs.Actors.{AreOwn, number_in, receipts_of}

-- the receipts of the readers, of the writers, and of the workers and the house
abbrev read : {Rd W A : Type 0} → Report Rd W A → List (List (Receipt A))
read report = map (λ link. link.reader_receipts.items) report.links.items

abbrev written : {Rd W A : Type 0} → Report Rd W A → List (List (Receipt A))
written report = map (λ link. link.writer_receipts.items) report.links.items

abbrev worked : {Rd W A : Type 0} → Report Rd W A → List (List (Receipt A))
worked report = map (λ worker. worker.items) report.workers.items

abbrev others : {Rd W A : Type 0} → Report Rd W A → List (List (Receipt A))
others report = worked report ++ report.house.items ∷ []

readers : {Rd W A : Type 0} (report : Report Rd W A) → length (read report) ≡ length report.links.items
readers report = length-map report.links.items (λ link. link.reader_receipts.items)

writers : {Rd W A : Type 0} (report : Report Rd W A) → length (written report) ≡ length report.links.items
writers report = length-map report.links.items (λ link. link.writer_receipts.items)

workers : {Rd W A : Type 0} (report : Report Rd W A) → length (worked report) ≡ length report.workers.items
workers report = length-map report.workers.items (λ worker. worker.items)

pub as_many_as_actors : {Rd W A : Type 0} (report : Report Rd W A) → length (receipts_of report) ≡ number_in report House + 1
as_many_as_actors report =
    omega (arith, readers report, writers report, workers report, length-append (read report) (written report ++ others report), length-append (written report) (others report), length-append (worked report) (report.house.items ∷ []))

pub at_reader : {Rd W A : Type 0} (report : Report Rd W A) (k : ℕ) (d : LinkReport Rd W A) → k < length report.links.items
    → get_or (receipts_of report) k [] ≡ (get_or report.links.items k d).reader_receipts.items
at_reader report k d below =
    get_or_append_left (read report) (written report ++ others report) [] k (omega (arith, readers report, below))
    ∙ get_or-map (λ link. link.reader_receipts.items) report.links.items k d [] below

pub at_writer : {Rd W A : Type 0} (report : Report Rd W A) (k a : ℕ) (d : LinkReport Rd W A) → k < length report.links.items → a ≡ length report.links.items + k
    → get_or (receipts_of report) a [] ≡ (get_or report.links.items k d).writer_receipts.items
at_writer report k a d below is =
    let n = length report.links.items in
    let place : a - n ≡ k = omega (arith, is) in
    get_or-append_right (read report) (written report ++ others report) n a [] (readers report) (omega (arith, is))
    ∙ ap (λ i. get_or (written report ++ others report) i []) place
    ∙ get_or_append_left (written report) (others report) [] k (omega (arith, writers report, below))
    ∙ get_or-map (λ link. link.writer_receipts.items) report.links.items k d [] below

past_links : {Rd W A : Type 0} (report : Report Rd W A) (j a : ℕ) → a ≡ length report.links.items + length report.links.items + j
    → get_or (receipts_of report) a [] ≡ get_or (others report) j []
past_links report j a is =
    let n = length report.links.items in
    let place : a - n - n ≡ j = omega (arith, is) in
    get_or-append_right (read report) (written report ++ others report) n a [] (readers report) (omega (arith, is))
    ∙ get_or-append_right (written report) (others report) n (a - n) [] (writers report) (omega (arith, is))
    ∙ ap (λ i. get_or (others report) i []) place

pub at_worker : {Rd W A : Type 0} (report : Report Rd W A) (j a : ℕ) (d : Vec (Receipt A) A) → j < length report.workers.items → a ≡ length report.links.items + length report.links.items + j
    → get_or (receipts_of report) a [] ≡ (get_or report.workers.items j d).items
at_worker report j a d below is =
    past_links report j a is
    ∙ get_or_append_left (worked report) (report.house.items ∷ []) [] j (omega (arith, workers report, below))
    ∙ get_or-map (λ worker. worker.items) report.workers.items j d [] below

pub at_house : {Rd W A : Type 0} (report : Report Rd W A) (a : ℕ) → a ≡ length report.links.items + length report.links.items + length report.workers.items
    → get_or (receipts_of report) a [] ≡ report.house.items
at_house report a is =
    let v = length report.workers.items in
    let place : v - v ≡ 0 = omega arith in
    past_links report v a is
    ∙ get_or-append_right (worked report) (report.house.items ∷ []) v v [] (workers report) (omega arith)
    ∙ ap (λ i. get_or (report.house.items ∷ []) i []) place

-- the receipts of one actor more
pub sum_on : {Rd W A : Type 0} (report : Report Rd W A) (a left more : ℕ) → a < number_in report House + 1 → more + length (get_or (receipts_of report) a []) ≡ left
    → left + sum_by (λ receipts. length receipts) (take a (receipts_of report)) ≡ length report.history.items
    → more + sum_by (λ receipts. length receipts) (take (a + 1) (receipts_of report)) ≡ length report.history.items
sum_on {Rd} {W} {A} report a left more below fewer total =
    let next = sum_by_more (λ (receipts : List (Receipt A)). length receipts) (receipts_of report) a [] (omega (arith, below, as_many_as_actors report)) in
    omega (arith, next, fewer, total)

-- where each actor's receipts fit and all are as many as the steps, they are the actors' own
pub all_own : {Rd W A : Type 0} (report : Report Rd W A) (n : ℕ) → n ≡ number_in report House + 1 → ((a : ℕ) → a < n → AreFitting report.history.items a (get_or (receipts_of report) a []))
    → sum_by (λ receipts. length receipts) (take n (receipts_of report)) ≡ length report.history.items
    → AreOwn report
all_own {Rd} {W} {A} report n count fits total =
    let all = receipts_of report in
    let many = as_many_as_actors report in
    let whole : take n all ≡ all = ap (λ m. take m all) (count ∙ sym many) ∙ take-length all in
    let sum : sum_by (λ (receipts : List (Receipt A)). length receipts) all ≡ length report.history.items = ap (sum_by (λ (receipts : List (Receipt A)). length receipts)) (sym whole) ∙ total in
    let own = (fitting_are_mine A report.history.items all (λ a below. fits a (omega (arith, many, below, count))) sum).0 in
    λ a below. own a (omega (arith, many, below))
