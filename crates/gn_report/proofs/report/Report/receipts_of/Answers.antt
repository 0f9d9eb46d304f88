use Rattle.std.proofs.Common.{◌∙◌, Vec, ap, arith, rules, sym}
use Rattle.gn_rules.specs.declared.receipt.Receipt.{Receipt}
use Rattle.gn_report.specs.declared.report.LinkReport.{LinkReport}
use Rattle.gn_report.proofs.ReceiptLemmas.{at_house, at_reader, at_worker, at_writer}
use Rattle.gn_report.proofs.report.Report.receipts_of.Goals as goal

pub returns-then-place-n-3 : goal.returns-then-place-n-3
returns-then-place-n-3 g c =
    c.as_slice-then-place-n-3.ensures.value
    ∙ ap (λ (v : Vec (Receipt _) _). v.items) c.index-then-place-n-3.ensures
    ∙ sym (at_worker c.args.self.now _ c.args.actor _ (search rules) (search rules))

pub returns-else-place-n-3 : goal.returns-else-place-n-3
returns-else-place-n-3 g c = c.as_slice-else-place-n-3.ensures.value ∙ sym (at_house c.args.self.now c.args.actor (search rules))

pub returns-then-place-n : goal.returns-then-place-n
returns-then-place-n g c =
    c.as_slice.ensures.value
    ∙ ap (λ (link : LinkReport _ _ _). link.reader_receipts.items) c.index.ensures
    ∙ sym (at_reader c.args.self.now c.args.actor c.index.result.now (omega arith))

pub returns-then-place-n-2 : goal.returns-then-place-n-2
returns-then-place-n-2 g c =
    c.as_slice-then-place-n-2.ensures.value
    ∙ ap (λ (link : LinkReport _ _ _). link.writer_receipts.items) c.index-then-place-n-2.ensures
    ∙ sym (at_writer c.args.self.now _ c.args.actor c.index-then-place-n-2.result.now (omega arith) (omega arith))
