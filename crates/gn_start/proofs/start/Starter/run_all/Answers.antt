use Rattle.std.proofs.Common.{◌∙◌, ap}
use Rattle.gn_start.specs.Table.{all_came}
use Rattle.gn_start.proofs.LoopLemmas.{all_later}
use Rattle.gn_start.proofs.start.Starter.run_all.Goals as goal

pub returns-clause-made : goal.returns-clause-made
returns-clause-made g c = record {
  each = λ first so.
      all_later g.V.Reader.LinkReader.made_of g.V.Incoming.foreknown g.V.Incoming.may_come g.V.Incoming.may_end g.V.Incoming.is_known c.take_links.new.table.is_faulty c.retire_all.new.self.is_faulty c.take_links.new.table.numbering c.retire_all.new.self.numbering first
      (all_came c.take_links.new.table.states) (all_came c.retire_all.new.self.states)
      (c.retire_all.ensures.same.0 ∙ ap (λ t. t.numbering) c.shut.ensures) (c.retire_all.ensures.came ∙ ap (λ t. all_came t.states) c.shut.ensures)
      (λ faulty. c.retire_all.ensures.faulty (ap (λ t. t.is_faulty) c.shut.ensures ∙ faulty)) (c.take_links.ensures.made first so);
}
