use Rattle.std.proofs.Common.{◌∙◌, ap, arith, length}
use Rattle.std.proofs.lemmas.List.{length-set}
use Rattle.gn_start.proofs.ListLemmas.{all_free, free_more}
use Rattle.gn_start.proofs.table.LinkTable.retire_all.Goals as goal

pub loop-slot-preserved : goal.loop-slot-preserved
loop-slot-preserved g c = record {
  came = c.retire.ensures.came ∙ c.loop-slot.invariant.came;
  same = (c.retire.ensures.same.0 ∙ c.loop-slot.invariant.same.0, c.retire.ensures.same.1 ∙ c.loop-slot.invariant.same.1);
  faulty = λ e. c.retire.ensures.faulty (c.loop-slot.invariant.faulty e);
  many = ap length c.retire.ensures.live ∙ length-set c.loop-slot.self.live c.loop-slot.slot _ ∙ c.loop-slot.invariant.many;
  free = free_more c.loop-slot.self.live c.retire.new.self.live c.loop-slot.slot c.retire.ensures.live c.loop-slot.invariant.free;
}

pub returns-clause-free : goal.returns-clause-free
returns-clause-free g c = all_free c.loop-slot.self.live c.loop-slot.slot (omega (arith, c.loop-slot.invariant.many, c.loop-slot-test.false)) c.loop-slot.invariant.free
