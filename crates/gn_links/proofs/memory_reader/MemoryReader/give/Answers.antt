use Rattle.std.proofs.Common.{arith, rules}
use Rattle.std.proofs.lemmas.Grind.{common_steps}
use Rattle.gn_links.proofs.MemoryLemmas.{given_more, given_of_all}
use Rattle.gn_links.proofs.memory_reader.MemoryReader.give.Goals as goal

pub returns-clause-bytes : goal.returns-clause-bytes
returns-clause-bytes g c =
    rw (← c.self.view_is, ← c.self.invariant.1.all) (given_more _ _ _ _ (grind (arith, common_steps, c.copy_to.ensures)))

pub returns-clause-prefix : goal.returns-clause-prefix
returns-clause-prefix g c = rw (← c.self.invariant.1.all) (given_of_all _ _ _ (search rules))
