use Rattle.gn_links.proofs.MemoryLemmas.{given_of_all}
use Rattle.gn_links.proofs.memory_reader.MemoryReaderLinkReader.read.Goals as goal

pub returns-then-is_failing-clause-prefix : goal.returns-then-is_failing-clause-prefix
returns-then-is_failing-clause-prefix g c = rw (← c.self.invariant.1.all) (given_of_all _ _ _ c.self.invariant.0)
