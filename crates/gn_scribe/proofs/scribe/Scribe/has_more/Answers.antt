use Rattle.std.proofs.Common.{refl}
use Rattle.gn_scribe.proofs.WrittenLemmas.{only_looked, written_more, written_none}
use Rattle.gn_scribe.proofs.scribe.Scribe.has_more.Goals as goal

pub loop-init : goal.loop-init
loop-init g c = λ k. written_none c.args.self.now k

pub returns-then-not-is_empty : goal.returns-then-not-is_empty
returns-then-not-is_empty g c = λ k.
    written_more c.args.self.now c.loop.self _ k k k (c.loop.invariant k) (only_looked c.loop.self _ k c.is_empty.ensures.looked.0 c.is_empty.ensures.looked.1 refl refl)

pub loop-preserved : goal.loop-preserved
loop-preserved g c = λ k.
    written_more c.args.self.now c.loop.self _ k k k (c.loop.invariant k) (only_looked c.loop.self _ k c.is_empty.ensures.looked.0 c.is_empty.ensures.looked.1 refl refl)

pub returns : goal.returns
returns g c = c.loop.invariant
