use Rattle.gn_metrics.specs.Counting.{standing}
use Rattle.gn_metrics.proofs.TallyLemmas.{left_within, read_more}
use Rattle.gn_metrics.proofs.tally.Tally.read.Goals as goal

pub loop-start-preserved : goal.loop-start-preserved
loop-start-preserved c =
    let so_far = c.loop-start.invariant in
    record {
      within = left_within c.args.piece.now c.loop-start.start c.read_on-start.result so_far.within c.read_on-start.ensures.part.1;
      so_far = read_more (standing c.args.self.now) (standing c.loop-start.self) (standing c.read_on-start.new.self) c.args.piece.now c.loop-start.start
          c.read_on-start.result so_far.within so_far.so_far c.read_on-start.ensures.goes;
    }
