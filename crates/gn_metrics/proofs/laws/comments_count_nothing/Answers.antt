use Rattle.gn_metrics.proofs.QuietLemmas.{comments_read}
use Rattle.gn_metrics.proofs.laws.comments_count_nothing.Goals as goal

pub returns : goal.returns
returns c = comments_read
