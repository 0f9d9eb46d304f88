use Rattle.gn_search.proofs.LiveLemmas.{live_here, none_at}
use Rattle.gn_search.proofs.live.live_at.Goals as goal

pub returns-then-place-history-clause-at : goal.returns-then-place-history-clause-at
returns-then-place-history-clause-at g c = none_at c.args.history.now c.args.place c.if-place-history.true

pub returns-clause-at : goal.returns-clause-at
returns-clause-at g c =
    live_here c.args.history.now c.args.place c.index-history-place.result c.live_made.result c.if-place-history.false c.index-history-place.is c.live_made.ensures.value

pub returns-clause-live : goal.returns-clause-live
returns-clause-live g c = c.live_made.ensures.live
