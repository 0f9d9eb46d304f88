use Rattle.std.proofs.Common.{◌∙◌, ap, reverse}
use Rattle.std.proofs.lemmas.List.{take_all}
use Rattle.gn_wire.specs.Keys.{is_same_id}
use Rattle.gn_rules.specs.Servents.{servents}
use Rattle.gn_search.specs.Place.{is_before}
use Rattle.gn_search.specs.Views.{guid, hit_seen}
use Rattle.gn_search.proofs.PlaceLemmas.{before_more}
use Rattle.gn_search.proofs.servents.is_later.Goals as goal

pub loop-i-preserved : goal.loop-i-preserved
loop-i-preserved g c =
    before_more c.args.history.now c.loop-i.i c.index-history-i.result c.loop-i-test.true c.index-history-i.is (guid c.args.x.now) (guid c.args.y.now) (hit_seen c.hit_in.result) c.loop-i.later c.later_after-later.result
    c.hit_in.ensures c.loop-i.invariant c.later_after-later.ensures

pub returns : goal.returns
returns g c =
    c.loop-i.invariant
    ∙ ap (λ steps. is_before (is_same_id (guid c.args.x.now)) (is_same_id (guid c.args.y.now)) (servents (reverse steps))) (take_all c.loop-i.i c.args.history.now c.loop-i-test.false)
