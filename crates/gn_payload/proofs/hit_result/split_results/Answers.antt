use Rattle.std.proofs.Common.{sym}
use Rattle.gn_payload.proofs.ResultGrammar.{split_past}
use Rattle.gn_payload.proofs.hit_result.split_results.Goals as goal

pub slice_bounds-result-count : goal.slice_bounds-result-count
slice_bounds-result-count c = (split_past c.args.count c.args.bytes.now c.in_ok-rest.rest.now (sym c.in_ok-rest.ensures)).0

pub returns : goal.returns
returns c = let split = split_past c.args.count c.args.bytes.now c.in_ok-rest.rest.now (sym c.in_ok-rest.ensures) in (split.1, split.2)
