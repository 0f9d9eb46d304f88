use Rattle.std.proofs.Common.{◌≡◌, ◌-◌, option_map}
use Rattle.gn_payload.specs.Reading.{results_reading}
use Rattle.gn_payload.proofs.hit_result.past_results.Given as goal

abbrev pub invariant-loop : goal.invariant-loop
invariant-loop l =
    option_map (λ x. x.1) (results_reading (l.count - l.counter) l.rest) ≡ option_map (λ x. x.1) (results_reading l.count l.bytes)
