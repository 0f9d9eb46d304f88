use Rattle.std.specs.Prelude.{◌≡◌, ◌++◌, false}
use Rattle.gn_show.specs.Plain.{results_words}
use Rattle.gn_show.proofs.plain_descriptor.push_results.Given as goal

abbrev pub invariant-loop-found : goal.invariant-loop-found
invariant-loop-found l =
    l.out.ran_out ≡ false → (l.fn.out.ran_out ≡ false) × (l.out.pieces ++ results_words l.found-iterator ≡ l.fn.out.pieces ++ results_words l.fn.hit.results)
