use Rattle.std.specs.Prelude.{◌≡◌, ◌++◌, ◌∷◌, false, map}
use Rattle.json.specs.Token.{begin_array}
use Rattle.json.specs.Tree.{items_tokens}
use Rattle.serde_json.specs.View.{items_of}
use Rattle.serde_json.specs.Written.{items_outline}
use Rattle.gn_show.specs.Values.{result_data}
use Rattle.gn_show.proofs.payload_json.put_results.Given as goal

abbrev pub invariant-loop-found : goal.invariant-loop-found
invariant-loop-found l =
    l.tokens.ran_out ≡ false → (l.fn.tokens.ran_out ≡ false)
    × (l.tokens.pieces ++ items_tokens (items_outline (items_of (map result_data l.found-iterator)))
    ≡ l.fn.tokens.pieces ++ begin_array ∷ items_tokens (items_outline (items_of (map result_data l.fn.hit.results))))
