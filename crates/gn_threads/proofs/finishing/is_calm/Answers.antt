use Rattle.std.proofs.Common.{◌≡◌, ◌==◌, ◌∙◌, ap, rules, sym}
use Rattle.gn_threads.proofs.finishing.is_calm.Goals as goal

pub returns-then-is_same_config : goal.returns-then-is_same_config
returns-then-is_same_config g c = λ right.
    let same : c.config.result.now ≡ c.args.config.now = search rules in
    record {
      same = sym c.config.ensures ∙ same;
      tickets = ap (λ n. n == 0) (sym c.flights.ensures ∙ c.if-flights-eq0.true);
      right = c.are_right.ensures right;
    }
