use Rattle.std.proofs.Common.{arith, map}
use Rattle.std.proofs.lemmas.List.{length-map}
use Rattle.gn_text.proofs.SettingsLemmas.{few_fields}
use Rattle.gn_text.proofs.settings.read_numbers.Goals as goal

pub returns-in_default-clause-value : goal.returns-in_default-clause-value
returns-in_default-clause-value c =
    let fields = c.args.fields.now in
    let same = length-map fields (λ x. x.now) in
    few_fields c.args.version (map (λ x. x.now) fields) (omega (arith, c.in_default.len_below, same))
