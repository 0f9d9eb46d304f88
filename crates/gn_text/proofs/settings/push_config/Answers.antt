use Rattle.gn_text.proofs.WholeLemmas.{appended, config_put, first_put, second_put, third_put}
use Rattle.gn_text.proofs.settings.push_config.Goals as goal

pub returns-clause-ok : goal.returns-clause-ok
returns-clause-ok g c =
    let n = c.args.numbers.now in
    appended c.push_parts.result c.args.out.now.items c.push_parts.new.out.items _ _ c.push_parts.ensures.ok
    (config_put n _ c.least_version.result c.parts_of.result
    (record { first = first_put n; second = second_put n c.from.result c.from.ensures; third = third_put n c.from.result c.from.ensures })
    c.least_version.ensures c.parts_of.ensures.count)
