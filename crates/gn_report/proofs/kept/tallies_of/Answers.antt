use Rattle.std.proofs.Common.{◌++◌, ◌∙◌, ap, rules, vec_items}
use Rattle.std.specs.Option.{option_to_list}
use Rattle.gn_report.specs.Accounts.{tally_in}
use Rattle.gn_report.proofs.KeptLemmas.{mapped_more, mapped_whole}
use Rattle.gn_report.proofs.kept.tallies_of.Goals as goal

pub loop-end-preserved : goal.loop-end-preserved
loop-end-preserved g c =
    mapped_more tally_in (vec_items c.loop-end.made) (vec_items c.push_some.new.list) c.args.ends.now c.loop-end.end-index c.end-item.result c.loop-end-test.true c.end-item.is c.loop-end.invariant
    (c.in_ok-push_some.ensures ∙ ap (λ o. vec_items c.loop-end.made ++ option_to_list o) c.tally_in.ensures)

pub returns : goal.returns
returns g c = mapped_whole tally_in (vec_items c.loop-end.made) c.args.ends.now c.loop-end.end-index (search rules) c.loop-end.invariant
