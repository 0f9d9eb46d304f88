use Rattle.std.proofs.Common.{◌++◌, ◌∙◌, ap, arith, vec_items}
use Rattle.std.specs.Option.{option_to_list}
use Rattle.std.specs.Vec.Iter.{into_iter_items}
use Rattle.gn_report.specs.Accounts.{account_in}
use Rattle.gn_report.proofs.KeptLemmas.{mapped_all, mapped_on}
use Rattle.gn_report.proofs.kept.Kept.into_accounts.Goals as goal

pub loop-end-preserved : goal.loop-end-preserved
loop-end-preserved g c =
    mapped_on account_in (vec_items c.loop-end.made) (vec_items c.push_some.new.list) (into_iter_items c.loop-end.end-iterator) (into_iter_items c.next.new.self) _ c.in-Some.end c.in-Some.ensures.steps.0 c.loop-end.invariant
    (c.in_ok-push_some.ensures ∙ ap (λ o. vec_items c.loop-end.made ++ option_to_list o) c.account_in.ensures)

pub returns : goal.returns
returns g c =
    mapped_all account_in (vec_items c.loop-end.made) (into_iter_items c.loop-end.end-iterator) _ (omega (arith, c.loop-end.end-iterator.rest.ok, c.in-None.ensures.steps.0)) c.loop-end.invariant
