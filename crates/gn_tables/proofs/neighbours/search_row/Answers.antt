use Rattle.std.proofs.Common.{rules, ◌∙◌}
use Rattle.std.proofs.lemmas.List.Sorted.{answers_always}
use Rattle.gn_tables.proofs.SearchLemmas.{searched}
use Rattle.gn_tables.proofs.neighbours.search_row.Goals as goal

pub returns : goal.returns
returns g c =
    let facts = c.binary_search_by_key.ensures in
    let by_key = facts.position (λ row. row.0) (answers_always _ _ _ (λ f a r g called. search rules)) in
    c.ok.ensures.value ∙ searched c.args.connection c.args.rows.now c.requires c.binary_search_by_key.result facts.bound by_key
