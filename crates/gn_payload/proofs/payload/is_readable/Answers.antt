use Rattle.std.proofs.Common.{sym, ap, ◌∙◌}
use Rattle.gn_payload.specs.Reading.{has_reading}
use Rattle.gn_payload.specs.Views.{query_fields}
use Rattle.gn_payload.proofs.SoundLemmas.{hit_tested, query_tested}
use Rattle.gn_payload.proofs.payload.is_readable.Goals as goal

pub returns-in-Query : goal.returns-in-Query
returns-in-Query c =
    let bytes = c.args.payload.now in
    query_tested query_fields bytes c.query_in.result c.is_some.result c.is_some.ensures c.query_in.ensures ∙ ap (λ kind. has_reading kind bytes) (sym c.in-Query.is)

pub returns-in-QueryHit : goal.returns-in-QueryHit
returns-in-QueryHit c =
    let bytes = c.args.payload.now in
    hit_tested bytes c.hit_in.result c.is_some-in-QueryHit.result c.is_some-in-QueryHit.ensures c.hit_in.ensures ∙ ap (λ kind. has_reading kind bytes) (sym c.in-QueryHit.is)
