use Rattle.std.proofs.Common.{ℕ, ◌∙◌}
use Rattle.gn_table_router.proofs.ReadLemmas.{is_there}
use Rattle.gn_table_router.proofs.store.TableStoreLookup.is_live.Goals as goal

pub returns : goal.returns
returns g c = c.is_some.ensures ∙ is_there (λ (r : ℕ × ℕ). r.1) _ _ _ c.output.ensures
