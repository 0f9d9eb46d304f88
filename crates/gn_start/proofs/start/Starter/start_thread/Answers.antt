use Rattle.std.proofs.Common.{◌≡◌, ◌∙◌, ap}
use Rattle.gn_start.proofs.OpeningLemmas.{some_of_ok}
use Rattle.gn_start.proofs.start.Starter.start_thread.Goals as goal

pub returns : goal.returns
returns g c = some_of_ok _ (λ h. h.promise.start.value ≡ c.args.start) c.spawn_with.result c.ok.result (λ h is. ap (λ p. p.start.value) is ∙ c.of.ensures) c.ok.ensures.value c.spawn_with.ensures.ok
