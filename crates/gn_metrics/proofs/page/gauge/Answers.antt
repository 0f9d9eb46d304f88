use Rattle.std.proofs.Common.{List, ap, ℕ}
use Rattle.std.proofs.lemmas.List.{append-nil}
use Rattle.gn_metrics.specs.Page.{gauge_kind, number_text}
use Rattle.gn_metrics.proofs.page.gauge.Goals as goal

pub returns : goal.returns
returns c = ap (λ (name : List ℕ). number_text name gauge_kind c.args.help.now c.args.value) (append-nil c.args.name.now)
