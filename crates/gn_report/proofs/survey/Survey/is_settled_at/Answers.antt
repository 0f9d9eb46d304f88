use Rattle.std.proofs.Common.{rules, sym}
use Rattle.gn_report.proofs.SurveyLemmas.{settled_there}
use Rattle.gn_report.proofs.survey.Survey.is_settled_at.Goals as goal

pub returns-then-is_drains_close_at : goal.returns-then-is_drains_close_at
returns-then-is_drains_close_at g c =
    sym (settled_there c.args.links.now c.args.steps.now c.args.k (c.requires (search rules)) (c.is_drains_close_at.ensures (search rules)))
