use Rattle.gn_report.proofs.SurveyLemmas.{is_read_by}
use Rattle.gn_report.proofs.survey.Survey.is_read_by.Goals as goal

pub returns : goal.returns
returns g c = is_read_by c.args.roles.now c.args.steps.now c.args.self.now.read c.args.k c.requires
