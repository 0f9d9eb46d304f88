use Rattle.gn_program.proofs.PageLemmas.{added}
use Rattle.gn_program.proofs.request.with_page.Goals as goal

pub returns : goal.returns
returns g c = added _ _ _ c.subcommand.result c.in_ok-page.ensures.shape c.in_ok-page.ensures.globals c.subcommand.ensures
