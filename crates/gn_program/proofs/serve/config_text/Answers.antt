use Rattle.std.proofs.Common.{refl}
use Rattle.gn_program.proofs.ConfigLemmas.{all_rows}
use Rattle.gn_program.proofs.serve.config_text.Goals as goal

pub returns : goal.returns
returns c = all_rows _ c.args.serving.now _ _ _ c.serving.view_is c.new-out.ensures.items c.in_ok-push_rows.ensures refl
