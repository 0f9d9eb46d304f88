use Rattle.gn_text.proofs.SettingsLemmas.{not_taken, taken}
use Rattle.gn_text.proofs.settings.within.Goals as goal

pub returns-in-Some-clause-value : goal.returns-in-Some-clause-value
returns-in-Some-clause-value c = not_taken c.args.numbers c.in-Some.field-0 c.in-Some.ensures.first

pub returns-in-None-clause-value : goal.returns-in-None-clause-value
returns-in-None-clause-value c = taken c.args.numbers c.in-None.ensures.within
