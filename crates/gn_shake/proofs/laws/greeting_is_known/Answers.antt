use Rattle.gn_shake.proofs.GreetingLemmas.{greeting_is_known}
use Rattle.gn_shake.proofs.laws.greeting_is_known.Goals as goal

pub returns : goal.returns
returns c = greeting_is_known
