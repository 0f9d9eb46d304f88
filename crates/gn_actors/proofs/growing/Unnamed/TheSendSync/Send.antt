-- Who has the list may send it to another thread.
use denote.RattleType.{RattleType}
use denote.Param.Send.{IsSend}
use Rattle.std.proofs.Common.{[]}
use Rattle.gn_actors.specs.contracts.growing.Unnamed.{the_row}
use Rattle.gn_actors.proofs.Steps.{top_keyless}

pub send : (T : RattleType) → IsSend (the_row T)
send T = record { owned = λ d vs. ((λ vss. (tt, ((λ uss. (tt, tt)), tt))), top_keyless T.coded d.name []); leaving = λ k f vs. tt }
