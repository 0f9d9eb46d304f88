-- Who has the list may send it to another thread.
use denote.RattleType.{RattleType}
use denote.Param.Send.{IsSend}
use Rattle.gn_actors.specs.declared.growing.Named.{Ghosts}
use Rattle.gn_actors.specs.contracts.growing.Growing.{the_row}
use Rattle.gn_actors.proofs.Steps.{top_keyless}

pub send : (T N : RattleType) (g : Ghosts N.Denot) → IsSend (the_row T N g)
send T N g = record { owned = λ d vs. ((λ vss. (tt, ((λ uss. (tt, tt)), tt))), top_keyless T.coded g.growing d.items); leaving = λ k f vs. tt }
