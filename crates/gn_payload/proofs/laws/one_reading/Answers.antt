use Rattle.std.proofs.Common.{◌∙◌, sym}
use Rattle.std.proofs.lemmas.Option.{same_Some}
use Rattle.gn_payload.proofs.HitGrammar.{query_read, hit_read}
use Rattle.gn_payload.proofs.laws.one_reading.Goals as goal

pub returns-clause-query : goal.returns-clause-query
returns-clause-query c = λ bytes p q one two. same_Some p q (sym (query_read bytes p one) ∙ query_read bytes q two)

pub returns-clause-hit : goal.returns-clause-hit
returns-clause-hit c = λ bytes p q one two. same_Some p q (sym (hit_read bytes p one) ∙ hit_read bytes q two)
