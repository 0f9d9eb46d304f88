use Rattle.gn_show.proofs.plain_descriptor.push_read.Goals as goal

pub returns-in-Pong : goal.returns-in-Pong
returns-in-Pong c = rw c.in-Pong.is c.push_pong.ensures

pub returns-in-Push : goal.returns-in-Push
returns-in-Push c = rw c.in-Push.is c.push_push.ensures

pub returns-in-Query : goal.returns-in-Query
returns-in-Query c = rw c.in-Query.is c.push_query.ensures

pub returns-in-Hit : goal.returns-in-Hit
returns-in-Hit c = rw c.in-Hit.is c.push_hit.ensures
