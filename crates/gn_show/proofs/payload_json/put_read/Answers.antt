use Rattle.gn_show.proofs.payload_json.put_read.Goals as goal

pub returns-in-Pong : goal.returns-in-Pong
returns-in-Pong c = rw c.in-Pong.is c.put_pong.ensures

pub returns-in-Push : goal.returns-in-Push
returns-in-Push c = rw c.in-Push.is c.put_push.ensures

pub returns-in-Query : goal.returns-in-Query
returns-in-Query c = rw c.in-Query.is c.put_query.ensures

pub returns-in-Hit : goal.returns-in-Hit
returns-in-Hit c = rw c.in-Hit.is c.put_hit.ensures
