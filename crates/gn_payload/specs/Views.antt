-- What the types with borrowed parts say.
use Rattle.std.specs.Prelude.{ℕ, List, map}
use Rattle.gn_wire.specs.declared.kind.Guid.{Guid}
use Rattle.gn_payload.specs.declared.payload.Payload.{Payload}
use Rattle.gn_payload.specs.declared.payload.Payload.TheVariants as payload
use Rattle.gn_payload.specs.declared.query.Query.{Query}
use Rattle.gn_payload.specs.declared.hit_result.HitResult.{HitResult}
use Rattle.gn_payload.specs.Fields.{QueryFields, ResultFields, HitFields}
use Rattle.gn_payload.specs.Reading.{Read}
use Rattle.gn_payload.specs.Reading.Read.{Empty, OfPong, OfPush, OfQuery, OfHit}

-- what a Query says
abbrev pub query_fields : Query → QueryFields
query_fields q = record { speed = q.speed; text = q.text.now; tail = q.tail.now }

-- what a result says
abbrev pub result_fields : HitResult → ResultFields
result_fields r = record { file = r.file; size = r.size; name = r.name.now; extra = r.extra.now }

-- what a Query Hit of these parts says
abbrev pub hit_fields : (port : ℕ) → (ip : List ℕ) → (speed : ℕ) → List HitResult → (trailer : List ℕ) → Guid → HitFields
hit_fields port ip speed results trailer servent =
    record { port = port; ip = ip; speed = speed; results = map result_fields results; trailer = trailer; servent = servent }

-- what a payload that is read says
abbrev pub payload_seen : Payload → Read
payload_seen payload.Ping = Empty
payload_seen (payload.Pong pong) = OfPong pong
payload_seen (payload.Push push) = OfPush push
payload_seen (payload.Query query) = OfQuery (query_fields query)
payload_seen (payload.Hit hit) = OfHit hit
