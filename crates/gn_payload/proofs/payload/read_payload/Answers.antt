use Rattle.std.proofs.Common.{◌≡◌, Option, None, option_map, sym, ap, ◌∙◌}
use Rattle.gn_payload.specs.declared.payload.Payload.{Payload}
use Rattle.gn_payload.specs.declared.pong.Pong.{Pong}
use Rattle.gn_payload.specs.declared.push.Push.{Push}
use Rattle.gn_payload.specs.Fields.{QueryFields, HitFields}
use Rattle.gn_payload.specs.Reading.{Read, reading}
use Rattle.gn_payload.specs.Reading.Read.{OfPong, OfPush, OfQuery, OfHit}
use Rattle.gn_payload.specs.Views.{payload_seen}
use Rattle.gn_payload.proofs.PongGrammar.{no_pong, no_push, pong_read, push_read}
use Rattle.gn_payload.proofs.payload.read_payload.Goals as goal

-- nothing is read where the reading is none
unseen : (o : Option Payload) (r : Option Read) → o ≡ None → r ≡ None → option_map payload_seen o ≡ r
unseen o r none unread = ap (λ (x : Option Payload). option_map payload_seen x) none ∙ sym unread

pub returns-in_ok-read_pong-in-Pong : goal.returns-in_ok-read_pong-in-Pong
returns-in_ok-read_pong-in-Pong c =
    let bytes = c.args.bytes.now in
    sym (ap (λ kind. reading kind bytes) c.in-Pong.is ∙ ap (λ (o : Option Pong). option_map OfPong o) (pong_read bytes c.in_ok-read_pong-in-Pong.field-0 c.in_ok-read_pong-in-Pong.ensures.found))

pub returns-in_err-read_pong-in-Pong : goal.returns-in_err-read_pong-in-Pong
returns-in_err-read_pong-in-Pong c =
    let bytes = c.args.bytes.now in
    unseen c.from_residual.result _ c.from_residual.ensures (ap (λ kind. reading kind bytes) c.in-Pong.is ∙ ap (λ (o : Option Pong). option_map OfPong o) (no_pong bytes c.in_err-read_pong-in-Pong.ensures.none))

pub returns-in_ok-read_push-in-Push : goal.returns-in_ok-read_push-in-Push
returns-in_ok-read_push-in-Push c =
    let bytes = c.args.bytes.now in
    sym (ap (λ kind. reading kind bytes) c.in-Push.is ∙ ap (λ (o : Option Push). option_map OfPush o) (push_read bytes c.in_ok-read_push-in-Push.field-0 c.in_ok-read_push-in-Push.ensures.found))

pub returns-in_err-read_push-in-Push : goal.returns-in_err-read_push-in-Push
returns-in_err-read_push-in-Push c =
    let bytes = c.args.bytes.now in
    unseen c.from_residual-in_err-read_push-in-Push.result _ c.from_residual-in_err-read_push-in-Push.ensures (ap (λ kind. reading kind bytes) c.in-Push.is ∙ ap (λ (o : Option Push). option_map OfPush o) (no_push bytes c.in_err-read_push-in-Push.ensures.none))

pub returns-in_ok-query_in-in-Query : goal.returns-in_ok-query_in-in-Query
returns-in_ok-query_in-in-Query c =
    let bytes = c.args.bytes.now in
    ap (λ (o : Option QueryFields). option_map OfQuery o) c.in_ok-query_in-in-Query.ensures ∙ ap (λ kind. reading kind bytes) (sym c.in-Query.is)

pub returns-in_err-query_in-in-Query : goal.returns-in_err-query_in-in-Query
returns-in_err-query_in-in-Query c =
    let bytes = c.args.bytes.now in
    unseen c.from_residual-in_err-query_in-in-Query.result _ c.from_residual-in_err-query_in-in-Query.ensures (ap (λ kind. reading kind bytes) c.in-Query.is ∙ ap (λ (o : Option QueryFields). option_map OfQuery o) (sym c.in_err-query_in-in-Query.ensures))

pub returns-in_ok-hit_in-in-QueryHit : goal.returns-in_ok-hit_in-in-QueryHit
returns-in_ok-hit_in-in-QueryHit c =
    let bytes = c.args.bytes.now in
    ap (λ (o : Option HitFields). option_map OfHit o) c.in_ok-hit_in-in-QueryHit.ensures ∙ ap (λ kind. reading kind bytes) (sym c.in-QueryHit.is)

pub returns-in_err-hit_in-in-QueryHit : goal.returns-in_err-hit_in-in-QueryHit
returns-in_err-hit_in-in-QueryHit c =
    let bytes = c.args.bytes.now in
    unseen c.from_residual-in_err-hit_in-in-QueryHit.result _ c.from_residual-in_err-hit_in-in-QueryHit.ensures (ap (λ kind. reading kind bytes) c.in-QueryHit.is ∙ ap (λ (o : Option HitFields). option_map OfHit o) (sym c.in_err-hit_in-in-QueryHit.ensures))
