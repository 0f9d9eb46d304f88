-- Which connection told of the servent of each Push that was queued to it.
use Rattle.std.proofs.Common.{◌≡◌, ℕ, List, [], ◌∷◌, Some, Ok, inl, inr, sym, ap, subst, ◌∙◌}
use Rattle.std.specs.List.{AllByRecursion, Contains}
use Rattle.std.proofs.lemmas.List.Elements.{Contains-append_cases}
use Rattle.gn_wire.specs.declared.kind.Guid.{Guid}
use Rattle.gn_wire.specs.declared.kind.Kind.TheVariants.{Pong, Push}
use Rattle.gn_wire.specs.Packet.{Packet}
use Rattle.gn_payload.specs.Fields.{push_servent}
use Rattle.gn_rules.specs.declared.config.Config.{Config}
use Rattle.gn_rules.specs.declared.event.Event.{Event}
use Rattle.gn_rules.specs.declared.event.Event.TheVariants.{Connect, Close, Admit, Route, Take, Originate}
use Rattle.gn_rules.specs.declared.receipt.Step.{Step}
use Rattle.gn_rules.specs.declared.reply.Reply.{Reply}
use Rattle.gn_rules.specs.declared.sends.Sending.{Sending}
use Rattle.gn_rules.specs.Answer.{answer, IsLegal}
use Rattle.gn_rules.specs.Decision.{decide}
use Rattle.gn_rules.specs.Flight.{Admission, admission}
use Rattle.gn_rules.specs.History.{sends_of}
use Rattle.gn_rules.specs.Output.{queued, queued_to}
use Rattle.gn_rules.proofs.AnswerLemmas.{answered}
use Rattle.gn_paths.specs.Networks.{HasHit}
use Rattle.gn_paths.specs.Paths.{HitCameFrom}
use Rattle.gn_paths.specs.Sends.{admitted_on}
use Rattle.gn_paths.proofs.OriginLemmas.{admitted_later, none_in, queued_sent, quiet_sends, routed_admitted, was_admitted}
use Rattle.gn_paths.proofs.PathLemmas.{decision_all, fanout_all, rests, routed_as}
use Rattle.gn_paths.proofs.PushLemmas.{push_asks_not, push_way, route_known}
use Rattle.gn_paths.proofs.RequestLemmas.{originate_parts}

-- the connection that a send goes to admitted a Query Hit of a Push's servent
abbrev WasTold : {A : Type 0} → List (Step A) → Sending A → Type 0
WasTold past x = x.packet.kind ≡ Push → HasHit (admitted_on past x.to) (push_servent x.packet.payload)

hit_admitted : {A : Type 0} (past : List (Step A)) (servent : Guid) (c : ℕ) → HitCameFrom past servent c → HasHit (admitted_on past c) servent
hit_admitted past servent c came = (came.hit.packet, routed_admitted past c came.hit, came.kind, came.names)

pong_is_no_push : Pong ≡ Push → ⊥
pong_is_no_push e = cc

route_told : {A : Type 0} (s : Config) (past : List (Step A)) (t : ℕ) (reply : Reply A) (a : Admission) → answer s past (Route t) ≡ Ok reply → admission past t ≡ Some a
    → AllByRecursion (λ x. WasTold past x) (sends_of reply)
route_told {A} s past t reply a e found =
    subst (λ (r : Reply A). AllByRecursion (λ x. WasTold past x) (sends_of r)) (sym (routed_as s past t reply a e found))
    (decision_all (λ x. WasTold past x) s past a (decide s past a) (rests s past a)
    (λ ping push. absurd (pong_is_no_push push))
    (λ c asks other unexpired push. absurd (push_asks_not a.packet.kind push asks))
    (λ r passes push. hit_admitted past (push_servent a.packet.payload) r (route_known s past (push_servent a.packet.payload) r (push_way s past a a.packet.kind r push passes.way)).came))

none_told : {A : Type 0} (past : List (Step A)) (sends : List (Sending A)) → sends ≡ [] → AllByRecursion (λ x. WasTold past x) sends
none_told past sends none = subst (λ xs. AllByRecursion (λ x. WasTold past x) xs) (sym none) tt

step_told : {A : Type 0} (s : Config) (past : List (Step A)) (event : Event A) (reply : Reply A) → answer s past event ≡ Ok reply → AllByRecursion (λ x. WasTold past x) (sends_of reply)
step_told {A} s past (Route t) reply e =
    let was = was_admitted s past t reply e in
    route_told s past t reply was.admitted e was.found
step_told {A} s past (Originate d) reply e =
    subst (λ (r : Reply A). AllByRecursion (λ x. WasTold past x) (sends_of r)) (sym (answered s past (Originate d) reply e))
    (fanout_all (λ x. WasTold past x) s past 0 d (λ c other push. absurd (push_asks_not d.kind push (originate_parts s past d reply e).0)))
step_told s past Connect reply e = none_told past (sends_of reply) (quiet_sends s past Connect reply e tt)
step_told s past (Close d) reply e = none_told past (sends_of reply) (quiet_sends s past (Close d) reply e tt)
step_told s past (Admit d packet) reply e = none_told past (sends_of reply) (quiet_sends s past (Admit d packet) reply e tt)
step_told s past (Take d) reply e = none_told past (sends_of reply) (quiet_sends s past (Take d) reply e tt)

told_later : {A : Type 0} (step : Step A) (past : List (Step A)) (c : ℕ) (servent : Guid) → HasHit (admitted_on past c) servent → HasHit (admitted_on (step ∷ past) c) servent
told_later step past c servent has = (has.0, admitted_later (step ∷ []) past c has.0 has.1, has.2, has.3)

-- in a legal history c admitted a Query Hit of the servent of each Push that was ever queued to it
pub pushes_were_told : (A : Type 0) (s : Config) (past : List (Step A)) (c : ℕ) (push : Packet) → IsLegal s past → Contains (queued past c) push → push.kind ≡ Push → HasHit (admitted_on past c) (push_servent push.payload)
pushes_were_told A s [] c push legal has is = absurd (none_in push has)
pushes_were_told A s (step ∷ past) c push legal has is =
    told_later step past c (push_servent push.payload)
    (elim (Contains-append_cases (queued past c) (queued_to c (sends_of step.reply)) push has) as (λ w. HasHit (admitted_on past c) (push_servent push.payload)) [
      | inl before ↦ pushes_were_told A s past c push legal.1 before is
      | inr now ↦
          let sent = queued_sent (λ x. WasTold past x) c (sends_of step.reply) push (step_told s past step.event step.reply legal.0) now in
          let told = sent.1 (ap (λ (q : Packet). q.kind) sent.3 ∙ is) in
          subst (λ (q : Packet). HasHit (admitted_on past c) (push_servent q.payload)) sent.3
          (subst (λ d. HasHit (admitted_on past d) (push_servent sent.0.packet.payload)) sent.2 told)
    ])
