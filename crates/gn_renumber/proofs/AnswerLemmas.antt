-- The rules answer the same after two pasts of which they read the same.
use Rattle.std.proofs.Common.{◌≡◌, ◌+◌, ◌==◌, ◌&&◌, not, cond, nat_lt, ℕ, true, false, List, [], ◌∷◌, ◌++◌, length, filter, map, Option, Some, None, is_some, Result, Ok, Err, refl, ap, ◌∙◌}
use mathlib.Core.Path.{fun_ext}
use Rattle.std.specs.Option.{ok_or, option_map, option_map_or}
use Rattle.gn_wire.specs.declared.kind.Guid.{Guid}
use Rattle.gn_wire.specs.declared.key.Key.{Key}
use Rattle.gn_wire.specs.Keys.{is_same_id, key_of}
use Rattle.gn_wire.specs.Packet.{Packet, forward_of, is_expired}
use Rattle.gn_payload.specs.declared.checked.Verdict.{Verdict}
use Rattle.gn_payload.specs.declared.checked.Verdict.TheVariants.{Malformed, Sound, UnknownKind}
use Rattle.gn_payload.specs.Fields.{push_servent}
use Rattle.gn_payload.specs.Reading.{verdict_of}
use Rattle.gn_rules.specs.declared.config.Config.{Config}
use Rattle.gn_rules.specs.declared.event.Event.{Event}
use Rattle.gn_rules.specs.declared.event.Event.TheVariants.{Admit, Close, Connect, Originate, Route, Take}
use Rattle.gn_rules.specs.declared.receipt.Step.{Step}
use Rattle.gn_rules.specs.declared.refusal.Refusal.{Refusal}
use Rattle.gn_rules.specs.declared.refusal.Refusal.TheVariants.{HistoryFull, NoTicket}
use Rattle.gn_rules.specs.declared.reply.DropReason.TheVariants as reason
use Rattle.gn_rules.specs.declared.reply.Reply.{Reply}
use Rattle.gn_rules.specs.declared.reply.Reply.TheVariants.{Routed}
use Rattle.gn_rules.specs.declared.routing.Routing.{Routing}
use Rattle.gn_rules.specs.declared.routing.Routing.TheVariants.{Back, Floods, Pushed, Unnamed}
use Rattle.gn_rules.specs.declared.sends.Sending.{Sending}
use Rattle.gn_rules.specs.Answer.{answer, decision_reply, event_answer}
use Rattle.gn_rules.specs.Decision.{Decision, Drop, Flood, Forward, Local, checks, decide, decide_checked, decide_reply, decide_routed}
use Rattle.gn_rules.specs.Flight.{Admission, in_flight}
use Rattle.gn_rules.specs.History.{live, live_connections}
use Rattle.gn_rules.specs.Output.{out}
use Rattle.gn_rules.specs.Routings.{routing_of}
use Rattle.gn_rules.specs.SeenEntries.{is_remembered, source}
use Rattle.gn_rules.specs.Sending.{fanout, flood_sends, is_ping, own_pong, send}
use Rattle.gn_rules.specs.Servents.{servent_route}
use Rattle.gn_renumber.proofs.AlikeLemmas.{ReadAlike, flying_all, flying_here, in_flight_here, live_all, servent_here, source_here}

module _ {A : Type 0} (s : Config) (p q : List (Step A)) (h : ReadAlike p q) where
  send_alike : (packet : Packet) (c : ℕ) → send {A = A} s p packet c ≡ send s q packet c
  send_alike packet c = ap (λ (o : List Packet). record { to = c; packet = packet; queued = nat_lt (length o) s.numbers.out }) (h.outs c)

  fanout_alike : (c : ℕ) (packet : Packet) → fanout s p c packet ≡ fanout s q c packet
  fanout_alike c packet =
      ap (λ (cs : List ℕ). map (send s p packet) (filter (λ d. not (d == c)) cs)) (live_all p q h)
      ∙ ap (λ (f : ℕ → Sending A). map f (filter (λ d. not (d == c)) (live_connections q))) (fun_ext (send_alike packet))

  flood_alike : (a : Admission) → flood_sends s p a ≡ flood_sends s q a
  flood_alike a =
      let pong : Packet = own_pong s.own a.packet in
      let forward : Packet = forward_of s.numbers.life a.packet in
      let rest : Packet → List (Sending A) → List (Sending A) = λ f more. cond (is_expired s.numbers.life a.packet) [] more in
      ap (λ b. cond (is_ping a.packet.kind && b) (send s p pong a.origin ∷ []) [] ++ rest forward (fanout s p a.origin forward)) (h.lives a.origin)
      ∙ (ap (λ (x : Sending A). cond (is_ping a.packet.kind && live q a.origin) (x ∷ []) [] ++ rest forward (fanout s p a.origin forward)) (send_alike pong a.origin)
      ∙ ap (λ (more : List (Sending A)). cond (is_ping a.packet.kind && live q a.origin) (send s q pong a.origin ∷ []) [] ++ rest forward more) (fanout_alike a.origin forward))

  checks_alike : (a : Admission) (r : ℕ) → checks s p a r ≡ checks s q a r
  checks_alike a r =
      ap (λ b. cond (not b) (Drop reason.RouteGone) (cond (r == a.origin) (Drop reason.BackToSender) (cond (is_expired s.numbers.life a.packet) (Drop reason.Expired) (Forward r)))) (h.lives r)

  back_alike : (a : Admission) (o : Option ℕ) → decide_reply s p a o ≡ decide_reply s q a o
  back_alike a None = refl
  back_alike a (Some r) = ap (λ (d : Decision). cond (r == 0) Local d) (checks_alike a r)

  known_alike : (key : Key) → is_remembered s p key ≡ is_remembered s q key
  known_alike key = ap is_some (source_here p q h s key)

  pushed_alike : (a : Admission) (o : Option ℕ) → option_map_or (checks s p a) o (Drop reason.NoRoute) ≡ option_map_or (checks s q a) o (Drop reason.NoRoute)
  pushed_alike a None = refl
  pushed_alike a (Some r) = checks_alike a r

  passed_alike : (a : Admission) (routing : Routing) → decide_routed s p a routing ≡ decide_routed s q a routing
  passed_alike a Floods = ap (λ b. cond b (Drop reason.Duplicate) Flood) (known_alike (key_of a.packet))
  passed_alike a (Back kind) = let key : Key = record { kind = kind; id = a.packet.id } in ap (decide_reply s p a) (source_here p q h s key) ∙ back_alike a (source s q key)
  passed_alike a Pushed =
      let servent : Guid = push_servent a.packet.payload in
      let route : Decision = option_map_or (checks s p a) (servent_route s p servent) (Drop reason.NoRoute) in
      ap (λ b. cond b (Drop reason.Duplicate) (cond (is_same_id servent s.own.servent) Local route)) (known_alike (key_of a.packet))
      ∙ ap (λ (d : Decision). cond (is_remembered s q (key_of a.packet)) (Drop reason.Duplicate) (cond (is_same_id servent s.own.servent) Local d))
      (ap (λ (o : Option ℕ). option_map_or (checks s p a) o (Drop reason.NoRoute)) (servent_here p q h s servent) ∙ pushed_alike a (servent_route s q servent))
  passed_alike a Unnamed = refl

  checked_alike : (a : Admission) (verdict : Verdict) → decide_checked s p a verdict ≡ decide_checked s q a verdict
  checked_alike a UnknownKind = refl
  checked_alike a Malformed = refl
  checked_alike a Sound = passed_alike a (routing_of a.packet.kind)

  made_alike : (a : Admission) (d : Decision) → decision_reply {A = A} s p a d ≡ decision_reply s q a d
  made_alike a (Drop why) = refl
  made_alike a Local = refl
  made_alike a Flood = ap (λ (sends : List (Sending A)). Routed sends true) (flood_alike a)
  made_alike a (Forward r) = ap (λ (x : Sending A). Routed (x ∷ []) false) (send_alike (forward_of s.numbers.life a.packet) r)

  routed_alike : (o : Option Admission) → ok_or (option_map (λ a. decision_reply s p a (decide s p a)) o) NoTicket ≡ ok_or (option_map (λ a. decision_reply s q a (decide s q a)) o) NoTicket
  routed_alike None = refl
  routed_alike (Some a) = ap (λ (r : Reply A). Ok r) (ap (decision_reply s p a) (checked_alike a (verdict_of a.packet)) ∙ made_alike a (decide s q a))

  event_alike : (event : Event A) → event_answer s p event ≡ event_answer s q event
  event_alike Connect =
      let cs = live_all p q h in
      let all = h.conns in
      cc
  event_alike (Close c) =
      let lives = h.lives c in
      let outs = h.outs c in
      cc
  event_alike (Admit c d) =
      let lives = h.lives c in
      let flies = flying_all p q h in
      let from = flying_here p q h c in
      let given = h.given in
      cc
  event_alike (Route t) =
      ap (λ (o : Option Admission). ok_or (option_map (λ a. decision_reply s p a (decide s p a)) o) NoTicket) (in_flight_here p q h t) ∙ routed_alike (in_flight q t)
  event_alike (Take c) =
      let lives = h.lives c in
      let outs = h.outs c in
      cc
  event_alike (Originate d) =
      let known = known_alike (key_of d) in
      let sends = fanout_alike 0 d in
      cc

  pub answer_alike : (event : Event A) → answer s p event ≡ answer s q event
  answer_alike event =
      ap (λ n. cond (n == s.numbers.steps) (Err HistoryFull) (event_answer s p event)) h.many ∙ ap (λ (r : Result (Reply A) Refusal). cond (length q == s.numbers.steps) (Err HistoryFull) r) (event_alike event)
