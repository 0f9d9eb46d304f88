-- What a decision says of the descriptor that it is about.
use Rattle.std.proofs.Common.{◌≡◌, ℕ, ◌≤◌, ◌==◌, ◌&&◌, not, Bool, true, false, if◌then◌else◌, List, length, nat_le, Option, Some, None, refl, sym, ap, ◌∙◌, subst, arith}
use Rattle.std.specs.Option.{option_map_or}
use Rattle.std.proofs.lemmas.Bool.{and_parts}
use Rattle.std.proofs.lemmas.Bool.Decides.{nat_tests}
use Rattle.gn_wire.specs.declared.kind.Guid.{Guid}
use Rattle.gn_wire.specs.declared.kind.Kind.{Kind}
use Rattle.gn_wire.specs.Packet.{is_expired}
use Rattle.gn_wire.specs.Keys.{is_same_id, key_of}
use Rattle.gn_payload.specs.declared.checked.Verdict.{Verdict}
use Rattle.gn_payload.specs.declared.checked.Verdict.TheVariants as verdict
use Rattle.gn_payload.specs.Fields.{push_servent}
use Rattle.gn_payload.specs.Reading.{has_reading, is_known, verdict_of}
use Rattle.gn_rules.specs.declared.config.Config.{Config}
use Rattle.gn_rules.specs.declared.receipt.Step.{Step}
use Rattle.gn_rules.specs.declared.reply.DropReason.TheVariants as reason
use Rattle.gn_rules.specs.declared.routing.Routing.{Routing}
use Rattle.gn_rules.specs.declared.routing.Routing.TheVariants.{Floods, Back, Pushed, Unnamed}
use Rattle.gn_rules.specs.Answer.{decision_reply}
use Rattle.gn_rules.specs.Decision.{Decision, Drop, Local, Flood, Forward, checks, decide, decide_checked, decide_reply, decide_routed}
use Rattle.gn_rules.specs.Flight.{Admission}
use Rattle.gn_rules.specs.History.{is_routed_reply, sends_of, connections, live}
use Rattle.gn_rules.specs.Routings.{routing_of}
use Rattle.gn_rules.specs.Servents.{is_query_hit, servent_route}
use Rattle.gn_rules.specs.SeenEntries.{is_remembered, source}
use Rattle.gn_rules.proofs.DecisionLemmas.{hit_is}
use Rattle.gn_table_router.specs.Tabled.{AreApart}
use Rattle.gn_table_router.proofs.SendableLemmas.{AreSendable, flood, no_sends, one_send}

-- a descriptor that is passed on to r: r is live
pub record IsPassed {A : Type 0} (past : List (Step A)) (a : Admission) (r : ℕ) : Type 0 where
  pub alive : live past r ≡ true

passed_checks : (alive back expired : Bool) (q r : ℕ)
    → (if not alive then Drop reason.RouteGone else if back then Drop reason.BackToSender else if expired then Drop reason.Expired else Forward q) ≡ Forward r
    → (alive ≡ true) × (q ≡ r)
passed_checks false back expired q r h = absurd (cc)
passed_checks true true expired q r h = absurd (cc)
passed_checks true false true q r h = absurd (cc)
passed_checks true false false q r h = let same : q ≡ r = cc in (refl, same)

-- where no other branch is a forward, this is one
passed_else : (b : Bool) (d : Decision) (r : ℕ) → (if b then Drop reason.Duplicate else d) ≡ Forward r → d ≡ Forward r
passed_else true d r h = absurd (cc)
passed_else false d r h = h

passed_local : (b : Bool) (d : Decision) (r : ℕ) → (if b then Local else d) ≡ Forward r → d ≡ Forward r
passed_local true d r h = absurd (cc)
passed_local false d r h = h

long_enough : (n : ℕ) (results : Bool) → (nat_le 27 n && results) ≡ true → 16 ≤ n
long_enough n results h = grind (arith, nat_tests)

-- a Query Hit that has a reading is long enough for a servent
hit_is_long : (kind : Kind) (payload : List ℕ) → is_query_hit kind ≡ true → has_reading kind payload ≡ true → 16 ≤ length payload
hit_is_long kind payload hit read = long_enough (length payload) _ (subst (λ (k : Kind). has_reading k payload ≡ true) (hit_is kind hit) read)

module _ {A : Type 0} (s : Config) (past : List (Step A)) (a : Admission) where
  by_checks : (q r : ℕ) → checks s past a q ≡ Forward r → IsPassed past a r
  by_checks q r h =
      let all = passed_checks (live past q) (q == a.origin) (is_expired s.numbers.life a.packet) q r h in
      record { alive = ap (live past) (sym all.1) ∙ all.0 }

  by_reply : (o : Option ℕ) (r : ℕ) → decide_reply s past a o ≡ Forward r → IsPassed past a r
  by_reply None r h = absurd (cc)
  by_reply (Some q) r h = by_checks q r (passed_local (q == 0) (checks s past a q) r h)

  by_push_to : (o : Option ℕ) (r : ℕ) → option_map_or (checks s past a) o (Drop reason.NoRoute) ≡ Forward r → IsPassed past a r
  by_push_to None r h = absurd (cc)
  by_push_to (Some q) r h = by_checks q r h

  by_request : (r : ℕ) → decide_routed s past a Floods ≡ Forward r → IsPassed past a r
  by_request r h = let no : Flood ≡ Forward r = passed_else (is_remembered s past (key_of a.packet)) Flood r h in absurd (cc)

  by_push : (r : ℕ) → decide_routed s past a Pushed ≡ Forward r → IsPassed past a r
  by_push r h =
      let servent : Guid = push_servent a.packet.payload in
      let far : Decision = option_map_or (checks s past a) (servent_route s past servent) (Drop reason.NoRoute) in
      by_push_to (servent_route s past servent) r
      (passed_local (is_same_id servent s.own.servent) far r (passed_else (is_remembered s past (key_of a.packet)) (if is_same_id servent s.own.servent then Local else far) r h))

  by_routing : (routing : Routing) (r : ℕ) → decide_routed s past a routing ≡ Forward r → IsPassed past a r
  by_routing Floods r h = by_request r h
  by_routing (Back kind) r h = by_reply (source s past (record { kind = kind; id = a.packet.id })) r h
  by_routing Pushed r h = by_push r h
  by_routing Unnamed r h = absurd (cc)

  by_verdict : (v : Verdict) (r : ℕ) → decide_checked s past a v ≡ Forward r → IsPassed past a r
  by_verdict verdict.UnknownKind r h = absurd (cc)
  by_verdict verdict.Malformed r h = absurd (cc)
  by_verdict verdict.Sound r h = by_routing (routing_of a.packet.kind) r h

  pub passed : (r : ℕ) → decide s past a ≡ Forward r → IsPassed past a r
  passed r h = by_verdict (verdict_of a.packet) r h

  -- the sends of a route
  pub route_sends : AreApart (connections past) → AreSendable s past (sends_of (decision_reply s past a (decide s past a)))
  route_sends apart = by_decision (decide s past a) refl
    where
      by_decision : (d : Decision) → decide s past a ≡ d → AreSendable s past (sends_of (decision_reply s past a d))
      by_decision (Drop why) h = no_sends s past
      by_decision Local h = no_sends s past
      by_decision Flood h = flood s past apart a
      by_decision (Forward r) h = one_send s past _ r (passed r h).alive

  -- what is routed has a reading
  routed_is_read : (known read : Bool)
      → is_routed_reply (decision_reply s past a (decide_checked s past a (if known then (if read then verdict.Sound else verdict.Malformed) else verdict.UnknownKind))) ≡ true → read ≡ true
  routed_is_read true true h = refl
  routed_is_read true false h = absurd (cc)
  routed_is_read false read h = absurd (cc)

  -- so a Query Hit that is routed names its servent
  pub servent_is_known : (is_query_hit a.packet.kind && is_routed_reply (decision_reply s past a (decide s past a))) ≡ true → 16 ≤ length a.packet.payload
  servent_is_known h =
      let both = and_parts (is_query_hit a.packet.kind) (is_routed_reply (decision_reply s past a (decide s past a))) h in
      hit_is_long a.packet.kind a.packet.payload both.0 (routed_is_read (is_known a.packet.kind) (has_reading a.packet.kind a.packet.payload) both.1)
