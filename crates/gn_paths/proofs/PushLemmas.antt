-- Where a Push goes.
use Rattle.std.proofs.Common.{◌≡◌, ◌<◌, ℕ, Bool, true, false, ◌||◌, cond, if◌then◌else◌, nat_lt, List, [], ◌∷◌, ◌++◌, Option, Some, None, ◌⊎◌, inl, inr, refl, sym, ap, subst, ◌∙◌}
use Rattle.std.specs.List.{list_any}
use Rattle.std.specs.Map.{lookup}
use Rattle.std.specs.Option.{option_to_list}
use Rattle.std.proofs.lemmas.Option.{cond_some, option_and_then_some, same_Some}
use Rattle.gn_wire.specs.declared.kind.Guid.{Guid}
use Rattle.gn_wire.specs.declared.kind.Kind.{Kind}
use Rattle.gn_wire.specs.declared.kind.Kind.TheVariants.{Push}
use Rattle.gn_wire.specs.Keys.{is_same_id}
use Rattle.gn_wire.proofs.EqualityLemmas.{same_is_equal}
use Rattle.gn_payload.specs.Fields.{hit_servent, push_servent}
use Rattle.gn_rules.specs.declared.config.Config.{Config}
use Rattle.gn_rules.specs.declared.event.Event.{Event}
use Rattle.gn_rules.specs.declared.event.Event.TheVariants.{Route}
use Rattle.gn_rules.specs.declared.receipt.Step.{Step}
use Rattle.gn_rules.specs.declared.reply.Reply.{Reply}
use Rattle.gn_rules.specs.declared.reply.Reply.TheVariants.{Routed}
use Rattle.gn_rules.specs.Answer.{decision_reply, is_request}
use Rattle.gn_rules.specs.Decision.{Decision, Drop, Local, Flood, Forward, decide}
use Rattle.gn_rules.specs.Flight.{Admission, admission}
use Rattle.gn_rules.specs.History.{sends_of}
use Rattle.gn_rules.specs.Routings.{routing_of}
use Rattle.gn_rules.specs.ServentLaw.{hits, others}
use Rattle.gn_rules.specs.Servents.{hit_of, is_query_hit, servent_route}
use Rattle.gn_rules.proofs.DecisionLemmas.{hit_is}
use Rattle.gn_rules.proofs.ServentLemmas.{servent_route_is_last}
use Rattle.gn_paths.specs.Paths.{hits_since, GoesToServent, HitCameFrom, PushesGoBack, RoutedFrom}
use Rattle.gn_paths.proofs.PathLemmas.{below_is, differ, further, rests, routed_as, IsWay, RestsOn}

-- the hits since, with one step more
hits_more : {A : Type 0} (step : Step A) (past : List (Step A)) (c : ℕ) (from : RoutedFrom past c)
    → hits_since (step ∷ from.later) (from.step ∷ from.earlier) ≡ option_to_list (hit_of past step.event step.reply) ++ hits_since from.later (from.step ∷ from.earlier)
hits_more step past c from =
    ap (λ o. option_to_list o ++ hits_since from.later (from.step ∷ from.earlier)) (ap (λ xs. hit_of xs step.event step.reply) (sym from.stands))

-- one step more, of no hit of this servent
hit_further : {A : Type 0} (step : Step A) (past : List (Step A)) (servent : Guid) (c : ℕ) → list_any (λ hit. is_same_id servent hit.0) (option_to_list (hit_of past step.event step.reply)) ≡ false → HitCameFrom past servent c
    → HitCameFrom (step ∷ past) servent c
hit_further {A} step past servent c none came = record {
  hit = further step past c came.hit;
  kind = came.kind;
  names = came.names;
  routed = came.routed;
  newest = ap (list_any (λ hit. is_same_id servent hit.0)) (hits_more step past c came.hit) ∙ neither (hit_of past step.event step.reply) none;
}
  where
    neither : (o : Option (Guid × ℕ)) → list_any (λ hit. is_same_id servent hit.0) (option_to_list o) ≡ false
        → list_any (λ hit. is_same_id servent hit.0) (option_to_list o ++ hits_since came.hit.later (came.hit.step ∷ came.hit.earlier)) ≡ false
    neither None h = came.newest
    neither (Some hit) h =
        elim (is_same_id servent hit.0) as (λ b. (b || false) ≡ false → (b || list_any (λ hit. is_same_id servent hit.0) (hits_since came.hit.later (came.hit.step ∷ came.hit.earlier))) ≡ false) [
          | true ↦ λ f. absurd (cc)
          | false ↦ λ f. came.newest
        ] h

-- the newest step routed a hit of this servent
hit_now : {A : Type 0} (actor : ℕ) (past : List (Step A)) (event : Event A) (reply : Reply A) (servent : Guid) (c : ℕ) → hit_of past event reply ≡ Some (servent, c)
    → HitCameFrom (record { actor = actor; event = event; reply = reply } ∷ past) servent c
hit_now actor past (Route t) (Routed sends local) servent c e =
    option_and_then_some (λ a. if is_query_hit a.packet.kind then Some (hit_servent a.packet.payload, a.origin) else None) (admission past t) (servent, c) e (λ a found kept.
    let parts = cond_some (is_query_hit a.packet.kind) (hit_servent a.packet.payload, a.origin) (servent, c) kept in
    let from : a.origin ≡ c = ap (λ (p : Guid × ℕ). p.1) parts.1 in
    record {
      hit = record {
        later = [];
        step = record { actor = actor; event = Route t; reply = Routed sends local };
        earlier = past;
        ticket = t;
        packet = a.packet;
        stands = refl;
        routes = refl;
        admitted = found ∙ ap (λ (o : ℕ). Some (record { origin = o; packet = a.packet })) from;
      };
      kind = hit_is a.packet.kind parts.0;
      names = ap (λ (p : Guid × ℕ). p.0) parts.1;
      routed = refl;
      newest = refl;
    })
hit_now actor past (Route t) reply servent c e = absurd (cc)
hit_now actor past event reply servent c e = absurd (cc)

-- the first hit of a servent is its last one
pub hit_from : {A : Type 0} (past : List (Step A)) (servent : Guid) (c : ℕ) → lookup (is_same_id servent) (hits past) ≡ Some c → HitCameFrom past servent c
hit_from [] servent c e = absurd (cc)
hit_from {A} (step ∷ past) servent c e =
    elim (hit_of past step.event step.reply) as (λ o. hit_of past step.event step.reply ≡ o → lookup (is_same_id servent) (option_to_list o ++ hits past) ≡ Some c → HitCameFrom (step ∷ past) servent c) [
      | None ↦ λ h f. hit_further step past servent c (ap (λ o. list_any (λ hit. is_same_id servent hit.0) (option_to_list o)) h) (hit_from past servent c f)
      | Some hit ↦ λ h f. at hit (λ g. hit_from past servent c g) h f
    ] refl e
  where
    at : (hit : Guid × ℕ) → (lookup (is_same_id servent) (hits past) ≡ Some c → HitCameFrom past servent c) → hit_of past step.event step.reply ≡ Some hit → lookup (is_same_id servent) (hit ∷ hits past) ≡ Some c
        → HitCameFrom (step ∷ past) servent c
    at hit before h f =
        elim (is_same_id servent hit.0) as (λ b. is_same_id servent hit.0 ≡ b → cond b (Some hit.1) (lookup (is_same_id servent) (hits past)) ≡ Some c → HitCameFrom (step ∷ past) servent c) [
          | true ↦ λ same g.
              let servent_is : servent ≡ hit.0 = (same_is_equal.ids servent hit.0).0 same in
              let from_is : hit.1 ≡ c = same_Some hit.1 c g in
              hit_now step.actor past step.event step.reply servent c (h ∙ ap (λ (x : Guid). Some (x, hit.1)) (sym servent_is) ∙ ap (λ (d : ℕ). Some (servent, d)) from_is)
          | false ↦ λ apart g. hit_further step past servent c (ap (λ o. list_any (λ hit. is_same_id servent hit.0) (option_to_list o)) h ∙ ap (λ b. b || false) apart) (before g)
        ] refl f

-- what the route to a servent rests on
pub record Known {A : Type 0} (s : Config) (past : List (Step A)) (servent : Guid) (r : ℕ) : Type 0 where
  pub few : others past servent < s.numbers.servents
  pub came : HitCameFrom past servent r

pub route_known : {A : Type 0} (s : Config) (past : List (Step A)) (servent : Guid) (r : ℕ) → servent_route s past servent ≡ Some r → Known s past servent r
route_known {A} s past servent r e =
    look (nat_lt (others past servent) s.numbers.servents) refl (sym (servent_route_is_last A s past servent) ∙ e)
  where
    look : (b : Bool) → nat_lt (others past servent) s.numbers.servents ≡ b → cond b (lookup (is_same_id servent) (hits past)) None ≡ Some r → Known s past servent r
    look true h f = record { few = below_is (others past servent) s.numbers.servents h; came = hit_from past servent r f }
    look false h f = absurd (cc)

pub push_asks_not : (k : Kind) → k ≡ Push → is_request k ≡ true → ⊥
push_asks_not k is asks = let same : is_request k ≡ is_request Push = ap is_request is in cc

-- a Push's way is the route to its servent
pub push_way : {A : Type 0} (s : Config) (past : List (Step A)) (a : Admission) (k : Kind) (r : ℕ) → k ≡ Push → IsWay s past a (routing_of k) r → servent_route s past (push_servent a.packet.payload) ≡ Some r
push_way s past a k r is way = (subst (λ (k : Kind). IsWay s past a (routing_of k) r) is way).1

follows : {A : Type 0} (s : Config) (past : List (Step A)) (a : Admission) → a.packet.kind ≡ Push → (decision : Decision) → RestsOn s past a (routing_of a.packet.kind) decision
    → (sends_of (decision_reply s past a decision) ≡ []) ⊎ GoesToServent s past a (push_servent a.packet.payload) (sends_of (decision_reply s past a decision))
follows s past a is (Drop why) rest = inl refl
follows s past a is Local rest = inl refl
follows s past a is Flood rest = absurd (push_asks_not a.packet.kind is rest.0)
follows s past a is (Forward r) rest =
    let known = route_known s past (push_servent a.packet.payload) r (push_way s past a a.packet.kind r is rest.way) in
    inr (record {
      back = record { to = r; once = refl; alive = rest.alive; other = differ r a.origin rest.other; unexpired = rest.unexpired };
      told = known.came;
      few = known.few;
    })

pub pushes_go_back : (A : Type 0) → PushesGoBack A
pushes_go_back A s past t reply a e found is =
    subst (λ (r : Reply A). (sends_of r ≡ []) ⊎ GoesToServent s past a (push_servent a.packet.payload) (sends_of r)) (sym (routed_as s past t reply a e found))
    (follows s past a is (decide s past a) (rests s past a))
