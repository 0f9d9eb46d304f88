-- Pasts of the same events and replies, whoever acts: what the rules read of them is the same.
use Rattle.std.proofs.Common.{◌≡◌, ◌+◌, ◌==◌, ◌&&◌, ◌||◌, not, cond, ℕ, suc, false, List, [], ◌∷◌, ◌++◌, length, drop, filter, take, Option, Some, None, refl, ap, ◌∙◌}
use Rattle.std.specs.Map.{lookup}
use Rattle.std.specs.Option.{option_and_then, option_map_or, option_to_list}
use Rattle.std.proofs.lemmas.List.Elements.{filter_agree}
use Rattle.gn_wire.specs.declared.kind.Guid.{Guid}
use Rattle.gn_wire.specs.declared.key.Key.{Key}
use Rattle.gn_wire.specs.Keys.{is_same_id, is_same_key, key_of}
use Rattle.gn_wire.specs.Packet.{Packet}
use Rattle.gn_payload.specs.Fields.{hit_servent}
use Rattle.gn_rules.specs.declared.config.Config.{Config}
use Rattle.gn_rules.specs.declared.event.Event.{Event}
use Rattle.gn_rules.specs.declared.event.Event.TheVariants.{Route}
use Rattle.gn_rules.specs.declared.receipt.Step.{Step}
use Rattle.gn_rules.specs.declared.reply.Reply.{Reply}
use Rattle.gn_rules.specs.declared.reply.Reply.TheVariants.{Routed}
use Rattle.gn_rules.specs.Flight.{Admission, admission, admission_of, flying, flying_from, in_flight, is_routed, tickets}
use Rattle.gn_rules.specs.History.{admitted_of, connected_of, connections, is_at, is_close, is_take, live, live_connections, sends_of, ticket_of}
use Rattle.gn_rules.specs.Output.{out, queued_to}
use Rattle.gn_rules.specs.SeenEntries.{entry_of, keeps, seen_entries, source}
use Rattle.gn_rules.specs.Servents.{hit_of, is_query_hit, learned, servent_route, servents}
use Rattle.gn_renumber.specs.Moved.{moved}

-- what the rules read of two pasts is the same
pub record ReadAlike {A : Type 0} (p q : List (Step A)) : Type 0 where
  pub many : length p ≡ length q
  pub lives : (c : ℕ) → live p c ≡ live q c
  pub conns : connections p ≡ connections q
  pub outs : (c : ℕ) → out p c ≡ out q c
  pub routed : (t : ℕ) → is_routed p t ≡ is_routed q t
  pub given : tickets p ≡ tickets q
  pub admits : (t : ℕ) → admission p t ≡ admission q t
  pub seen : seen_entries p ≡ seen_entries q
  pub hits : servents p ≡ servents q

module _ {A : Type 0} where
  entry_alike : (p q : List (Step A)) → ((t : ℕ) → admission p t ≡ admission q t) → (event : Event A) (reply : Reply A) → entry_of p event reply ≡ entry_of q event reply
  entry_alike p q same (Route t) reply = ap (option_and_then (λ (a : Admission). cond (keeps a.packet.kind reply) (Some (key_of a.packet, a.origin)) None)) (same t)
  entry_alike p q same event reply = refl

  hit_alike : (p q : List (Step A)) → ((t : ℕ) → admission p t ≡ admission q t) → (event : Event A) (reply : Reply A) → hit_of p event reply ≡ hit_of q event reply
  hit_alike p q same (Route t) (Routed sends local) = ap (option_and_then (λ (a : Admission). cond (is_query_hit a.packet.kind) (Some (hit_servent a.packet.payload, a.origin)) None)) (same t)
  hit_alike p q same event reply = refl

  -- one step more, of the same event and reply
  step_alike : (x y : Step A) (p q : List (Step A)) → x.event ≡ y.event → x.reply ≡ y.reply → ReadAlike p q → ReadAlike (x ∷ p) (y ∷ q)
  step_alike x y p q event reply h = record {
    many = ap suc h.many;
    lives = λ c. ap (λ (r : Reply A). is_at c (connected_of r) || (not (is_close c x.event) && live p c)) reply ∙ ap (λ (e : Event A). is_at c (connected_of y.reply) || (not (is_close c e) && live p c)) event
        ∙ ap (λ b. is_at c (connected_of y.reply) || (not (is_close c y.event) && b)) (h.lives c);
    conns = ap (λ (r : Reply A). connections p ++ option_to_list (connected_of r)) reply ∙ ap (λ cs. cs ++ option_to_list (connected_of y.reply)) h.conns;
    outs = λ c. ap (λ (r : Reply A). cond (is_take c x.event) (drop 1 (out p c)) (out p c) ++ queued_to c (sends_of r)) reply
        ∙ ap (λ (e : Event A). cond (is_take c e) (drop 1 (out p c)) (out p c) ++ queued_to c (sends_of y.reply)) event
        ∙ ap (λ (o : List Packet). cond (is_take c y.event) (drop 1 o) o ++ queued_to c (sends_of y.reply)) (h.outs c);
    routed = λ t. ap (λ (e : Event A). is_at t (ticket_of e) || is_routed p t) event ∙ ap (λ b. is_at t (ticket_of y.event) || b) (h.routed t);
    given = ap (λ (r : Reply A). tickets p ++ option_to_list (admitted_of r)) reply ∙ ap (λ ts. ts ++ option_to_list (admitted_of y.reply)) h.given;
    admits = λ t. ap (λ (r : Reply A). cond (is_at t (admitted_of r)) (admission_of x.event) (admission p t)) reply
        ∙ ap (λ (e : Event A). cond (is_at t (admitted_of y.reply)) (admission_of e) (admission p t)) event
        ∙ ap (λ (a : Option Admission). cond (is_at t (admitted_of y.reply)) (admission_of y.event) a) (h.admits t);
    seen = ap (λ (o : Option (Key × ℕ)). option_to_list o ++ seen_entries p) (ap (λ (e : Event A). entry_of p e x.reply) event ∙ ap (λ (r : Reply A). entry_of p y.event r) reply ∙ entry_alike p q h.admits y.event y.reply)
        ∙ ap (λ (es : List (Key × ℕ)). option_to_list (entry_of q y.event y.reply) ++ es) h.seen;
    hits = ap (λ (o : Option (Guid × ℕ)). learned o (servents p)) (ap (λ (e : Event A). hit_of p e x.reply) event ∙ ap (λ (r : Reply A). hit_of p y.event r) reply ∙ hit_alike p q h.admits y.event y.reply)
        ∙ ap (λ (hs : List (Guid × ℕ)). learned (hit_of q y.event y.reply) hs) h.hits;
  }

  -- so of a past whose actors have other numbers
  pub moved_reads : (number : ℕ → ℕ) (past : List (Step A)) → ReadAlike (moved number past) past
  moved_reads number [] = record { many = refl; lives = λ c. refl; conns = refl; outs = λ c. refl; routed = λ t. refl; given = refl; admits = λ t. refl; seen = refl; hits = refl }
  moved_reads number (step ∷ earlier) = step_alike (record step { actor = number step.actor }) step (moved number earlier) earlier refl refl (moved_reads number earlier)

  -- what is made of these
  module _ (p q : List (Step A)) (h : ReadAlike p q) where
    pub live_all : live_connections p ≡ live_connections q
    live_all = filter_agree (live p) (live q) h.lives (connections p) ∙ ap (filter (live q)) h.conns

    pub flying_all : flying p ≡ flying q
    flying_all = filter_agree (λ t. not (is_routed p t)) (λ t. not (is_routed q t)) (λ t. ap not (h.routed t)) (tickets p) ∙ ap (filter (λ t. not (is_routed q t))) h.given

    pub flying_here : (c : ℕ) → flying_from p c ≡ flying_from q c
    flying_here c =
        filter_agree (λ t. option_map_or (λ a. a.origin == c) (admission p t) false) (λ t. option_map_or (λ a. a.origin == c) (admission q t) false) (λ t. ap (λ (o : Option Admission). option_map_or (λ a. a.origin == c) o false) (h.admits t)) (flying p)
        ∙ ap (filter (λ t. option_map_or (λ a. a.origin == c) (admission q t) false)) flying_all

    pub in_flight_here : (t : ℕ) → in_flight p t ≡ in_flight q t
    in_flight_here t = ap (λ b. cond b None (admission p t)) (h.routed t) ∙ ap (λ (o : Option Admission). cond (is_routed q t) None o) (h.admits t)

    pub source_here : (s : Config) (key : Key) → source s p key ≡ source s q key
    source_here s key = ap (λ (es : List (Key × ℕ)). lookup (is_same_key key) (take s.numbers.seen es)) h.seen

    pub servent_here : (s : Config) (x : Guid) → servent_route s p x ≡ servent_route s q x
    servent_here s x = ap (λ (es : List (Guid × ℕ)). lookup (is_same_id x) (take s.numbers.servents es)) h.hits
