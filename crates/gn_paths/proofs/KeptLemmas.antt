-- What is kept was not remembered, and what is sent is kept.
use Rattle.std.proofs.Common.{◌≡◌, ℕ, Bool, true, false, cond, if◌then◌else◌, List, [], ◌∷◌, ◌++◌, Some, None, Ok, ◌⊎◌, inl, inr, refl, sym, ap, subst, ◌∙◌, arith, append_assoc}
use Rattle.std.specs.List.{AllByRecursion}
use Rattle.std.specs.Option.{option_and_then, option_to_list}
use Rattle.std.proofs.lemmas.Option.{same_Some}
use Rattle.gn_wire.specs.declared.key.Key.{Key}
use Rattle.gn_wire.specs.declared.kind.Guid.{Guid}
use Rattle.gn_wire.specs.declared.kind.Kind.{Kind}
use Rattle.gn_wire.specs.declared.kind.Kind.TheVariants.{Ping, Pong, Push, Query}
use Rattle.gn_wire.specs.Keys.{is_same_key, key_of}
use Rattle.gn_wire.proofs.EqualityLemmas.{same_is_equal}
use Rattle.gn_rules.specs.declared.config.Config.{Config}
use Rattle.gn_rules.specs.declared.event.Event.{Event}
use Rattle.gn_rules.specs.declared.event.Event.TheVariants.{Connect, Close, Admit, Route, Take, Originate}
use Rattle.gn_rules.specs.declared.receipt.Step.{Step}
use Rattle.gn_rules.specs.declared.reply.Reply.{Reply}
use Rattle.gn_rules.specs.declared.reply.Reply.TheVariants.{Routed, Sent}
use Rattle.gn_rules.specs.declared.sends.Sending.{Sending}
use Rattle.gn_rules.specs.Answer.{answer, decision_reply}
use Rattle.gn_rules.specs.Decision.{Decision, Drop, Local, Flood, Forward, decide}
use Rattle.gn_rules.specs.Flight.{Admission, admission}
use Rattle.gn_rules.specs.History.{sends_of, ticket_of}
use Rattle.gn_rules.specs.Sending.{fanout, flood_sends}
use Rattle.gn_rules.specs.SeenEntries.{entry_of, is_remembered, keeps, seen_entries}
use Rattle.gn_rules.proofs.AnswerLemmas.{answered}
use Rattle.gn_rules.proofs.DecisionLemmas.{key_is_new}
use Rattle.gn_paths.specs.Paths.{kept_since}
use Rattle.gn_paths.specs.Sends.{is_kept_kind, sends_of_key}
use Rattle.gn_laws.proofs.CountLemmas.{tally, count-cons}
use Rattle.gn_paths.proofs.OriginLemmas.{quiet_sends, was_admitted}
use Rattle.gn_paths.proofs.PathLemmas.{decision_all, fanout_all, rests, route_entry, routed_as}
use Rattle.gn_paths.proofs.RequestLemmas.{originate_parts}

-- a key that a step keeps was not remembered
pub kept_new : {A : Type 0} (s : Config) (past : List (Step A)) (event : Event A) (reply : Reply A) (key : Key) (c : ℕ) → answer s past event ≡ Ok reply → entry_of past event reply ≡ Some (key, c)
    → is_remembered s past key ≡ false
kept_new {A} s past (Route t) reply key c e entry =
    let made = route_entry past t reply key c entry in
    let a : Admission = record { origin = c; packet = made.packet } in
    let ticket_is : t ≡ made.ticket = same_Some t made.ticket (ap (λ (event : Event A). ticket_of event) made.routes) in
    let found : admission past t ≡ Some a = ap (admission past) ticket_is ∙ made.admitted in
    let is = routed_as s past t reply a e found in
    let kept : keeps a.packet.kind (decision_reply s past a (decide s past a)) ≡ true = ap (keeps a.packet.kind) (sym is) ∙ made.kept in
    subst (λ (k : Key). is_remembered s past k ≡ false) made.same (key_is_new s past a kept)
kept_new s past (Originate d) (Sent sends) key c e entry =
    let same : key_of d ≡ key = ap (λ (p : Key × ℕ). p.0) (same_Some (key_of d, 0) (key, c) entry) in
    subst (λ (k : Key). is_remembered s past k ≡ false) same (originate_parts s past d (Sent sends) e).1
kept_new s past (Originate d) reply key c e entry = absurd (cc)
kept_new s past event reply key c e entry = absurd (cc)

-- the entries of more steps
pub seen_since : {A : Type 0} (later earlier : List (Step A)) → seen_entries (later ++ earlier) ≡ kept_since later earlier ++ seen_entries earlier
seen_since [] earlier = refl
seen_since (step ∷ later) earlier =
    let kept = option_to_list (entry_of (later ++ earlier) step.event step.reply) in
    ap (λ es. kept ++ es) (seen_since later earlier) ∙ sym (append_assoc kept (kept_since later earlier) (seen_entries earlier))

pub key_itself : (key : Key) → is_same_key key key ≡ true
key_itself key = (same_is_equal.keys key key).1 refl

-- none of these sends is of a key
none_of_key : {A : Type 0} (key : Key) (sends : List (Sending A)) → AllByRecursion (λ x. is_same_key key (key_of x.packet) ≡ false) sends → sends_of_key key sends ≡ 0
none_of_key key [] all = refl
none_of_key {A} key (x ∷ sends) all =
    count-cons (λ (x : Sending A). is_same_key key (key_of x.packet)) x sends
    ∙ omega (arith, ap tally all.0, none_of_key key sends all.1)

-- the key of what is remembered isn't that of a Pong
pong_apart : (k : Kind) (x y : Guid) → is_kept_kind k ≡ true → is_same_key (record { kind = k; id = x }) (record { kind = Pong; id = y }) ≡ false
pong_apart Ping x y e = refl
pong_apart Query x y e = refl
pong_apart Push x y e = refl
pong_apart k x y e = absurd (cc)

routed_is_kept : {A : Type 0} (k : Kind) (sends : List (Sending A)) (local : Bool) → is_kept_kind k ≡ true → keeps k (Routed sends local) ≡ true
routed_is_kept Ping sends local e = refl
routed_is_kept Query sends local e = refl
routed_is_kept Push sends local e = refl
routed_is_kept k sends local e = absurd (cc)

-- what a step says of a key: it sends no packet of it, or keeps it
abbrev SendsKept : {A : Type 0} → List (Step A) → Event A → Reply A → Key → Type 0
SendsKept past event reply key = (sends_of_key key (sends_of reply) ≡ 0) ⊎ ((c : ℕ) × (entry_of past event reply ≡ Some (key, c)))

entry_made : {A : Type 0} (past : List (Step A)) (t : ℕ) (reply : Reply A) (a : Admission) → admission past t ≡ Some a → keeps a.packet.kind reply ≡ true → entry_of past (Route t) reply ≡ Some (key_of a.packet, a.origin)
entry_made past t reply a found kept =
    ap (option_and_then (λ b. if keeps b.packet.kind reply then Some (key_of b.packet, b.origin) else None)) found
    ∙ ap (λ b. cond b (Some (key_of a.packet, a.origin)) None) kept

route_sends_kept : {A : Type 0} (s : Config) (past : List (Step A)) (a : Admission) (key : Key) → is_kept_kind key.kind ≡ true → key ≡ key_of a.packet → (decision : Decision)
    → (sends_of_key key (sends_of (decision_reply s past a decision)) ≡ 0) ⊎ (keeps a.packet.kind (decision_reply s past a decision) ≡ true)
route_sends_kept s past a key kept same (Drop why) = inl refl
route_sends_kept s past a key kept same Local = inl refl
route_sends_kept s past a key kept same Flood = inr (routed_is_kept a.packet.kind (flood_sends s past a) true (ap (λ (k : Key). is_kept_kind k.kind) (sym same) ∙ kept))
route_sends_kept s past a key kept same (Forward r) = inr (routed_is_kept a.packet.kind _ false (ap (λ (k : Key). is_kept_kind k.kind) (sym same) ∙ kept))

route_kept : {A : Type 0} (s : Config) (past : List (Step A)) (t : ℕ) (reply : Reply A) (a : Admission) (key : Key) → answer s past (Route t) ≡ Ok reply → admission past t ≡ Some a → is_kept_kind key.kind ≡ true
    → SendsKept past (Route t) reply key
route_kept {A} s past t reply a key e found kept =
    elim (is_same_key key (key_of a.packet)) as (λ b. is_same_key key (key_of a.packet) ≡ b → SendsKept past (Route t) reply key) [
      | false ↦ λ apart. inl (none_of_key key (sends_of reply)
          (subst (λ (r : Reply A). AllByRecursion (λ x. is_same_key key (key_of x.packet) ≡ false) (sends_of r)) (sym is)
          (decision_all (λ x. is_same_key key (key_of x.packet) ≡ false) s past a (decide s past a) (rests s past a)
          (λ ping. pong_apart key.kind key.id a.packet.id kept) (λ c asks other unexpired. apart) (λ r passes. apart))))
      | true ↦ λ h.
          let same : key ≡ key_of a.packet = (same_is_equal.keys key (key_of a.packet)).0 h in
          elim (route_sends_kept s past a key kept same (decide s past a)) as (λ w. SendsKept past (Route t) reply key) [
            | inl none ↦ inl (ap (λ (r : Reply A). sends_of_key key (sends_of r)) is ∙ none)
            | inr keeps_it ↦ inr (a.origin, entry_made past t reply a found (ap (keeps a.packet.kind) is ∙ keeps_it) ∙ ap (λ (k : Key). Some (k, a.origin)) (sym same))
          ]
    ] refl
  where
    is : reply ≡ decision_reply s past a (decide s past a)
    is = routed_as s past t reply a e found

pub sends_kept : {A : Type 0} (s : Config) (past : List (Step A)) (event : Event A) (reply : Reply A) (key : Key) → answer s past event ≡ Ok reply → is_kept_kind key.kind ≡ true → SendsKept past event reply key
sends_kept s past (Route t) reply key e kept =
    let was = was_admitted s past t reply e in
    route_kept s past t reply was.admitted key e was.found kept
sends_kept {A} s past (Originate d) reply key e kept =
    let is : reply ≡ Sent (fanout s past 0 d) = answered s past (Originate d) reply e in
    elim (is_same_key key (key_of d)) as (λ b. is_same_key key (key_of d) ≡ b → SendsKept past (Originate d) reply key) [
      | false ↦ λ apart. inl (ap (λ (r : Reply A). sends_of_key key (sends_of r)) is
          ∙ none_of_key key (fanout s past 0 d) (fanout_all (λ x. is_same_key key (key_of x.packet) ≡ false) s past 0 d (λ c other. apart)))
      | true ↦ λ h.
          let same : key ≡ key_of d = (same_is_equal.keys key (key_of d)).0 h in
          inr (0, ap (entry_of past (Originate d)) is ∙ ap (λ (k : Key). Some (k, 0)) (sym same))
    ] refl
sends_kept {A} s past Connect reply key e kept = inl (ap (sends_of_key key) (quiet_sends s past Connect reply e tt))
sends_kept {A} s past (Close d) reply key e kept = inl (ap (sends_of_key key) (quiet_sends s past (Close d) reply e tt))
sends_kept {A} s past (Admit d packet) reply key e kept = inl (ap (sends_of_key key) (quiet_sends s past (Admit d packet) reply e tt))
sends_kept {A} s past (Take d) reply key e kept = inl (ap (sends_of_key key) (quiet_sends s past (Take d) reply e tt))
