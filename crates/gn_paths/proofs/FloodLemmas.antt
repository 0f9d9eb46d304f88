-- How often a key is queued and taken.
use Rattle.std.proofs.Common.{◌≡◌, ◌≤◌, ◌+◌, ◌==◌, ℕ, zero, suc, Bool, true, false, ◌&&◌, not, cond, if◌then◌else◌, List, [], ◌∷◌, ◌++◌, length, filter, map, take, is_some, Some, None, Ok, inl, inr, refl, sym, ap, subst, ◌∙◌, arith}
use Rattle.std.specs.List.{count_by, sum_by}
use Rattle.std.specs.Map.{lookup}
use Rattle.std.specs.Option.{option_to_list}
use Rattle.std.proofs.lemmas.List.Sums.{count_by-le-length, sum_by-append, sum_by-cons}
use Rattle.gn_wire.specs.declared.key.Key.{Key}
use Rattle.gn_wire.specs.Packet.{forward_of, is_expired, Packet}
use Rattle.gn_wire.specs.Keys.{is_same_key, key_of}
use Rattle.gn_wire.proofs.EqualityLemmas.{same_is_equal}
use Rattle.gn_rules.specs.declared.config.Config.{Config}
use Rattle.gn_rules.specs.declared.event.Event.{Event}
use Rattle.gn_rules.specs.declared.event.Event.TheVariants.{Connect, Close, Admit, Route, Take, Originate}
use Rattle.gn_rules.specs.declared.receipt.Step.{Step}
use Rattle.gn_rules.specs.declared.reply.Reply.{Reply}
use Rattle.gn_rules.specs.declared.sends.Sending.{Sending}
use Rattle.gn_rules.specs.Answer.{answer, decision_reply, IsLegal}
use Rattle.gn_rules.specs.Decision.{Decision, Drop, Local, Flood, Forward, decide}
use Rattle.gn_rules.specs.Flight.{Admission}
use Rattle.gn_rules.specs.History.{live, sends_of}
use Rattle.gn_rules.specs.Output.{out, queued, queued_to, taken}
use Rattle.gn_rules.specs.Sending.{is_ping, own_pong, send}
use Rattle.gn_rules.specs.SeenEntries.{entry_of, is_remembered, seen_entries}
use Rattle.gn_rules.proofs.AnswerLemmas.{answered}
use Rattle.gn_paths.specs.Networks.{put_on, FloodsEnd, IsNetwork, Network, RemembersAll}
use Rattle.gn_paths.specs.Sends.{is_kept_kind, sends_of_key, sent_to, spread_to}
use Rattle.gn_laws.proofs.CountLemmas.{tally, count-cons}
use Rattle.gn_paths.proofs.KeptLemmas.{kept_new, sends_kept}
use Rattle.gn_paths.proofs.OriginLemmas.{quiet_sends, was_admitted}
use Rattle.gn_laws.proofs.PacketLemmas.{queued_is_taken_and_waiting}
use Rattle.gn_paths.proofs.PathLemmas.{routed_as}
use Rattle.gn_paths.proofs.SpreadLemmas.{fanout_sends, flood_spreads}

one_or_none : (b : Bool) (p : Packet) → length (if b then p ∷ [] else []) ≤ 1
one_or_none true p = omega arith
one_or_none false p = omega arith

spread_one : {A : Type 0} (s : Config) (past : List (Step A)) (a : Admission) (c : ℕ) → length (spread_to s past a c) ≤ 1
spread_one s past a c =
    elim (c == a.origin) as (λ b. length (if b then (if is_ping a.packet.kind && live past c then own_pong s.own a.packet ∷ [] else []) else (if live past c && not (is_expired s.numbers.life a.packet) then forward_of s.numbers.life a.packet ∷ [] else [])) ≤ 1) [
      | true ↦ one_or_none (is_ping a.packet.kind && live past c) (own_pong s.own a.packet)
      | false ↦ one_or_none (live past c && not (is_expired s.numbers.life a.packet)) (forward_of s.numbers.life a.packet)
    ]

decision_one : {A : Type 0} (s : Config) (past : List (Step A)) (a : Admission) (c : ℕ) → IsLegal s past → (decision : Decision) → length (sent_to c (sends_of (decision_reply s past a decision))) ≤ 1
decision_one s past a c legal (Drop why) = omega arith
decision_one s past a c legal Local = omega arith
decision_one s past a c legal Flood = subst (λ ps. length ps ≤ 1) (sym (flood_spreads s past a c legal)) (spread_one s past a c)
decision_one {A} s past a c legal (Forward r) =
    elim (r == c) as (λ b. length (map (λ (x : Sending A). x.packet) (cond b (send s past (forward_of s.numbers.life a.packet) r ∷ []) [])) ≤ 1) [
      | true ↦ omega arith
      | false ↦ omega arith
    ]

quiet_one : {A : Type 0} (c : ℕ) (reply : Reply A) → sends_of reply ≡ [] → length (sent_to c (sends_of reply)) ≤ 1
quiet_one c reply none = subst (λ sends. length (sent_to c sends) ≤ 1) (sym none) (omega arith)

step_one : {A : Type 0} (s : Config) (past : List (Step A)) (event : Event A) (reply : Reply A) (c : ℕ) → IsLegal s past → answer s past event ≡ Ok reply → length (sent_to c (sends_of reply)) ≤ 1
step_one {A} s past (Route t) reply c legal e =
    let was = was_admitted s past t reply e in
    subst (λ (r : Reply A). length (sent_to c (sends_of r)) ≤ 1) (sym (routed_as s past t reply was.admitted e was.found)) (decision_one s past was.admitted c legal (decide s past was.admitted))
step_one {A} s past (Originate d) reply c legal e =
    subst (λ (r : Reply A). length (sent_to c (sends_of r)) ≤ 1) (sym (answered s past (Originate d) reply e))
    (subst (λ ps. length ps ≤ 1) (sym (fanout_sends s past 0 c d legal)) (one_or_none (not (c == 0) && live past c) d))
step_one s past Connect reply c legal e = quiet_one c reply (quiet_sends s past Connect reply e tt)
step_one s past (Close d) reply c legal e = quiet_one c reply (quiet_sends s past (Close d) reply e tt)
step_one s past (Admit d packet) reply c legal e = quiet_one c reply (quiet_sends s past (Admit d packet) reply e tt)
step_one s past (Take d) reply c legal e = quiet_one c reply (quiet_sends s past (Take d) reply e tt)

-- no more is queued to c than is sent to it
queued_least : {A : Type 0} (c : ℕ) (sends : List (Sending A)) → length (queued_to c sends) ≤ length (sent_to c sends)
queued_least c [] = omega arith
queued_least {A} c (x ∷ sends) =
    let rest = queued_least c sends in
    elim (x.to == c) as (λ b. length (map (λ (x : Sending A). x.packet) (cond (b && x.queued) (x ∷ filter (λ x. (x.to == c) && x.queued) sends) (filter (λ x. (x.to == c) && x.queued) sends))) ≤ length (map (λ (x : Sending A). x.packet) (cond b (x ∷ filter (λ x. x.to == c) sends) (filter (λ x. x.to == c) sends)))) [
      | false ↦ rest
      | true ↦ elim x.queued as (λ q. length (map (λ (x : Sending A). x.packet) (cond (true && q) (x ∷ filter (λ x. (x.to == c) && x.queued) sends) (filter (λ x. (x.to == c) && x.queued) sends))) ≤ length (x.packet ∷ sent_to c sends)) [
        | true ↦ omega (arith, rest)
        | false ↦ omega (arith, rest)
      ]
    ]

-- nor of a key than is sent of it
queued_keys : {A : Type 0} (key : Key) (c : ℕ) (sends : List (Sending A)) → count_by (λ p. is_same_key key (key_of p)) (queued_to c sends) ≤ sends_of_key key sends
queued_keys key c [] = omega arith
queued_keys {A} key c (x ∷ sends) =
    let rest = queued_keys key c sends in
    let more = count-cons (λ (x : Sending A). is_same_key key (key_of x.packet)) x sends in
    let also = count-cons (λ p. is_same_key key (key_of p)) x.packet (queued_to c sends) in
    elim ((x.to == c) && x.queued) as (λ b. count_by (λ p. is_same_key key (key_of p)) (map (λ (x : Sending A). x.packet) (cond b (x ∷ filter (λ x. (x.to == c) && x.queued) sends) (filter (λ x. (x.to == c) && x.queued) sends))) ≤ sends_of_key key (x ∷ sends)) [
      | true ↦ omega (arith, rest, more, also)
      | false ↦ omega (arith, rest, more)
    ]

one_entry : (key : Key) (c : ℕ) → count_by (λ (entry : Key × ℕ). is_same_key key entry.0) ((key, c) ∷ []) ≡ 1
one_entry key c =
    count-cons (λ (entry : Key × ℕ). is_same_key key entry.0) (key, c) []
    ∙ ap (λ b. tally b + 0) ((same_is_equal.keys key key).1 refl)

-- one step queues no more of a key than it keeps
step_as_kept : {A : Type 0} (s : Config) (past : List (Step A)) (event : Event A) (reply : Reply A) (c : ℕ) (key : Key) → IsLegal s past → answer s past event ≡ Ok reply → is_kept_kind key.kind ≡ true
    → count_by (λ p. is_same_key key (key_of p)) (queued_to c (sends_of reply)) ≤ count_by (λ entry. is_same_key key entry.0) (option_to_list (entry_of past event reply))
step_as_kept s past event reply c key legal e kept =
    let some = queued_keys key c (sends_of reply) in
    elim (sends_kept s past event reply key e kept) as (λ w. count_by (λ p. is_same_key key (key_of p)) (queued_to c (sends_of reply)) ≤ count_by (λ entry. is_same_key key entry.0) (option_to_list (entry_of past event reply))) [
      | inl none ↦ omega (arith, some, none)
      | inr entry ↦
          let most = count_by-le-length (λ p. is_same_key key (key_of p)) (queued_to c (sends_of reply)) in
          let one : count_by (λ entry. is_same_key key entry.0) (option_to_list (entry_of past event reply)) ≡ 1 =
          ap (λ o. count_by (λ entry. is_same_key key entry.0) (option_to_list o)) entry.1 ∙ one_entry key entry.0 in
          omega (arith, one, most, queued_least c (sends_of reply), step_one s past event reply c legal e)
    ]

-- a key is queued to each connection at most as often as it was kept
queued_as_kept : (A : Type 0) (s : Config) (past : List (Step A)) (c : ℕ) (key : Key) → IsLegal s past → is_kept_kind key.kind ≡ true
    → count_by (λ p. is_same_key key (key_of p)) (queued past c) ≤ count_by (λ entry. is_same_key key entry.0) (seen_entries past)
queued_as_kept A s [] c key legal kept = omega arith
queued_as_kept A s (step ∷ past) c key legal kept =
    let before = queued_as_kept A s past c key legal.1 kept in
    let now = step_as_kept s past step.event step.reply c key legal.1 legal.0 kept in
    let both = sum_by-append (λ p. cond (is_same_key key (key_of p)) 1 0) (queued past c) (queued_to c (sends_of step.reply)) in
    let also = sum_by-append (λ (entry : Key × ℕ). cond (is_same_key key entry.0) 1 0) (option_to_list (entry_of past step.event step.reply)) (seen_entries past) in
    omega (arith, before, now, both, also)

take_all : {X : Type 0} (n : ℕ) (xs : List X) → length xs ≤ n → take n xs ≡ xs
take_all zero [] h = refl
take_all zero (x ∷ xs) h = absurd (omega (arith, h))
take_all (suc n) [] h = refl
take_all (suc n) (x ∷ xs) h = ap (λ ys. x ∷ ys) (take_all n xs (omega (arith, h)))

-- a key that isn't found stands nowhere
not_found : (t : Key → Bool) (es : List (Key × ℕ)) → is_some (lookup t es) ≡ false → count_by (λ entry. t entry.0) es ≡ 0
not_found t [] h = refl
not_found t (e ∷ es) h =
    let more = count-cons (λ (entry : Key × ℕ). t entry.0) e es in
    elim (t e.0) as (λ b. t e.0 ≡ b → is_some (cond b (Some e.1) (lookup t es)) ≡ false → count_by (λ entry. t entry.0) (e ∷ es) ≡ 0) [
      | true ↦ λ is f. absurd (cc)
      | false ↦ λ is f. omega (arith, more, ap tally is, not_found t es f)
    ] refl h

-- where nothing is forgotten each key is kept once at most
entries_once : {A : Type 0} (s : Config) (past : List (Step A)) (key : Key) → IsLegal s past → length (seen_entries past) ≤ s.numbers.seen → count_by (λ entry. is_same_key key entry.0) (seen_entries past) ≤ 1
entries_once s [] key legal few = omega arith
entries_once {A} s (step ∷ past) key legal few =
    elim (entry_of past step.event step.reply) as (λ o. entry_of past step.event step.reply ≡ o → length (option_to_list o ++ seen_entries past) ≤ s.numbers.seen
    → (length (seen_entries past) ≤ s.numbers.seen → count_by (λ entry. is_same_key key entry.0) (seen_entries past) ≤ 1) → count_by (λ entry. is_same_key key entry.0) (option_to_list o ++ seen_entries past) ≤ 1) [
      | None ↦ λ e h before. before h
      | Some entry ↦ λ e h before. more entry e h (before (omega (arith, h)))
    ] refl few (entries_once s past key legal.1)
  where
    more : (entry : Key × ℕ) → entry_of past step.event step.reply ≡ Some entry → length (entry ∷ seen_entries past) ≤ s.numbers.seen
        → count_by (λ entry. is_same_key key entry.0) (seen_entries past) ≤ 1 → count_by (λ entry. is_same_key key entry.0) (entry ∷ seen_entries past) ≤ 1
    more entry e h before =
        let sum = count-cons (λ (entry : Key × ℕ). is_same_key key entry.0) entry (seen_entries past) in
        elim (is_same_key key entry.0) as (λ b. is_same_key key entry.0 ≡ b → count_by (λ entry. is_same_key key entry.0) (entry ∷ seen_entries past) ≤ 1) [
          | false ↦ λ is. omega (arith, sum, ap tally is, before)
          | true ↦ λ is.
              let same : key ≡ entry.0 = (same_is_equal.keys key entry.0).0 is in
              let kept : entry_of past step.event step.reply ≡ Some (key, entry.1) = e ∙ ap (λ (k : Key). Some (k, entry.1)) (sym same) in
              let new : is_remembered s past key ≡ false = kept_new s past step.event step.reply key entry.1 legal.0 kept in
              let nowhere = not_found (is_same_key key) (seen_entries past) (ap (λ es. is_some (lookup (is_same_key key) es)) (sym (take_all s.numbers.seen (seen_entries past) (omega (arith, h)))) ∙ new) in
              omega (arith, sum, ap tally is, nowhere)
        ] refl

-- where a router remembers all that it kept, each key goes from it over each link once at most
taken_once : {A : Type 0} (s : Config) (past : List (Step A)) (c : ℕ) (key : Key) → IsLegal s past → is_kept_kind key.kind ≡ true → length (seen_entries past) ≤ s.numbers.seen
    → count_by (λ p. is_same_key key (key_of p)) (taken past c) ≤ 1
taken_once {A} s past c key legal kept few =
    let most = queued_as_kept A s past c key legal kept in
    let once = entries_once s past key legal few in
    let all = ap (count_by (λ p. is_same_key key (key_of p))) (queued_is_taken_and_waiting A s past c legal) in
    let both = sum_by-append (λ p. cond (is_same_key key (key_of p)) 1 0) (taken past c) (out past c) in
    omega (arith, most, once, all, both)

put_once : {A : Type 0} (net : Network A) (key : Key) (end : ℕ × ℕ) → IsNetwork net → is_kept_kind key.kind ≡ true → RemembersAll net end.0 → put_on net key end ≤ 1
put_once net key end is kept all = taken_once (net.settings end.0) (net.history end.0) end.1 key (is.legal end.0) kept all

flood_ends : {A : Type 0} (net : Network A) (key : Key) (links : List ((ℕ × ℕ) × (ℕ × ℕ))) → IsNetwork net → is_kept_kind key.kind ≡ true → ((i : ℕ) → RemembersAll net i)
    → sum_by (λ link. put_on net key link.0 + put_on net key link.1) links ≤ length links + length links
flood_ends net key [] is kept all = omega arith
flood_ends net key (link ∷ links) is kept all =
    let more = sum_by-cons (λ (link : (ℕ × ℕ) × (ℕ × ℕ)). put_on net key link.0 + put_on net key link.1) link links in
    let there = put_once net key link.0 is kept (all link.0.0) in
    let back = put_once net key link.1 is kept (all link.1.0) in
    omega (arith, more, there, back, flood_ends net key links is kept all)

pub floods_end : (A : Type 0) → FloodsEnd A
floods_end A = record {
  once = λ net key end is kept all. put_once net key end is kept all;
  all = λ net key links is kept all. flood_ends net key links is kept all;
}
