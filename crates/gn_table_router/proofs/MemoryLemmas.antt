-- What one more step does to what is remembered.
use Rattle.std.proofs.Common.{◌≡◌, ℕ, zero, suc, Bool, true, false, ◌&&◌, cond, if◌then◌else◌, List, [], ◌∷◌, ◌++◌, take, Option, Some, None, refl, sym, ap, arith}
use Rattle.std.specs.Option.{option_to_list}
use Rattle.std.specs.Map.{remove_entry}
use Rattle.std.proofs.lemmas.List.{take-take}
use Rattle.gn_wire.specs.declared.key.Key.{Key}
use Rattle.gn_wire.specs.declared.kind.Guid.{Guid}
use Rattle.gn_wire.specs.Keys.{is_same_id, key_of}
use Rattle.gn_payload.specs.Fields.{hit_servent}
use Rattle.gn_rules.specs.declared.config.Config.{Config}
use Rattle.gn_rules.specs.declared.event.Event.TheVariants.{Route}
use Rattle.gn_rules.specs.declared.receipt.Step.{Step}
use Rattle.gn_rules.specs.declared.reply.Reply.{Reply}
use Rattle.gn_rules.specs.declared.reply.Reply.TheVariants.{Routed}
use Rattle.gn_rules.specs.Flight.{Admission, admission}
use Rattle.gn_rules.specs.Servents.{hit_of, is_query_hit, learned, servents}
use Rattle.gn_rules.specs.SeenEntries.{entry_of, keeps, seen_entries}
use Rattle.gn_rules.proofs.StepLemmas.{take_more_new}
use Rattle.gn_kept.specs.Remembered.{Remembered, with_entry, with_kept}
use Rattle.gn_tables.specs.Routed.{with_heard}
use Rattle.gn_tables.specs.Servents as table
use Rattle.gn_table_router.specs.Tabled.{known, remembered}

-- the remembered seen entries with one more, where there is one
abbrev pub with_entry_of : Option (Key × ℕ) → Remembered → Remembered
with_entry_of None seen = seen
with_entry_of (Some entry) seen = with_entry entry.0 entry.1 seen

-- the known servents with one more, where there is one
abbrev pub with_hit_of : Option (Guid × ℕ) → table.Servents → table.Servents
with_hit_of None servents = servents
with_hit_of (Some hit) servents = table.learned hit.0 hit.1 servents

-- one more seen entry, where there is one
seen_entries_more : (n : ℕ) (o : Option (Key × ℕ)) (xs : List (Key × ℕ))
    → with_entry_of o (record { seen_entries = take n xs; most = n }) ≡ record { seen_entries = take n (option_to_list o ++ xs); most = n }
seen_entries_more n None xs = refl
seen_entries_more n (Some x) xs = ap (λ (ys : List (Key × ℕ)). record { seen_entries = ys; most = n }) (sym (take_more_new n x xs))

pub remembered_more : {A : Type 0} (s : Config) (past : List (Step A)) (step : Step A)
    → with_entry_of (entry_of past step.event step.reply) (remembered s past) ≡ remembered s (step ∷ past)
remembered_more s past step = seen_entries_more s.numbers.seen (entry_of past step.event step.reply) (seen_entries past)

-- a route of what was admitted
kept_one : (n : ℕ) (b : Bool) (entry : Key × ℕ) (xs : List (Key × ℕ))
    → (if b then with_entry entry.0 entry.1 (record { seen_entries = take n xs; most = n }) else record { seen_entries = take n xs; most = n })
    ≡ record { seen_entries = take n (option_to_list (if b then Some entry else None) ++ xs); most = n }
kept_one n true entry xs = seen_entries_more n (Some entry) xs
kept_one n false entry xs = refl

pub remembered_routed : {A : Type 0} (s : Config) (past : List (Step A)) (actor t : ℕ) (reply : Reply A) (a : Admission) → admission past t ≡ Some a
    → with_kept reply a (remembered s past) ≡ remembered s (record { actor = actor; event = Route t; reply = reply } ∷ past)
remembered_routed s past actor t reply a found =
    rw found (kept_one s.numbers.seen (keeps a.packet.kind reply) (key_of a.packet, a.origin) (seen_entries past))

-- the newest of what is left, where one goes
take_removed : (t : Guid → Bool) (n : ℕ) (xs : List (Guid × ℕ)) → take n (remove_entry t xs) ≡ take n (remove_entry t (take (suc n) xs))
take_removed t n [] = refl
take_removed t zero (x ∷ xs) = refl
take_removed t (suc n) (x ∷ xs) =
    elim (t x.0) as (λ b. take (suc n) (cond b xs (x ∷ remove_entry t xs)) ≡ take (suc n) (cond b (take (suc n) xs) (x ∷ remove_entry t (take (suc n) xs)))) [
      | true ↦ sym (take-take (suc n) (suc n) xs (omega arith))
      | false ↦ ap (λ ys. x ∷ ys) (take_removed t n xs)
    ]

-- the newest, after one more that stands there alone
routes_more : (n : ℕ) (hit : Guid × ℕ) (xs : List (Guid × ℕ))
    → take n (hit ∷ remove_entry (is_same_id hit.0) (take n xs)) ≡ take n (hit ∷ remove_entry (is_same_id hit.0) xs)
routes_more zero hit xs = refl
routes_more (suc n) hit xs = ap (λ ys. hit ∷ ys) (sym (take_removed (is_same_id hit.0) n xs))

-- one more servent, where there is one
known_more_of : (n : ℕ) (o : Option (Guid × ℕ)) (xs : List (Guid × ℕ))
    → with_hit_of o (record { routes = take n xs; most = n }) ≡ record { routes = take n (learned o xs); most = n }
known_more_of n None xs = refl
known_more_of n (Some hit) xs = ap (λ (ys : List (Guid × ℕ)). record { routes = ys; most = n }) (routes_more n hit xs)

pub known_more : {A : Type 0} (s : Config) (past : List (Step A)) (step : Step A)
    → with_hit_of (hit_of past step.event step.reply) (known s past) ≡ known s (step ∷ past)
known_more s past step = known_more_of s.numbers.servents (hit_of past step.event step.reply) (servents past)

-- a route of what was admitted
heard_one : (n : ℕ) (b : Bool) (hit : Guid × ℕ) (xs : List (Guid × ℕ))
    → (if b && true then table.learned hit.0 hit.1 (record { routes = take n xs; most = n }) else record { routes = take n xs; most = n })
    ≡ record { routes = take n (learned (if b then Some hit else None) xs); most = n }
heard_one n true hit xs = known_more_of n (Some hit) xs
heard_one n false hit xs = refl

heard_none : {X : Type 0} (b : Bool) (after before : X) → (if b && false then after else before) ≡ before
heard_none true after before = refl
heard_none false after before = refl

pub known_routed : {A : Type 0} (s : Config) (past : List (Step A)) (actor t : ℕ) (reply : Reply A) (a : Admission) → admission past t ≡ Some a
    → with_heard reply a (known s past) ≡ known s (record { actor = actor; event = Route t; reply = reply } ∷ past)
known_routed s past actor t (Routed sends local) a found =
    rw found (heard_one s.numbers.servents (is_query_hit a.packet.kind) (hit_servent a.packet.payload, a.origin) (servents past))
known_routed s past actor t reply a found =
    heard_none (is_query_hit a.packet.kind) (table.learned (hit_servent a.packet.payload) a.origin (known s past)) (known s past)
