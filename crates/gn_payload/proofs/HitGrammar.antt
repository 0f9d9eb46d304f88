-- The readings of Queries and Query Hits are the grammar's.
use Rattle.std.proofs.Common.{◌≡◌, ℕ, ◌≤◌, Bool, true, false, cond, nat_lt, List, length, drop, slice_index, Option, Some, None, option_map, refl, sym, ap, ◌∙◌, arith}
use Rattle.std.proofs.lemmas.Bool.Decides.{nat_tests}
use Rattle.std.proofs.lemmas.Option.{same_Some, none-some}
use Rattle.gn_wire.specs.declared.kind.Guid.{Guid}
use Rattle.gn_payload.specs.Fields.{QueryFields, ResultFields, HitFields, number_at, bytes_at, hit_servent, hit_middle}
use Rattle.gn_payload.specs.Grammar.{IsQuery, IsHit}
use Rattle.gn_payload.specs.Reading.{text_reading, query_reading, results_reading, hit_reading}
use Rattle.gn_payload.proofs.TextGrammar.{ended_read, read_ended}
use Rattle.gn_payload.proofs.ResultGrammar.{results_read, read_results}

query_is : (a b : ℕ) (x y z w : List ℕ) → a ≡ b → x ≡ y → z ≡ w
    → ◌≡◌ {A = QueryFields} (record { speed = a; text = x; tail = z }) (record { speed = b; text = y; tail = w })
query_is a b x y z w e1 e2 e3 = rw (e1, e2, e3) refl

-- a Query with its speed before what is read
abbrev pub query_made : List ℕ → List ℕ × List ℕ → QueryFields
query_made bytes x = record { speed = number_at 2 0 bytes; text = x.0; tail = x.1 }

pub query_read : (bytes : List ℕ) (q : QueryFields) → IsQuery bytes q → query_reading bytes ≡ Some q
query_read bytes q h =
    ap (λ (o : Option (List ℕ × List ℕ)). option_map (query_made bytes) o) (ended_read (drop 2 bytes) q.text q.tail h.text)
    ∙ ap (λ (x : QueryFields). Some x) (query_is _ _ _ _ _ _ (sym h.speed) refl refl)

read_made : (bytes : List ℕ) (q : QueryFields) (o : Option (List ℕ × List ℕ)) → text_reading (drop 2 bytes) ≡ o → option_map (query_made bytes) o ≡ Some q → IsQuery bytes q
read_made bytes q None is e = absurd (none-some _ e)
read_made bytes q (Some x) is e =
    rw (← same_Some (query_made bytes x) q e) (record { speed = refl; text = read_ended (drop 2 bytes) x.0 x.1 is })

pub read_query : (bytes : List ℕ) (q : QueryFields) → query_reading bytes ≡ Some q → IsQuery bytes q
read_query bytes q e = read_made bytes q (text_reading (drop 2 bytes)) refl e

-- a Query Hit with its other fields round what is read
abbrev pub hit_made : List ℕ → List ResultFields × List ℕ → HitFields
hit_made bytes x = record { port = number_at 2 1 bytes; ip = bytes_at 4 3 bytes; speed = number_at 4 7 bytes; results = x.0; trailer = x.1; servent = hit_servent bytes }

hit_is : (a b c d : ℕ) (x y z w : List ℕ) (rs qs : List ResultFields) (s t : Guid) → a ≡ b → x ≡ y → c ≡ d → rs ≡ qs → z ≡ w → s ≡ t
    → ◌≡◌ {A = HitFields} (record { port = a; ip = x; speed = c; results = rs; trailer = z; servent = s }) (record { port = b; ip = y; speed = d; results = qs; trailer = w; servent = t })
hit_is a b c d x y z w rs qs s t e1 e2 e3 e4 e5 e6 = rw (e1, e2, e3, e4, e5, e6) refl

pub hit_read : (bytes : List ℕ) (h : HitFields) → IsHit bytes h → hit_reading bytes ≡ Some h
hit_read bytes h is =
    let long : nat_lt (length bytes) 27 ≡ false = grind (arith, nat_tests) in
    let whole = option_map (hit_made bytes) (results_reading (slice_index bytes 0) (hit_middle bytes)) in
    ap (λ (t : Bool). cond t None whole) long
    ∙ ap (λ (n : ℕ). option_map (hit_made bytes) (results_reading n (hit_middle bytes))) (sym is.hits)
    ∙ ap (λ (o : Option (List ResultFields × List ℕ)). option_map (hit_made bytes) o) (results_read h.results (hit_middle bytes) h.trailer is.results)
    ∙ ap (λ (x : HitFields). Some x) (hit_is _ _ _ _ _ _ _ _ _ _ _ _ (sym is.port) (sym is.ip) (sym is.speed) refl refl (sym is.servent))

read_whole : (bytes : List ℕ) (h : HitFields) (t : Bool) (o : Option (List ResultFields × List ℕ)) → nat_lt (length bytes) 27 ≡ t
    → results_reading (slice_index bytes 0) (hit_middle bytes) ≡ o → cond t None (option_map (hit_made bytes) o) ≡ Some h → IsHit bytes h
read_whole bytes h true o short is e = absurd (none-some _ e)
read_whole bytes h false None short is e = absurd (none-some _ e)
read_whole bytes h false (Some x) short is e =
    let results = read_results (slice_index bytes 0) (hit_middle bytes) x.0 x.1 is in
    let long : 27 ≤ length bytes = grind (arith, nat_tests) in
    rw (← same_Some (hit_made bytes x) h e) (record { size = long; hits = results.0; port = refl; ip = refl; speed = refl; results = results.1; servent = refl })

pub read_hit : (bytes : List ℕ) (h : HitFields) → hit_reading bytes ≡ Some h → IsHit bytes h
read_hit bytes h e = read_whole bytes h (nat_lt (length bytes) 27) (results_reading (slice_index bytes 0) (hit_middle bytes)) refl refl e
