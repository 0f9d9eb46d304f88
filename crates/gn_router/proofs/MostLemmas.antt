-- How many packets are outgoing at most.
use Rattle.std.proofs.Common.{◌≡◌, ◌≤◌, ◌+◌, ◌==◌, ◌||◌, ◌&&◌, ℕ, Bool, true, false, not, if◌then◌else◌, List, [], ◌∷◌, ◌++◌, filter, length, refl, arith, length-append}
use Rattle.std.specs.Cmp.{nat_eq_equiv}
use Rattle.std.specs.List.{list_any}
use Rattle.std.proofs.lemmas.List.{length-map}
use Rattle.std.proofs.lemmas.List.Filters.{length-filter_both}
use Rattle.gn_wire.specs.Packet.{forward_of, is_expired, Packet}
use Rattle.gn_rules.specs.declared.config.Config.{Config}
use Rattle.gn_rules.specs.declared.receipt.Step.{Step}
use Rattle.gn_rules.specs.declared.sends.Sending.{Sending}
use Rattle.gn_rules.specs.Flight.{Admission}
use Rattle.gn_rules.specs.History.{live, live_connections}
use Rattle.gn_rules.specs.Sending.{fanout, flood_sends, is_ping, own_pong, send}
use Rattle.gn_rules.proofs.StepLemmas.{is_listed}

abbrev others : ℕ → List ℕ → List ℕ
others c ns = filter (λ d. not (d == c)) ns

fewer : (c : ℕ) (ns : List ℕ) → length (others c ns) ≤ length ns
fewer c ns = omega (arith, length-filter_both (λ d. not (d == c)) (λ d. not (not (d == c))) (λ d. refl) ns)

-- without a number that is listed there is one less at least
one_less : (c : ℕ) (ns : List ℕ) → list_any (λ d. c == d) ns ≡ true → 1 + length (others c ns) ≤ length ns
one_less c [] h = cc
one_less c (n ∷ ns) h =
    let flip : (n == c) ≡ (c == n) = nat_eq_equiv.symm n c in
    elim (c == n) as (λ b. (n == c) ≡ b → (b || list_any (λ d. c == d) ns) ≡ true → 1 + length (others c (n ∷ ns)) ≤ length (n ∷ ns)) [
      | true ↦ λ f t. rw f (omega (arith, fewer c ns))
      | false ↦ λ f t. rw f (omega (arith, one_less c ns t))
    ] flip h

module _ {A : Type 0} (s : Config) (past : List (Step A)) where
  fanned : (c : ℕ) (p : Packet) → length (fanout s past c p) ≡ length (others c (live_connections past))
  fanned c p = length-map (others c (live_connections past)) (send s past p)

  -- a fan-out
  pub fanned_out : (c : ℕ) (p : Packet) → length (fanout s past c p) ≤ length (live_connections past)
  fanned_out c p = omega (arith, fanned c p, fewer c (live_connections past))

  -- the own Pong, where there is one, and a forward to each other connection
  pong_and_others : (b l : Bool) (pong : Sending A) (c : ℕ) → list_any (λ d. c == d) (live_connections past) ≡ l
      → length (if b && l then pong ∷ [] else []) + length (others c (live_connections past)) ≤ length (live_connections past)
  pong_and_others true true pong c h = omega (arith, one_less c (live_connections past) h)
  pong_and_others true false pong c h = omega (arith, fewer c (live_connections past))
  pong_and_others false l pong c h = omega (arith, fewer c (live_connections past))

  forwarded : (expired : Bool) (c : ℕ) (p : Packet) → length (if expired then [] else fanout s past c p) ≤ length (others c (live_connections past))
  forwarded true c p = omega arith
  forwarded false c p = omega (arith, fanned c p)

  flooded_by : (c : ℕ) (pongs forwards : List (Sending A)) → length pongs + length (others c (live_connections past)) ≤ length (live_connections past)
      → length forwards ≤ length (others c (live_connections past)) → length (pongs ++ forwards) ≤ length (live_connections past)
  flooded_by c pongs forwards both few = omega (arith, length-append pongs forwards, both, few)

  -- what a Ping or Query sends
  pub flooded : (a : Admission) → length (flood_sends s past a) ≤ length (live_connections past)
  flooded a =
      flooded_by a.origin _ _ (pong_and_others (is_ping a.packet.kind) (live past a.origin) (send s past (own_pong s.own a.packet) a.origin) a.origin (is_listed past a.origin))
      (forwarded (is_expired s.numbers.life a.packet) a.origin (forward_of s.numbers.life a.packet))
