-- What the sends of a step queue.
use Rattle.std.proofs.Common.{◌≡◌, ℕ, ◌<◌, ◌==◌, true, false, ◌&&◌, ◌||◌, not, List, [], ◌∷◌, ◌++◌, filter, map, refl, ap, ◌∙◌}
use Rattle.std.specs.List.{All, list_any}
use Rattle.std.proofs.lemmas.List.{map-id, map-append}
use Rattle.std.proofs.lemmas.List.Elements.{All-head, All-tail, filter-append}
use Rattle.gn_wire.specs.Packet.{Packet}
use Rattle.gn_rules.specs.declared.config.Config.{Config}
use Rattle.gn_rules.specs.declared.receipt.Step.{Step}
use Rattle.gn_rules.specs.declared.sends.Sending.{Sending}
use Rattle.gn_rules.specs.History.{live_connections}
use Rattle.gn_rules.specs.Output.{queued_to}
use Rattle.gn_rules.specs.Sending.{send, fanout}
use Rattle.gn_rules.proofs.StepLemmas.{map_map, below_is_other}

-- a fanout goes to the live connections except one
pub fanout_to : {A : Type 0} (s : Config) (past : List (Step A)) (c : ℕ) (p : Packet) → map (λ x. x.to) (fanout s past c p) ≡ filter (λ d. not (d == c)) (live_connections past)
fanout_to s past c p = map_map (send s past p) (λ x. x.to) (filter (λ d. not (d == c)) (live_connections past)) ∙ map-id (filter (λ d. not (d == c)) (live_connections past))

-- sends to others queue nothing
pub queued_none : {A : Type 0} (c : ℕ) (sends : List (Sending A)) → list_any (λ d. d == c) (map (λ x. x.to) sends) ≡ false → queued_to c sends ≡ []
queued_none c [] h = refl
queued_none c (x ∷ sends) h =
    let rest : list_any (λ d. d == c) (map (λ x. x.to) sends) ≡ false → queued_to c sends ≡ [] = λ f. queued_none c sends f in
    elim (x.to == c) as (λ b. (x.to == c) ≡ b → (b || list_any (λ d. d == c) (map (λ x. x.to) sends)) ≡ false → queued_to c (x ∷ sends) ≡ []) [
      | true ↦ λ e f. cc
      | false ↦ λ e f. rw e (rest f)
    ] refl h

pub queued_append : {A : Type 0} (c : ℕ) (xs ys : List (Sending A)) → queued_to c (xs ++ ys) ≡ queued_to c xs ++ queued_to c ys
queued_append c xs ys =
    ap (map (λ x. x.packet)) (filter-append (λ x. (x.to == c) && x.queued) xs ys)
    ∙ map-append (λ x. x.packet) (filter (λ x. (x.to == c) && x.queued) xs) (filter (λ x. (x.to == c) && x.queued) ys)

-- none of the numbers below is c
pub none_above : (c : ℕ) (xs : List ℕ) → All (λ d. d < c) xs → list_any (λ d. d == c) xs ≡ false
none_above c [] h = refl
none_above c (x ∷ xs) h = rw (below_is_other x c (All-head (λ d. d < c) x xs h)) (none_above c xs (All-tail (λ d. d < c) x xs h))

-- sends to numbers below c leave what waits for c as it is
pub out_above : {A : Type 0} (s : Config) (past : List (Step A)) (c from : ℕ) (p : Packet) → All (λ d. d < c) (filter (λ d. not (d == from)) (live_connections past)) → queued_to c (fanout s past from p) ≡ []
out_above s past c from p below =
    queued_none c (fanout s past from p) (ap (list_any (λ d. d == c)) (fanout_to s past from p) ∙ none_above c (filter (λ d. not (d == from)) (live_connections past)) below)

-- one send more, where none before it went there
pub queued_more : {A : Type 0} (c : ℕ) (sends : List (Sending A)) (x : Sending A) → queued_to c (sends ++ x ∷ []) ≡ queued_to c sends ++ queued_to c (x ∷ [])
queued_more c sends x = queued_append c sends (x ∷ [])
