-- What one more step does to the numbers of the connections.
use Rattle.std.proofs.Common.{◌≡◌, ℕ, ◌+◌, ◌<◌, ◌≤◌, ◌==◌, Bool, true, false, not, cond, if◌then◌else◌, List, [], ◌∷◌, ◌++◌, length, drop, filter, None, refl, ap, ◌∙◌, arith, length-append}
use Rattle.std.specs.List.{All}
use Rattle.std.proofs.lemmas.Grind.{common_steps}
use Rattle.std.proofs.lemmas.List.{append-nil}
use Rattle.std.proofs.lemmas.List.Elements.{All-nil, All-head, All-tail, All-push, All-filter, All-weaker}
use Rattle.gn_wire.specs.Packet.{Packet}
use Rattle.gn_rules.specs.declared.config.Config.{Config}
use Rattle.gn_rules.specs.declared.event.Event.TheVariants.{Connect, Close}
use Rattle.gn_rules.specs.declared.receipt.Step.{Step}
use Rattle.gn_rules.specs.declared.reply.Reply.TheVariants.{Connected, Closed}
use Rattle.gn_rules.specs.History.{connected_of, is_close, is_take, sends_of, connections, live_connections}
use Rattle.gn_rules.specs.Output.{out, queued_to}
use Rattle.gn_rules.proofs.StepLemmas.{live_connections-closed, live_connections-connected, live_connections-kept}
use Rattle.gn_table_router.specs.Tabled.{AreApart, AreNumbered}

pub filtered_few : {X : Type 0} (p : X → Bool) (xs : List X) → length (filter p xs) ≤ length xs
filtered_few p [] = omega arith
filtered_few p (x ∷ xs) =
    let rest : length (filter p xs) ≤ length xs = filtered_few p xs in
    elim (p x) as (λ b. length (cond b (x ∷ filter p xs) (filter p xs)) ≤ length (x ∷ xs)) [ true ↦ omega arith | false ↦ omega arith ]

pub apart_filter : (p : ℕ → Bool) (ns : List ℕ) → AreApart ns → AreApart (filter p ns)
apart_filter p [] h = tt
apart_filter p (n ∷ ns) h =
    let rest : AreApart (filter p ns) = apart_filter p ns h.1 in
    let other : All (λ m. (m == n) ≡ false) (filter p ns) = All-filter p (λ m. (m == n) ≡ false) ns h.0 in
    elim (p n) as (λ b. AreApart (cond b (n ∷ filter p ns) (filter p ns))) [ true ↦ (other, rest) | false ↦ rest ]

-- a greater number after the others
pub apart_more : (c : ℕ) (ns : List ℕ) → All (λ d. d < c) ns → AreApart ns → AreApart (ns ++ c ∷ [])
apart_more c [] below h = (All-nil (λ m. (m == c) ≡ false), tt)
apart_more c (n ∷ ns) below h =
    let less : n < c = All-head (λ d. d < c) n ns below in
    let other : (c == n) ≡ false = grind (arith, common_steps) in
    (All-push (λ m. (m == n) ≡ false) ns c h.0 other, apart_more c ns (All-tail (λ d. d < c) n ns below) h.1)

untaken_nil : (b : Bool) → ◌≡◌ {A = List Packet} (if b then drop 1 [] else []) []
untaken_nil true = refl
untaken_nil false = refl

-- nothing waits for a number for which nothing waited, where nothing is queued to it
pub out_nil : {A : Type 0} (past : List (Step A)) (step : Step A) (c : ℕ) → out past c ≡ [] → queued_to c (sends_of step.reply) ≡ [] → out (step ∷ past) c ≡ []
out_nil past step c before none =
    ap (λ xs. (if is_take c step.event then drop 1 xs else xs) ++ queued_to c (sends_of step.reply)) before
    ∙ ap (λ xs. xs ++ queued_to c (sends_of step.reply)) (untaken_nil (is_take c step.event)) ∙ none

module _ {A : Type 0} (s : Config) (past : List (Step A)) (k : ℕ) (are : AreNumbered s past k) where
  -- a step that makes no connection and ends none
  pub numbered_kept : (step : Step A) → connected_of step.reply ≡ None → ((c : ℕ) → is_close c step.event ≡ false)
      → ((c : ℕ) → k < c → queued_to c (sends_of step.reply) ≡ []) → AreNumbered s (step ∷ past) k
  numbered_kept step none no_close quiet = record {
    counted = rw (none, append-nil (connections past)) are.counted;
    few = omega (arith, are.few);
    below = rw (none, append-nil (connections past)) are.below;
    apart = rw (none, append-nil (connections past)) are.apart;
    few_live = rw (live_connections-kept past step none no_close) are.few_live;
    fresh = λ c h. out_nil past step c (are.fresh c h) (quiet c h);
  }

  pub numbered_closed : (actor c n : ℕ) → AreNumbered s (record { actor = actor; event = Close c; reply = Closed n } ∷ past) k
  numbered_closed actor c n =
      let step : Step A = record { actor = actor; event = Close c; reply = Closed n } in
      let fewer : length (filter (λ d. not (d == c)) (live_connections past)) ≤ length (live_connections past) = filtered_few (λ d. not (d == c)) (live_connections past) in
      let few : length (filter (λ d. not (d == c)) (live_connections past)) ≤ s.numbers.neighbours = omega (arith, are.few_live) in
      record {
        counted = rw (append-nil (connections past)) are.counted;
        few = omega (arith, are.few);
        below = rw (append-nil (connections past)) are.below;
        apart = rw (append-nil (connections past)) are.apart;
        few_live = rw (live_connections-closed past actor c n) few;
        fresh = λ d h. out_nil past step d (are.fresh d h) refl;
      }

  pub numbered_connected : (actor c : ℕ) → c ≡ k + 1 → length (live_connections past) < s.numbers.neighbours
      → AreNumbered s (record { actor = actor; event = Connect; reply = Connected c } ∷ past) c
  numbered_connected actor c next room =
      let step : Step A = record { actor = actor; event = Connect; reply = Connected c } in
      let below : All (λ d. d < c) (connections past) = rw next are.below in
      let one_more : length (live_connections past ++ c ∷ []) ≤ s.numbers.neighbours = omega (arith, room, length-append (live_connections past) (c ∷ [])) in
      record {
        counted = omega (arith, next, are.counted, length-append (connections past) (c ∷ []));
        few = omega (arith, next, are.few);
        below = All-push (λ d. d < c + 1) (connections past) c (All-weaker (λ d. d < c) (λ d. d < c + 1) (λ d h. omega arith) (connections past) below) (omega arith);
        apart = apart_more c (connections past) below are.apart;
        few_live = rw (live_connections-connected past actor c below) one_more;
        fresh = λ d h. out_nil past step d (are.fresh d (omega (arith, h, next))) refl;
      }
