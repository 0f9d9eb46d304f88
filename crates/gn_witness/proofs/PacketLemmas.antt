-- What the laws of one router say of packets.
use Rattle.std.proofs.Common.{◌≡◌, ℕ, ◌+◌, ◌<◌, Bool, true, cond, List, ◌∷◌, get_or, take, drop, reverse, length, sym, ap, subst, ◌∙◌, arith}
use Rattle.std.specs.List.{Contains, count_by}
use Rattle.std.proofs.lemmas.List.Sums.{sum_by_more_le}
use Rattle.gn_wire.specs.declared.key.Key.{Key}
use Rattle.gn_wire.specs.Packet.{Packet}
use Rattle.gn_rules.specs.declared.config.Config.{Config}
use Rattle.gn_rules.specs.declared.receipt.Step.{Step}
use Rattle.gn_rules.specs.Answer.{IsLegal}
use Rattle.gn_rules.specs.History.{sends_of}
use Rattle.gn_rules.specs.Output.{taken}
use Rattle.gn_paths.specs.Sends.{is_kept_kind, NothingFromNowhere, NotSentAgain, sends_of_key}
use Rattle.gn_paths.proofs.OriginLemmas.{taken_queued}
use Rattle.gn_witness.specs.Packets.{Queued, SentAgain, WasSent}
use Rattle.gn_witness.proofs.LinkLemmas.{stands_at}

-- what was taken had been queued, so it came from somewhere
pub was_queued : {A : Type 0} → NothingFromNowhere A → (s : Config) (past : List (Step A)) (c : ℕ) (packet : Packet) → IsLegal s past → Contains (taken past c) packet
    → Queued s past c packet
was_queued law s past c packet legal has =
    let waited = taken_queued s past c packet legal has in
    record { legal = legal; waited = waited; origin = law s past c packet legal waited }

-- one that has what is counted is counted
pub counted : {X : Type 0} (p : X → Bool) (xs : List X) (i : ℕ) (x : X) → i < length xs → x ≡ get_or xs i x → p x ≡ true → 0 < count_by p xs
counted p xs i x within is has =
    let one : cond {A = ℕ} (p (get_or xs i x)) 1 0 ≡ 1 = ap (λ y. cond {A = ℕ} (p y) 1 0) (sym is) ∙ ap (λ b. cond {A = ℕ} b 1 0) has in
    omega (arith, one, sum_by_more_le (λ y. cond (p y) 1 0) xs i x within)

-- a step that sends a packet of a key
pub sent_at : {A : Type 0} (steps : List (Step A)) (i : ℕ) (step : Step A) (key : Key) → i < length steps → step ≡ get_or steps i step → 0 < sends_of_key key (sends_of step.reply)
    → WasSent (reverse steps) key
sent_at steps i step key within is sent =
    record {
      between = reverse (drop (i + 1) steps);
      first = step;
      earlier = reverse (take i steps);
      stands = stands_at steps i step within is;
      once = sent;
    }

-- what the laws say of a step that sends a packet again
pub sent_again : {A : Type 0} → NotSentAgain A → (s : Config) (past : List (Step A)) (step : Step A) (key : Key) → is_kept_kind key.kind ≡ true → WasSent past key
    → 0 < sends_of_key key (sends_of step.reply) → IsLegal s (step ∷ past) → SentAgain s past step key
sent_again law s past step key kept before again legal =
    record {
      legal = legal;
      kept = kept;
      before = before;
      again = again;
      others = law.sent s step before.between before.first before.earlier key (subst (λ steps. IsLegal s (step ∷ steps)) before.stands legal) kept before.once again;
    }
