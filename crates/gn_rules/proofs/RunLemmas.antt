-- Runs of events, one event more.
use Rattle.std.proofs.Common.{◌≡◌, ◌≤◌, ◌<◌, ◌+◌, ℕ, List, [], ◌∷◌, ◌++◌, length, take, get_or, reverse, Result, Ok, Err, IfOk, OnErr, true, refl, sym, ap, ◌∙◌, subst, arith, length-append}
use Rattle.std.proofs.lemmas.List.{take_more, length-reverse}
use Rattle.gn_rules.specs.declared.config.Config.{Config}
use Rattle.gn_rules.specs.declared.event.Event.{Event}
use Rattle.gn_rules.specs.declared.receipt.Receipt.{Receipt}
use Rattle.gn_rules.specs.declared.receipt.Step.{Step}
use Rattle.gn_rules.specs.declared.reply.Reply.{Reply}
use Rattle.gn_rules.specs.declared.refusal.Refusal.{Refusal}
use Rattle.gn_rules.specs.declared.refusal.Refusal.TheVariants.{HistoryFull, NotLive, NoTicket, Strange, NothingWaiting, BadOrigin, Remembered, NoMemory}
use Rattle.gn_rules.specs.Answer.{answer, Finds, reply_of, IsLegal}
use Rattle.gn_rules.specs.Laws.{RunsAgree, RunsAgreeSoFar, RunsStayLegal}
use Rattle.gn_rules.proofs.PastLemmas.{past_push}
use Rattle.gn_rules.specs.Runs.{past_after, IsReceipt, IsAnswered, Ran, had_memory}

-- a run that has come so far, with room for the results of all events
pub record IsRunning {A : Type 0} (s now : Config) (past : List (Step A)) (events : List (Event A)) (results : List (Result (Receipt A) Refusal)) (after : List (Step A)) (all capacity : ℕ) : Type 0 where
  pub same : now ≡ s
  pub ran : Ran s past events results after
  pub counted : length results ≡ length events
  pub room : all ≤ capacity

-- a run with one event more at its end
pub ran_more : {A : Type 0} (s : Config) (past : List (Step A)) (events : List (Event A)) (results : List (Result (Receipt A) Refusal)) (after : List (Step A)) (event : Event A) (result : Result (Receipt A) Refusal)
    → Ran s past events results after → IsAnswered s after event result → Ran s past (events ++ event ∷ []) (results ++ result ∷ []) (past_after after event result)
ran_more s past [] [] after event result same answered =
    (subst (λ (p : List (Step _)). IsAnswered s p event result) same answered, ap (λ p. past_after p event result) same)
ran_more s past [] (y ∷ ys) after event result ran answered = absurd ran
ran_more s past (e ∷ es) [] after event result ran answered = absurd ran
ran_more s past (e ∷ es) (y ∷ ys) after event result ran answered =
    (ran.0, ran_more s (past_after past e y) es ys after event result ran.1 answered)

-- what a call answered is what a run wants, and leaves the steps that a run goes on with
answered : {A : Type 0} (s : Config) (steps later : List (Step A)) (event : Event A) (result : Result (Receipt A) Refusal)
    → Finds (reply_of result) (answer s (reverse steps) event)
    → IfOk result (λ receipt. later ≡ steps ++ record { actor = 0; event = event; reply = receipt.reply } ∷ [])
    → IfOk result (λ receipt. receipt.index ≡ length steps) → IfOk result (λ receipt. receipt.event ≡ event) → OnErr result (later ≡ steps)
    → IsAnswered s (reverse steps) event result × (reverse later ≡ past_after (reverse steps) event result)
answered s steps later event (Ok receipt) found step index known err =
    (record { found = found; known = (index ∙ sym (length-reverse steps), known) }, ap reverse step ∙ past_push steps (record { actor = 0; event = event; reply = receipt.reply }))
answered s steps later event (Err refusal) found step index known err = (record { found = found; known = tt }, ap reverse err)

-- a run that has come one event further
pub running_more : {A : Type 0} (s now next : Config) (past : List (Step A)) (events : List (Event A)) (i : ℕ) (results more : List (Result (Receipt A) Refusal)) (steps later : List (Step A)) (event : Event A) (result : Result (Receipt A) Refusal) (capacity wider : ℕ)
    → IsRunning s now past (take i events) results (reverse steps) (length events) capacity
    → i < length events → event ≡ get_or events i event → next ≡ now → more ≡ results ++ result ∷ [] → capacity ≤ wider
    → Finds (reply_of result) (answer now (reverse steps) event)
    → IfOk result (λ receipt. later ≡ steps ++ record { actor = 0; event = event; reply = receipt.reply } ∷ [])
    → IfOk result (λ receipt. receipt.index ≡ length steps) → IfOk result (λ receipt. receipt.event ≡ event) → OnErr result (later ≡ steps)
    → IsRunning s next past (take (i + 1) events) more (reverse later) (length events) wider
running_more s now next past events i results more steps later event result capacity wider running inside item kept pushed grown found step index known err =
    let here = subst (λ (z : Config). Finds (reply_of result) (answer z (reverse steps) event)) running.same found in
    let both : IsAnswered s (reverse steps) event result × (reverse later ≡ past_after (reverse steps) event result) = answered s steps later event result here step index known err in
    let taken : take (i + 1) events ≡ take i events ++ event ∷ [] = take_more events i event inside ∙ ap (λ (e : Event _). take i events ++ e ∷ []) (sym item) in
    record {
      same = kept ∙ running.same;
      ran = rw (taken, pushed, both.1) (ran_more s past (take i events) results (reverse steps) event result running.ran both.0);
      counted = rw (taken, pushed) (length-append results (result ∷ []) ∙ ap (λ (n : ℕ). n + 1) running.counted ∙ sym (length-append (take i events) (event ∷ [])));
      room = omega (arith, running.room);
    }

-- what was found with memory is what the rules answer
found_is : {A : Type 0} (result : Result (Receipt A) Refusal) (rules : Result (Reply A) Refusal) → Finds (reply_of result) rules → had_memory result ≡ true → rules ≡ reply_of result
found_is (Ok receipt) rules found had = found
found_is (Err HistoryFull) rules found had = found
found_is (Err NotLive) rules found had = found
found_is (Err NoTicket) rules found had = found
found_is (Err Strange) rules found had = found
found_is (Err NothingWaiting) rules found had = found
found_is (Err BadOrigin) rules found had = found
found_is (Err Remembered) rules found had = found
found_is (Err NoMemory) rules found had = absurd (cc)

-- receipts of equal replies at one place are equal
same_result : {A : Type 0} (past : List (Step A)) (event : Event A) (x y : Result (Receipt A) Refusal) → reply_of x ≡ reply_of y → IsReceipt past event x → IsReceipt past event y → x ≡ y
same_result past event (Ok x) (Ok y) same known_x known_y =
    same_receipt x.index y.index x.event y.event x.reply y.reply (known_x.0 ∙ sym known_y.0) (known_x.1 ∙ sym known_y.1) (cc)
  where
    same_receipt : {A : Type 0} (i j : ℕ) (d e : Event A) (p q : Reply A) → i ≡ j → d ≡ e → p ≡ q
        → ◌≡◌ {A = Result (Receipt A) Refusal} (Ok (record { index = i; event = d; reply = p })) (Ok (record { index = j; event = e; reply = q }))
    same_receipt i j d e p q e1 e2 e3 = rw (e1, e2, e3) refl
same_result past event (Ok x) (Err y) same known_x known_y = absurd (cc)
same_result past event (Err x) (Ok y) same known_x known_y = absurd (cc)
same_result past event (Err x) (Err y) same known_x known_y = cc

-- two results with memory after the same steps are equal
agreed : {A : Type 0} (s : Config) (past : List (Step A)) (e : Event A) (x y : Result (Receipt A) Refusal)
    → IsAnswered s past e x → IsAnswered s past e y → had_memory x ≡ true → had_memory y ≡ true → x ≡ y
agreed s past e x y of_x of_y had_x had_y =
    same_result past e x y (sym (found_is x (answer s past e) of_x.found had_x) ∙ found_is y (answer s past e) of_y.found had_y) of_x.known of_y.known

-- two runs agree: event by event
pub runs_agree : (A : Type 0) → RunsAgree A
runs_agree A s past [] [] [] first second ran_x ran_y had_x had_y = (refl, ran_x ∙ sym ran_y)
runs_agree A s past [] [] (y ∷ ys) first second ran_x ran_y had_x had_y = absurd ran_y
runs_agree A s past [] (x ∷ xs) ys first second ran_x ran_y had_x had_y = absurd ran_x
runs_agree A s past (e ∷ es) [] ys first second ran_x ran_y had_x had_y = absurd ran_x
runs_agree A s past (e ∷ es) (x ∷ xs) [] first second ran_x ran_y had_x had_y = absurd ran_y
runs_agree A s past (e ∷ es) (x ∷ xs) (y ∷ ys) first second ran_x ran_y had_x had_y =
    let same : x ≡ y = agreed s past e x y ran_x.0 ran_y.0 had_x.0 had_y.0 in
    let there : Ran s (past_after past e x) es ys second =
    subst (λ (z : Result (Receipt A) Refusal). Ran s (past_after past e z) es ys second) (sym same) ran_y.1 in
    let rest : (xs ≡ ys) × (first ≡ second) = runs_agree A s (past_after past e x) es xs ys first second ran_x.1 there had_x.1 had_y.1 in
    (rw (same, rest.0) refl, rest.1)

-- two runs agree up to the first that is out of memory: event by event
pub runs_agree_so_far : (A : Type 0) → RunsAgreeSoFar A
runs_agree_so_far A s past [] [] [] first second ran_x ran_y = tt
runs_agree_so_far A s past [] [] (y ∷ ys) first second ran_x ran_y = absurd ran_y
runs_agree_so_far A s past [] (x ∷ xs) ys first second ran_x ran_y = absurd ran_x
runs_agree_so_far A s past (e ∷ es) [] ys first second ran_x ran_y = absurd ran_x
runs_agree_so_far A s past (e ∷ es) (x ∷ xs) [] first second ran_x ran_y = absurd ran_y
runs_agree_so_far A s past (e ∷ es) (x ∷ xs) (y ∷ ys) first second ran_x ran_y = λ had_x had_y.
    let same : x ≡ y = agreed s past e x y ran_x.0 ran_y.0 had_x had_y in
    let there : Ran s (past_after past e x) es ys second =
    subst (λ (z : Result (Receipt A) Refusal). Ran s (past_after past e z) es ys second) (sym same) ran_y.1 in
    (same, runs_agree_so_far A s (past_after past e x) es xs ys first second ran_x.1 there)

-- a run keeps its history legal: event by event
pub runs_stay_legal : (A : Type 0) → RunsStayLegal A
runs_stay_legal A s past [] [] after legal ran = subst (IsLegal s) (sym ran) legal
runs_stay_legal A s past [] (x ∷ xs) after legal ran = absurd ran
runs_stay_legal A s past (e ∷ es) [] after legal ran = absurd ran
runs_stay_legal A s past (e ∷ es) (Ok receipt ∷ xs) after legal ran =
    runs_stay_legal A s (past_after past e (Ok receipt)) es xs after (ran.0.found, legal) ran.1
runs_stay_legal A s past (e ∷ es) (Err refusal ∷ xs) after legal ran = runs_stay_legal A s past es xs after legal ran.1
