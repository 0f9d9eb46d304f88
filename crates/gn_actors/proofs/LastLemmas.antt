-- The last step as a receipt.
use Rattle.std.proofs.Common.{◌≡◌, ℕ, List, [], ◌∷◌, ◌++◌, length, ap, ◌∙◌}
use Rattle.gn_rules.specs.declared.event.Event.{Event}
use Rattle.gn_rules.specs.declared.receipt.Step.{Step}
use Rattle.gn_rules.specs.declared.reply.Reply.{Reply}
use Rattle.gn_rules.proofs.PastLemmas.{past_length, past_push}
use Rattle.gn_actors.specs.ActorState.{receipt}
use Rattle.gn_actors.specs.Annals.{last_receipt, newest_receipt}

pub last_is : {A : Type 0} (before after : List (Step A)) (actor : ℕ) (event : Event A) (reply : Reply A) → after ≡ before ++ record { actor = actor; event = event; reply = reply } ∷ []
    → last_receipt after ≡ receipt (length before) event reply
last_is before after actor event reply is =
    ap last_receipt is ∙ ap newest_receipt (past_push before (record { actor = actor; event = event; reply = reply })) ∙ ap (λ n. receipt n event reply) (past_length before)
