-- What the fields behind a counter's name say.
use Rattle.std.proofs.Common.{◌≡◌, ℕ, List, refl}
use Rattle.gn_rules.specs.declared.statistics.Counter.{Counter}
use Rattle.gn_rules.specs.declared.statistics.Counter.TheVariants.{Routed, Taken, Sent}
use Rattle.gn_capture.specs.Replies.{counted_by, plain_parsed}

-- of a counter that counts no packets they say a plain reply
pub counted_plain : {A : Type 0} (fields : List (List ℕ)) (k : Counter) → (k ≡ Routed → ⊥) → (k ≡ Taken → ⊥) → (k ≡ Sent → ⊥)
    → plain_parsed {A = A} fields k ≡ counted_by fields k
counted_plain fields Routed routed taken sent = absurd (routed refl)
counted_plain fields Taken routed taken sent = absurd (taken refl)
counted_plain fields Sent routed taken sent = absurd (sent refl)
counted_plain fields k routed taken sent = refl
