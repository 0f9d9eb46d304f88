-- A greeting that is awaited, piece by piece.
use Rattle.std.specs.Prelude.{◌≡◌, ◌+◌, ℕ, Bool, true, false, if◌then◌else◌, List, ◌++◌, length, take, drop, nat_eq}
use Rattle.std.specs.List.{common_prefix_len}
use Rattle.gn_shake.specs.declared.shake.ShakeState.{ShakeState}
use Rattle.gn_shake.specs.declared.shake.ShakeState.TheVariants.{More, Done, Refused}
use Rattle.gn_shake.specs.Greeting.{greeting_state}

-- the greeting that is awaited, the bytes of it that have come, and whether the stream was refused
pub record Shaking : Type 0 where
  pub greeting : List ℕ
  pub matched : List ℕ
  pub refused : Bool

-- how many bytes of a stream agree with a greeting, from the first on: the number that its state goes by
abbrev pub matching : List ℕ → List ℕ → ℕ
matching greeting stream = common_prefix_len nat_eq greeting stream

-- whether a state is the refusal
abbrev pub is_refusal : ShakeState → Bool
is_refusal Refused = true
is_refusal More = false
is_refusal Done = false

-- the state that a piece is answered with: that of the matched bytes with the piece after them, or refused for good
abbrev pub answer_of : Shaking → List ℕ → ShakeState
answer_of k piece = if k.refused then Refused else greeting_state k.greeting (k.matched ++ piece)

-- how many bytes of a piece agree with the greeting that is left
abbrev pub used_of : Shaking → List ℕ → ℕ
used_of k piece = if k.refused then 0 else matching (drop (length k.matched) k.greeting) piece

-- what a piece makes of it: the matched bytes grow by those that were used
abbrev pub fed : Shaking → List ℕ → Shaking
fed k piece =
    record { greeting = k.greeting; matched = k.matched ++ take (used_of k piece) piece; refused = is_refusal (answer_of k piece) }

-- what the stream so far leaves of a greeting that was awaited from its first byte on
abbrev pub shake_of : List ℕ → List ℕ → Shaking
shake_of greeting stream =
    record { greeting = greeting; matched = take (matching greeting stream) stream; refused = is_refusal (greeting_state greeting stream) }

-- one piece more of a stream: the answer is the state of all bytes so far, the matched bytes grow to theirs, and a piece
-- that ends the greeting has after what it used just what the stream has after the greeting
pub record IsOneStream (greeting stream piece : List ℕ) : Type 0 where
  pub after : fed (shake_of greeting stream) piece ≡ shake_of greeting (stream ++ piece)
  pub state : answer_of (shake_of greeting stream) piece ≡ greeting_state greeting (stream ++ piece)
  pub used : matching greeting stream + used_of (shake_of greeting stream) piece ≡ matching greeting (stream ++ piece)
  pub rest : greeting_state greeting stream ≡ More → greeting_state greeting (stream ++ piece) ≡ Done
      → drop (used_of (shake_of greeting stream) piece) piece ≡ drop (length greeting) (stream ++ piece)
  pub done : greeting_state greeting stream ≡ Done → greeting_state greeting (stream ++ piece) ≡ Done
  pub refused : greeting_state greeting stream ≡ Refused → greeting_state greeting (stream ++ piece) ≡ Refused

-- feeding pieces one by one is feeding all their bytes
abbrev pub PiecesAreOneStream : Type 0
PiecesAreOneStream = (greeting stream piece : List ℕ) → IsOneStream greeting stream piece
