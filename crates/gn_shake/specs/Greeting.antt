-- The two texts of the greeting, which of them a link awaits by its role, and how far the awaited one has come.
use Rattle.std.specs.Prelude.{ℕ, List, [], ◌∷◌, Bool, true, false, ◌||◌, not, ◌≡◌, ◌≢◌, ◌<◌, ◌↔◌, ◌==◌, if◌then◌else◌, ◌++◌, length, slice_index, nat_eq}
use Rattle.std.specs.List.{common_prefix_len}
use Rattle.gn_shake.specs.declared.role.Role.{Role}
use Rattle.gn_shake.specs.declared.role.Role.TheVariants.{Accepting, Calling, Plain}
use Rattle.gn_shake.specs.declared.shake.ShakeState.{ShakeState}
use Rattle.gn_shake.specs.declared.shake.ShakeState.TheVariants.{More, Done, Refused}

-- the connection request: GNUTELLA CONNECT/0.4 and two line feeds
abbrev pub request_text : List ℕ
request_text =
    0x47 ∷ 0x4e ∷ 0x55 ∷ 0x54 ∷ 0x45 ∷ 0x4c ∷ 0x4c ∷ 0x41 ∷ 0x20 ∷ 0x43 ∷ 0x4f ∷ 0x4e ∷ 0x4e ∷ 0x45 ∷ 0x43 ∷ 0x54 ∷ 0x2f ∷ 0x30 ∷ 0x2e ∷ 0x34
    ∷ 0x0a ∷ 0x0a ∷ []

-- the consent: GNUTELLA OK and two line feeds
abbrev pub consent_text : List ℕ
consent_text =
    0x47 ∷ 0x4e ∷ 0x55 ∷ 0x54 ∷ 0x45 ∷ 0x4c ∷ 0x4c ∷ 0x41 ∷ 0x20 ∷ 0x4f ∷ 0x4b
    ∷ 0x0a ∷ 0x0a ∷ []

-- whether a link calls
abbrev pub is_calling : Role → Bool
is_calling Calling = true
is_calling Accepting = false
is_calling Plain = false

-- whether a link's reader is waited for, by the links' roles: its link doesn't call, or all links call
abbrev pub is_awaited : Bool → Role → Bool
is_awaited all_call role = all_call || not (is_calling role)

-- the greeting that a link awaits: the connection request where it accepts, the consent where it calls, none where it is plain
abbrev pub greeting_of : Role → List ℕ
greeting_of Accepting = request_text
greeting_of Calling = consent_text
greeting_of Plain = []

-- how far a greeting has come in a stream of bytes: Done where the stream begins with it, More where the stream is a shorter
-- beginning of it, else Refused
abbrev pub greeting_state : List ℕ → List ℕ → ShakeState
greeting_state greeting stream =
    let n = common_prefix_len nat_eq greeting stream in
    if n == length greeting then Done else if n == length stream then More else Refused

-- accepted: the stream begins with the greeting
abbrev pub IsAccepted : List ℕ → List ℕ → Type 0
IsAccepted greeting stream = (rest : List ℕ) × (stream ≡ greeting ++ rest)

-- refused: the two differ at a place that both have
abbrev pub IsRefused : List ℕ → List ℕ → Type 0
IsRefused greeting stream =
    (i : ℕ) × (i < length greeting) × (i < length stream) × (slice_index greeting i ≢ slice_index stream i)

-- what each state says of a stream: open is what is neither accepted nor refused
abbrev pub IsState : List ℕ → List ℕ → ShakeState → Type 0
IsState greeting stream Done = IsAccepted greeting stream
IsState greeting stream Refused = IsRefused greeting stream
IsState greeting stream More = (¬ IsAccepted greeting stream) × (¬ IsRefused greeting stream)

-- a stream has just one state, and the function gives it
abbrev pub GreetingIsKnown : Type 0
GreetingIsKnown =
    (greeting stream : List ℕ) (state : ShakeState) → IsState greeting stream state ↔ (state ≡ greeting_state greeting stream)
