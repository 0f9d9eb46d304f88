-- Why a payload isn't written.
use Rattle.std.specs.Prelude.{◌≡◌, ℕ, Bool, ◌==◌, ◌||◌, nat_lt, if◌then◌else◌, List, length, Option, Some, None, Result, Ok, Err}
use Rattle.std.specs.List.{list_any}
use Rattle.gn_payload.specs.declared.refusal.WriteRefusal.{WriteRefusal}
use Rattle.gn_payload.specs.declared.refusal.WriteRefusal.TheVariants.{ZeroInText, TooManyHits, TooLong, NoMemory}
use Rattle.gn_payload.specs.Fields.{QueryFields, ResultFields, HitFields}
use Rattle.gn_payload.specs.Encoding.{query_bytes, hit_bytes}

-- a zero byte stands in the text
abbrev pub has_zero : List ℕ → Bool
has_zero text = list_any (λ b. b == 0) text

-- a zero byte stands in the result's name or extra text
abbrev pub zero_in_result : ResultFields → Bool
zero_in_result r = has_zero r.name || has_zero r.extra

-- no descriptor has a payload of more than 65,536 bytes
abbrev pub long_refusal : List ℕ → Option WriteRefusal
long_refusal bytes = if nat_lt 65536 (length bytes) then Some TooLong else None

-- what is against writing a Query
abbrev pub query_refusal : QueryFields → Option WriteRefusal
query_refusal q = if has_zero q.text then Some ZeroInText else long_refusal (query_bytes q)

-- what is against writing a Query Hit
abbrev pub hit_refusal : HitFields → Option WriteRefusal
hit_refusal h =
    if list_any zero_in_result h.results then Some ZeroInText else if nat_lt 255 (length h.results) then Some TooManyHits
    else long_refusal (hit_bytes h)

-- a writer's answer, where this is against writing: that refusal, or where nothing is against it, done or out of memory
abbrev pub Refuses : Result (Unit {0}) WriteRefusal → Option WriteRefusal → Type 0
Refuses (Ok x) against = against ≡ None
Refuses (Err NoMemory) against = against ≡ None
Refuses (Err ZeroInText) against = against ≡ Some ZeroInText
Refuses (Err TooManyHits) against = against ≡ Some TooManyHits
Refuses (Err TooLong) against = against ≡ Some TooLong
