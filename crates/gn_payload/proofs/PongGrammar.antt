-- The readings of Pongs and Pushes are the grammar's.
use Rattle.std.proofs.Common.{◌≡◌, ℕ, Bool, true, false, cond, ◌==◌, List, length, Option, Some, None, is_some, refl, sym, ap, ◌∙◌, subst}
use Rattle.std.proofs.lemmas.Bool.{eq-eqb, eqb-true, false≢true}
use Rattle.std.proofs.lemmas.Option.{same_Some, none-some}
use Rattle.gn_wire.specs.declared.kind.Guid.{Guid}
use Rattle.gn_payload.specs.declared.pong.Pong.{Pong}
use Rattle.gn_payload.specs.declared.push.Push.{Push}
use Rattle.gn_payload.specs.Fields.{number_at, bytes_at, push_servent}
use Rattle.gn_payload.specs.Grammar.{IsPong, IsPush}
use Rattle.gn_payload.specs.Reading.{pong_reading, push_reading}

-- what a test lets through
passed : {X : Type 0} (t : Bool) (x : X) → t ≡ true → cond t (Some x) None ≡ Some x
passed true x h = refl
passed false x h = absurd (false≢true h)

pub passed_by : {X : Type 0} (t : Bool) (x y : X) → cond t (Some x) None ≡ Some y → (t ≡ true) × (x ≡ y)
passed_by true x y e = (refl, same_Some x y e)
passed_by false x y e = absurd (none-some y e)

pub is_passed : {X : Type 0} (t : Bool) (x : X) → is_some (cond t (Some x) None) ≡ t
is_passed true x = refl
is_passed false x = refl

-- a Pong, and a Push, of bytes that are as many as it has
abbrev pub pong_at : List ℕ → Pong
pong_at bytes = record { port = number_at 2 0 bytes; ip = bytes_at 4 2 bytes; files = number_at 4 6 bytes; kbytes = number_at 4 10 bytes }

abbrev pub push_at : List ℕ → Push
push_at bytes = record { servent = push_servent bytes; file = number_at 4 16 bytes; ip = bytes_at 4 20 bytes; port = number_at 2 24 bytes }

pong_is : (a b c d e f : ℕ) (x y : List ℕ) → a ≡ b → x ≡ y → c ≡ d → e ≡ f
    → ◌≡◌ {A = Pong} (record { port = a; ip = x; files = c; kbytes = e }) (record { port = b; ip = y; files = d; kbytes = f })
pong_is a b c d e f x y e1 e2 e3 e4 = rw (e1, e2, e3, e4) refl

push_is : (s t : Guid) (a b c d : ℕ) (x y : List ℕ) → s ≡ t → a ≡ b → x ≡ y → c ≡ d
    → ◌≡◌ {A = Push} (record { servent = s; file = a; ip = x; port = c }) (record { servent = t; file = b; ip = y; port = d })
push_is s t a b c d x y e1 e2 e3 e4 = rw (e1, e2, e3, e4) refl

pub pong_read : (bytes : List ℕ) (p : Pong) → IsPong bytes p → pong_reading bytes ≡ Some p
pong_read bytes p is =
    passed (length bytes == 14) (pong_at bytes) (eq-eqb (length bytes) 14 is.size)
    ∙ ap (λ (q : Pong). Some q) (pong_is _ _ _ _ _ _ _ _ (sym is.port) (sym is.ip) (sym is.files) (sym is.kbytes))

pub read_pong : (bytes : List ℕ) (p : Pong) → pong_reading bytes ≡ Some p → IsPong bytes p
read_pong bytes p e =
    let known = passed_by (length bytes == 14) (pong_at bytes) p e in
    subst (λ (q : Pong). IsPong bytes q) known.1 (record { size = eqb-true (length bytes) 14 known.0; port = refl; ip = refl; files = refl; kbytes = refl })

pub push_read : (bytes : List ℕ) (p : Push) → IsPush bytes p → push_reading bytes ≡ Some p
push_read bytes p is =
    passed (length bytes == 26) (push_at bytes) (eq-eqb (length bytes) 26 is.size)
    ∙ ap (λ (q : Push). Some q) (push_is _ _ _ _ _ _ _ _ (sym is.servent) (sym is.file) (sym is.ip) (sym is.port))

pub read_push : (bytes : List ℕ) (p : Push) → push_reading bytes ≡ Some p → IsPush bytes p
read_push bytes p e =
    let known = passed_by (length bytes == 26) (push_at bytes) p e in
    subst (λ (q : Push). IsPush bytes q) known.1 (record { size = eqb-true (length bytes) 26 known.0; servent = refl; file = refl; ip = refl; port = refl })

-- where the grammar reads nothing, nothing is read
none_read : {X : Type 0} (P : X → Type 0) (o : Option X) → ((x : X) → o ≡ Some x → P x) → ((x : X) → P x → ⊥) → o ≡ None
none_read P None sound none = refl
none_read P (Some x) sound none = absurd (none x (sound x refl))

pub no_pong : (bytes : List ℕ) → ((p : Pong) → IsPong bytes p → ⊥) → pong_reading bytes ≡ None
no_pong bytes none = none_read (λ (p : Pong). IsPong bytes p) (pong_reading bytes) (read_pong bytes) none

pub no_push : (bytes : List ℕ) → ((p : Push) → IsPush bytes p → ⊥) → push_reading bytes ≡ None
no_push bytes none = none_read (λ (p : Push). IsPush bytes p) (push_reading bytes) (read_push bytes) none
