-- The test of soundness and the readings of payloads of any kind are the grammar's.
use Rattle.std.proofs.Common.{◌≡◌, ℕ, Bool, true, false, cond, IsTrue, ◌==◌, ◌&&◌, nat_lt, nat_le, List, [], ◌∷◌, length, drop, slice_index, Option, Some, None, is_some, option_map, refl, sym, ap, ◌∙◌, subst, arith}
use Rattle.std.proofs.lemmas.Bool.{eqb-true, false≢true}
use Rattle.std.proofs.lemmas.Bool.Decides.{nat_tests}
use Rattle.std.proofs.lemmas.Option.{same_Some, none-some}
use Rattle.gn_wire.specs.declared.kind.Kind.{Kind}
use Rattle.gn_wire.specs.declared.kind.Kind.TheVariants.{Ping, Pong, Push, Query, QueryHit, Unknown}
use Rattle.gn_payload.specs.declared.pong.Pong as pong
use Rattle.gn_payload.specs.declared.push.Push as push
use Rattle.gn_payload.specs.Fields.{QueryFields, HitFields, number_at, bytes_at, push_servent, hit_middle}
use Rattle.gn_payload.specs.Grammar.{IsPong, IsPush, IsQuery, IsHit}
use Rattle.gn_payload.specs.Reading.{text_reading, results_reading, pong_reading, push_reading, query_reading, hit_reading, reading, IsReading, Read, HasReading, has_reading}
use Rattle.gn_payload.specs.Reading.Read.{Empty, OfPong, OfPush, OfQuery, OfHit}
use Rattle.gn_payload.proofs.HitGrammar.{query_made, query_read, read_query, hit_made, hit_read, read_hit}
use Rattle.gn_payload.proofs.PongGrammar.{is_passed, passed_by, pong_at, pong_read, push_at, push_read, read_pong, read_push}

some_from_test : {X : Type 0} (o : Option X) → IsTrue (is_some o) → (x : X) × (o ≡ Some x)
some_from_test None h = absurd (false≢true h)
some_from_test (Some x) h = (x, refl)

test_from_some : {X : Type 0} → (o : Option X) (x : X) → o ≡ Some x → IsTrue (is_some o)
test_from_some {X = X} o x e = ap (λ (y : Option X). is_some y) e

-- a value that is mapped is there where the value is
mapped_there : {X Y : Type 0} (f : X → Y) (o : Option X) → is_some (option_map f o) ≡ is_some o
mapped_there f None = refl
mapped_there f (Some x) = refl

-- the same where none is there below a length
long_there : {X Y : Type 0} (n : ℕ) (t : Bool) (f : X → Y) (o : Option X) → nat_lt n 27 ≡ t
    → is_some (cond t None (option_map f o)) ≡ (nat_le 27 n && is_some o)
long_there n true f o short =
    let wanting : nat_le 27 n ≡ false = grind (arith, nat_tests) in ap (λ (b : Bool). b && is_some o) (sym wanting)
long_there n false f o enough =
    let long : nat_le 27 n ≡ true = grind (arith, nat_tests) in mapped_there f o ∙ ap (λ (b : Bool). b && is_some o) (sym long)

-- the test of a Query and of a Query Hit is that its reading is there
query_there : (bytes : List ℕ) → is_some (query_reading bytes) ≡ has_reading Query bytes
query_there bytes = mapped_there (query_made bytes) (text_reading (drop 2 bytes))

hit_there : (bytes : List ℕ) → is_some (hit_reading bytes) ≡ has_reading QueryHit bytes
hit_there bytes = long_there (length bytes) (nat_lt (length bytes) 27) (hit_made bytes) (results_reading (slice_index bytes 0) (hit_middle bytes)) refl

-- so it is of a reader that gives the reading
pub query_tested : {X : Type 0} (view : X → QueryFields) (bytes : List ℕ) (query : Option X) (found : Bool) → found ≡ is_some query
    → option_map view query ≡ query_reading bytes → found ≡ has_reading Query bytes
query_tested view bytes query found is read =
    is ∙ sym (mapped_there view query) ∙ ap (λ (o : Option QueryFields). is_some o) read ∙ query_there bytes

pub hit_tested : (bytes : List ℕ) (hit : Option HitFields) (found : Bool) → found ≡ is_some hit → hit ≡ hit_reading bytes → found ≡ has_reading QueryHit bytes
hit_tested bytes hit found is read = is ∙ ap (λ (o : Option HitFields). is_some o) read ∙ hit_there bytes

-- a length that a test found, and back
length_is : (bytes : List ℕ) (n : ℕ) → IsTrue (length bytes == n) → length bytes ≡ n
length_is bytes n h = grind (arith, nat_tests)

length_passes : (bytes : List ℕ) (n : ℕ) → length bytes ≡ n → IsTrue (length bytes == n)
length_passes bytes n e = grind (arith, nat_tests)

empty_is : (bytes : List ℕ) → length bytes ≡ 0 → bytes ≡ []
empty_is [] e = refl
empty_is (b ∷ bs) e = absurd (omega arith)

-- the test passes exactly where the grammar reads
pub sound_at : (kind : Kind) (bytes : List ℕ) → (IsTrue (has_reading kind bytes) → HasReading kind bytes) × (HasReading kind bytes → IsTrue (has_reading kind bytes))
sound_at Ping bytes = (λ h. empty_is bytes (length_is bytes 0 h), λ h. length_passes bytes 0 (ap (λ (xs : List ℕ). length xs) h))
sound_at Pong bytes = (λ h. (record { port = number_at 2 0 bytes; ip = bytes_at 4 2 bytes; files = number_at 4 6 bytes; kbytes = number_at 4 10 bytes }, record { size = length_is bytes 14 h; port = refl; ip = refl; files = refl; kbytes = refl }), λ h. length_passes bytes 14 h.1.size)
sound_at Push bytes = (λ h. (record { servent = push_servent bytes; file = number_at 4 16 bytes; ip = bytes_at 4 20 bytes; port = number_at 2 24 bytes }, record { size = length_is bytes 26 h; servent = refl; file = refl; ip = refl; port = refl }), λ h. length_passes bytes 26 h.1.size)
sound_at Query bytes = (λ h. let found = some_from_test (query_reading bytes) (query_there bytes ∙ h) in (found.0, read_query bytes found.0 found.1), λ h. sym (query_there bytes) ∙ test_from_some (query_reading bytes) h.0 (query_read bytes h.0 h.1))
sound_at QueryHit bytes = (λ h. let found = some_from_test (hit_reading bytes) (hit_there bytes ∙ h) in (found.0, read_hit bytes found.0 found.1), λ h. sym (hit_there bytes) ∙ test_from_some (hit_reading bytes) h.0 (hit_read bytes h.0 h.1))
sound_at (Unknown code) bytes = (λ h. absurd (false≢true h), λ h. absurd h)

-- what is mapped comes of a value
mapped_from : {X Y : Type 0} (f : X → Y) (o : Option X) (y : Y) → option_map f o ≡ Some y → (x : X) × (o ≡ Some x) × (f x ≡ y)
mapped_from f None y e = absurd (none-some y e)
mapped_from f (Some x) y e = (x, refl, same_Some (f x) y e)

-- so a reading of its fields is one of the payload
read_from : {X : Type 0} (f : X → Read) (P : X → Type 0) (R : Read → Type 0) (o : Option X) (read : Read) → ((x : X) → o ≡ Some x → P x)
    → ((x : X) → P x → R (f x)) → option_map f o ≡ Some read → R read
read_from f P R o read sound is e = let from = mapped_from f o read e in subst R from.2 (is from.0 (sound from.0 from.1))

-- the grammar's reading is read
is_read : (kind : Kind) (bytes : List ℕ) (read : Read) → IsReading kind bytes read → reading kind bytes ≡ Some read
is_read Ping bytes Empty is = ap (λ (xs : List ℕ). reading Ping xs) is
is_read Pong bytes (OfPong p) is = ap (λ (o : Option pong.Pong). option_map OfPong o) (pong_read bytes p is)
is_read Push bytes (OfPush p) is = ap (λ (o : Option push.Push). option_map OfPush o) (push_read bytes p is)
is_read Query bytes (OfQuery q) is = ap (λ (o : Option QueryFields). option_map OfQuery o) (query_read bytes q is)
is_read QueryHit bytes (OfHit h) is = ap (λ (o : Option HitFields). option_map OfHit o) (hit_read bytes h is)
is_read kind bytes read is = absurd is

-- what is read is the grammar's reading
read_is : (kind : Kind) (bytes : List ℕ) (read : Read) → reading kind bytes ≡ Some read → IsReading kind bytes read
read_is Ping bytes read e =
    let known = passed_by (length bytes == 0) Empty read e in
    subst (λ (r : Read). IsReading Ping bytes r) known.1 (empty_is bytes (eqb-true (length bytes) 0 known.0))
read_is Pong bytes read e = read_from OfPong (IsPong bytes) (IsReading Pong bytes) (pong_reading bytes) read (read_pong bytes) (λ p is. is) e
read_is Push bytes read e = read_from OfPush (IsPush bytes) (IsReading Push bytes) (push_reading bytes) read (read_push bytes) (λ p is. is) e
read_is Query bytes read e = read_from OfQuery (IsQuery bytes) (IsReading Query bytes) (query_reading bytes) read (read_query bytes) (λ q is. is) e
read_is QueryHit bytes read e = read_from OfHit (IsHit bytes) (IsReading QueryHit bytes) (hit_reading bytes) read (read_hit bytes) (λ h is. is) e
read_is (Unknown code) bytes read e = absurd (none-some read e)

pub read_both : (kind : Kind) (bytes : List ℕ) (read : Read) → (reading kind bytes ≡ Some read → IsReading kind bytes read) × (IsReading kind bytes read → reading kind bytes ≡ Some read)
read_both kind bytes read = (read_is kind bytes read, is_read kind bytes read)

-- a payload is read where the test says that it has a reading
pub readable : (kind : Kind) (bytes : List ℕ) → is_some (reading kind bytes) ≡ has_reading kind bytes
readable Ping bytes = is_passed (length bytes == 0) Empty
readable Pong bytes = mapped_there OfPong (pong_reading bytes) ∙ is_passed (length bytes == 14) (pong_at bytes)
readable Push bytes = mapped_there OfPush (push_reading bytes) ∙ is_passed (length bytes == 26) (push_at bytes)
readable Query bytes = mapped_there OfQuery (query_reading bytes) ∙ query_there bytes
readable QueryHit bytes = mapped_there OfHit (hit_reading bytes) ∙ hit_there bytes
readable (Unknown code) bytes = refl
