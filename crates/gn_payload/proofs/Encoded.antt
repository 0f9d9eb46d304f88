-- What is encoded is read again.
use Rattle.std.proofs.Common.{◌≡◌, ℕ, ◌<◌, ◌^◌, false, List, [], ◌∷◌, ◌++◌, length, take, drop, refl, sym, ap, ◌∙◌, arith, append_assoc, length-append}
use Rattle.std.proofs.lemmas.List.{take_at, drop_at, append-nil}
use Rattle.std.proofs.lemmas.Bool.Decides.{nat_tests}
use Rattle.byteorder.specs.Endian.{little_bytes, little_number}
use Rattle.byteorder.specs.Numbers.{little_number-reads_back}
use Rattle.gn_payload.specs.declared.pong.Pong.{Pong}
use Rattle.gn_payload.specs.declared.push.Push.{Push}
use Rattle.gn_payload.specs.Fields.{QueryFields, number_at, bytes_at, push_servent}
use Rattle.gn_payload.specs.Grammar.{IsText, IsPong, IsPush, IsQuery}
use Rattle.gn_payload.specs.Refusals.{has_zero}
use Rattle.gn_payload.specs.Encoding.{pong_bytes, push_bytes, query_bytes}

-- a number after other bytes
pub number_there : (width place n : ℕ) (head rest : List ℕ) → length head ≡ place → n < 256 ^ width
    → n ≡ number_at width place (head ++ (little_bytes width n ++ rest))
number_there width place n head rest at fits =
    sym (ap (λ (xs : List ℕ). little_number width xs) (drop_at head (little_bytes width n ++ rest) place at) ∙ little_number-reads_back width n rest fits)

-- bytes after other bytes
pub bytes_there : (count place : ℕ) (head xs rest : List ℕ) → length head ≡ place → length xs ≡ count → xs ≡ bytes_at count place (head ++ (xs ++ rest))
bytes_there count place head xs rest at size =
    sym (ap (λ (ys : List ℕ). take count ys) (drop_at head (xs ++ rest) place at) ∙ take_at xs rest count size)

-- a text in which no zero byte was found
pub text_clear : (text : List ℕ) → has_zero text ≡ false → IsText text
text_clear [] h = tt
text_clear (b ∷ bs) h = ((grind (arith, nat_tests)), text_clear bs (grind (arith, nat_tests)))

-- four lists joined, from the left or from the right
regroup : (a b c d : List ℕ) → a ++ b ++ c ++ d ≡ a ++ (b ++ (c ++ d))
regroup a b c d = simp append_assoc

-- the last list of several, as one with nothing after it
at_end : (a b : List ℕ) → a ++ (b ++ []) ≡ a ++ b
at_end a b = simp append-nil

-- a Pong's bytes have the Pong as their reading
pub pong_encoded : (p : Pong) → length p.ip ≡ 4 → p.port < 2 ^ 16 → p.files < 2 ^ 32 → p.kbytes < 2 ^ 32 → IsPong (pong_bytes p.port p.ip p.files p.kbytes) p
pong_encoded p four port_fits files_fits kbytes_fits =
    let two = little_bytes 2 p.port in
    let files = little_bytes 4 p.files in
    let kbytes = little_bytes 4 p.kbytes in
    let whole : two ++ (p.ip ++ (files ++ kbytes)) ≡ two ++ p.ip ++ files ++ kbytes = sym (regroup two p.ip files kbytes) in
    let third : two ++ p.ip ++ (files ++ kbytes) ≡ two ++ p.ip ++ files ++ kbytes = sym (append_assoc (two ++ p.ip) files kbytes) in
    record {
      size = omega (arith, length-append p.ip (files ++ kbytes), ap length whole);
      port = number_there 2 0 p.port [] (p.ip ++ (files ++ kbytes)) refl port_fits ∙ ap (λ (xs : List ℕ). number_at 2 0 xs) whole;
      ip = bytes_there 4 2 two p.ip (files ++ kbytes) refl four ∙ ap (λ (xs : List ℕ). bytes_at 4 2 xs) whole;
      files = number_there 4 6 p.files (two ++ p.ip) kbytes (omega arith) files_fits ∙ ap (λ (xs : List ℕ). number_at 4 6 xs) third;
      kbytes = number_there 4 10 p.kbytes (two ++ p.ip ++ files) [] (omega (arith, length-append p.ip files)) kbytes_fits ∙ ap (λ (xs : List ℕ). number_at 4 10 xs) (at_end (two ++ p.ip ++ files) kbytes);
    }

-- a Push's bytes have the Push as their reading
pub push_encoded : (p : Push) → length p.servent.0 ≡ 16 → length p.ip ≡ 4 → p.file < 2 ^ 32 → p.port < 2 ^ 16 → IsPush (push_bytes p) p
push_encoded p sixteen four file_fits port_fits =
    let id = p.servent.0 in
    let file = little_bytes 4 p.file in
    let port = little_bytes 2 p.port in
    let whole : id ++ (file ++ (p.ip ++ port)) ≡ id ++ file ++ p.ip ++ port = sym (regroup id file p.ip port) in
    let third : id ++ file ++ (p.ip ++ port) ≡ id ++ file ++ p.ip ++ port = sym (append_assoc (id ++ file) p.ip port) in
    record {
      size = omega (arith, length-append id (file ++ (p.ip ++ port)), length-append p.ip port, ap length whole);
      servent = ap (λ (xs : List ℕ). record { 0 = xs }) (sym (take_at id (file ++ (p.ip ++ port)) 16 sixteen)) ∙ ap push_servent whole;
      file = number_there 4 16 p.file id (p.ip ++ port) sixteen file_fits ∙ ap (λ (xs : List ℕ). number_at 4 16 xs) whole;
      ip = bytes_there 4 20 (id ++ file) p.ip port (omega (arith, length-append id file)) four ∙ ap (λ (xs : List ℕ). bytes_at 4 20 xs) third;
      port = number_there 2 24 p.port (id ++ file ++ p.ip) [] (omega (arith, length-append (id ++ file) p.ip, length-append id file)) port_fits ∙ ap (λ (xs : List ℕ). number_at 2 24 xs) (at_end (id ++ file ++ p.ip) port);
    }

-- a Query's bytes have the Query as their reading
pub query_encoded : (q : QueryFields) → q.speed < 2 ^ 16 → has_zero q.text ≡ false → IsQuery (query_bytes q) q
query_encoded q speed_fits clear =
    let two = little_bytes 2 q.speed in
    let whole : two ++ (q.text ++ 0 ∷ q.tail) ≡ query_bytes q = simp append_assoc in
    record {
      speed = number_there 2 0 q.speed [] (q.text ++ 0 ∷ q.tail) refl speed_fits ∙ ap (λ (xs : List ℕ). number_at 2 0 xs) whole;
      text = record { encoded = ap (λ (xs : List ℕ). drop 2 xs) (sym whole); nonzero = text_clear q.text clear };
    }
