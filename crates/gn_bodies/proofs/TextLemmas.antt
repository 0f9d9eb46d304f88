-- The text of the packets that receipts say were taken.
use Rattle.std.proofs.Common.{◌≡◌, ◌<◌, ◌+◌, ℕ, suc, List, [], ◌∷◌, ◌++◌, length, get_or, drop, map, Some, None, Ok, Err, ap, ◌∙◌, sym, append_assoc, append-nil, arith, drop-cons}
use Rattle.std.specs.Prelude.{OnOk, Result}
use Rattle.std.specs.List.{cons_option}
use Rattle.std.proofs.lemmas.List.{map-append}
use Rattle.std.proofs.lemmas.List.Elements.{filter_map-append}
use Rattle.std.proofs.lemmas.List.Folds.{concat-append}
use Rattle.std.specs.List.{concat}
use Rattle.gn_wire.specs.Packet.{Packet}
use Rattle.gn_wire.specs.Encoding.{bytes_of}
use Rattle.gn_rules.specs.declared.receipt.Receipt.{Receipt}
use Rattle.gn_rules.specs.History.{taken_of}
use Rattle.gn_laws.specs.Owners.{packets_of}
use Rattle.gn_bodies.specs.Writing.{text_of}

text_of-append : (ps qs : List Packet) → text_of (ps ++ qs) ≡ text_of ps ++ text_of qs
text_of-append ps qs = ap concat (map-append bytes_of ps qs) ∙ concat-append (map bytes_of ps) (map bytes_of qs)

text_taken-append : {A : Type 0} (rs ss : List (Receipt A)) → text_of (packets_of (rs ++ ss)) ≡ text_of (packets_of rs) ++ text_of (packets_of ss)
text_taken-append rs ss = ap text_of (filter_map-append (λ r. taken_of r.reply) rs ss) ∙ text_of-append (packets_of rs) (packets_of ss)

rest_at : {X : Type 0} (xs : List X) (i : ℕ) (x : X) → i < length xs → x ≡ get_or xs i x → drop i xs ≡ x ∷ drop (i + 1) xs
rest_at xs i x within is =
    let next : suc i ≡ i + 1 = omega arith in
    drop-cons xs i x within ∙ ap (λ y. y ∷ drop (suc i) xs) (sym is) ∙ ap (λ j. x ∷ drop j xs) next

-- the text goes on by one receipt
pub text_on : {A : Type 0} (rs : List (Receipt A)) (i : ℕ) (r : Receipt A) (text more : List ℕ) → i < length rs → r ≡ get_or rs i r
    → text_of (packets_of rs) ≡ text ++ text_of (packets_of (drop i rs)) → more ≡ text ++ text_of (packets_of (r ∷ []))
    → text_of (packets_of rs) ≡ more ++ text_of (packets_of (drop (i + 1) rs))
text_on {A} rs i r text more within is so_far did =
    let rest : List (Receipt A) = drop (i + 1) rs in
    so_far
    ∙ ap (λ w. text ++ text_of (packets_of w)) (rest_at rs i r within is)
    ∙ ap (λ w. text ++ w) (text_taken-append (r ∷ []) rest)
    ∙ sym (append_assoc text (text_of (packets_of (r ∷ []))) (text_of (packets_of rest)))
    ∙ ap (λ w. w ++ text_of (packets_of rest)) (sym did)

-- a packet's encoding is the text of a receipt that says that it was taken
pub text_more : {A : Type 0} {V E : Type 0} (r : Receipt A) (packet : Packet) (text more : List ℕ) (end : Result V E) → taken_of r.reply ≡ Some packet → OnOk end (more ≡ text ++ bytes_of packet)
    → OnOk end (more ≡ text ++ text_of (packets_of (r ∷ [])))
text_more r packet text more (Ok x) is did = did ∙ ap (λ w. text ++ w) (sym (append-nil (bytes_of packet))) ∙ ap (λ found. text ++ text_of (cons_option found [])) (sym is)
text_more r packet text more (Err e) is did = tt

-- nothing is that of one that says nothing of the kind
pub text_same : {A : Type 0} (r : Receipt A) (text : List ℕ) → taken_of r.reply ≡ None → text ≡ text ++ text_of (packets_of (r ∷ []))
text_same r text is = sym (append-nil text) ∙ ap (λ found. text ++ text_of (cons_option found [])) (sym is)
