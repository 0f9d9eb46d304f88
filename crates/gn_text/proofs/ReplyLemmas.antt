-- A reply of which a number is written behind its word.
use Rattle.std.proofs.Common.{◌≡◌, ℕ, List, [], ◌++◌, sym, ap, ◌∙◌, append_assoc, Option, Some, Result, Ok, Err}
use Rattle.std.specs.Prelude.{OnOk}
use Rattle.std.specs.Option.{option_map_or}
use Rattle.gn_rules.specs.declared.reply.Reply.{Reply}
use Rattle.gn_rules.specs.declared.reply.Reply.TheVariants.{Routed, Dropped, Taken, Sent}
use Rattle.gn_rules.specs.Plain.{number_of}
use Rattle.gn_text.specs.Settings.{field_text}
use Rattle.gn_text.specs.Steps.{reply_name, reply_rest, reply_text}

-- its number is what stands there
numbered_rest : {A : Type 0} (reply : Reply A) (n : ℕ) → number_of reply ≡ Some n → reply_rest reply ≡ field_text n
numbered_rest (Routed sends local) n e = absurd cc
numbered_rest (Dropped reason) n e = absurd cc
numbered_rest (Taken packet) n e = absurd cc
numbered_rest (Sent sends) n e = absurd cc
numbered_rest reply n e = ap (λ (o : Option ℕ). option_map_or field_text o []) e

-- the word and the number, one appended after the other, are the reply
pub number_put : {X E A : Type 0} (r : Result X E) (reply : Reply A) (n : ℕ) (old now new letters : List ℕ) → now ≡ old ++ letters
    → letters ≡ reply_name reply → number_of reply ≡ Some n → OnOk r (new ≡ now ++ field_text n) → OnOk r (new ≡ old ++ reply_text reply)
number_put (Ok x) reply n old now new letters first named numbered last =
    last ∙ ap (λ (xs : List ℕ). xs ++ field_text n) first ∙ append_assoc old letters (field_text n)
    ∙ ap (λ (xs : List ℕ). old ++ (xs ++ field_text n)) named ∙ ap (λ (xs : List ℕ). old ++ (reply_name reply ++ xs)) (sym (numbered_rest reply n numbered))
number_put (Err e) reply n old now new letters first named numbered last = _
