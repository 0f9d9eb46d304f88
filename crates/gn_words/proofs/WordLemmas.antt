-- What clap's words mean for an option.
use Rattle.std.proofs.Common.{◌≡◌, ◌∙◌, sym, ap, Bool, false, List, [], Option, Some, None}
use Rattle.std.specs.Prelude.{codes, map, option_and_then, option_map, unwrap_or}
use Rattle.std.specs.Borrow.{Bor}
use Rattle.std.specs.Option.{option_map_or}
use Rattle.std.specs.Str.{bytes_eq}
use Rattle.clap.specs.Matches.{first_value, matched_of, raw_values}
use Rattle.clap.specs.Walk.{first_of, rows_of}
use Rattle.clap.specs.Words.{Text}
use Rattle.clap.specs.declared.parser.matches.Found.{Found}
use Rattle.clap.proofs.WalkLemmas.{first_value-rows, raw_values-rows}
use Rattle.gn_words.specs.Options.{is_set, peers_in, peers_of}

-- whether the first value of an option, as it is got, is a word, is whether that of its row is
pub word_read : (o : Option (Bor Text)) (f : Found) (id word : Text) → option_map (λ s. s.now) o ≡ first_value f id
    → option_map_or (λ s. bytes_eq s.now word) o false ≡ option_map_or (λ t. bytes_eq t word) (first_of id (rows_of f)) false
word_read None f id word e = ap (λ (v : Option Text). option_map_or (λ t. bytes_eq t word) v false) (e ∙ first_value-rows f id)
word_read (Some s) f id word e = ap (λ (v : Option Text). option_map_or (λ t. bytes_eq t word) v false) (e ∙ first_value-rows f id)

-- a flag's value, as it is got, says whether the flag is set
pub flag_read : (o : Option (Bor Text)) (f : Found) (id : Text) → option_map (λ s. s.now) o ≡ first_value f id
    → option_map_or (λ s. bytes_eq s.now (codes "true")) o false ≡ is_set id (rows_of f)
flag_read o f id e = word_read o f id (codes "true") e

-- the first value of an option, as it is got, is the one of its row
pub value_read : {X : Type 0} (o : Option (Bor Text)) (f : Found) (id : Text) (read : Text → Option X) → option_map (λ s. s.now) o ≡ first_value f id
    → (let v : Option Text = first_of id (rows_of f) in option_and_then (λ s. read s.now) o ≡ option_and_then read v)
value_read None f id read e = ap (λ (v : Option Text). option_and_then read v) (e ∙ first_value-rows f id)
value_read (Some s) f id read e = ap (λ (v : Option Text). option_and_then read v) (e ∙ first_value-rows f id)

-- the peers, as they are got, are those of the option's row
pub peers_read : (far : Bool) (o : Option (Bor (List (Bor Text)))) (f : Found) → option_map (λ s. map (λ v. v.now) s.now) o ≡ option_map raw_values (matched_of f (codes "peer"))
    → peers_of far (rows_of f) ≡ peers_in far (unwrap_or (option_map (λ s. map (λ v. v.now) s.now) o) [])
peers_read far o f e = sym (ap (λ (v : Option (List Text)). peers_in far (unwrap_or v [])) (e ∙ raw_values-rows f (codes "peer")))
