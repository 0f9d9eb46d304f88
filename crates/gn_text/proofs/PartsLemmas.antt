-- The text of one part more.
use Rattle.std.proofs.Common.{◌≡◌, refl, ℕ, ◌+◌, ◌<◌, ◌≤◌, List, [], ◌∷◌, ◌++◌, length, take, get_or, ap, sym, ◌∙◌, append_assoc}
use Rattle.std.proofs.lemmas.List.{take_all, take_more}
use Rattle.gn_text.specs.Parts.{part_text, parts_text}
use Rattle.gn_text.specs.declared.part.Part.{Part}

-- a further part is appended to the text of those before it
pub parts_more : (parts : List Part) (part : Part) → parts_text (parts ++ part ∷ []) ≡ parts_text parts ++ part_text part
parts_more [] part = refl
parts_more (a ∷ []) part = refl
parts_more (a ∷ b ∷ more) part =
    ap (λ xs. part_text a ++ xs) (parts_more (b ∷ more) part) ∙ sym (append_assoc (part_text a) (parts_text (b ∷ more)) (part_text part))

-- one part more of a list is one text more
pub parts_step : (parts : List Part) (i : ℕ) (d : Part) → i < length parts → parts_text (take (i + 1) parts) ≡ parts_text (take i parts) ++ part_text (get_or parts i d)
parts_step parts i d h = ap parts_text (take_more parts i d h) ∙ parts_more (take i parts) (get_or parts i d)

-- what a loop has written, with the text of one part more
pub part_written : (old now next : List ℕ) (parts : List Part) (i : ℕ) (part d : Part) → i < length parts → part ≡ get_or parts i d
    → now ≡ old ++ parts_text (take i parts) → next ≡ now ++ part_text part → next ≡ old ++ parts_text (take (i + 1) parts)
part_written old now next parts i part d below is so_far more =
    more ∙ ap (λ text. text ++ part_text part) so_far ∙ append_assoc old (parts_text (take i parts)) (part_text part)
    ∙ ap (λ text. old ++ text) (ap (λ x. parts_text (take i parts) ++ part_text x) is ∙ sym (parts_step parts i d below))

-- what a loop has written once it has gone through all parts
pub parts_done : (old now : List ℕ) (parts : List Part) (i : ℕ) → length parts ≤ i → now ≡ old ++ parts_text (take i parts) → now ≡ old ++ parts_text parts
parts_done old now parts i past so_far = so_far ∙ ap (λ some. old ++ parts_text some) (take_all i parts past)
