-- A loop that makes one thing of each that it takes.
use Rattle.std.proofs.Common.{◌≡◌, ◌++◌, ◌∷◌, List, [], map, ap, sym, ◌∙◌}
use Rattle.std.proofs.lemmas.List.{append_assoc, map-append}

-- nothing is made, and nothing is taken
pub none_taken : {H S X : Type 0} (f : H → X) (k : S → X) (hs : List H) (rest all : List S) → hs ≡ [] → rest ≡ all → map f hs ++ map k rest ≡ map k all
none_taken f k hs rest all none whole = ap (λ xs. map f xs ++ map k rest) none ∙ ap (λ xs. map k xs) whole

-- one more is made
pub one_made : {H X : Type 0} (f : H → X) (before after : List H) (h : H) → after ≡ before ++ h ∷ [] → map f after ≡ map f before ++ f h ∷ []
one_made f before after h is = ap (λ xs. map f xs) is ∙ map-append f before (h ∷ [])

-- one more is made, which says this
pub one_as : {H X : Type 0} (f : H → X) (before after : List H) (h : H) (x : X) → after ≡ before ++ h ∷ [] → f h ≡ x → map f after ≡ map f before ++ x ∷ []
one_as f before after h x is same = one_made f before after h is ∙ ap (λ y. map f before ++ y ∷ []) same

-- one more was taken from what is left, and its image stands after the others
pub one_moved : {S X : Type 0} (k : S → X) (xs more : List X) (rest left : List S) (x : S) (all : List X) → more ≡ xs ++ k x ∷ [] → rest ≡ x ∷ left → xs ++ map k rest ≡ all → more ++ map k left ≡ all
one_moved k xs more rest left x all one next before =
    ap (λ v. v ++ map k left) one ∙ append_assoc xs (k x ∷ []) (map k left) ∙ ap (λ r. xs ++ map k r) (sym next) ∙ before

-- the same where the others are images, too
pub one_started : {H S X : Type 0} (f : H → X) (k : S → X) (hs more : List H) (rest left : List S) (x : S) (all : List X) → map f more ≡ map f hs ++ k x ∷ [] → rest ≡ x ∷ left
    → map f hs ++ map k rest ≡ all → map f more ++ map k left ≡ all
one_started f k hs more rest left x all one next before = one_moved k (map f hs) (map f more) rest left x all one next before
