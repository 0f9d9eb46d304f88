-- The tokens of a value, part by part.
use Rattle.std.proofs.Common.{◌≡◌, ◌++◌, ◌∙◌, ℕ, Bool, true, false, List, [], ◌∷◌, map, refl, sym, ap, append_assoc}
use Rattle.std.specs.Prelude.{if◌then◌else◌}
use Rattle.std.specs.List.{flat_map}
use Rattle.std.specs.Str.{is_utf8}
use Rattle.std.specs.declared.alloc.Global.{Global}
use Rattle.json.specs.Token.{end_array}
use Rattle.json.specs.Tree.{items_tokens, members_tokens}
use Rattle.serde_json.specs.Data.{Data, Members, member, string}
use Rattle.serde_json.specs.View.{items_of}
use Rattle.serde_json.specs.Written.{items_outline, members_outline}
use Rattle.gn_rules.specs.declared.sends.Sending.{Sending}
use Rattle.gn_show.specs.Tokens.{member_tokens, sending_tokens, text_tokens, tokens_of}
use Rattle.gn_show.specs.Values.{hex_data, sending_data, text_member}

-- items in order, and the bracket after them
pub items_written : {X : Type 0} (f : X → Data) (xs : List X)
    → items_tokens (items_outline (items_of (map f xs))) ≡ flat_map (λ x. tokens_of (f x)) xs ++ end_array ∷ []
items_written f [] = refl
items_written f (x ∷ xs) =
    ap (λ ts. tokens_of (f x) ++ ts) (items_written f xs) ∙ sym (append_assoc (tokens_of (f x)) (flat_map (λ x. tokens_of (f x)) xs) (end_array ∷ []))

-- sends, and the bracket after them
pub sends_written : (sends : List (Sending Global)) → items_tokens (items_outline (items_of (map sending_data sends))) ≡ flat_map sending_tokens sends ++ end_array ∷ []
unfolding sending_tokens
sends_written sends = items_written sending_data sends

-- one of two members, and those after it
either_then : (b : Bool) (x y : List ℕ) (d e : Data) (more : Members)
    → members_tokens (members_outline (if b then member x d more else member y e more)) ≡ (if b then member_tokens x d else member_tokens y e) ++ members_tokens (members_outline more)
either_then true x y d e more = refl
either_then false x y d e more = refl

-- a text, and the members after it
pub text_then : (name hex text : List ℕ) (more : Members)
    → members_tokens (members_outline (text_member name hex text more)) ≡ text_tokens name hex text ++ members_tokens (members_outline more)
text_then name hex text more = either_then (is_utf8 text) name hex (string text) (hex_data text) more
