-- The first lines of a text, put together.
use Rattle.std.proofs.Common.{◌≡◌, ℕ, List, ◌++◌, codes, decimal, length, take, slice_index, sym, ap, ◌∙◌, append_assoc, append-nil, Result, Ok, Err}
use Rattle.std.specs.Prelude.{OnOk}
use Rattle.hex.specs.Hex.{encode_lower}
use Rattle.gn_rules.specs.declared.config.Own.{Own}
use Rattle.gn_rules.specs.declared.limits.Numbers.{Numbers}
use Rattle.gn_numbers.specs.declared.version.Version.{Version}
use Rattle.gn_numbers.specs.declared.version.Version.TheVariants.{First, Second, Third}
use Rattle.gn_numbers.specs.declared.titles.Text.{Text}
use Rattle.gn_numbers.specs.Names.{title_of}
use Rattle.gn_numbers.specs.Versions.{later_text, version_for}
use Rattle.gn_text.specs.Header.{title_text}
use Rattle.gn_text.specs.declared.part.Part.{Part}
use Rattle.gn_text.specs.Parts.{config_parts, parts_text}
use Rattle.gn_text.specs.Addresses.{ip_text}
use Rattle.gn_text.specs.Settings.{field_text, own_text, six_text}
use Rattle.gn_text.proofs.KeptLemmas.{begins, two_parts}

-- the parts of the line `config`, by version
pub record AreParts (n : Numbers) (parts : List Part) : Type 0 where
  pub first : parts_text (take 12 parts) ≡ six_text n
  pub second : parts_text (take 14 parts) ≡ six_text n ++ later_text Second n
  pub third : parts_text (take 16 parts) ≡ six_text n ++ later_text Third n

-- the word, five numbers, and what stands behind the space after them
abbrev five_and : Numbers → List ℕ → List ℕ
five_and n last =
    codes "config " ++ (decimal n.neighbours ++ (codes " " ++ (decimal n.seen ++ (codes " " ++ (decimal n.servents ++ (codes " " ++ (decimal n.stage
    ++ (codes " " ++ (decimal n.out ++ (codes " " ++ last))))))))))

-- seven texts, and eight, one behind the other
seven : (a b c d e f g : List ℕ) → a ++ (b ++ (c ++ (d ++ (e ++ (f ++ g))))) ≡ (((((a ++ b) ++ c) ++ d) ++ e) ++ f) ++ g
seven a b c d e f g = simp append_assoc

eight : (a b c d e f g h : List ℕ) → a ++ (b ++ (c ++ (d ++ (e ++ (f ++ (g ++ h)))))) ≡ ((((((a ++ b) ++ c) ++ d) ++ e) ++ f) ++ g) ++ h
eight a b c d e f g h = simp append_assoc

-- what a later version has behind the six numbers
later_put : (n : Numbers) (later : List ℕ) → five_and n (decimal n.steps ++ later) ≡ six_text n ++ later
later_put n later =
    eight (codes "config") (field_text n.neighbours) (field_text n.seen) (field_text n.servents) (field_text n.stage) (field_text n.out) (field_text n.steps) later

pub first_put : (n : Numbers) → five_and n (decimal n.steps) ≡ six_text n
first_put n =
    seven (codes "config") (field_text n.neighbours) (field_text n.seen) (field_text n.servents) (field_text n.stage) (field_text n.out) (field_text n.steps)

pub second_put : (n : Numbers) (life : ℕ) → life ≡ n.life → five_and n (decimal n.steps ++ (codes " " ++ decimal life)) ≡ six_text n ++ later_text Second n
second_put n life is = later_put n (codes " " ++ decimal life) ∙ ap (λ (l : ℕ). six_text n ++ (codes " " ++ decimal l)) is

pub third_put : (n : Numbers) (life : ℕ) → life ≡ n.life
    → five_and n (decimal n.steps ++ (codes " " ++ (decimal life ++ (codes " " ++ decimal n.crowd)))) ≡ six_text n ++ later_text Third n
third_put n life is =
    later_put n (codes " " ++ (decimal life ++ (codes " " ++ decimal n.crowd)))
    ∙ ap (λ (xs : List ℕ). six_text n ++ (codes " " ++ xs)) (sym (append_assoc (decimal life) (codes " ") (decimal n.crowd)))
    ∙ ap (λ (l : ℕ). six_text n ++ (codes " " ++ ((decimal l ++ codes " ") ++ decimal n.crowd))) is

-- the parts of the line `own` behind a line feed are that line
pub own_put : (own : Own) (a b c d port : ℕ) → a ≡ slice_index own.ip 0 → b ≡ slice_index own.ip 1 → c ≡ slice_index own.ip 2 → d ≡ slice_index own.ip 3
    → port ≡ own.port
    → codes "\nown " ++ (encode_lower own.servent.0 ++ (codes " " ++ (decimal a ++ (codes "." ++ (decimal b ++ (codes "." ++ (decimal c ++ (codes "."
    ++ (decimal d ++ (codes " " ++ (decimal port ++ (codes " " ++ (decimal own.files ++ (codes " " ++ (decimal own.kbytes ++ codes "\n")))))))))))))))
    ≡ codes "\n" ++ own_text own
own_put own a b c d port first second third fourth last =
    let more = field_text own.port ++ (field_text own.files ++ (field_text own.kbytes ++ codes "\n")) in
    rw (first, second, third, fourth, last)
    (ap (λ (xs : List ℕ). codes "\nown " ++ (encode_lower own.servent.0 ++ (codes " " ++ xs)))
    (eight (decimal (slice_index own.ip 0)) (codes ".") (decimal (slice_index own.ip 1)) (codes ".") (decimal (slice_index own.ip 2)) (codes ".")
    (decimal (slice_index own.ip 3)) more)
    ∙ ap (λ (xs : List ℕ). codes "\n" ++ xs)
    (eight (codes "own ") (encode_lower own.servent.0) (codes " ") (ip_text own.ip) (field_text own.port) (field_text own.files) (field_text own.kbytes) (codes "\n")))

of_version : (n : Numbers) (parts : List Part) (version : Version) → AreParts n parts
    → parts_text (take (config_parts version) parts) ≡ six_text n ++ later_text version n
of_version n parts First are = are.first ∙ sym (append-nil (six_text n))
of_version n parts Second are = are.second
of_version n parts Third are = are.third

-- as many of them as a version has are its line
pub config_put : (n : Numbers) (parts : List Part) (version : Version) (count : ℕ) → AreParts n parts → version ≡ version_for n → count ≡ config_parts version
    → parts_text (take count parts) ≡ six_text n ++ later_text (version_for n) n
config_put n parts version count are least counted =
    ap (λ (k : ℕ). parts_text (take k parts)) (counted ∙ ap config_parts least) ∙ of_version n parts (version_for n) are

-- the title is the one of the least version
pub title_put : (text : Text) (version least : Version) (old new letters name : List ℕ) → new ≡ old ++ (letters ++ codes "\n") → letters ≡ name
    → name ≡ title_of text version → version ≡ least → new ≡ old ++ title_text text least
title_put text version least old new letters name first same is of =
    first ∙ ap (λ (xs : List ℕ). old ++ (xs ++ codes "\n")) (same ∙ is ∙ ap (title_of text) of)

-- the title, the line `config` and the line `own` are appended one after the other
pub header_put : {X E : Type 0} (r : Result X E) (old t1 t2 new title config own : List ℕ) → t1 ≡ old ++ title → t2 ≡ t1 ++ config
    → OnOk r (new ≡ t2 ++ (codes "\n" ++ own)) → OnOk r (new ≡ old ++ (title ++ ((config ++ codes "\n") ++ own)))
header_put (Ok x) old t1 t2 new title config own first second last =
    last ∙ ap (λ (xs : List ℕ). xs ++ (codes "\n" ++ own)) (two_parts old t1 t2 title config first second)
    ∙ append_assoc old (title ++ config) (codes "\n" ++ own)
    ∙ ap (λ (xs : List ℕ). old ++ xs) (append_assoc title config (codes "\n" ++ own) ∙ ap (λ (xs : List ℕ). title ++ xs) (sym (append_assoc config (codes "\n") own)))
header_put (Err e) old t1 t2 new title config own first second last = _

-- what was appended is this text
pub appended : {X E : Type 0} (r : Result X E) (old new a b : List ℕ) → OnOk r (new ≡ old ++ a) → a ≡ b → OnOk r (new ≡ old ++ b)
appended (Ok x) old new a b is same = is ∙ ap (λ (xs : List ℕ). old ++ xs) same
appended (Err e) old new a b is same = _

-- what failed and changed nothing begins with what the longer text was made of
pub still_begins : (old more now new : List ℕ) → now ≡ old ++ more → new ≡ now → take (length old) new ≡ old
still_begins old more now new is same = begins old more new (same ∙ is)
