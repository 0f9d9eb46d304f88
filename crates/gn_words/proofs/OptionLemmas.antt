-- A number that is asked for is within its limits.
use Rattle.std.proofs.Common.{◌≡◌, ◌≤◌, ◌+◌, ◌&&◌, ℕ, Bool, true, false, List, Option, Some, None, Err, ◌∙◌, ap, arith, refl, subst}
use Rattle.std.proofs.lemmas.Bool.Decides.{nat_tests}
use Rattle.std.specs.Prelude.{codes, nat_le, option_map, unwrap_or, if◌then◌else◌}
use Rattle.std.specs.Option.{option_map_or}
use Rattle.std.specs.Str.{bytes_eq}
use Rattle.clap.specs.Words.{Row, Text, first_of}
use Rattle.gn_numbers.specs.Numbers.{number_of, ◌>>=◌}
use Rattle.gn_words.specs.Options.{IsReadAs, accept_of, number_asked, number_between, retry_for, retry_of}
use Rattle.gn_words.specs.declared.retrying.Retry.{Retry}
use Rattle.gn_words.specs.declared.retrying.Retry.TheVariants.{Always}
use Rattle.gn_words.specs.declared.unread.Unread.{Unread}
use Rattle.gn_words.specs.declared.unread.Unread.TheVariants.{Mistake, NoMemory}

kept : (least most m n : ℕ) → (if nat_le least m && nat_le m most then Some m else None) ≡ Some n → (least ≤ n) × (n ≤ most)
kept least most m n is = grind (arith, nat_tests)

read_within : (least most n : ℕ) (found : Option ℕ) → (found >>= (λ m. if nat_le least m && nat_le m most then Some m else None)) ≡ Some n → (least ≤ n) × (n ≤ most)
read_within least most n None is = absurd (cc)
read_within least most n (Some m) is = kept least most m n is

text_within : (least most n : ℕ) (text : Option Text) → (text >>= number_between least most) ≡ Some n → (least ≤ n) × (n ≤ most)
text_within least most n None is = absurd (cc)
text_within least most n (Some text) is = read_within least most n (number_of text) is

pub asked_within : (option : Text) (least most n : ℕ) (rows : List Row) → number_asked option least most rows ≡ Some n → (least ≤ n) × (n ≤ most)
asked_within option least most n rows is = text_within least most n (first_of option rows) is

no_more : (any : Bool) (asked accept : Option ℕ) → ((n : ℕ) → asked ≡ Some n → n ≤ 128) → (if any then Some None else option_map Some asked) ≡ Some accept → unwrap_or accept 0 ≤ 128
no_more true asked accept few is = let none : None ≡ accept = cc in subst (λ a. unwrap_or a 0 ≤ 128) none (omega arith)
no_more false None accept few is = absurd (cc)
no_more false (Some n) accept few is = let some : Some n ≡ accept = cc in subst (λ a. unwrap_or a 0 ≤ 128) some (few n refl)

-- whether any number of callers is asked for
abbrev pub is_any : List Row → Bool
is_any rows = option_map_or (λ text. bytes_eq text (codes "any")) (first_of (codes "accept") rows) false

pub any_asked : (rows : List Row) → is_any rows ≡ true → accept_of rows ≡ Some None
any_asked rows is = ap (λ (b : Bool). if b then Some None else option_map Some (number_asked (codes "accept") 0 128 rows)) is

-- otherwise as many as the number says
pub many_asked : (rows : List Row) (asked : Option ℕ) → is_any rows ≡ false → number_asked (codes "accept") 0 128 rows ≡ asked → accept_of rows ≡ option_map Some asked
many_asked rows asked not_any is =
    ap (λ (b : Bool). if b then Some None else option_map Some (number_asked (codes "accept") 0 128 rows)) not_any ∙ ap (option_map Some) is

-- where that can't be read, the callers aren't known
pub unread_too : (rows : List Row) (unread : Unread) → is_any rows ≡ false → IsReadAs {T = ℕ} (λ n. n) (number_asked (codes "accept") 0 128 rows) (Err unread)
    → IsReadAs {T = Option ℕ} (λ accept. accept) (accept_of rows) (Err unread)
unread_too rows (Mistake text) not_any none = many_asked rows None not_any none
unread_too rows NoMemory not_any none = tt

-- whether a peer is called for as long as the router runs
abbrev pub is_always : List Row → Bool
is_always rows = option_map_or (λ text. bytes_eq text (codes "always")) (first_of (codes "retry") rows) false

pub always_asked : (rows : List Row) → is_always rows ≡ true → retry_of rows ≡ Some Always
always_asked rows is =
    ap (λ (b : Bool). if b then Some Always else option_map retry_for (number_asked (codes "retry") 0 86400 rows)) is

-- otherwise for as long as the number says
pub seconds_asked : (rows : List Row) (asked : Option ℕ) → is_always rows ≡ false → number_asked (codes "retry") 0 86400 rows ≡ asked → retry_of rows ≡ option_map retry_for asked
seconds_asked rows asked not_always is =
    ap (λ (b : Bool). if b then Some Always else option_map retry_for (number_asked (codes "retry") 0 86400 rows)) not_always ∙ ap (option_map retry_for) is

-- where that can't be read, it isn't known
pub unread_retry : (rows : List Row) (unread : Unread) → is_always rows ≡ false → IsReadAs {T = ℕ} (λ n. n) (number_asked (codes "retry") 0 86400 rows) (Err unread)
    → IsReadAs {T = Retry} (λ retry. retry) (retry_of rows) (Err unread)
unread_retry rows (Mistake text) not_always none = seconds_asked rows None not_always none
unread_retry rows NoMemory not_always none = tt

-- where the callers are limited that are asked for, they are few
pub accept_within : (accept : Option ℕ) (rows : List Row) → accept_of rows ≡ Some accept → unwrap_or accept 0 ≤ 128
accept_within accept rows is = no_more _ _ accept (λ n asked. (asked_within (codes "accept") 0 128 n rows asked).1) is

pub few_links : (accept peers : ℕ) → accept ≤ 128 → peers ≤ 64 → accept + peers ≤ 256
few_links accept peers may called = omega arith
