-- The lines of a configuration are read again.
use Rattle.std.proofs.Common.{◌≡◌, ℕ, ◌<◌, ◌^◌, List, [], ◌∷◌, ◌++◌, length, get_or, refl, sym, ap, ◌∙◌, arith, Some, Bool, true, false, if◌then◌else◌, append-nil, append_assoc, codes, decimal}
use Rattle.std.specs.Prelude.{◌==◌, not, option_map}
use Rattle.std.specs.List.{list_all, AllByRecursion}
use Rattle.std.specs.Result.{result_ok}
use Rattle.std.proofs.lemmas.Map.Views.{exact_unsigned_eq}
use Rattle.hex.specs.Hex.{encode_lower}
use Rattle.hex.proofs.HexLemmas.{decode_sized-encode_lower}
use Rattle.gn_wire.specs.declared.kind.Guid.{Guid}
use Rattle.gn_text.specs.Addresses.{ip_text}
use Rattle.gn_text.specs.Bytes.{guid_from, guid_of}
use Rattle.gn_text.specs.Lines.{fields_of}
use Rattle.gn_rules.specs.declared.config.Config.{Config}
use Rattle.gn_rules.specs.declared.config.Own.{Own}
use Rattle.gn_rules.specs.declared.limits.Numbers.{Numbers}
use Rattle.gn_numbers.specs.declared.version.Later.{Later}
use Rattle.gn_numbers.specs.declared.version.Version.{Version}
use Rattle.gn_numbers.specs.declared.version.Version.TheVariants.{First, Second, Third}
use Rattle.gn_text.specs.Settings.{config_of, numbers_parsed, numbers_within, own_of, config_line, field_text, own_line}
use Rattle.gn_numbers.specs.Versions.{later_parsed, later_text, version_for}
use Rattle.gn_text.proofs.SettingsLemmas.{config_within}
use Rattle.gn_capture.specs.RoundTrip.{IsOwn}
use Rattle.gn_capture.proofs.DescriptorsAgain.{hex_plain}
use Rattle.gn_capture.proofs.NumbersAgain.{ip_again, number_again, number_below_again, number_plain}
use Rattle.gn_capture.proofs.Spaced.{IsLine, IsPlain, fields_again, spaced_line, tail_text}

joined : (t a b c d e f : List ℕ) → ((((((t ++ a) ++ b) ++ c) ++ d) ++ e) ++ f) ≡ t ++ (a ++ (b ++ (c ++ (d ++ (e ++ (f ++ []))))))
joined t a b c d e f = simp (append_assoc, append-nil)

joined_more : (t a b c d e f g : List ℕ) → (((((((t ++ a) ++ b) ++ c) ++ d) ++ e) ++ f) ++ g) ≡ t ++ (a ++ (b ++ (c ++ (d ++ (e ++ (f ++ g))))))
joined_more t a b c d e f g = simp append_assoc

joined_last : (a b c d : List ℕ) → (((a ++ b) ++ c) ++ d) ≡ (a ++ b) ++ ((c ++ d) ++ [])
joined_last a b c d = simp (append_assoc, append-nil)

-- the fields of the numbers that a version has after the sixth
abbrev later_fields : Version → Numbers → List (List ℕ)
later_fields First n = []
later_fields Second n = decimal n.life ∷ []
later_fields Third n = decimal n.life ∷ decimal n.crowd ∷ []

later_spaced : (version : Version) (n : Numbers) → later_text version n ≡ tail_text (later_fields version n)
later_spaced First n = refl
later_spaced Second n = sym (append-nil (field_text n.life))
later_spaced Third n = joined_last (codes " ") (decimal n.life) (codes " ") (decimal n.crowd)

-- the fields after the word of a config line
abbrev config_fields : Version → Numbers → List (List ℕ)
config_fields version n =
    decimal n.neighbours ∷ decimal n.seen ∷ decimal n.servents ∷ decimal n.stage ∷ decimal n.out ∷ decimal n.steps ∷ later_fields version n

config_spaced : (s : Config) → config_line s ≡ codes "config" ++ tail_text (config_fields (version_for s.numbers) s.numbers)
config_spaced s =
    let n = s.numbers in
    joined_more (codes "config") (field_text n.neighbours) (field_text n.seen) (field_text n.servents) (field_text n.stage) (field_text n.out) (field_text n.steps) (later_text (version_for n) n)
    ∙ ap (λ (t : List ℕ). codes "config" ++ (field_text n.neighbours ++ (field_text n.seen ++ (field_text n.servents ++ (field_text n.stage ++ (field_text n.out ++ (field_text n.steps ++ t)))))))
    (later_spaced (version_for n) n)

-- the numbers of a configuration fit 32 bits
record Fitting (s : Config) : Type 0 where
  neighbours : s.numbers.neighbours < 2 ^ 32
  seen : s.numbers.seen < 2 ^ 32
  servents : s.numbers.servents < 2 ^ 32
  stage : s.numbers.stage < 2 ^ 32
  out : s.numbers.out < 2 ^ 32
  steps : s.numbers.steps < 2 ^ 32
  life : s.numbers.life < 2 ^ 32
  crowd : s.numbers.crowd < 2 ^ 32

fitting : (s : Config) → Fitting s
fitting s = record {
  neighbours = omega (arith, s.within.neighbours.greatest);
  seen = omega (arith, s.within.seen.greatest);
  servents = omega (arith, s.within.servents.greatest);
  stage = omega (arith, s.within.stage.greatest);
  out = omega (arith, s.within.out.greatest);
  steps = omega (arith, s.within.steps.greatest);
  life = omega (arith, s.within.life);
  crowd = omega (arith, s.within.crowd);
}

later_plain : (version : Version) (s : Config) → AllByRecursion IsPlain (later_fields version s.numbers)
later_plain First s = tt
later_plain Second s = (number_plain s.numbers.life (fitting s).life, tt)
later_plain Third s = (number_plain s.numbers.life (fitting s).life, (number_plain s.numbers.crowd (fitting s).crowd, tt))

config_plain : (version : Version) (s : Config) → AllByRecursion IsPlain (config_fields version s.numbers)
config_plain version s =
    let f = fitting s in (
      number_plain s.numbers.neighbours f.neighbours,
      (
        number_plain s.numbers.seen f.seen,
        (
          number_plain s.numbers.servents f.servents,
          (number_plain s.numbers.stage f.stage, (number_plain s.numbers.out f.out, (number_plain s.numbers.steps f.steps, later_plain version s))),
        ),
      ),
    )

pub config_line_is : (s : Config) → IsLine (config_line s)
config_line_is s =
    let version = version_for s.numbers in
    ap (list_all (λ b. not (b == 10))) (config_spaced s) ∙ spaced_line (codes "config") (config_fields version s.numbers) refl (config_plain version s)

-- the numbers that a version may lack
abbrev later : ℕ → ℕ → Later
later life crowd = record { life = life; crowd = crowd }

later_is : (life crowd a b : ℕ) → life ≡ a → crowd ≡ b → Some (later life crowd) ≡ Some (later a b)
later_is life crowd a b e f = rw (e, f) refl

-- those of the fields after the sixth are read again, where a version that lacks one is that of its being 0
later_again : (s : Config) (uncrowded unlimited : Bool) → (s.numbers.crowd == 0) ≡ uncrowded → (s.numbers.life == 0) ≡ unlimited
    → later_parsed (if uncrowded then if unlimited then First else Second else Third) (later_fields (if uncrowded then if unlimited then First else Second else Third) s.numbers)
    ≡ Some (later s.numbers.life s.numbers.crowd)
later_again s true true e f =
    later_is 0 0 s.numbers.life s.numbers.crowd (sym (exact_unsigned_eq s.numbers.life 0 f)) (sym (exact_unsigned_eq s.numbers.crowd 0 e))
later_again s true false e f =
    rw (number_below_again 256 s.numbers.life (omega (arith, s.within.life)) (fitting s).life) (later_is s.numbers.life 0 s.numbers.life s.numbers.crowd refl (sym (exact_unsigned_eq s.numbers.crowd 0 e)))
later_again s false unlimited e f =
    rw (number_below_again 256 s.numbers.life (omega (arith, s.within.life)) (fitting s).life, number_again s.numbers.crowd (fitting s).crowd) refl

numbers_again : (s : Config) → numbers_parsed (version_for s.numbers) (config_fields (version_for s.numbers) s.numbers) ≡ Some s.numbers
numbers_again s =
    let f = fitting s in
    let kept : numbers_within s.numbers ≡ Some s.numbers = rw (config_within s) refl in
    rw (
      number_again s.numbers.neighbours f.neighbours,
      number_again s.numbers.seen f.seen,
      number_again s.numbers.servents f.servents,
      number_again s.numbers.stage f.stage,
      number_again s.numbers.out f.out,
      number_again s.numbers.steps f.steps,
      later_again s (s.numbers.crowd == 0) (s.numbers.life == 0) refl refl,
    ) kept

pub config_again : (s : Config) → config_of (version_for s.numbers) (fields_of (config_line s)) ≡ Some s.numbers
config_again s =
    let version = version_for s.numbers in
    ap (λ (line : List ℕ). config_of version (fields_of line)) (config_spaced s)
    ∙ ap (config_of version) (fields_again (codes "config") (config_fields version s.numbers) refl (config_plain version s))
    ∙ numbers_again s

-- the fields after the word of an own line
abbrev own_fields : Own → List (List ℕ)
own_fields own = encode_lower own.servent.0 ∷ ip_text own.ip ∷ decimal own.port ∷ decimal own.files ∷ decimal own.kbytes ∷ []

own_spaced : (own : Own) → own_line own ≡ codes "own" ++ tail_text (own_fields own)
own_spaced own =
    joined (codes "own ") (encode_lower own.servent.0) (codes " ") (ip_text own.ip) (field_text own.port) (field_text own.files) (field_text own.kbytes)

own_plain : (own : Own) → IsOwn own → AllByRecursion IsPlain (own_fields own)
own_plain own h =
    let port : own.port < 2 ^ 32 = omega (arith, h.port) in (
      hex_plain own.servent.0 h.servent,
      ((ip_again own.ip h.ip_size h.ip).1, (number_plain own.port port, (number_plain own.files h.files, (number_plain own.kbytes h.kbytes, tt)))),
    )

pub own_line_is : (own : Own) → IsOwn own → IsLine (own_line own)
own_line_is own h = ap (list_all (λ b. not (b == 10))) (own_spaced own) ∙ spaced_line (codes "own") (own_fields own) refl (own_plain own h)

guid_again : (id : Guid) → length id.0 ≡ 16 → ((i : ℕ) → get_or id.0 i 0 < 256) → guid_of (encode_lower id.0) ≡ Some id
guid_again id e h = ap (λ r. option_map guid_from (result_ok r)) (decode_sized-encode_lower id.0 16 e h)

pub own_again : (own : Own) → IsOwn own → own_of (fields_of (own_line own)) ≡ Some own
own_again own h =
    let port : own.port < 2 ^ 32 = omega (arith, h.port) in
    ap (λ (line : List ℕ). own_of (fields_of line)) (own_spaced own)
    ∙ ap own_of (fields_again (codes "own") (own_fields own) refl (own_plain own h))
    ∙ rw (
      guid_again own.servent h.servent_size h.servent,
      (ip_again own.ip h.ip_size h.ip).0,
      number_below_again 65536 own.port (omega (arith, h.port)) port,
      number_again own.files h.files,
      number_again own.kbytes h.kbytes,
    ) refl
