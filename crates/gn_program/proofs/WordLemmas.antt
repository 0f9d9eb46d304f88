-- What clap's words mean for this command.
use Rattle.std.proofs.Common.{◌≡◌, ◌∙◌, ◌&&◌, inl, inr, refl, sym, subst, true≢false, ap, Bool, true, false, List, [], ◌∷◌, Option, Some, None}
use Rattle.std.specs.Prelude.{Box, is_some, option_map, not, if◌then◌else◌}
use Rattle.std.specs.Box.{box_value}
use Rattle.clap.specs.Matches.{has_subcommand, subcommand_name_of}
use Rattle.clap.specs.Simple.{subcommand_rows}
use Rattle.clap.specs.Kinds.{HasKind, IsAmong, Kinds, or_else}
use Rattle.clap.specs.Values.{kind_of}
use Rattle.clap.specs.Words.{App, HasMatchesOf, IsParsedFrom, Row, Text, app_of, is_simple, fault_of, subcommand_of, subcommand_rows_of}
use Rattle.clap.specs.Faults.{is_simple_and_free}
use Rattle.clap.specs.declared.builder.command.Command.{Command}
use Rattle.clap.specs.declared.builder.command.Command.TheViews.{out-Command}
use Rattle.clap.specs.declared.parser.matches.ArgMatches.{ArgMatches}
use Rattle.clap.specs.declared.parser.matches.ArgMatches.TheViews.{out-ArgMatches, out-SubCommand}
use Rattle.clap.specs.declared.parser.matches.SubCommand.{SubCommand}
use Rattle.clap.specs.declared.error.Error.{Error}
use Rattle.clap.specs.declared.error.kind.ErrorKind.TheVariants.{ValueValidation}
use Rattle.clap.proofs.OnLiterals.{clap_on_literals}
use Rattle.std.specs.Fmt.{digits}
use Rattle.hex.specs.Hex.{decode_pairs, encode_with}
use Rattle.gn_program.specs.Commands.{PlainWordsAreRead, gn_app, kinds_of, request_by, request_named, request_of, value_kinds}
use Rattle.gn_program.specs.declared.request.Request.{Request}

gn_is_simple : is_simple gn_app ≡ true
unfolding clap_on_literals
gn_is_simple = refl

gn_is_free : is_simple_and_free gn_app ≡ true
unfolding clap_on_literals
gn_is_free = refl

pub plain_words : PlainWordsAreRead
unfolding clap_on_literals decode_pairs digits encode_with
plain_words = record {
  replay = λ program. refl;
  history = λ program. refl;
  audit = λ program. refl;
  explain = λ program. refl;
  unfinished = λ program. refl;
  show = λ program. refl;
  json = λ program. refl;
  csv = λ program. refl;
  stats = λ program. refl;
  both = λ program. refl;
  load = λ program. refl;
  watched = λ program. refl;
  most = λ program. refl;
  short = λ program. refl;
  none = λ program. refl;
  many = λ program. refl;
  serve = λ program. refl;
  config = λ program. refl;
  written = λ program. refl;
  full = λ program. refl;
  resumed = λ program. refl;
  any = λ program. refl;
  always = λ program. refl;
  not_always = λ program. refl;
  goes_on = λ program. refl;
  goes_on_alone = λ program. refl;
  no_end = λ program. refl;
  no_other = λ program. refl;
  no_pings = λ program. refl;
  no_rate = λ program. refl;
  no_flood = λ program. refl;
  still_no_flood = λ program. refl;
  no_metrics = λ program. refl;
  no_port = λ program. refl;
  accepts = λ program. refl;
  workers = λ program. refl;
  help = λ program. refl;
  help_option = λ program. refl;
  random = refl;
  near = refl;
  far = refl;
  no_far = λ program. refl;
  still_no_far = λ program. refl;
  bound = refl;
  nowhere = λ program. refl;
  long = λ far peer. refl;
}

both_left : (a b : Bool) → (a && b) ≡ true → a ≡ true
both_left true b e = refl
both_left false b e = e

both_right : (a b : Bool) → (a && b) ≡ true → b ≡ true
both_right true b e = e
both_right false b e = absurd (true≢false (sym e))

not_true : (a : Bool) → not a ≡ true → a ≡ false
not_true true e = sym e
not_true false e = refl

-- a plain command has no global argument
no_globals : (c : Command) → (app_of c).top.is_plain ≡ true → (out-Command c).has_globals ≡ false
no_globals c e = not_true _ (both_left _ _ (both_right _ _ (both_right _ _ e)))

named_rows : {Z : Type 0} (o : Option (Box SubCommand Z)) → option_map (λ p. p.0) (subcommand_rows o)
    ≡ option_map (λ b. (out-SubCommand (box_value b)).name.now) o
named_rows None = refl
named_rows (Some b) = refl

-- what a parse gives: its subcommand is the one that the words name, and nothing is wrong with them
pub record Parses (m : ArgMatches) (words : List Text) : Type 0 where
  pub rows : subcommand_rows_of m ≡ subcommand_of gn_app words
  pub has : has_subcommand m ≡ true
  pub faults : fault_of gn_app words ≡ []

pub parses : (c : Command) (m : ArgMatches) (words : List Text) → app_of c ≡ gn_app → IsParsedFrom c m → HasMatchesOf (app_of c) words m
    → (is_simple_and_free (app_of c) ≡ true → fault_of (app_of c) words ≡ []) → Parses m words
parses c m words app parsed matches free =
    let plain : (app_of c).top.is_plain ≡ true = ap (λ (a : App). a.top.is_plain) app in
    let required : (app_of c).top.subcommand_required ≡ true = ap (λ (a : App). a.top.subcommand_required) app in
    let checked = (parsed.parsed (parsed.from.globals ∙ no_globals c plain)).checked in
    record {
      rows = (subst (λ a. HasMatchesOf a words m) app matches gn_is_simple).1;
      has = checked.subcommand (parsed.from.needs_subcommand ∙ required);
      faults = subst (λ a. is_simple_and_free a ≡ true → fault_of a words ≡ []) app free gn_is_free;
    }

-- a name and rows are those of the subcommand
both_are : (o : Option (Text × List Row)) (name : Text) (rows : List Row) → option_map (λ p. p.0) o ≡ Some name → option_map (λ p. p.1) o ≡ Some rows → o ≡ Some (name, rows)
both_are None name rows e f = absurd (true≢false (ap is_some (sym e)))
both_are (Some (n, rs)) name rows e f = cc

-- the subcommand is the one with this name and these rows
entered : (m : ArgMatches) (name : Text) (rows : List Row) → subcommand_name_of m ≡ Some name → option_map (λ p. p.1) (subcommand_rows_of m) ≡ Some rows
    → subcommand_rows_of m ≡ Some (name, rows)
entered m name rows is are = both_are (subcommand_rows_of m) name rows (named_rows (out-ArgMatches m).subcommand ∙ is) are

-- it asks for what its name and rows stand for
pub asks : (m : ArgMatches) (name : Text) (rows : List Row) (request : Request) → subcommand_name_of m ≡ Some name
    → option_map (λ p. p.1) (subcommand_rows_of m) ≡ Some rows → request_named name rows ≡ Some request → request_by [] (subcommand_rows_of m) ≡ Some request
asks m name rows request is are asked = ap (request_by []) (entered m name rows is are) ∙ asked

-- where they stand for nothing, a value is wrong
pub mistaken : (m : ArgMatches) (name : Text) (rows : List Row) (error : Error) → subcommand_name_of m ≡ Some name
    → option_map (λ p. p.1) (subcommand_rows_of m) ≡ Some rows → request_named name rows ≡ None → kind_of error ≡ ValueValidation
    → HasKind (value_kinds (subcommand_rows_of m)) error
mistaken m name rows error is are none kind =
    let wrong : value_kinds (subcommand_rows_of m) ≡ ValueValidation ∷ [] = ap value_kinds (entered m name rows is are)
    ∙ ap (λ (o : Option Request). if is_some o then [] else ValueValidation ∷ []) none in
    inr (subst (IsAmong (kind_of error)) (sym wrong) (inl kind))

-- nothing is wrong with the values of what stands for a request
none_wrong : (o : Option (Text × List Row)) (request : Request) → request_by [] o ≡ Some request → value_kinds o ≡ []
none_wrong (Some (name, rows)) request asked = ap (λ (o : Option Request). if is_some o then [] else ValueValidation ∷ []) asked
none_wrong None request asked = absurd (true≢false (ap is_some (sym asked)))

-- what is wrong with words is what is wrong with the values of their subcommand
kinds_by_value : (m : ArgMatches) (words : List Text) → Parses m words → kinds_of words ≡ value_kinds (subcommand_rows_of m)
kinds_by_value m words p = ap (λ fs. or_else fs (value_kinds (subcommand_of gn_app words))) p.faults ∙ ap value_kinds (sym p.rows)

-- what the words ask for is what the subcommand does
pub reads : (m : ArgMatches) (words : List Text) (request : Request) → Parses m words → request_by [] (subcommand_rows_of m) ≡ Some request
    → request_of words ≡ Some request
reads m words request p asked =
    ap (λ fs. request_by fs (subcommand_of gn_app words)) (kinds_by_value m words p ∙ none_wrong (subcommand_rows_of m) request asked)
    ∙ ap (request_by []) (sym p.rows) ∙ asked

-- what is wrong with the words, where a value is wrong
pub refuses : (m : ArgMatches) (words : List Text) (error : Error) → Parses m words → HasKind (value_kinds (subcommand_rows_of m)) error
    → HasKind (kinds_of words) error
refuses m words error p has = subst (λ kinds. HasKind kinds error) (sym (kinds_by_value m words p)) has

has_first : (kinds next : Kinds) (error : Error) → HasKind kinds error → HasKind (or_else kinds next) error
has_first kinds next error (inl e) = inl e
has_first (k ∷ ks) next error (inr is) = inr is
has_first [] next error (inr is) = absurd is

-- what clap finds wrong with words is wrong with them
pub fails : (c : Command) (words : List Text) (error : Error) → app_of c ≡ gn_app
    → (is_simple_and_free (app_of c) ≡ true → HasKind (fault_of (app_of c) words) error) → HasKind (kinds_of words) error
fails c words error app free =
    has_first _ _ error (subst (λ a. is_simple_and_free a ≡ true → HasKind (fault_of a words) error) app free gn_is_free)
