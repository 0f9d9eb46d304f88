-- The lines of a header, one after another.
use Rattle.std.proofs.Common.{◌≡◌, ◌∙◌, ℕ, List, [], ◌∷◌, Option, Some, None, Result, Ok, Err, refl, sym, ap, subst}
use Rattle.gn_rules.specs.declared.config.Config.{Config}
use Rattle.gn_rules.specs.declared.limits.Numbers.{Numbers}
use Rattle.gn_numbers.specs.declared.causes.Cause.{Cause}
use Rattle.gn_text.specs.declared.fault.CaptureRefusal.{CaptureRefusal}
use Rattle.gn_text.specs.declared.fault.CaptureRefusal.TheVariants.{Fault, NoMemory}
use Rattle.gn_text.specs.Faults.{IsRefused, fault_at, refused_at}
use Rattle.gn_text.specs.Settings.{settings_of}
use Rattle.std.specs.Result.{IsErrAnd}
use Rattle.gn_io.specs.declared.input.InputFault.{InputFault}
use Rattle.gn_stream.specs.declared.fault.StreamFault.{StreamFault}
use Rattle.gn_stream.specs.declared.fault.StreamFault.TheVariants.{Input, Text}
use Rattle.gn_stream.specs.Left.{AreGone, AreSkipped, IsFirstNumbered, Left, numbered_left}
use Rattle.gn_stream.specs.Reading.{IsReadingFault, Passes, Place}
use Rattle.gn_stream.specs.Steps.{AreSaid, AreUnsaid, IsSaid, Says}
use Rattle.gn_stream.proofs.NumberedLemmas.{after_all, after_same}
use Rattle.gn_stream.proofs.PassLemmas.{gone_then, passes_so, read_then}

-- a line is missing, which is a fault of the line after the last one
pub missing : (says : Says) (cause : Cause) (a b : Place) → ((after : ℕ) (lines : List (ℕ × List ℕ)) → lines ≡ [] → says after lines ≡ Err (fault_at after cause))
    → Passes AreSkipped a b → Passes (λ left _. AreUnsaid says (refused_at b.reading.next cause) left) a b
missing says cause a b none skipped = record {
  bytes = skipped.bytes;
  given = skipped.given;
  ended = skipped.ended;
  holds = λ more may.
      let gone = skipped.holds more may in
      none _ _ gone.lines ∙ ap (λ (n : ℕ). Err (fault_at n cause)) (after_all _ _ gone);
}

-- a line is wrong
pub other : (says : Says) (cause : Cause) (number : ℕ) (line : List ℕ) (a b : Place)
    → ((after : ℕ) (lines more : List (ℕ × List ℕ)) → lines ≡ (number, line) ∷ more → says after lines ≡ Err (fault_at number cause))
    → Passes (IsFirstNumbered number line) a b → Passes (λ left _. AreUnsaid says (refused_at number cause) left) a b
other says cause number line a b wrong first =
    passes_so (IsFirstNumbered number line) (λ left _. AreUnsaid says (refused_at number cause) left) a b (λ l m is. wrong _ _ _ is.lines) first

-- memory ran out at a line
pub unread : (says : Says) (number : ℕ) (line : List ℕ) (a b : Place) → Passes (IsFirstNumbered number line) a b → Passes (λ left _. AreUnsaid says NoMemory left) a b
unread says number line a b first = passes_so (IsFirstNumbered number line) (λ left _. AreUnsaid says NoMemory left) a b (λ l m is. tt) first

-- the last line is right
pub said : (says : Says) (config : Config) (number : ℕ) (line : List ℕ) (a b : Place)
    → ((after : ℕ) (lines more : List (ℕ × List ℕ)) → lines ≡ (number, line) ∷ more → says after lines ≡ Ok (settings_of config, more))
    → Passes (IsFirstNumbered number line) a b → Passes (AreSaid says config) a b
said says config number line a b right first =
    passes_so (IsFirstNumbered number line) (AreSaid says config) a b (λ l m is. record { gone = is.gone; said = right _ _ _ is.lines }) first

unsaid_then : (says inner : Says) (refusal : CaptureRefusal) (l m : Left) → says (numbered_left l).after (numbered_left l).lines ≡ inner (numbered_left m).after (numbered_left m).lines
    → AreUnsaid inner refusal m → AreUnsaid says refusal l
unsaid_then says inner NoMemory l m same refused = tt
unsaid_then says inner (Fault fault) l m same refused = same ∙ refused

-- a line is right, and then others say the rest
pub said_then : (says inner : Says) (number : ℕ) (line : List ℕ) (a b c : Place) (r : Result Config StreamFault)
    → ((after : ℕ) (lines more : List (ℕ × List ℕ)) → lines ≡ (number, line) ∷ more → says after lines ≡ inner after more)
    → Passes (IsFirstNumbered number line) a b → IsSaid inner r b c → IsSaid says r a c
said_then says inner number line a b c r right first read =
    read_then (IsFirstNumbered number line) (AreSaid inner) (AreUnsaid inner) (AreSaid says) (AreUnsaid says) a b c r (λ l m is. is.gone)
    (λ config l m n is then. record { gone = gone_then l m n is.gone then.gone; said = same l m is ∙ then.said })
    (λ refusal l m is. unsaid_then says inner refusal l m (same l m is)) first read
  where
    same : (l m : Left) → IsFirstNumbered number line l m → says (numbered_left l).after (numbered_left l).lines ≡ inner (numbered_left m).after (numbered_left m).lines
    same l m is = right _ _ _ is.lines ∙ ap (λ (n : ℕ). inner n (numbered_left m).lines) (after_same l m is.gone)

-- memory ran out at a line
pub said_none : (says : Says) (number : ℕ) (line : List ℕ) (r : Result Config StreamFault) (a b : Place) → IsErrAnd r (λ e. e ≡ Text NoMemory) → Passes (IsFirstNumbered number line) a b
    → IsSaid says r a b
said_none says number line (Ok x) a b is first = absurd is
said_none says number line (Err e) a b is first = subst (λ (f : StreamFault). IsSaid says (Err f) a b) (sym is) (unread says number line a b first)

-- no line could be read
pub unsaid : (says : Says) (r : Result Config StreamFault) (fault : InputFault) (a b : Place) → IsErrAnd r (λ e. e ≡ Input fault) → IsReadingFault fault a b → IsSaid says r a b
unsaid says (Ok x) fault a b is failed = absurd is
unsaid says (Err e) fault a b is failed = subst (λ (f : StreamFault). IsSaid says (Err f) a b) (sym is) failed
