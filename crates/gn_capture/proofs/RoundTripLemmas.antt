-- A history that is written is read again.
use Rattle.std.proofs.Common.{◌≡◌, ℕ, ◌+◌, List, [], ◌∷◌, ◌++◌, refl, sym, ap, ◌∙◌, Ok, Some, append_assoc, codes}
use Rattle.std.specs.List.{AllByRecursion}
use Rattle.gn_rules.specs.declared.config.Config.{Config}
use Rattle.gn_rules.specs.declared.receipt.Step.{Step}
use Rattle.gn_text.specs.Lines.{lines_of}
use Rattle.gn_numbers.specs.declared.titles.Text.TheVariants.{History}
use Rattle.gn_numbers.specs.declared.version.Version.{Version}
use Rattle.gn_numbers.specs.declared.version.Version.TheVariants.{First}
use Rattle.gn_numbers.specs.Names.{title_of}
use Rattle.gn_numbers.specs.Versions.{version_for}
use Rattle.gn_numbers.proofs.NameLemmas.{names_read}
use Rattle.gn_text.specs.Header.{header_of}
use Rattle.gn_text.specs.Parsed.{numbered_from, parsed_of, line_after}
use Rattle.gn_text.specs.Settings.{settings_of, config_line, own_line}
use Rattle.gn_text.specs.Steps.{step_line, step_text}
use Rattle.gn_capture.specs.RoundTrip.{IsOwn, IsStep, WrittenIsRead}
use Rattle.gn_capture.specs.Histories.{ending, history_text, line_parsed, steps_from, steps_text}
use Rattle.gn_capture.proofs.LinesAgain.{IsParsed, fed, lines_again, numbered, parsed_again}
use Rattle.gn_capture.proofs.SettingsAgain.{config_again, config_line_is, own_again, own_line_is}
use Rattle.gn_capture.proofs.Spaced.{IsLine}
use Rattle.gn_capture.proofs.StepsAgain.{step_again, step_goes_on, step_line_is, step_line_parsed}
use Rattle.gn_capture.proofs.HistoryLemmas.{history_opened, history_read}

-- the lines of steps, and the last one
abbrev step_lines : {A : Type 0} → List (Step A) → List (List ℕ)
step_lines [] = ending ∷ []
step_lines (step ∷ more) = step_line step ∷ step_lines more

-- the lines of a history after its title
abbrev lines_after : {A : Type 0} → Config → List (Step A) → List (List ℕ)
lines_after s steps = config_line s ∷ own_line s.own ∷ step_lines steps

step_lines_fed : {A : Type 0} (steps : List (Step A)) → steps_text steps ++ codes "end\n" ≡ fed (step_lines steps)
step_lines_fed [] = refl
step_lines_fed (step ∷ more) = append_assoc (step_text step) (steps_text more) (codes "end\n") ∙ ap (λ (t : List ℕ). step_text step ++ t) (step_lines_fed more)

joined : (t n c o s e : List ℕ) → ((((t ++ n) ++ (c ++ o)) ++ s) ++ e) ≡ (t ++ n) ++ (c ++ (o ++ (s ++ e)))
joined t n c o s e = simp append_assoc

-- the title of a history
abbrev title : Config → List ℕ
title s = title_of History (version_for s.numbers)

history_fed : {A : Type 0} (s : Config) (steps : List (Step A)) → history_text s steps ≡ fed (title s ∷ lines_after s steps)
history_fed s steps =
    let head : List ℕ → List ℕ = λ t. (title s ++ codes "\n") ++ ((config_line s ++ codes "\n") ++ ((own_line s.own ++ codes "\n") ++ t)) in
    joined (title s) (codes "\n") (config_line s ++ codes "\n") (own_line s.own ++ codes "\n") (steps_text steps) (codes "end\n")
    ∙ ap head (step_lines_fed steps)

title_line : (version : Version) → IsLine (title_of History version)
title_line First = refl
title_line version = refl

title_parsed : (version : Version) → IsParsed (title_of History version)
title_parsed First = refl
title_parsed version = refl

step_lines_are : {A : Type 0} (steps : List (Step A)) → AllByRecursion IsStep steps → AllByRecursion IsLine (step_lines steps)
step_lines_are [] h = (refl, tt)
step_lines_are (step ∷ more) h = (step_line_is step h.0, step_lines_are more h.1)

step_lines_parsed : {A : Type 0} (steps : List (Step A)) → AllByRecursion IsStep steps → AllByRecursion IsParsed (step_lines steps)
step_lines_parsed [] h = (refl, tt)
step_lines_parsed (step ∷ more) h = (step_line_parsed step h.0, step_lines_parsed more h.1)

-- the lines of a history, each with its number
numbered_lines : {A : Type 0} (s : Config) (steps : List (Step A)) → IsOwn s.own → AllByRecursion IsStep steps
    → parsed_of (history_text s steps) ≡ numbered 1 (title s ∷ lines_after s steps)
numbered_lines s steps h k =
    ap (numbered_from 1) (ap lines_of (history_fed s steps) ∙ lines_again (title s) (lines_after s steps) (title_line (version_for s.numbers)) (config_line_is s, (own_line_is s.own h, step_lines_are steps k)))
    ∙ parsed_again 1 (title s ∷ lines_after s steps) (title_parsed (version_for s.numbers), (refl, (refl, step_lines_parsed steps k)))

line_again : {A : Type 0} (n : ℕ) (step : Step A) → IsStep step → line_parsed (n, step_line step) ≡ Ok (Some step)
line_again n step h = rw (step_goes_on step h, step_again step h) refl

one_more : {A : Type 0} (after : ℕ) (line : ℕ × List ℕ) (more : List (ℕ × List ℕ)) (step : Step A) (steps : List (Step A)) → line_parsed line ≡ Ok (Some step)
    → steps_from after more ≡ Ok steps → steps_from after (line ∷ more) ≡ Ok (step ∷ steps)
one_more after line more step steps e f = rw (e, f) refl

steps_again : {A : Type 0} (after n : ℕ) (steps : List (Step A)) → AllByRecursion IsStep steps → steps_from after (numbered n (step_lines steps)) ≡ Ok steps
steps_again after n [] h = refl
steps_again after n (step ∷ more) h =
    one_more after (n, step_line step) (numbered (n + 1) (step_lines more)) step more (line_again n step h.0) (steps_again after (n + 1) more h.1)

header_again : (s : Config) (after : ℕ) (more : List (ℕ × List ℕ)) → IsOwn s.own
    → header_of History after ((1, title s) ∷ (2, config_line s) ∷ (3, own_line s.own) ∷ more) ≡ Ok (settings_of s, more)
header_again s after more h = rw (names_read.titles History (version_for s.numbers), config_again s, own_again s.own h) refl

pub written_is_read : {A : Type 0} → WrittenIsRead A
written_is_read s steps h k =
    let text = history_text s steps in
    let after = line_after text in
    let left = numbered 4 (step_lines steps) in
    history_read text (settings_of s) (steps_from after left) steps
    (history_opened text (numbered 1 (title s ∷ lines_after s steps)) after after (settings_of s) left (sym (numbered_lines s steps h k)) refl (header_again s after left h) refl)
    (steps_again after 4 steps k)
