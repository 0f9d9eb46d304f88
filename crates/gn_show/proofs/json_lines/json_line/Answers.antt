use Rattle.std.proofs.Common.{◌≡◌, ◌++◌, ◌∙◌, ◌∷◌, [], false, ℕ, List, ap, Option}
use Rattle.std.specs.declared.alloc.Global.{Global}
use Rattle.json.specs.Print.{print}
use Rattle.json.specs.Token.{Token}
use Rattle.serde_json.proofs.Texts.{print-outline}
use Rattle.gn_rules.specs.Flight.{Admission}
use Rattle.gn_rules.specs.declared.receipt.Step.{Step}
use Rattle.gn_show.specs.Kept.{placed, seen}
use Rattle.gn_show.specs.Pieces.{Puts, Written}
use Rattle.gn_show.specs.Shown.{json_line, with_time}
use Rattle.gn_show.specs.Times.{Place}
use Rattle.gn_show.specs.Tokens.{tokens_of}
use Rattle.gn_show.specs.Values.{step_data}
use Rattle.gn_show.proofs.json_lines.json_line.Goals as goal

-- the text of a step's tokens, and a line feed
line_made : (a : Option Admission) (place : Place) (step : Step Global) (none after : Written Token) (text timed line : List ℕ) → none ≡ record { pieces = []; ran_out = false }
    → Puts none after (tokens_of (step_data a place.index step)) → (after.ran_out ≡ false) × (text ≡ print after.pieces) → timed ≡ with_time place.time text → line ≡ timed ++ 10 ∷ []
    → line ≡ json_line a place step
line_made a place step none after text timed line new written whole time end =
    end ∙ ap (λ xs. xs ++ 10 ∷ [])
    (time ∙ ap (with_time place.time)
    (whole.1 ∙ ap print (written.pieces whole.0 ∙ ap (λ (w : Written Token). w.pieces ++ tokens_of (step_data a place.index step)) new) ∙ print-outline (step_data a place.index step)))

pub returns : goal.returns
returns c =
    line_made (seen c.args.subject) (placed c.args.moment) c.args.step.now _ _ _ _ _ c.over-tokens.ensures c.put_step.ensures c.in_ok-line.ensures c.in_ok-add_time.ensures
    c.in_ok-push.ensures.items
