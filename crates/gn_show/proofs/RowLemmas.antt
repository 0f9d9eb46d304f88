-- The lines of a step's rows.
use Rattle.std.proofs.Common.{◌≡◌, ◌++◌, ◌∙◌, ℕ, Bool, true, false, List, [], ◌∷◌, map, refl, ap, append_assoc, append-nil, sym, Option, Some}
use Rattle.std.proofs.lemmas.List.{drop-append-le}
use Rattle.std.specs.Prelude.{◌≤◌, drop, if◌then◌else◌, length}
use Rattle.std.specs.List.{flat_map}
use Rattle.std.specs.declared.alloc.Global.{Global}
use Rattle.gn_rules.specs.Flight.{Admission}
use Rattle.gn_rules.specs.declared.receipt.Step.{Step}
use Rattle.gn_rules.specs.declared.reply.Reply.{Reply}
use Rattle.gn_rules.specs.declared.reply.Reply.TheVariants.{Routed}
use Rattle.gn_rules.specs.declared.sends.Sending.{Sending}
use Rattle.gn_show.specs.Times.{Place}
use Rattle.gn_show.specs.Rows.{lines_of, own_line, own_row, row_line, rows_by, send_line, send_row}

-- what is made of values that were made
both_maps : {X Y Z : Type 0} (f : Y → List Z) (g : X → Y) (xs : List X) (more : List Y) → flat_map f (map g xs ++ more) ≡ flat_map (λ x. f (g x)) xs ++ flat_map f more
both_maps f g [] more = refl
both_maps f g (x ∷ xs) more = ap (λ ys. f (g x) ++ ys) (both_maps f g xs more) ∙ sym (append_assoc (f (g x)) (flat_map (λ x. f (g x)) xs) (flat_map f more))

-- the lines of sends are those of their rows
pub sends_lines : (a : Option Admission) (place : Place) (step : Step Global) (sends : List (Sending Global))
    → flat_map (row_line place step) (map (send_row a) sends) ≡ flat_map (send_line a place step) sends
sends_lines a place step sends =
    ap (λ rows. flat_map (row_line place step) rows) (sym (append-nil (map (send_row a) sends)))
    ∙ both_maps (row_line place step) (send_row a) sends [] ∙ append-nil (flat_map (send_line a place step) sends)

-- the line of the local servent's packet, where it gets one
local_line : (a : Option Admission) (place : Place) (step : Step Global) (local : Bool)
    → flat_map (row_line place step) (if local then own_row a (Some 0) ∷ [] else []) ≡ (if local then own_line a place step (Some 0) else [])
local_line a place step true = append-nil (own_line a place step (Some 0))
local_line a place step false = refl

-- the lines of a routing
routed_lines : (a : Option Admission) (place : Place) (step : Step Global) (sends : List (Sending Global)) (local : Bool)
    → flat_map (row_line place step) (map (send_row a) sends ++ (if local then own_row a (Some 0) ∷ [] else []))
    ≡ flat_map (send_line a place step) sends ++ (if local then own_line a place step (Some 0) else [])
routed_lines a place step sends local =
    both_maps (row_line place step) (send_row a) sends (if local then own_row a (Some 0) ∷ [] else [])
    ∙ ap (λ lines. flat_map (send_line a place step) sends ++ lines) (local_line a place step local)

-- the lines of a step that routes, after what was written
pub lines_routed : (old : List ℕ) (a : Option Admission) (place : Place) (step : Step Global) (sends given : List (Sending Global)) (local : Bool) → step.reply ≡ Routed sends local → given ≡ sends
    → (old ++ flat_map (send_line a place step) given) ++ (if local then own_line a place step (Some 0) else []) ≡ old ++ lines_of a place step
lines_routed old a place step sends given local is same =
    let rest : List ℕ = if local then own_line a place step (Some 0) else [] in
    append_assoc old (flat_map (send_line a place step) given) rest
    ∙ ap (λ (lines : List ℕ). old ++ lines)
    (ap (λ (xs : List (Sending Global)). flat_map (send_line a place step) xs ++ rest) same
    ∙ sym (ap (λ (reply : Reply Global). flat_map (row_line place step) (rows_by a step.event reply)) is ∙ routed_lines a place step sends local))

-- what the lines of a step's rows are, by its reply
pub ruleset row_lines = (append-nil, sends_lines)

-- lists are the same where their first elements are, and the rest
pub both_same : {X : Type 0} {x y : X} {xs ys : List X} → x ≡ y → xs ≡ ys → x ∷ xs ≡ y ∷ ys
both_same {y = y} {xs = xs} is rest = ap (λ z. z ∷ xs) is ∙ ap (λ zs. y ∷ zs) rest

-- what is written after the steps before
pub row_after : (begun : ℕ) (old row : List ℕ) → begun ≤ length old → drop begun (old ++ row) ≡ drop begun old ++ row
row_after begun old row le = drop-append-le begun old row le
