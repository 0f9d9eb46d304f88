-- What is said beside the steps.
use Rattle.std.proofs.Common.{◌≡◌, ◌∙◌, ◌++◌, ℕ, List, Result, Ok, Err, OnOk, ap, sym}
use Rattle.gn_rules.specs.declared.statistics.Stats.{Stats}
use Rattle.gn_text.specs.Statistics.{stats_text}
use Rattle.gn_replay.specs.declared.form.Form.{Form}
use Rattle.gn_replay.specs.declared.form.Form.TheVariants.{Whole}
use Rattle.gn_replay.specs.Events.{prints}
use Rattle.gn_replay.specs.Playing.{Playing, after_playing, said}

-- what follows from what holds where all is well
pub then_so : {U E P Q : Type 0} (r : Result U E) → (P → Q) → OnOk r P → OnOk r Q
then_so (Ok u) so holds = so holds
then_so (Err e) so holds = tt

-- where all is printed, a text is
pub all_said : {A U E : Type 0} (r : Result U E) (v : Playing A) (out text : List ℕ) → v.form ≡ Whole → OnOk r (out ≡ v.out ++ text)
    → OnOk r (record v { out = out } ≡ after_playing v (prints v.past text))
all_said (Err e) v out text whole wrote = tt
all_said (Ok u) v out text whole wrote =
    ap (λ (out : List ℕ). record v { out = out }) (wrote ∙ ap (λ (f : Form). v.out ++ said f (prints v.past text)) (sym whole))

-- the counters are those of the steps
pub counted : {U E : Type 0} (r : Result U E) (before now : List ℕ) (stats : Stats) (all : Stats) → stats ≡ all → OnOk r (now ≡ before ++ stats_text stats)
    → OnOk r (now ≡ before ++ stats_text all)
counted (Err e) before now stats all is wrote = tt
counted (Ok u) before now stats all is wrote = wrote ∙ ap (λ (s : Stats). before ++ stats_text s) is
