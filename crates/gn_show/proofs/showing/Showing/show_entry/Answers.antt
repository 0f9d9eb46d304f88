use Rattle.std.proofs.Common.{◌++◌, ◌∙◌, ℕ, List, ap}
use Rattle.gn_show.proofs.ShowLemmas.{ok_both, ok_so}
use Rattle.gn_show.proofs.ShowingLemmas.{framed_on, skipped_on, stepped_on}
use Rattle.gn_show.proofs.showing.Showing.show_entry.Goals as goal

pub returns-in-Skipped-clause-ok : goal.returns-in-Skipped-clause-ok
returns-in-Skipped-clause-ok c =
    let me = c.args.self.now in
    rw c.in-Skipped.is
    (ok_so c.pass_comment.result (skipped_on c.args.form c.args.line.now me.due me.time.items c.pass_comment.new.time.items me.index me.flight me.block) c.pass_comment.ensures)

pub returns-in-Frame-clause-ok : goal.returns-in-Frame-clause-ok
returns-in-Frame-clause-ok c =
    let me = c.args.self.now in
    rw c.in-Frame.is
    (ok_so c.add.result
    (λ grown. framed_on c.args.form c.args.line.now me.due me.time.items me.index me.flight me.block c.add.new.self (grown ∙ ap (λ (xs : List ℕ). me.block ++ xs) c.due_head.ensures))
    c.add.ensures.ok)

pub returns-in-Step-clause-ok : goal.returns-in-Step-clause-ok
returns-in-Step-clause-ok c =
    rw c.in-Step.is
    (ok_both c.show_step.result (λ shown index kept. stepped_on c.args.form c.args.line.now c.in-Step.step c.args.self.now c.show_step.new.self shown index kept.0 kept.1)
    c.show_step.ensures.shown c.show_step.ensures.index c.show_step.ensures.kept)
