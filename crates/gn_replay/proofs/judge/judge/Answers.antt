use Rattle.std.proofs.Common.{◌+◌, ◌∙◌, ℕ, Option, arith, refl, sym, true≢false}
use Rattle.gn_rules.specs.declared.receipt.Step.{Step}
use Rattle.gn_stream.specs.Reading.{place}
use Rattle.gn_stream.specs.Steps.{IsStepOrEnd}
use Rattle.gn_replay.specs.Judgements.{ArePassed}
use Rattle.gn_replay.proofs.StreamLemmas.{few_made, legal_found, legal_made, repeats_more, repeats_none, repeats_refused, step_grows, step_refused, step_unread, wrong_found}
use Rattle.gn_replay.proofs.judge.judge.Goals as goal

pub loop-number-init : goal.loop-number-init
loop-number-init g c =
    repeats_none (g.C.RouterCore.settings c.args.core.now) (g.C.RouterCore.steps c.args.core.now) (place (g.S.Source.state c.args.source.now) c.args.lines.now) c.requires

pub returns-in_err-number-clause-found : goal.returns-in_err-number-clause-found
returns-in_err-number-clause-found g c =
    repeats_refused {T = Option (ℕ × Step g.row.A.Denot)} (g.C.RouterCore.settings c.args.core.now) (g.C.RouterCore.settings c.loop-number.core) (g.C.RouterCore.steps c.loop-number.core) c.loop-number.index (IsStepOrEnd c.next_step.new.lines.line) _
    (place (g.S.Source.state c.args.source.now) c.args.lines.now) (place (g.S.Source.state c.loop-number.source) c.loop-number.lines)
    (place (g.S.Source.state c.next_step.new.source) c.next_step.new.lines) c.from_residual.result _ c.from_residual.ensures.1 c.loop-number.invariant c.in_err-number.ensures.read

pub returns-in_err-rules-clause-found : goal.returns-in_err-rules-clause-found
returns-in_err-rules-clause-found g c =
    step_unread (g.C.RouterCore.settings c.args.core.now) (g.C.RouterCore.settings c.loop-number.core) (g.C.RouterCore.steps c.loop-number.core) c.loop-number.index
    c.next_step.new.lines.line c.in-Some.number c.in-Some.step _ c.from_residual-in_err-rules.result
    (place (g.S.Source.state c.args.source.now) c.args.lines.now) (place (g.S.Source.state c.loop-number.source) c.loop-number.lines)
    (place (g.S.Source.state c.next_step.new.source) c.next_step.new.lines) c.from_residual-in_err-rules.ensures.1 c.loop-number.invariant (rw c.in-Some.is at c.in_ok-number.ensures.read)

pub returns-in_err-line-clause-found : goal.returns-in_err-line-clause-found
returns-in_err-line-clause-found g c =
    step_unread (g.C.RouterCore.settings c.args.core.now) (g.C.RouterCore.settings c.loop-number.core) (g.C.RouterCore.steps c.loop-number.core) c.loop-number.index
    c.next_step.new.lines.line c.in-Some.number c.in-Some.step _ c.from_residual-in_err-line.result
    (place (g.S.Source.state c.args.source.now) c.args.lines.now) (place (g.S.Source.state c.loop-number.source) c.loop-number.lines)
    (place (g.S.Source.state c.next_step.new.source) c.next_step.new.lines) c.from_residual-in_err-line.ensures.1 c.loop-number.invariant (rw c.in-Some.is at c.in_ok-number.ensures.read)

pub returns-in_err-pass_left-clause-found : goal.returns-in_err-pass_left-clause-found
returns-in_err-pass_left-clause-found g c =
    step_refused (g.C.RouterCore.settings c.args.core.now) (g.C.RouterCore.settings c.loop-number.core) (g.C.RouterCore.steps c.loop-number.core) c.loop-number.index
    c.next_step.new.lines.line c.in-Some.number c.in-Some.step _ c.from_residual-in_err-pass_left.result {S = Unit {0}} (λ done. ArePassed g.row.A.Denot)
    (place (g.S.Source.state c.args.source.now) c.args.lines.now) (place (g.S.Source.state c.loop-number.source) c.loop-number.lines)
    (place (g.S.Source.state c.next_step.new.source) c.next_step.new.lines) (place (g.S.Source.state c.pass_left.new.source) c.pass_left.new.lines) _
    c.from_residual-in_err-pass_left.ensures.1 c.loop-number.invariant (rw c.in-Some.is at c.in_ok-number.ensures.read) c.in_err-pass_left.ensures

pub returns-then-not-is_answered-clause-found : goal.returns-then-not-is_answered-clause-found
returns-then-not-is_answered-clause-found g c =
    wrong_found (g.C.RouterCore.settings c.args.core.now) (g.C.RouterCore.settings c.loop-number.core) (g.C.RouterCore.steps c.loop-number.core) c.loop-number.index
    c.next_step.new.lines.line c.in-Some.number c.in-Some.step _
    (place (g.S.Source.state c.args.source.now) c.args.lines.now) (place (g.S.Source.state c.loop-number.source) c.loop-number.lines)
    (place (g.S.Source.state c.next_step.new.source) c.next_step.new.lines) (place (g.S.Source.state c.pass_left.new.source) c.pass_left.new.lines)
    refl refl (c.in_ok-line.ensures.items ∙ c.line.ensures) c.in_ok-rules.ensures (λ is. true≢false (sym (c.is_answered.ensures.1 is) ∙ c.if-not-is_answered.true))
    c.loop-number.invariant (rw c.in-Some.is at c.in_ok-number.ensures.read) c.in_ok-pass_left.ensures

pub returns-in_err-add-clause-found : goal.returns-in_err-add-clause-found
returns-in_err-add-clause-found g c =
    step_unread (g.C.RouterCore.settings c.args.core.now) (g.C.RouterCore.settings c.loop-number.core) (g.C.RouterCore.steps c.loop-number.core) c.loop-number.index
    c.next_step.new.lines.line c.in-Some.number c.in-Some.step _ c.from_residual-in_err-add.result
    (place (g.S.Source.state c.args.source.now) c.args.lines.now) (place (g.S.Source.state c.loop-number.source) c.loop-number.lines)
    (place (g.S.Source.state c.next_step.new.source) c.next_step.new.lines) c.from_residual-in_err-add.ensures.1 c.loop-number.invariant (rw c.in-Some.is at c.in_ok-number.ensures.read)

pub overflow_add-index : goal.overflow_add-index
overflow_add-index g c =
    let few =
    few_made (g.C.RouterCore.settings c.args.core.now) (g.C.RouterCore.settings c.add.new.core) (g.C.RouterCore.steps c.add.new.core) (c.loop-number.index + 1)
    (place (g.S.Source.state c.args.source.now) c.args.lines.now) (place (g.S.Source.state c.next_step.new.source) c.next_step.new.lines)
    (repeats_more (g.C.RouterCore.settings c.args.core.now) (g.C.RouterCore.settings c.loop-number.core) (g.C.RouterCore.steps c.loop-number.core) c.loop-number.index
    c.next_step.new.lines.line c.in-Some.number c.in-Some.step (g.C.RouterCore.settings c.add.new.core) (g.C.RouterCore.steps c.add.new.core)
    (place (g.S.Source.state c.args.source.now) c.args.lines.now) (place (g.S.Source.state c.loop-number.source) c.loop-number.lines)
    (place (g.S.Source.state c.next_step.new.source) c.next_step.new.lines) (c.is_answered.ensures.0 c.if-not-is_answered.false) c.in_ok-add.ensures.settings c.in_ok-add.ensures.step
    c.loop-number.invariant (rw c.in-Some.is at c.in_ok-number.ensures.read)) in
    omega (arith, few)

pub loop-number-smaller : goal.loop-number-smaller
loop-number-smaller g c =
    let grows =
    step_grows c.next_step.new.lines.line c.in-Some.number c.in-Some.step (place (g.S.Source.state c.loop-number.source) c.loop-number.lines)
    (place (g.S.Source.state c.next_step.new.source) c.next_step.new.lines) (rw c.in-Some.is at c.in_ok-number.ensures.read) in
    omega (arith, grows.0, grows.1, (rw c.in-Some.is at c.in_ok-number.ensures.numbered))

pub loop-number-preserved : goal.loop-number-preserved
loop-number-preserved g c =
    repeats_more (g.C.RouterCore.settings c.args.core.now) (g.C.RouterCore.settings c.loop-number.core) (g.C.RouterCore.steps c.loop-number.core) c.loop-number.index
    c.next_step.new.lines.line c.in-Some.number c.in-Some.step (g.C.RouterCore.settings c.add.new.core) (g.C.RouterCore.steps c.add.new.core)
    (place (g.S.Source.state c.args.source.now) c.args.lines.now) (place (g.S.Source.state c.loop-number.source) c.loop-number.lines)
    (place (g.S.Source.state c.next_step.new.source) c.next_step.new.lines) (c.is_answered.ensures.0 c.if-not-is_answered.false) c.in_ok-add.ensures.settings c.in_ok-add.ensures.step
    c.loop-number.invariant (rw c.in-Some.is at c.in_ok-number.ensures.read)

pub returns-clause-found : goal.returns-clause-found
returns-clause-found g c =
    legal_found (g.C.RouterCore.settings c.args.core.now) (g.C.RouterCore.settings c.loop-number.core) (g.C.RouterCore.steps c.loop-number.core) c.loop-number.index
    (place (g.S.Source.state c.args.source.now) c.args.lines.now) (place (g.S.Source.state c.loop-number.source) c.loop-number.lines)
    (place (g.S.Source.state c.next_step.new.source) c.next_step.new.lines) c.loop-number.invariant (rw c.in_default.is at c.in_ok-number.ensures.read)

pub returns-clause-made : goal.returns-clause-made
returns-clause-made g c = λ legal.
    legal_made (g.C.RouterCore.settings c.args.core.now) (g.C.RouterCore.settings c.loop-number.core) (g.C.RouterCore.steps c.loop-number.core) c.loop-number.index
    (place (g.S.Source.state c.args.source.now) c.args.lines.now) (place (g.S.Source.state c.loop-number.source) c.loop-number.lines)
    (place (g.S.Source.state c.next_step.new.source) c.next_step.new.lines) c.loop-number.invariant (rw c.in_default.is at c.in_ok-number.ensures.read)
