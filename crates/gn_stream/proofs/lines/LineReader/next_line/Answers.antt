use Rattle.std.proofs.Common.{◌∙◌, ap, refl, sym}
use Rattle.std.specs.Prelude.{◌≢◌}
use Rattle.std.proofs.lemmas.List.Elements.{All-append}
use Rattle.gn_stream.specs.Reading.{Reading, place}
use Rattle.gn_stream.specs.Unfinished.{ending_after}
use Rattle.gn_stream.proofs.EntryLemmas.{err_so, goes_failed, goes_still, on_err}
use Rattle.gn_stream.proofs.LineLemmas.{ends_found, first_of, found_over, last_read, line_failed, line_over, over_there, takes_held, takes_same, whole_over}
use Rattle.gn_stream.proofs.lines.LineReader.next_line.Goals as goal

pub returns-in_err-fill-clause-read : goal.returns-in_err-fill-clause-read
returns-in_err-fill-clause-read g c =
    line_failed c.from_residual.result _ (place (g.S.Source.state c.args.source.now) c.args.self.now) (place (g.S.Source.state c.loop-self.source) c.loop-self.self)
    (place (g.S.Source.state c.fill.new.source) c.fill.new.self) c.loop-self.self.line c.from_residual.ensures.1 c.loop-self.invariant.taken c.in_err-fill.ensures.fault

pub returns-then-not-branch-clause-read : goal.returns-then-not-branch-clause-read
returns-then-not-branch-clause-read g c =
    let begin = place (g.S.Source.state c.args.source.now) c.args.self.now in
    let before = place (g.S.Source.state c.loop-self.source) c.loop-self.self in
    let filled = place (g.S.Source.state c.fill.new.source) c.fill.new.self in
    let end = c.in_ok-fill.ensures.end c.if-not-branch.true in
    last_read begin filled c.count_last.new.self
    (takes_same begin before filled c.loop-self.self.line c.loop-self.invariant.taken c.in_ok-fill.ensures.filled c.in_ok-fill.ensures.line)
    (rw c.in_ok-fill.ensures.line c.loop-self.invariant.free) end.0 end.1
    c.count_last.result _ refl c.count_last.ensures.last

pub returns-in_err-count_line-clause-read : goal.returns-in_err-count_line-clause-read
returns-in_err-count_line-clause-read g c =
    let begin = place (g.S.Source.state c.args.source.now) c.args.self.now in
    let before = place (g.S.Source.state c.loop-self.source) c.loop-self.self in
    let filled = place (g.S.Source.state c.fill.new.source) c.fill.new.self in
    let cut = c.in_ok-take_part.ensures.ended c.if-branch.true in
    let over = c.in_err-count_line.ensures.fault in
    let kept = c.in_ok-take_part.ensures.kept in
    let takes = takes_same begin before filled c.loop-self.self.line c.loop-self.invariant.taken c.in_ok-fill.ensures.filled c.in_ok-fill.ensures.line in
    let passed = record c.take_part.new.self { ending = ending_after c.fill.new.self.ending c.take_part.new.self.line } in
    whole_over c.from_residual-in_err-count_line.result _ begin (place (g.S.Source.state c.fill.new.source) c.count_line.new.self) c.from_residual-in_err-count_line.ensures.1 over.0
    (over_there begin (place (g.S.Source.state c.fill.new.source) passed) c.count_line.new.self (ap (λ (r : Reading). r.is_ended) over.1)
    (found_over c.take_part.new.self.line begin (place (g.S.Source.state c.fill.new.source) passed) c.take_part.new.self.next
    (ends_found begin filled c.fill.new.self.line cut.0 c.take_part.new.self.line passed takes (rw c.in_ok-fill.ensures.line c.loop-self.invariant.free) cut.1 cut.2 cut.3 kept.0 refl)
    (kept.1 ∙ takes.next) over.2))

pub returns-then-branch-clause-read : goal.returns-then-branch-clause-read
returns-then-branch-clause-read g c =
    let begin = place (g.S.Source.state c.args.source.now) c.args.self.now in
    let before = place (g.S.Source.state c.loop-self.source) c.loop-self.self in
    let filled = place (g.S.Source.state c.fill.new.source) c.fill.new.self in
    let cut = c.in_ok-take_part.ensures.ended c.if-branch.true in
    let kept = c.in_ok-take_part.ensures.kept in
    let counted = c.in_ok-count_line.ensures.counted in
    let ends =
    c.in_ok-count_line.ensures.ending ∙ ap (λ e. ending_after e c.take_part.new.self.line) kept.2 ∙ ap (ending_after c.fill.new.self.ending) (sym counted.given) in
    let takes = takes_same begin before filled c.loop-self.self.line c.loop-self.invariant.taken c.in_ok-fill.ensures.filled c.in_ok-fill.ensures.line in
    first_of begin (place (g.S.Source.state c.fill.new.source) c.count_line.new.self) c.count_line.new.self.line c.in_ok-count_line.field-0
    (ends_found begin filled c.fill.new.self.line cut.0 c.count_line.new.self.line c.count_line.new.self takes (rw c.in_ok-fill.ensures.line c.loop-self.invariant.free)
    (rw counted.held cut.1) cut.2 (counted.given ∙ cut.3) (counted.is_ended ∙ kept.0) ends)
    (counted.counted ∙ kept.1 ∙ takes.next) counted.next (rw counted.given counted.short)

pub loop-self-preserved : goal.loop-self-preserved
loop-self-preserved g c =
    let begin = place (g.S.Source.state c.args.source.now) c.args.self.now in
    let before = place (g.S.Source.state c.loop-self.source) c.loop-self.self in
    let filled = place (g.S.Source.state c.fill.new.source) c.fill.new.self in
    let all = c.in_ok-take_part.ensures.all c.if-branch.false in
    let kept = c.in_ok-take_part.ensures.kept in
    let takes = takes_same begin before filled c.loop-self.self.line c.loop-self.invariant.taken c.in_ok-fill.ensures.filled c.in_ok-fill.ensures.line in
    record {
      taken = takes_held begin filled c.take_part.new.self takes all.0 kept.0 kept.1 kept.2 all.2;
      free = rw all.2 (All-append (λ b. b ≢ 10) c.fill.new.self.line c.fill.new.self.held (rw c.in_ok-fill.ensures.line c.loop-self.invariant.free) all.1);
    }

pub returns-clause-read : goal.returns-clause-read
returns-clause-read g c =
    line_over (place (g.S.Source.state c.args.source.now) c.args.self.now) (place (g.S.Source.state c.loop-self.source) c.loop-self.self) c.loop-self.self.line c.loop-self.self
    c.loop-self.invariant.taken c.loop-self.invariant.free (c.is_short.ensures.over c.loop-self-test.false) refl

pub returns-in_err-fill-clause-goes : goal.returns-in_err-fill-clause-goes
returns-in_err-fill-clause-goes g c =
    on_err c.from_residual.result
    (goes_failed c.loop-self.self.line (place (g.S.Source.state c.args.source.now) c.args.self.now) (place (g.S.Source.state c.loop-self.source) c.loop-self.self)
    (place (g.S.Source.state c.fill.new.source) c.fill.new.self) c.loop-self.invariant.taken c.in_err-fill.ensures.goes c.in_err-fill.ensures.begun.0 c.in_err-fill.ensures.begun.1)

pub returns-then-not-branch-clause-goes : goal.returns-then-not-branch-clause-goes
returns-then-not-branch-clause-goes g c =
    let begin = place (g.S.Source.state c.args.source.now) c.args.self.now in
    let before = place (g.S.Source.state c.loop-self.source) c.loop-self.self in
    let filled = place (g.S.Source.state c.fill.new.source) c.fill.new.self in
    let takes = takes_same begin before filled c.loop-self.self.line c.loop-self.invariant.taken c.in_ok-fill.ensures.filled c.in_ok-fill.ensures.line in
    err_so c.count_last.result (λ still. goes_still _ begin filled (place (g.S.Source.state c.fill.new.source) c.count_last.new.self) takes refl still) c.count_last.ensures.still

pub returns-in_err-take_part-clause-goes : goal.returns-in_err-take_part-clause-goes
returns-in_err-take_part-clause-goes g c =
    let begin = place (g.S.Source.state c.args.source.now) c.args.self.now in
    let before = place (g.S.Source.state c.loop-self.source) c.loop-self.self in
    let filled = place (g.S.Source.state c.fill.new.source) c.fill.new.self in
    let takes = takes_same begin before filled c.loop-self.self.line c.loop-self.invariant.taken c.in_ok-fill.ensures.filled c.in_ok-fill.ensures.line in
    on_err c.from_residual-in_err-take_part.result
    (goes_still _ begin filled (place (g.S.Source.state c.fill.new.source) c.take_part.new.self) takes refl c.in_err-take_part.ensures.still)

pub returns-in_err-count_line-clause-goes : goal.returns-in_err-count_line-clause-goes
returns-in_err-count_line-clause-goes g c =
    let begin = place (g.S.Source.state c.args.source.now) c.args.self.now in
    let before = place (g.S.Source.state c.loop-self.source) c.loop-self.self in
    let filled = place (g.S.Source.state c.fill.new.source) c.fill.new.self in
    let takes = takes_same begin before filled c.loop-self.self.line c.loop-self.invariant.taken c.in_ok-fill.ensures.filled c.in_ok-fill.ensures.line in
    on_err c.from_residual-in_err-count_line.result
    (goes_still _ begin filled (place (g.S.Source.state c.fill.new.source) c.count_line.new.self) takes refl
    (ap (λ (r : Reading). r.is_ended) c.in_err-count_line.ensures.fault.1 ∙ c.in_ok-take_part.ensures.kept.0))

pub returns-clause-goes : goal.returns-clause-goes
returns-clause-goes g c =
    let before = place (g.S.Source.state c.loop-self.source) c.loop-self.self in
    goes_still c.loop-self.self.line (place (g.S.Source.state c.args.source.now) c.args.self.now) before before c.loop-self.invariant.taken refl refl
