use Rattle.std.proofs.Common.{◌∙◌, arith, refl, subst, sym}
use Rattle.std.specs.Prelude.{ℕ, List}
use Rattle.std.specs.declared.alloc.Global.{Global}
use Rattle.gn_stream.specs.Entries.{IsEntry, IsOver}
use Rattle.gn_stream.specs.Reading.{Passes, place}
use Rattle.gn_stream.proofs.EntryLemmas.{goes_passed}
use Rattle.gn_show.specs.declared.showing.Showing.{Showing}
use Rattle.gn_show.specs.Showing.{AreShownOn, IsShowing}
use Rattle.gn_show.proofs.ShowLemmas.{fails_then}
use Rattle.gn_show.proofs.ShowingLemmas.{entry_grows, lines_failed, lines_unshown, lines_unwritten, showing_none, shown_all, shown_cut, shown_on, shown_then, shown_written, writes_kept, writes_lost}
use Rattle.gn_show.proofs.showing.Showing.show_lines.Goals as goal

pub loop-entry-init : goal.loop-entry-init
loop-entry-init g c =
    record {
      showing = showing_none c.args.form (g.W.Sink.state c.args.sink.now).written c.args.self.now (place (g.S.Source.state c.args.source.now) c.args.lines.now) c.requires;
      writes = (refl, refl);
    }

pub returns-in_err-entry-clause-fault : goal.returns-in_err-entry-clause-fault
returns-in_err-entry-clause-fault g c =
    let a = place (g.S.Source.state c.args.source.now) c.args.lines.now in
    let b = place (g.S.Source.state c.loop-entry.source) c.loop-entry.lines in
    let n = place (g.S.Source.state c.next_entry.new.source) c.next_entry.new.lines in
    let first = g.W.Sink.state c.args.sink.now in
    let here = g.W.Sink.state c.loop-entry.sink in
    lines_failed c.args.form first here c.loop-entry.self c.next_entry.new.due a b n c.from_residual.result _ c.from_residual.ensures.1 c.loop-entry.invariant.showing c.in_err-entry.ensures.read

pub returns-in_err-entry-clause-part : goal.returns-in_err-entry-clause-part
returns-in_err-entry-clause-part g c =
    let a = place (g.S.Source.state c.args.source.now) c.args.lines.now in
    let b = place (g.S.Source.state c.loop-entry.source) c.loop-entry.lines in
    let n = place (g.S.Source.state c.next_entry.new.source) c.next_entry.new.lines in
    let first = g.W.Sink.state c.args.sink.now in
    let here = g.W.Sink.state c.loop-entry.sink in
    shown_on c.args.form first.written here.written c.loop-entry.self a b n c.loop-entry.invariant.showing c.in_err-entry.ensures.goes

pub returns-in_err-entry-clause-writes : goal.returns-in_err-entry-clause-writes
returns-in_err-entry-clause-writes g c =
    writes_kept (g.W.Sink.state c.args.sink.now) (g.W.Sink.state c.loop-entry.sink) c.from_residual.result c.loop-entry.invariant.writes

pub returns-in_err-show_entry-clause-fault : goal.returns-in_err-show_entry-clause-fault
returns-in_err-show_entry-clause-fault g c =
    let a = place (g.S.Source.state c.args.source.now) c.args.lines.now in
    let b = place (g.S.Source.state c.loop-entry.source) c.loop-entry.lines in
    let n = place (g.S.Source.state c.next_entry.new.source) c.next_entry.new.lines in
    let first = g.W.Sink.state c.args.sink.now in
    let here = g.W.Sink.state c.loop-entry.sink in
    lines_unshown c.args.form first here c.show_entry.new.self.block a n c.from_residual-in_err-show_entry.result c.from_residual-in_err-show_entry.ensures.1

pub returns-in_err-show_entry-clause-part : goal.returns-in_err-show_entry-clause-part
returns-in_err-show_entry-clause-part g c =
    let a = place (g.S.Source.state c.args.source.now) c.args.lines.now in
    let b = place (g.S.Source.state c.loop-entry.source) c.loop-entry.lines in
    let n = place (g.S.Source.state c.next_entry.new.source) c.next_entry.new.lines in
    let first = g.W.Sink.state c.args.sink.now in
    let here = g.W.Sink.state c.loop-entry.sink in
    let line = c.next_entry.new.lines.line in
    let said = rw c.in-Some.is at c.in_ok-entry.ensures.read in
    subst (λ (waiting : List ℕ). AreShownOn c.args.form first.written here.written waiting a n) (sym c.in_err-show_entry.ensures.err)
    (shown_on c.args.form first.written here.written c.loop-entry.self a b n c.loop-entry.invariant.showing (goes_passed (IsEntry line c.in-Some.entry c.loop-entry.self.due c.next_entry.new.due) b n said))

pub returns-in_err-show_entry-clause-writes : goal.returns-in_err-show_entry-clause-writes
returns-in_err-show_entry-clause-writes g c =
    writes_kept (g.W.Sink.state c.args.sink.now) (g.W.Sink.state c.loop-entry.sink) c.from_residual-in_err-show_entry.result c.loop-entry.invariant.writes

pub returns-in_err-write_due-clause-fault : goal.returns-in_err-write_due-clause-fault
returns-in_err-write_due-clause-fault g c =
    let a = place (g.S.Source.state c.args.source.now) c.args.lines.now in
    let b = place (g.S.Source.state c.loop-entry.source) c.loop-entry.lines in
    let n = place (g.S.Source.state c.next_entry.new.source) c.next_entry.new.lines in
    let first = g.W.Sink.state c.args.sink.now in
    let here = g.W.Sink.state c.loop-entry.sink in
    let newest = g.W.Sink.state c.write_due.new.sink in
    lines_unwritten c.args.form first newest c.write_due.new.self.block a n c.from_residual-in_err-write_due.result c.from_residual-in_err-write_due.ensures.1
    (fails_then first here newest c.loop-entry.invariant.writes c.in_err-write_due.ensures.cause)

pub returns-in_err-write_due-clause-part : goal.returns-in_err-write_due-clause-part
returns-in_err-write_due-clause-part g c =
    let a = place (g.S.Source.state c.args.source.now) c.args.lines.now in
    let b = place (g.S.Source.state c.loop-entry.source) c.loop-entry.lines in
    let n = place (g.S.Source.state c.next_entry.new.source) c.next_entry.new.lines in
    let first = g.W.Sink.state c.args.sink.now in
    let here = g.W.Sink.state c.loop-entry.sink in
    let line = c.next_entry.new.lines.line in
    let said = rw c.in-Some.is at c.in_ok-entry.ensures.read in
    let on = rw c.line.ensures at c.in_ok-show_entry.ensures.ok in
    let shown = shown_then c.args.form first.written here.written c.show_entry.new.self c.loop-entry.self.due (record c.loop-entry.self { due = c.next_entry.new.due }) line c.in-Some.entry a b n on c.loop-entry.invariant.showing said in
    let newest = g.W.Sink.state c.write_due.new.sink in
    subst (λ (waiting : List ℕ). AreShownOn c.args.form first.written newest.written waiting a n) (sym c.in_err-write_due.ensures.empty)
    (shown_cut c.args.form first.written here.written c.show_entry.new.self newest.written a n c.in_err-write_due.ensures.err shown)

pub returns-in_err-write_due-clause-writes : goal.returns-in_err-write_due-clause-writes
returns-in_err-write_due-clause-writes g c =
    writes_lost (g.W.Sink.state c.args.sink.now) (g.W.Sink.state c.write_due.new.sink) c.from_residual-in_err-write_due.result c.from_residual-in_err-write_due.ensures.1

pub loop-entry-smaller : goal.loop-entry-smaller
loop-entry-smaller g c =
    let a = place (g.S.Source.state c.args.source.now) c.args.lines.now in
    let b = place (g.S.Source.state c.loop-entry.source) c.loop-entry.lines in
    let n = place (g.S.Source.state c.next_entry.new.source) c.next_entry.new.lines in
    let first = g.W.Sink.state c.args.sink.now in
    let here = g.W.Sink.state c.loop-entry.sink in
    let line = c.next_entry.new.lines.line in
    let said = rw c.in-Some.is at c.in_ok-entry.ensures.read in
    omega (arith, entry_grows line c.in-Some.entry c.loop-entry.self.due c.next_entry.new.due b n said, (rw c.in-Some.is at c.in_ok-entry.ensures.numbered))

pub loop-entry-preserved : goal.loop-entry-preserved
loop-entry-preserved g c =
    let a = place (g.S.Source.state c.args.source.now) c.args.lines.now in
    let b = place (g.S.Source.state c.loop-entry.source) c.loop-entry.lines in
    let n = place (g.S.Source.state c.next_entry.new.source) c.next_entry.new.lines in
    let first = g.W.Sink.state c.args.sink.now in
    let here = g.W.Sink.state c.loop-entry.sink in
    let line = c.next_entry.new.lines.line in
    let said = rw c.in-Some.is at c.in_ok-entry.ensures.read in
    let on = rw c.line.ensures at c.in_ok-show_entry.ensures.ok in
    let shown = shown_then c.args.form first.written here.written c.show_entry.new.self c.loop-entry.self.due (record c.loop-entry.self { due = c.next_entry.new.due }) line c.in-Some.entry a b n on c.loop-entry.invariant.showing said in
    let newest = g.W.Sink.state c.write_due.new.sink in
    record {
      showing =
          subst (λ (s : Showing). Passes (IsShowing c.args.form first.written newest.written s) a n) (sym c.in_ok-write_due.ensures.kept)
          (shown_written c.args.form first.written here.written c.show_entry.new.self newest.written c.write_due.new.self.block a n c.in_ok-write_due.ensures.ok shown);
      writes =
          (c.in_ok-write_due.ensures.unfailed.0 ∙ c.loop-entry.invariant.writes.0, c.in_ok-write_due.ensures.unfailed.1 ∙ c.loop-entry.invariant.writes.1);
    }

pub returns-clause-shown : goal.returns-clause-shown
returns-clause-shown g c =
    let a = place (g.S.Source.state c.args.source.now) c.args.lines.now in
    let b = place (g.S.Source.state c.loop-entry.source) c.loop-entry.lines in
    let n = place (g.S.Source.state c.next_entry.new.source) c.next_entry.new.lines in
    let first = g.W.Sink.state c.args.sink.now in
    let here = g.W.Sink.state c.loop-entry.sink in
    shown_all c.args.form first.written here.written c.loop-entry.self a b n c.loop-entry.invariant.showing (rw c.in_default.is at c.in_ok-entry.ensures.read)

pub returns-clause-part : goal.returns-clause-part
returns-clause-part g c =
    let a = place (g.S.Source.state c.args.source.now) c.args.lines.now in
    let b = place (g.S.Source.state c.loop-entry.source) c.loop-entry.lines in
    let n = place (g.S.Source.state c.next_entry.new.source) c.next_entry.new.lines in
    let first = g.W.Sink.state c.args.sink.now in
    let here = g.W.Sink.state c.loop-entry.sink in
    let none = rw c.in_default.is at c.in_ok-entry.ensures.read in
    shown_on c.args.form first.written here.written c.loop-entry.self a b n c.loop-entry.invariant.showing (goes_passed (IsOver Global c.loop-entry.self.due) b n none)

pub returns-clause-writes : goal.returns-clause-writes
returns-clause-writes g c = c.loop-entry.invariant.writes
