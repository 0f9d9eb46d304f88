use Rattle.std.proofs.Common.{inr, subst, None}
use Rattle.std.specs.Io.KnownBytes.{Appends}
use Rattle.gn_capture.specs.Histories.{history_text}
use Rattle.gn_printed.specs.Printed.{IsPrintFault}
use Rattle.gn_load.specs.Served.{AppendsServedPart}
use Rattle.gn_load.proofs.ServedLemmas.{is_full, kept_written, memory_is_other, run_is, write_is_other, written, written_part}
use Rattle.gn_load.proofs.served.serve_history_kept.Goals as goal

pub returns-in-Ok-print_history : goal.returns-in-Ok-print_history
returns-in-Ok-print_history g c =
    let serve = c.args.serve.now in
    let ran = c.in-Ok.ensures in
    let run = ran.served.answered.run in
    let old = (g.W.Sink.state c.args.sink.now).written in
    let new = (g.W.Sink.state c.print_history.new.sink).written in
    record {
      crew = run.crew;
      bad_workers = tt;
      fault = tt;
      ran = ran.ran;
      written = written serve.batch serve.config.now serve.peers.now serve.accept serve.workers c.in-Ok.done.0 c.in-Ok.done.1 ran.ran run.holds run.made ran.served.one_socket c.deref.result.now old new c.deref.ensures.value c.in-Ok-print_history.ensures.ok;
      report = subst (λ steps. Appends old new (history_text serve.config.now steps)) c.deref.ensures.value c.in-Ok-print_history.ensures.ok;
      unfailed = c.in-Ok-print_history.ensures.unfailed;
      holds = run.holds;
      made = run.made;
      one_socket = ran.served.one_socket;
      stopped = tt;
      kept = tt;
      full = tt;
    }

pub returns-in-Err : goal.returns-in-Err
returns-in-Err g c =
    let serve = c.args.serve.now in
    let answered = c.in-Err.ensures.served.answered in
    record {
      crew = tt;
      bad_workers = run_is c.in-Err.stopped.fault _ answered.run.bad_workers;
      fault = answered.run.fault;
      ran = tt;
      written = tt;
      report = tt;
      unfailed = tt;
      holds = tt;
      made = tt;
      one_socket = tt;
      stopped =
          kept_written g.row.A.Denot (AppendsServedPart g.row.A.Denot serve.batch serve.config.now serve.peers.now serve.accept serve.workers None) serve.limits.is_kept serve.config.now c.in-Err.stopped.fault
          (g.W.Sink.state c.args.sink.now).written (g.W.Sink.state c.print_kept.new.sink).written c.print_kept.ensures.kept;
      kept = answered.kept;
      full = λ is. answered.full (is_full is);
    }

pub returns-in-Err-Write : goal.returns-in-Err-Write
returns-in-Err-Write g c =
    let serve = c.args.serve.now in
    let ran = c.in-Ok.ensures in
    let run = ran.served.answered.run in
    let old = g.W.Sink.state c.args.sink.now in
    let new = g.W.Sink.state c.print_history.new.sink in
    record {
      crew = tt;
      bad_workers = write_is_other serve.workers run.crew;
      fault = λ crew. subst (λ fault. IsPrintFault fault old new) c.in-Err-Write.field-0-is c.in-Err-Write.ensures.cause;
      ran = tt;
      written = tt;
      report = tt;
      unfailed = tt;
      holds = tt;
      made = tt;
      one_socket = tt;
      stopped =
          written_part serve.batch serve.config.now serve.peers.now serve.accept serve.workers c.in-Ok.done.0 c.in-Ok.done.1 ran.ran run.holds run.made ran.served.one_socket c.deref.result.now old.written new.written c.deref.ensures.value c.in-Err-Write.ensures.err;
      kept = run.holds.legal;
      full = λ is. absurd (cc);
    }

pub returns : goal.returns
returns g c =
    let serve = c.args.serve.now in
    let ran = c.in-Ok.ensures in
    let run = ran.served.answered.run in
    let old = (g.W.Sink.state c.args.sink.now).written in
    let new = (g.W.Sink.state c.print_history.new.sink).written in
    record {
      crew = tt;
      bad_workers = memory_is_other serve.workers run.crew;
      fault = λ crew. tt;
      ran = tt;
      written = tt;
      report = tt;
      unfailed = tt;
      holds = tt;
      made = tt;
      one_socket = tt;
      stopped = inr (written_part serve.batch serve.config.now serve.peers.now serve.accept serve.workers c.in-Ok.done.0 c.in-Ok.done.1 ran.ran run.holds run.made ran.served.one_socket c.deref.result.now old new c.deref.ensures.value c.in-Err-NoMemory.ensures.err);
      kept = run.holds.legal;
      full = λ is. absurd (cc);
    }
