use Rattle.std.proofs.Common.{refl}
use Rattle.gn_replay.proofs.PrintedLemmas.{printed_stopped, printed_written}
use Rattle.gn_replay.proofs.ReplayLemmas.{counted}
use Rattle.gn_replay.proofs.replays.replay_text.Goals as goal

pub returns-in_err-replayed-clause-stopped : goal.returns-in_err-replayed-clause-stopped
returns-in_err-replayed-clause-stopped g c =
    let read = rw c.deref.ensures.value at c.in_ok-capture.ensures.read in
    printed_stopped c.args.form c.from_residual-in_err-replayed.result c.in_err-replayed.field-0.0 c.args.text.items c.in_ok-capture.capture _ _ _ _ c.requires
    c.from_residual-in_err-replayed.ensures.1 c.in_err-replayed.ensures.cause read c.in_err-replayed.ensures.err

pub returns-clause-written : goal.returns-clause-written
returns-clause-written g c =
    let read = rw c.deref.ensures.value at c.in_ok-capture.ensures.read in
    printed_written c.args.form c.args.text.items c.in_ok-capture.capture _ _ _ _ read c.in_ok-replayed.ensures.played

pub returns-clause-counted : goal.returns-clause-counted
returns-clause-counted g c =
    let read = rw c.deref.ensures.value at c.in_ok-capture.ensures.read in
    counted c.args.text.items c.in_ok-capture.capture _ _ _ read c.in_ok-replayed.ensures.played.past c.in_ok-replayed.ensures.played.refusals c.step_count.ensures refl
