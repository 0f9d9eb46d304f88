use Rattle.std.proofs.Common.{refl, ◌∙◌}
use Rattle.rtrb.specs.Ring.{sent}
use Rattle.gn_scribe.proofs.EndLemmas.{ended_all, ended_cut, handed_end}
use Rattle.gn_scribe.proofs.scribe.Scribe.end.Goals as goal

pub returns-in_err-write_known : goal.returns-in_err-write_known
returns-in_err-write_known g c =
    let looked = c.slots_beside-count.ensures in
    let old = g.W.Sink.state c.args.sink.now in
    let new = g.W.Sink.state c.write_known.new.sink in
    handed_end c.args.self (sent c.args.producer.now) old new c.args.written c.from_residual-in_err-write_known.result c.in_err-write_known.field-0.0
    c.from_residual-in_err-write_known.ensures.1
    (ended_cut c.args.self _ (sent c.args.producer.now) (record { same = looked.looked.0; taken = looked.looked.1; block = refl; begun = refl; all = looked.fifo ∙ looked.producer.1 })
    c.write_known.new.self old new c.args.written c.in_ok-written.field-0 c.in_ok-written.was c.in_err-write_known.field-0.0 c.in_err-write_known.ensures.err c.write_known.ensures.ahead c.in_err-write_known.ensures.cause)

pub returns : goal.returns
returns g c =
    let looked = c.slots_beside-count.ensures in
    let old = g.W.Sink.state c.args.sink.now in
    let new = g.W.Sink.state c.write_known.new.sink in
    ended_all c.args.self _ (sent c.args.producer.now) (record { same = looked.looked.0; taken = looked.looked.1; block = refl; begun = refl; all = looked.fifo ∙ looked.producer.1 })
    c.write_known.new.self old new c.args.written c.in_ok-written.field-0 c.in_ok-written.was _ c.in_ok-write_known.ensures.ok c.in_ok-write_known.ensures.all c.write_known.ensures.ahead refl refl
