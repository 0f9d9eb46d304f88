use Rattle.gn_io.specs.Streams.{streams}
use Rattle.gn_replay.specs.Faults.{of_input, of_refusal}
use Rattle.gn_load.specs.declared.fault.LoadFault.TheVariants.{Text}
use Rattle.gn_load.specs.Loads.{load_of}
use Rattle.gn_load.proofs.JournalledLoadLemmas.{known_fault, known_short, known_stopped, known_unfailed, known_valid, known_written, refused_at, unread_at}
use Rattle.gn_load.proofs.LoadLemmas.{on_err, refused_text, unloaded, unread}
use Rattle.gn_load.proofs.journalled_load.load_journalled.Goals as goal
use Rattle.std.specs.declared.alloc.Global.{Global}

pub returns-in_err-text-clause-stopped : goal.returns-in_err-text-clause-stopped
returns-in_err-text-clause-stopped g c =
    on_err c.from_residual.result (Text (of_input c.in_err-text.field-0.0)) _ c.from_residual.ensures.1
    (unread_at c.in_err-text.field-0.0 _ (g.W.Sink.state c.args.sink.now).written)

pub returns-in_err-text-clause-fault : goal.returns-in_err-text-clause-fault
returns-in_err-text-clause-fault g c =
    on_err c.from_residual.result (Text (of_input c.in_err-text.field-0.0)) _ c.from_residual.ensures.1
    (unread c.args.loading.now.workers c.in_err-text.field-0.0 (load_of Global) _ c.in_err-text.ensures.fault)

pub returns-in_err-config-clause-stopped : goal.returns-in_err-config-clause-stopped
returns-in_err-config-clause-stopped g c =
    on_err c.from_residual-in_err-config.result (Text (of_refusal c.in_err-config.field-0.0)) _ c.from_residual-in_err-config.ensures.1
    (refused_at c.in_err-config.field-0.0 _ (g.W.Sink.state c.args.sink.now).written)

pub returns-in_err-config-clause-fault : goal.returns-in_err-config-clause-fault
returns-in_err-config-clause-fault g c =
    on_err c.from_residual-in_err-config.result (Text (of_refusal c.in_err-config.field-0.0)) _ c.from_residual-in_err-config.ensures.1
    (unloaded c.args.loading.now.workers (Text (of_refusal c.in_err-config.field-0.0)) c.in_ok-text.text.items (load_of Global) _ c.in_ok-text.ensures.all c.in_ok-text.ensures.short
    (refused_text c.args.loading.now.workers c.in_err-config.field-0.0 (load_of Global c.in_ok-text.text.items) c.in_err-config.ensures.read))

pub returns-clause-short : goal.returns-clause-short
returns-clause-short g c =
    let k = streams (g.S.Source.state c.args.source.now) (g.S.Source.state c.read_input.new.source) (g.W.Sink.state c.args.sink.now) (g.W.Sink.state c.write_load.new.sink) in
    known_short c.args.loading.now.batch c.in_ok-config.config c.in_ok-config.links.items c.args.loading.now.workers k c.in_ok-text.text.items c.in_ok-config.ensures.read c.in_ok-text.ensures.all c.in_ok-text.ensures.short
    c.write_load.result c.write_load.ensures

pub returns-clause-valid : goal.returns-clause-valid
returns-clause-valid g c =
    let k = streams (g.S.Source.state c.args.source.now) (g.S.Source.state c.read_input.new.source) (g.W.Sink.state c.args.sink.now) (g.W.Sink.state c.write_load.new.sink) in
    known_valid c.args.loading.now.batch c.in_ok-config.config c.in_ok-config.links.items c.args.loading.now.workers k c.in_ok-text.text.items c.in_ok-config.ensures.read c.in_ok-text.ensures.all c.in_ok-text.ensures.short
    c.write_load.result c.write_load.ensures

pub returns-clause-written : goal.returns-clause-written
returns-clause-written g c =
    let k = streams (g.S.Source.state c.args.source.now) (g.S.Source.state c.read_input.new.source) (g.W.Sink.state c.args.sink.now) (g.W.Sink.state c.write_load.new.sink) in
    known_written c.args.loading.now.batch c.in_ok-config.config c.in_ok-config.links.items c.args.loading.now.workers k c.in_ok-text.text.items c.in_ok-config.ensures.read c.in_ok-text.ensures.all c.in_ok-text.ensures.short
    c.write_load.result c.write_load.ensures

pub returns-clause-unfailed : goal.returns-clause-unfailed
returns-clause-unfailed g c =
    let k = streams (g.S.Source.state c.args.source.now) (g.S.Source.state c.read_input.new.source) (g.W.Sink.state c.args.sink.now) (g.W.Sink.state c.write_load.new.sink) in
    known_unfailed c.args.loading.now.batch c.in_ok-config.config c.in_ok-config.links.items c.args.loading.now.workers k c.in_ok-text.text.items c.in_ok-config.ensures.read c.in_ok-text.ensures.all c.in_ok-text.ensures.short
    c.write_load.result c.write_load.ensures c.in_ok-text.ensures.unfailed

pub returns-clause-stopped : goal.returns-clause-stopped
returns-clause-stopped g c =
    let k = streams (g.S.Source.state c.args.source.now) (g.S.Source.state c.read_input.new.source) (g.W.Sink.state c.args.sink.now) (g.W.Sink.state c.write_load.new.sink) in
    known_stopped c.args.loading.now.batch c.in_ok-config.config c.in_ok-config.links.items c.args.loading.now.workers k c.in_ok-text.text.items c.in_ok-config.ensures.read c.in_ok-text.ensures.all c.in_ok-text.ensures.short
    c.write_load.result c.write_load.ensures

pub returns-clause-fault : goal.returns-clause-fault
returns-clause-fault g c =
    let k = streams (g.S.Source.state c.args.source.now) (g.S.Source.state c.read_input.new.source) (g.W.Sink.state c.args.sink.now) (g.W.Sink.state c.write_load.new.sink) in
    known_fault c.args.loading.now.batch c.in_ok-config.config c.in_ok-config.links.items c.args.loading.now.workers k c.in_ok-text.text.items c.in_ok-config.ensures.read c.in_ok-text.ensures.all c.in_ok-text.ensures.short
    c.write_load.result c.write_load.ensures
