use Rattle.std.proofs.Common.{subst, sym}
use Rattle.gn_rules.specs.Limits.{IsCrew}
use Rattle.gn_program.specs.Serve.{AskedServe}
use Rattle.gn_program.specs.Serves.{IsServeAnswer, IsServing}
use Rattle.gn_program.specs.declared.serves.Served.{Served}
use Rattle.gn_program.proofs.ServeLemmas.{ended, unserved, written_itself}
use Rattle.gn_program.proofs.serves.serve.Goals as goal

pub returns-in-Err : goal.returns-in-Err
returns-in-Err g c = (
  g.W.Sink.state c.args.writer.now,
  written_itself _ _ (g.W.Sink.state c.args.writer.now),
  unserved c.args.serving.now c.settings-config.result (g.W.Sink.state c.args.writer.now) c.in-Err.fault c.settings-config.ensures c.in-Err.ensures.fault,
)

pub returns : goal.returns
returns g c =
    let ran = c.run_prepared-answer.ensures in
    let serving = c.args.serving.now in
    let prepared = c.in-Ok.prepared in
    let configured : IsServing serving prepared.config = subst (IsServing serving) (sym c.in-Ok.ensures.config) c.settings-config.ensures in
    let crew : IsCrew serving.workers = subst (λ (s : AskedServe). IsCrew s.workers) c.serving.view_is c.serving.invariant.0 in (
      ran.0,
      ran.1,
      subst (λ (served : Served). IsServeAnswer serving (g.W.Sink.state c.args.writer.now) ran.0 served.answer served.ran) (sym c.ended.ensures)
          (ended serving prepared.config prepared.peers.items (g.W.Sink.state c.args.writer.now) ran.0 c.run_prepared-answer.result configured c.in-Ok.ensures.peers crew ran.2),
    )
