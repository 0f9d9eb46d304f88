use Rattle.std.proofs.Common.{Bool, List, Option, is_some, subst, ℕ, Global}
use Rattle.std.specs.declared.net.socket_addr.SocketAddr.{SocketAddr}
use Rattle.gn_load.specs.Any.{IsJournalledTaken}
use Rattle.gn_program.specs.Limits.{goes_on}
use Rattle.gn_program.specs.Serve.{AskedServe}
use Rattle.gn_program.proofs.serves.run_prepared.Goals as goal

pub returns : goal.returns
returns g c =
    let ran = c.run_on.ensures in
    let s = c.args.serving.now in
    let taking = c.taking.result in
    let J = λ (again pings : Bool) (batch : ℕ) (called : List SocketAddr) (accept : Option ℕ) (workers : ℕ).
    IsJournalledTaken {A = Global} (goes_on s) again pings batch c.args.prepared.now.config called accept workers (g.W.Sink.state c.args.writer.now) ran.0 c.run_on.result in (
      ran.0,
      ran.1,
      subst (λ (again : Bool). J again (is_some s.ping) s.batch c.args.prepared.now.peers.items s.accept s.workers) c.taking.ensures.again
          (subst (λ (pings : Bool). J taking.again pings s.batch c.args.prepared.now.peers.items s.accept s.workers) c.taking.ensures.pings
          (subst (λ (accept : Option ℕ). J taking.again (is_some taking.pings) s.batch c.args.prepared.now.peers.items accept s.workers) c.taking.ensures.accept
          (subst (λ (called : List SocketAddr). J taking.again (is_some taking.pings) s.batch called taking.accept s.workers) c.deref.ensures.value
          (subst (λ (a : AskedServe). J taking.again (is_some taking.pings) a.batch c.deref.result.now taking.accept a.workers) c.serving.view_is
          (subst (λ (n : ℕ). J taking.again (is_some taking.pings) n c.deref.result.now taking.accept c.serving.inside.workers) c.batch_of.ensures ran.2))))),
    )
