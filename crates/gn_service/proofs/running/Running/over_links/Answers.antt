use denote.Param.Send.{sendable}
use Rattle.std.proofs.Common.{◌+◌, ◌∙◌, true, ap, arith, length, subst, rules}
use Rattle.std.specs.Prelude.{IfErr, IfOk, IfSome}
use Rattle.std.proofs.Crossing.{crosses}
use Rattle.std.proofs.CrossingOver as over
use Rattle.std.proofs.lemmas.Result.{IfOk-weaker}
use Rattle.gn_rules.specs.Limits.{IsCrew}
use Rattle.gn_report.specs.Accounts.{report_of}
use Rattle.gn_sockets.specs.TcpHalves.{half_read, half_written}
use Rattle.gn_threads.specs.Courses.{AreTallies}
use Rattle.gn_start.specs.Faults.{IsArrivingFault}
use Rattle.gn_threads.specs.Headline.{AreMadeOf, Holds}
use Rattle.gn_service.proofs.RoleLemmas.{all_of, socket_of_one}
use Rattle.gn_service.proofs.TallyLemmas.{many_roles}
use Rattle.gn_service.proofs.running.Running.over_links.Goals as goal

pub run_arriving_by-requires-send-V-Reader : goal.run_arriving_by-requires-send-V-Reader
run_arriving_by-requires-send-V-Reader g c κs within = search (sendable, over.crosses, crosses) depth 60 fits 100000

pub returns-clause-served : goal.returns-clause-served
returns-clause-served g c =
    let me = c.args.self.serve.now in
    let links = length me.peers.now + me.accept in
    let answer = c.run_arriving_by.result.0 in
    let given = c.run_arriving_by.ensures.answer in
    let many = ap length c.roles_of-all.ensures ∙ many_roles (length me.peers.now) links (omega arith) in
    record {
      served = record {
        answered = record {
          run = record {
            crew = given.run.crew;
            bad_workers = given.run.bad_workers;
            fault = subst (λ n. IfErr answer (λ halted. IsCrew me.workers → IsArrivingFault true n me.workers halted.fault)) many given.run.fault;
            holds = subst (λ roles. IfOk answer (λ account. Holds me.batch half_read half_written me.config.now roles me.workers (report_of account))) c.roles_of-all.ensures given.run.holds;
            made = subst (λ made. IfOk answer (λ account. AreMadeOf (λ half. half.origin) (λ half. half.origin) made (report_of account))) (all_of me.peers.now _ _ links (search rules) (search rules)) given.run.made;
          };
          kept = given.kept;
          full = given.full;
        };
        one_socket = IfOk-weaker answer _ _ (λ account arrived. socket_of_one (report_of account) arrived.one) c.run_arriving_by.ensures.arrived;
      };
      tallied = subst (λ n. IfErr answer (λ halted. IfSome halted.history (λ history. IfSome halted.links (λ tallies. AreTallies history.items n tallies.items)))) many c.run_arriving_by.ensures.tallied;
    }
