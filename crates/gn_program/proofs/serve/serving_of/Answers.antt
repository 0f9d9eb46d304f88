use Rattle.std.proofs.Common.{arith, codes}
use Rattle.clap.specs.Words.{found_of, rows_of}
use Rattle.gn_rules.specs.Limits.{most_workers}
use Rattle.gn_words.proofs.OptionLemmas.{accept_within, asked_within, few_links}
use Rattle.gn_program.proofs.serve.serving_of.Goals as goal

pub invariant_of-result : goal.invariant_of-result
invariant_of-result c =
    let rows = rows_of (found_of c.args.options.now) in
    let crew = asked_within (codes "workers") 1 most_workers c.in_ok-workers.workers rows c.in_ok-workers.ensures in
    let many = asked_within (codes "batch") 1 1024 c.in_ok-batch.batch rows c.in_ok-batch.ensures in
    let may = accept_within c.in_ok-accept.accept rows c.in_ok-accept.ensures in (
      record { least = crew.0; greatest = crew.1 },
      few_links _ _ may c.in_ok-peers.ensures.few,
      many.0,
      c.in_ok-numbers.ensures.within,
    )

pub overflow_cast-result : goal.overflow_cast-result
overflow_cast-result c =
    let within = asked_within (codes "port") 1 65535 c.in_ok-port.port (rows_of (found_of c.args.options.now)) c.in_ok-port.ensures in
    omega (arith, within.1)
