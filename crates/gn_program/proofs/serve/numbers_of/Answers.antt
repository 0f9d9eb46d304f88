use Rattle.std.proofs.Common.{◌≤◌, ℕ, codes}
use Rattle.clap.specs.Words.{found_of, rows_of}
use Rattle.gn_rules.specs.Limits.{IsWithin, most}
use Rattle.gn_words.proofs.OptionLemmas.{asked_within}
use Rattle.gn_program.proofs.serve.numbers_of.Goals as goal

-- both bounds are a record
within : (limit n : ℕ) → (1 ≤ n) × (n ≤ limit) → IsWithin n limit
within limit n both = record { least = both.0; greatest = both.1 }

pub returns-clause-within : goal.returns-clause-within
returns-clause-within c =
    let rows = rows_of (found_of c.args.options.now) in
    record {
      neighbours = within _ _ (asked_within (codes "neighbours") 1 most.neighbours c.in_ok-neighbours.neighbours rows c.in_ok-neighbours.ensures);
      seen = within _ _ (asked_within (codes "remembered") 1 most.seen c.in_ok-seen.seen rows c.in_ok-seen.ensures);
      servents = within _ _ (asked_within (codes "servents") 1 most.servents c.in_ok-servents.servents rows c.in_ok-servents.ensures);
      stage = within _ _ (asked_within (codes "stage") 1 most.stage c.in_ok-stage.stage rows c.in_ok-stage.ensures);
      out = within _ _ (asked_within (codes "queue") 1 most.out c.in_ok-out.out rows c.in_ok-out.ensures);
      steps = within _ _ (asked_within (codes "steps") 1 most.steps c.in_ok-steps.steps rows c.in_ok-steps.ensures);
      life = (asked_within (codes "life") 0 most.life c.in_ok-life.life rows c.in_ok-life.ensures).1;
      crowd = (asked_within (codes "crowd") 0 most.crowd c.in_ok-crowd.crowd rows c.in_ok-crowd.ensures).1;
    }
