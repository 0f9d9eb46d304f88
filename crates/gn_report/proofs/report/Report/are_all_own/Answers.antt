use Rattle.std.proofs.Common.{◌≡◌, ◌+◌, [], get_or, rules, below_more}
use Rattle.gn_laws.specs.Owners.{AreFitting}
use Rattle.gn_actors.specs.declared.who.Who.TheVariants.{House}
use Rattle.gn_report.specs.Actors.{number_in, receipts_of}
use Rattle.gn_report.proofs.ReceiptLemmas.{all_own, sum_on}
use Rattle.gn_report.proofs.report.Report.are_all_own.Goals as goal

pub loop-actor-preserved : goal.loop-actor-preserved
loop-actor-preserved g c = record {
  fits = below_more (λ a. AreFitting c.args.self.now.history.items a (get_or (receipts_of c.args.self.now) a [])) c.loop-actor.actor c.loop-actor.invariant.fits
      (simp (c.as_slice.ensures.value, c.receipts_of-own.ensures) at (c.are_fitting.ensures.0 (search rules)));
  sum = sum_on c.args.self.now c.loop-actor.actor c.loop-actor.left _ (search rules) (search rules) c.loop-actor.invariant.sum;
}

pub returns : goal.returns
returns g c = λ e.
    let at : c.loop-actor.actor ≡ number_in c.args.self.now House + 1 = search rules in
    all_own c.args.self.now c.loop-actor.actor at c.loop-actor.invariant.fits (search rules)
