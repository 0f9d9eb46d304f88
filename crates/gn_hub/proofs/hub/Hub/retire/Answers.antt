use Rattle.std.proofs.Common.{◌≡◌, ◌∙◌, false, reverse, subst, sym}
use Rattle.gn_rules.specs.History.{live}
use Rattle.gn_actors.specs.Annals.{Fits}
use Rattle.gn_hub.proofs.hub.Hub.retire.Goals as goal

pub returns-clause-retired : goal.returns-clause-retired
returns-clause-retired g c = record {
  read = c.take_home-read.ensures.receipts;
  written = c.take_home-written.ensures.receipts;
  fits = subst (λ h. Fits h.steps c.args.link.reader) (sym (c.recall_told.ensures.same ∙ c.take_home-written.ensures.same)) c.take_home-read.ensures.fits;
  few = (c.take_home-read.ensures.few, c.take_home-written.ensures.few);
  gone = λ gone n is. subst (λ h. live (reverse h.steps) n ≡ false) (sym c.recall_told.ensures.same) (c.is_gone.ensures gone n is);
  same = c.recall_told.ensures.at;
  idle_then = c.recall_told.ensures.idle;
}
