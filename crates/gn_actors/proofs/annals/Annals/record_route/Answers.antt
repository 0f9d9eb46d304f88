use Rattle.std.proofs.Common.{◌++◌, ◌∷◌, ◌∙◌, [], ap, arith, length, refl, sym, subst}
use Rattle.std.proofs.lemmas.List.{length_push}
use Rattle.gn_rules.specs.declared.event.Event.TheVariants.{Route}
use Rattle.gn_rules.specs.History.{step_of}
use Rattle.gn_laws.specs.Owners.{AreFitting}
use Rattle.gn_actors.specs.ActorState.{receipt}
use Rattle.gn_actors.specs.Annals.{last_receipt}
use Rattle.gn_actors.specs.Tallies.{last_place, tally_of}
use Rattle.gn_actors.proofs.FitLemmas.{fit_recorded}
use Rattle.gn_actors.proofs.LastLemmas.{last_is}
use Rattle.gn_actors.proofs.TallyLemmas.{last_push, tally_push, tally_route}
use Rattle.gn_actors.proofs.annals.Annals.record_route.Goals as goal

pub invariant_of-me : goal.invariant_of-me
invariant_of-me g c =
    let (ticket, reply, is) = c.requires in
    let me = c.me.inside in
    let before = c.self.inside.steps.items in
    let after = c.record.new.self.items in
    let r = receipt (length before) (Route ticket) reply in
    let number = ap (λ w. w.number) c.me.view_is in
    let stepped = c.record.ensures.1 ∙ is.step ∙ ap (λ steps. steps ++ step_of c.args.me.now.number r ∷ []) (sym c.self.view_is) ∙ ap (λ k. before ++ step_of k r ∷ []) (sym number) in
    let got = c.and_of.ensures ∙ ap (λ x. me.receipts.items ++ x ∷ []) (sym (ap last_receipt c.record.ensures.1) ∙ last_is before after me.number (Route ticket) reply stepped) in
    let grown = ap length got in
    let long = length_push me.receipts.items r in
    let more = c.add.ensures.amount in
    let had = c.me.invariant.1 in
    let last = last_push me.receipts.items r in
    let place = ap last_place got in
    let counted = c.step_count.ensures in
    let steps = ap length (sym c.record.ensures.1 ∙ stepped) in
    let one = length_push before (step_of me.number r) in (
      c.add.ensures.parts ∙ c.me.invariant.0,
      omega (arith, grown, long, more, had),
      subst (λ rs. AreFitting c.record.new.seen.items me.number rs) (sym got)
          (fit_recorded me.seen.items before c.record.new.seen.items me.number me.receipts.items r c.record.ensures.0 (c.record.ensures.2 ∙ sym c.record.ensures.1 ∙ stepped) refl c.me.invariant.2),
      omega (arith, last, place, counted, steps, one),
      c.me.invariant.4 ∙ sym (tally_route (tally_of me.receipts.items) (length before) ticket reply is.fits) ∙ sym (tally_push me.receipts.items r) ∙ ap tally_of (sym got),
    )
