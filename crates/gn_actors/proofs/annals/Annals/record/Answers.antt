use Rattle.std.proofs.Common.{◌≤◌, ◌++◌, ◌∷◌, ◌∙◌, [], ap, arith, length, sym, subst}
use Rattle.std.proofs.lemmas.List.{length_push}
use Rattle.gn_rules.specs.History.{step_of}
use Rattle.gn_laws.specs.Owners.{AreFitting}
use Rattle.gn_actors.specs.Tallies.{last_place, tally_of, tally_with}
use Rattle.gn_actors.proofs.FitLemmas.{fit_longer, fit_recorded}
use Rattle.gn_actors.proofs.TallyLemmas.{few_receipts, has_room, last_push, tally_push}
use Rattle.gn_actors.proofs.annals.Annals.record.Goals as goal

-- as many steps were made before
pub with-requires : goal.with-requires
with-requires g c =
    let me = c.me.inside in
    let before = c.self.inside.steps.items in
    let index = c.requires.index ∙ ap length (sym c.self.view_is) in
    let few : length me.receipts.items ≤ length before = few_receipts before me.number me.receipts.items (fit_longer me.seen.items before me.number me.receipts.items c.record.ensures.0 c.me.invariant.2) in
    let place = c.place_after.ensures in
    let fits = c.place_after.type_inv in
    has_room me.receipts.items me.tally c.me.invariant.4 (omega (arith, few, index, place, fits))

pub invariant_of-me : goal.invariant_of-me
invariant_of-me g c =
    let me = c.me.inside in
    let before = c.self.inside.steps.items in
    let r = c.args.receipt.now in
    let number = ap (λ w. w.number) c.me.view_is in
    let stepped = c.record.ensures.2 ∙ c.requires.step ∙ ap (λ steps. steps ++ step_of c.args.me.now.number r ∷ []) (sym c.self.view_is) ∙ ap (λ k. before ++ step_of k r ∷ []) (sym number) in
    let index = c.requires.index ∙ ap length (sym c.self.view_is) in
    let grown = ap length c.and.ensures in
    let long = length_push me.receipts.items r in
    let more = c.add.ensures.amount in
    let had = c.me.invariant.1 in
    let last = last_push me.receipts.items r in
    let place = ap last_place c.and.ensures in
    let after = c.place_after.ensures in (
      c.add.ensures.parts ∙ c.me.invariant.0,
      omega (arith, grown, long, more, had),
      subst (λ rs. AreFitting c.record.new.seen.items me.number rs) (sym c.and.ensures)
          (fit_recorded me.seen.items before c.record.new.seen.items me.number me.receipts.items r c.record.ensures.0 stepped index c.me.invariant.2),
      omega (arith, last, place, after),
      c.with.ensures ∙ ap (λ t. tally_with t r) c.me.invariant.4 ∙ sym (tally_push me.receipts.items r) ∙ ap tally_of (sym c.and.ensures),
    )
