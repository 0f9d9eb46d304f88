use Rattle.std.proofs.Common.{◌∙◌, sym, arith}
use Rattle.std.proofs.lemmas.Bool.{true≢false}
use Rattle.gn_witness.proofs.LegalityLemmas.{last_answered, steps_before, still_legal}
use Rattle.gn_witness.proofs.legality.legal.Goals as goal

pub overflow_cast-result : goal.overflow_cast-result
overflow_cast-result g c =
    let most = c.args.config.now.within.steps.greatest in
    omega (arith, most, steps_before c.args.config.now c.args.steps.now c.loop-i.i (omega arith) c.loop-i.invariant)

pub returns-then-not-is_right : goal.returns-then-not-is_right
returns-then-not-is_right g c =
    record {
      within = c.loop-i-test.true;
      before = c.loop-i.invariant;
      wrong = λ legal.
          true≢false
          (sym (c.is_right.ensures.1 (last_answered c.args.config.now c.args.steps.now c.loop-i.i c.index-steps-i.result c.loop-i-test.true c.index-steps-i.is legal))
          ∙ c.if-not-is_right.true);
    }

pub loop-i-preserved : goal.loop-i-preserved
loop-i-preserved g c =
    still_legal c.args.config.now c.args.steps.now c.loop-i.i c.index-steps-i.result c.loop-i-test.true c.index-steps-i.is c.loop-i.invariant
    (c.is_right.ensures.0 c.if-not-is_right.false)
