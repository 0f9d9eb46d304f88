use Rattle.std.proofs.Common.{◌≡◌, ◌≤◌, ◌∙◌, true, arith, ap, get_or, length, subst, sym}
use Rattle.std.proofs.lemmas.List.{get_or_default}
use Rattle.gn_rules.specs.declared.receipt.Step.{Step}
use Rattle.gn_report.specs.BodyEnds.{is_settled}
use Rattle.gn_report.specs.Survey.{is_drains_close}
use Rattle.gn_report.proofs.RouteLemmas.{reached, settled_on}
use Rattle.gn_report.proofs.routes.routes_in.Goals as goal
use Rattle.gn_report.proofs.routes.routes_in.Goals.{then-i-reach+then-is_drains_close, else-i-reach, else-i-reach-via-then-i-reach+else-is_drains_close, else-i-reach-via-else-i-reach}

pub loop-i-init : goal.loop-i-init
loop-i-init g c = record {
  reach = record { near = λ some. some; until = omega arith; routed = λ t was. cc };
  settled = λ e k d below. absurd (omega arith);
}

pub loop-i-preserved : goal.loop-i-preserved
loop-i-preserved g c =
    let asked : Step _ → _ = is_drains_close c.args.links.now in
    record {
      reach = c.in-Some.ensures.more;
      settled = settled_on asked c.args.steps.now c.loop-i.i c.loop-i.reach c.loop-i.are_settled c.if-i-reach.are_settled c.loop-i.invariant.reach c.loop-i.invariant.settled
          (elim c.if-i-reach.branch as (λ x. c.if-i-reach.are_settled ≡ true → c.loop-i.are_settled ≡ true) [
            | then-i-reach+then-is_drains_close w ↦ λ e. let is = w.are_settled-is in cc
            | else-i-reach w ↦ λ e. let is = w.are_settled-is in cc
          ])
          (elim c.if-i-reach.branch as (λ x. c.if-i-reach.are_settled ≡ true → (d : Step _) → asked (get_or c.args.steps.now c.loop-i.i d) ≡ true → c.loop-i.reach.until ≤ c.loop-i.i) [
            | then-i-reach+then-is_drains_close w ↦ λ e d asks. let is = w.are_settled-is in cc
            | else-i-reach w ↦ λ e d asks. elim w.else-i-reach.branch as (λ x. c.loop-i.reach.until ≤ c.loop-i.i) [
              | else-i-reach-via-then-i-reach+else-is_drains_close v ↦
                  let same : v.index-steps-i.result ≡ get_or c.args.steps.now c.loop-i.i d = v.index-steps-i.is ∙ get_or_default c.args.steps.now c.loop-i.i v.index-steps-i.result d c.loop-i-test.true in
                  let says : asked v.index-steps-i.result ≡ true = ap asked same ∙ asks in
                  let not = sym v.is_drains_close.ensures ∙ v.if-is_drains_close.false in
                  cc
              | else-i-reach-via-else-i-reach v ↦ omega arith
            ]
          ]);
    }

pub returns-clause-all : goal.returns-clause-all
returns-clause-all g c =
    let end : c.loop-i.i ≡ length c.args.steps.now = omega arith in
    sym (subst (λ k. is_settled c.args.steps.now k ≡ true) end (reached c.args.steps.now c.loop-i.i c.loop-i.reach c.loop-i.invariant.reach (omega (arith, c.loop-i.invariant.reach.until))))

pub returns-clause-settled : goal.returns-clause-settled
returns-clause-settled g c = λ e k d below. c.loop-i.invariant.settled e k d (omega arith)
