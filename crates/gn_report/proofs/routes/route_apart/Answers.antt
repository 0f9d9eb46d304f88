use Rattle.std.proofs.Common.{◌≡◌, ◌+◌, ℕ, arith, rules, subst, sym}
use Rattle.gn_report.specs.Routes.{RoutesNotAt}
use Rattle.gn_report.proofs.RouteLemmas.{not_nearer}
use Rattle.gn_report.proofs.routes.route_apart.Goals as goal
use Rattle.gn_report.proofs.routes.route_apart.Goals.{else-apart-near-via-else-apart-near, else-apart-near-via-then-apart-near+else-is_route_at-2, else-apart-steps-via-else-apart-steps, else-apart-steps-via-then-apart-steps+else-is_route_at}

pub returns-clause-none : goal.returns-clause-none
returns-clause-none g c =
    let not_at : ℕ → Type 0 = RoutesNotAt c.args.t c.args.steps.now in
    not_nearer c.args.t c.args.steps.now c.args.near c.args.apart c.requires.before
    (elim c.else-apart-steps.branch as (λ x. (place : ℕ) → place ≡ c.args.near + c.args.apart → not_at place) [
      | else-apart-steps-via-then-apart-steps+else-is_route_at w ↦ λ place e. subst not_at (sym e) (w.is_route_at.ensures.no (search rules))
      | else-apart-steps-via-else-apart-steps w ↦ λ place e d below. absurd (omega arith)
    ])
    (elim c.else-apart-near.branch as (λ x. (place : ℕ) → place + c.args.apart ≡ c.args.near → not_at place) [
      | else-apart-near-via-then-apart-near+else-is_route_at-2 w ↦ λ place e. subst not_at (omega arith) (w.is_route_at-then-apart-near.ensures.no (search rules))
      | else-apart-near-via-else-apart-near w ↦ λ place e d below. absurd (omega arith)
    ])
