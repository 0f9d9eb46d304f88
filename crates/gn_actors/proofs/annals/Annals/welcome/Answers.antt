use Rattle.std.proofs.Common.{◌∙◌, ◌+◌, ap, arith, length, set, subst, sym}
use mathlib.Core.List.{IsPrefix}
use Rattle.gn_actors.specs.Registry.{IsOut}
use Rattle.gn_actors.proofs.FitLemmas.{fit_longer}
use Rattle.gn_actors.proofs.RegistryLemmas.{one_home}
use Rattle.gn_actors.proofs.TallyLemmas.{few_receipts}
use Rattle.gn_actors.proofs.annals.Annals.welcome.Goals as goal

pub invariant_of-registry : goal.invariant_of-registry
invariant_of-registry g c =
    let r = c.registry.inside in
    let me = c.args.me in
    let steps = c.look-2.new.self in
    let own = c.go_home-receipts.ensures in
    let known = c.go_home-receipts.result.1.items in
    let begun : IsPrefix known steps = subst (λ w. IsPrefix known w) (sym c.look-2.ensures.same) c.look.ensures.began in
    let out = subst (λ w. IsOut w me.number) (sym c.registry.view_is) c.requires.out in
    let parts = c.registry.invariant.parts in
    let apart = c.merge.ensures.apart in
    let here = c.merge.ensures.parts ∙ ap (λ n. r.share.parts + n) own.share.0 in
    one_home _ r.share.parts _ r.share.amount _ r.out _ r.many me.number r.lists.items _ r.seen.items steps _ me.receipts c.registry.invariant c.look-2.ensures.began
    (fit_longer known steps me.number me.receipts begun own.fits) out.0 out.1 c.look-2.ensures.seen
    (c.homed.ensures ∙ ap (λ n. set r.lists.items n c.go_home-receipts.result.0.items) c.number-number.ensures ∙ ap (λ rs. set r.lists.items me.number rs) own.receipts)
    here (c.merge.ensures.amount ∙ ap (λ n. r.share.amount + n) own.share.1) (omega (arith, parts, apart, here))

pub returns-clause-began : goal.returns-clause-began
returns-clause-began g c = subst (λ w. IsPrefix w.seen c.look-2.new.self) c.registry.view_is c.look-2.ensures.began

pub returns-clause-fits : goal.returns-clause-fits
returns-clause-fits g c =
    let steps = c.look-2.new.self in
    let known = c.go_home-receipts.result.1.items in
    let begun : IsPrefix known steps = subst (λ w. IsPrefix known w) (sym c.look-2.ensures.same) c.look.ensures.began in
    fit_longer known steps c.args.me.number c.args.me.receipts begun c.go_home-receipts.ensures.fits

pub returns-clause-few : goal.returns-clause-few
returns-clause-few g c =
    let steps = c.look-2.new.self in
    let known = c.go_home-receipts.result.1.items in
    let begun : IsPrefix known steps = subst (λ w. IsPrefix known w) (sym c.look-2.ensures.same) c.look.ensures.began in
    let few = few_receipts steps c.args.me.number c.args.me.receipts (fit_longer known steps c.args.me.number c.args.me.receipts begun c.go_home-receipts.ensures.fits) in
    let all = ap length (c.look-2.ensures.same ∙ c.look.ensures.same) in
    let made = c.step_count-count.ensures in
    let was = ap length c.requires.steps in
    let short = c.step_count-count.type_inv in
    omega (arith, few, all, made, was, short)
