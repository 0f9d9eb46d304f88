use Rattle.std.proofs.Common.{◌≡◌, Ok, reverse}
use Rattle.gn_rules.specs.Answer as rules
use Rattle.gn_search.proofs.KeptLemmas.{kept_more}
use Rattle.gn_search.proofs.search.SearchVecStepStore.follow.Goals as goal

pub invariant_of-self-2 : goal.invariant_of-self-2
invariant_of-self-2 g c =
    let r = c.self.inside in
    let answered : rules.answer r.config (reverse r.steps.items) c.args.event.now ≡ Ok c.args.reply.now = rw (← c.self.view_is) at c.requires in
    kept_more r.config r.steps.items c.reserve.new.self.items _ r.flying c.follow_if_listed.new.flying c.args.actor c.args.event.now c.args.reply.now _
    c.self.invariant answered c.step_of.ensures c.reserve.ensures.items c.push_reserved.ensures.items c.in_ok-follow_if_listed.ensures.ok
