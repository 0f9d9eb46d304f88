use Rattle.std.proofs.Common.{◌∙◌, ap, arith, length, refl, subst, sym, vec_items}
use Rattle.std.proofs.lemmas.List.{nil_from_length}
use Rattle.std.specs.Vec.Iter.{into_iter_items}
use Rattle.gn_report.specs.Accounts.{unkept_list}
use Rattle.gn_threads.specs.Homecoming.{AreAllOut, receipts_in, with_all_home}
use Rattle.gn_report.proofs.ToldLemmas.{all_moved}
use Rattle.gn_threads.proofs.LoopLemmas.{none_taken, one_as, one_started}
use Rattle.gn_threads.proofs.homecoming.welcome_all.Goals as goal

pub loop-worker-init : goal.loop-worker-init
loop-worker-init g c =
    let gives = c.into_iter-worker-iterator.ensures.into_iter_gives.0 in
    record {
      hub = refl;
      many = omega (arith, c.in_ok-made.ensures.len, ap length gives, c.into_iter-worker-iterator.result.rest.ok, c.args.workers.ok);
      room = omega (arith, c.in_ok-made.ensures.capacity, c.len.ensures);
      out = subst (λ actors. AreAllOut c.args.registry.now.lists actors) (sym gives) c.requires;
      lists = ap (λ actors. with_all_home c.args.registry.now.lists actors) gives;
      receipts = none_taken unkept_list receipts_in (vec_items c.in_ok-made.made) (into_iter_items c.into_iter-worker-iterator.result) (vec_items c.args.workers) c.in_ok-made.ensures.items gives;
    }

pub push_reserved-requires : goal.push_reserved-requires
push_reserved-requires g c = omega (arith, c.loop-worker.invariant.many, c.loop-worker.invariant.room, c.in-Some.ensures.steps.1)

pub welcome-requires : goal.welcome-requires
welcome-requires g c =
    let out = subst (λ actors. AreAllOut c.loop-worker.registry.lists actors) c.in-Some.ensures.steps.0 c.loop-worker.invariant.out in
    (out.0, out.1)

pub loop-worker-preserved : goal.loop-worker-preserved
loop-worker-preserved g c =
    let was = c.loop-worker.invariant in
    let lists = c.loop-worker.registry.lists in
    let before = vec_items c.loop-worker.made in
    let after = vec_items c.push_reserved.new.self in
    let rest = into_iter_items c.loop-worker.worker-iterator in
    let left = into_iter_items c.next.new.self in
    let steps = c.in-Some.ensures.steps in
    let home = c.welcome.ensures in
    let out = subst (λ actors. AreAllOut lists actors) steps.0 was.out in
    record {
      hub = home.same ∙ was.hub;
      many = omega (arith, was.many, steps.1, c.push_reserved.ensures.len);
      room = omega (arith, was.room, c.push_reserved.ensures.capacity);
      out = subst (λ ls. AreAllOut ls left) (sym home.lists) out.2;
      lists = ap (λ ls. with_all_home ls left) home.lists ∙ (ap (λ actors. with_all_home lists actors) (sym steps.0) ∙ was.lists);
      receipts = one_started unkept_list receipts_in before after rest left c.in-Some.worker _ (one_as unkept_list before after _ _ c.push_reserved.ensures.items home.receipts) steps.0 was.receipts;
    }

pub returns-clause-lists : goal.returns-clause-lists
returns-clause-lists g c =
    let none = nil_from_length (into_iter_items c.loop-worker.worker-iterator) (omega (arith, c.loop-worker.worker-iterator.rest.ok, c.in-None.ensures.steps.0)) in
    sym (ap (λ actors. with_all_home c.loop-worker.registry.lists actors) none) ∙ c.loop-worker.invariant.lists

pub returns-clause-receipts : goal.returns-clause-receipts
returns-clause-receipts g c =
    all_moved unkept_list receipts_in (vec_items c.loop-worker.made) (into_iter_items c.loop-worker.worker-iterator) _ (omega (arith, c.loop-worker.worker-iterator.rest.ok, c.in-None.ensures.steps.0)) c.loop-worker.invariant.receipts
