use Rattle.std.proofs.Common.{◌∙◌, ap, arith, length, map, sym, vec_items}
use Rattle.std.specs.Vec.Iter.{into_iter_items}
use Rattle.gn_links.proofs.SplitLemmas.{all_made, drop_next, known_here, none_made, none_said, one_made, one_said}
use Rattle.gn_links.proofs.split.split_all.Goals as goal

pub loop-link-init : goal.loop-link-init
loop-link-init g c =
    let from = c.into_iter-link-iterator in
    let all = from.ensures.into_iter_gives.0 in
    record {
      number = omega (arith, ap length all, from.result.rest.ok, c.args.links.ok);
      left = sym all;
      roles = none_made g.K.Link.role_of (vec_items c.new.result) (into_iter_items from.result) (vec_items c.args.links) c.new.ensures.items all;
      made = none_said (λ link. g.K.Reader.LinkReader.made_of link.reader) g.K.Link.origin_of (vec_items c.new-2.result) (into_iter_items from.result) (vec_items c.args.links) c.new-2.ensures.items all;
    }

pub returns-in_default-clause-fault : goal.returns-in_default-clause-fault
returns-in_default-clause-fault g c =
    known_here g.K.Link.may_not_split c.args.links.items (into_iter_items c.next.new.self) c.loop-link.number c.in-Some.link
    (c.loop-link.invariant.left ∙ c.in-Some.ensures.steps.0) c.in_default.ensures.allowed

pub overflow_add-number : goal.overflow_add-number
overflow_add-number g c =
    omega (arith, c.loop-link.invariant.number, c.in-Some.ensures.steps.1, c.requires.few, c.args.links.ok)

pub loop-link-preserved : goal.loop-link-preserved
loop-link-preserved g c =
    let was = c.loop-link.invariant in
    let left = into_iter_items c.loop-link.link-iterator in
    let rest = into_iter_items c.next.new.self in
    let next = c.in-Some.ensures.steps in
    let before = c.loop-link.split in
    let after = c.push.new.self in
    record {
      number = omega (arith, was.number, next.1);
      left = drop_next c.args.links.items rest c.loop-link.number c.in-Some.link (was.left ∙ next.0);
      roles = one_made g.K.Link.role_of (vec_items before.roles) (vec_items after.roles) left rest c.in-Some.link _ _
          c.in_ok-push.ensures.roles c.role-role.ensures next.0 was.roles;
      made = one_said (λ link. g.K.Reader.LinkReader.made_of link.reader) g.K.Link.origin_of (vec_items before.links) (vec_items after.links) left rest c.in-Some.link _ _
          c.in_ok-push.ensures.links c.in-Ok.ensures.made next.0 was.made;
    }

pub returns-clause-roles : goal.returns-clause-roles
returns-clause-roles g c =
    all_made g.K.Link.role_of (vec_items c.loop-link.split.roles) (into_iter_items c.loop-link.link-iterator) _
    (omega (arith, c.loop-link.link-iterator.rest.ok, c.in-None.ensures.steps.0)) c.loop-link.invariant.roles

pub returns-clause-made : goal.returns-clause-made
returns-clause-made g c =
    all_made g.K.Link.origin_of (map (λ link. g.K.Reader.LinkReader.made_of link.reader) (vec_items c.loop-link.split.links)) (into_iter_items c.loop-link.link-iterator) _
    (omega (arith, c.loop-link.link-iterator.rest.ok, c.in-None.ensures.steps.0)) c.loop-link.invariant.made
