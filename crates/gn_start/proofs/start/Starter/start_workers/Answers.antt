use Rattle.std.proofs.Common.{arith, vec_items}
use Rattle.gn_actors.specs.Who.{number_of}
use Rattle.gn_actors.specs.declared.who.Who.TheVariants.{Worker}
use Rattle.gn_start.proofs.CrewLemmas.{next_number, one_more, one_more_out}
use Rattle.gn_start.proofs.start.Starter.start_workers.Goals as goal

pub loop-outlet-preserved : goal.loop-outlet-preserved
loop-outlet-preserved g c =
    let was = c.loop-outlet.invariant in
    let pushed = c.push_reserved.ensures in
    let handle = c.in-Some-start_next.handle in
    let number = next_number c.args.numbering c.loop-outlet.worker handle.promise.start.value.actor.number c.in-Some-start_next.ensures.number in
    record {
      numbers = one_more (λ h. h.promise.start.value.actor.number) (number_of c.args.numbering (Worker 0)) c.loop-outlet.worker (vec_items c.loop-outlet.handles) (vec_items c.push_reserved.new.self) handle pushed.items number was.numbers;
      many = omega (arith, was.many, pushed.len);
      left = omega (arith, was.left, c.in-Some.ensures.steps.1);
      room = omega (arith, was.room, pushed.capacity);
      registry = one_more_out c.args.registry.now.lists c.args.registry.now.seen c.loop-outlet.worker c.loop-outlet.registry c.start_next.new.registry c.start_next.ensures.registry was.registry;
    }
