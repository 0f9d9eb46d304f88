use Rattle.std.proofs.Common.{◌∙◌, refl}
use Rattle.gn_start.proofs.RouteLemmas.{none_originated, originated_as, originated_on}
use Rattle.gn_start.proofs.start.Starter.take_links.Goals as goal

pub loop-preserved : goal.loop-preserved
loop-preserved g c = record {
  same = (c.turn.ensures.same.0 ∙ c.loop.invariant.same.0, c.turn.ensures.same.1);
  coming = λ first so. c.turn.ensures.goes first (c.loop.invariant.coming first so) c.if-not-turn.false;
  house = originated_on (g.V.Incoming.originates c.args.incoming.now) c.args.house.now c.loop.house c.turn.new.house c.loop.invariant.house
      (originated_as (g.V.Incoming.originates c.args.incoming.now) (g.V.Incoming.originates c.loop.incoming) c.loop.house c.turn.new.house c.loop.invariant.own c.turn.ensures.house);
  own = c.turn.ensures.own ∙ c.loop.invariant.own;
  goes = (tt, tt);
}

pub loop-init : goal.loop-init
loop-init g c = record {
  same = (refl, c.requires.open);
  coming = λ all so. so;
  house = none_originated (g.V.Incoming.originates c.args.incoming.now) c.args.house.now c.args.house.now refl;
  own = refl;
  goes = (tt, tt);
}

pub returns-then-not-turn-clause-house : goal.returns-then-not-turn-clause-house
returns-then-not-turn-clause-house g c =
    originated_on (g.V.Incoming.originates c.args.incoming.now) c.args.house.now c.loop.house c.turn.new.house c.loop.invariant.house
    (originated_as (g.V.Incoming.originates c.args.incoming.now) (g.V.Incoming.originates c.loop.incoming) c.loop.house c.turn.new.house c.loop.invariant.own c.turn.ensures.house)

pub returns-then-not-turn-clause-made : goal.returns-then-not-turn-clause-made
returns-then-not-turn-clause-made g c = λ first so. c.turn.ensures.ends first (c.loop.invariant.coming first so) c.if-not-turn.true
