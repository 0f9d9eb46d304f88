use Rattle.std.proofs.Common.{arith, subst}
use Rattle.gn_actors.specs.Registry.{AreWhole}
use Rattle.gn_threads.proofs.LeftLemmas.{known_out, tallied_home}
use Rattle.gn_threads.proofs.finishing.tallies_of.Goals as goal

pub come_home-requires : goal.come_home-requires
come_home-requires g c = known_out _ _ _ _ _ c.args.over c.args.house c.requires.left c.if-over.false

pub returns-in-Ok-tallies-clause-tallied : goal.returns-in-Ok-tallies-clause-tallied
returns-in-Ok-tallies-clause-tallied g c =
    let here = c.if-over.false in
    let made = c.in-Ok-tallies.tallies in
    tallied_home _ _ _ _ _ c.args.over c.args.house c.requires.left here _ _ made.items (c.requires.left.ended.kept here) c.in-Ok-tallies.ensures (omega (arith, made.ok, c.len.ensures, c.if-len-links.true))
    (subst (AreWhole c.come_home.new.hub.steps) c.in-Ok.ensures.lists c.in-Ok.ensures.whole)
