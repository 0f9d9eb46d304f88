use Rattle.std.proofs.Common.{ap, arith, length}
use Rattle.gn_threads.proofs.OpenLemmas.{accounts_few}
use Rattle.gn_threads.proofs.open_ending.gather_open.Goals as goal

pub unkept_trail-links-requires : goal.unkept_trail-links-requires
unkept_trail-links-requires g c = record { few = omega (arith, ap length c.accounts_in.ensures, accounts_few c.args.ends.now.items, c.requires.many, c.many-many.ensures) }
