use Rattle.std.proofs.Common.{sym}
use Rattle.std.proofs.lemmas.Bool.{ltb-true}
use Rattle.std.proofs.lemmas.Map.Views.{exact_unsigned_eq}
use Rattle.gn_tables.proofs.SearchLemmas.{standing}
use Rattle.gn_tables.proofs.neighbours.stands_at.Goals as goal

pub returns-in-Some : goal.returns-in-Some
returns-in-Some g c = λ is.
    let found = c.in-Some.ensures.lookup in
    standing c.args.connection c.args.rows.now c.requires c.args.place c.in-Some.row.now (ltb-true _ _ (sym found.0)) found.1 (exact_unsigned_eq _ _ is)
