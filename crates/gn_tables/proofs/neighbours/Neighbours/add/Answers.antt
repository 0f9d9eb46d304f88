use Rattle.std.proofs.Common.{◌<◌, length, subst, sym}
use Rattle.std.specs.List.{All}
use Rattle.gn_tables.specs.Outputs.{Outputs, rows_of}
use Rattle.gn_tables.proofs.OutputLemmas.{added}
use Rattle.gn_tables.proofs.neighbours.Neighbours.add.Goals as goal

pub invariant_of-self-2 : goal.invariant_of-self-2
invariant_of-self-2 g c =
    let greater : All (λ r. r.0 < c.args.connection) (rows_of c.self.inside.rows.items) = subst (λ (l : Outputs). All (λ r. r.0 < c.args.connection) l.rows) (sym c.self.view_is) c.requires.greater in
    let few : length (rows_of c.self.inside.rows.items) < c.self.inside.most = subst (λ (l : Outputs). length l.rows < l.most) (sym c.self.view_is) c.requires.few in
    (added c.self.inside.rows.items c.push.new.self.items c.self.inside.most c.self.inside.room c.args.connection c.in_ok-ring.ring c.self.invariant few greater c.in_ok-ring.ensures c.in_ok-push.ensures.items).0
