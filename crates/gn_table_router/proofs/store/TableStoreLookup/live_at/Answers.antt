use Rattle.std.proofs.Common.{reverse}
use Rattle.std.specs.Option.{option_map}
use Rattle.gn_rules.specs.History.{live_connections}
use Rattle.gn_table_router.proofs.ReadLemmas.{item_at, number_known, waiting_known}
use Rattle.gn_table_router.proofs.store.TableStoreLookup.live_at.Goals as goal

pub returns-clause-at : goal.returns-clause-at
returns-clause-at g c =
    let past = reverse (g.K.Keeper.kept c.self.inside.history) in
    rw (← c.self.view_is)
    (item_at (live_connections past) c.args.place (option_map (λ r. r.0) c.at.result) (number_known c.self.inside.config past c.self.inside.tables c.self.invariant c.args.place c.at.result c.at.ensures))

pub returns-clause-waiting : goal.returns-clause-waiting
returns-clause-waiting g c =
    let past = reverse (g.K.Keeper.kept c.self.inside.history) in
    rw (← c.self.view_is)
    (waiting_known c.self.inside.config past c.self.inside.tables c.self.invariant c.args.place c.at.result c.at.ensures)
