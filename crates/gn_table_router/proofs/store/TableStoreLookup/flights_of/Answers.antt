use Rattle.std.proofs.Common.{◌∙◌, reverse}
use Rattle.gn_table_router.proofs.AdmittedFromLemmas.{flights_from_is}
use Rattle.gn_table_router.proofs.store.TableStoreLookup.flights_of.Goals as goal

pub returns : goal.returns
returns g c =
    rw (← c.self.view_is) (c.of.ensures ∙ flights_from_is c.self.inside.config (reverse (g.K.Keeper.kept c.self.inside.history)) c.self.inside.tables.admitted c.self.inside.tables.flights c.self.invariant.flights_are c.args.c)
