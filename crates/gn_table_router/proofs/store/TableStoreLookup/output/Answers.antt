use Rattle.std.proofs.Common.{◌∙◌, reverse}
use Rattle.gn_table_router.proofs.ReadLemmas.{output_known}
use Rattle.gn_table_router.proofs.store.TableStoreLookup.output.Goals as goal

pub returns : goal.returns
returns g c =
    rw (← c.self.view_is) (c.output.ensures ∙ output_known c.self.inside.config (reverse (g.K.Keeper.kept c.self.inside.history)) c.self.inside.tables c.self.invariant c.args.c)
