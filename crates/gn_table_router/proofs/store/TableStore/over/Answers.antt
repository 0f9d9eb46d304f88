use Rattle.std.proofs.Common.{refl}
use Rattle.gn_table_router.proofs.ReadLemmas.{made}
use Rattle.gn_table_router.proofs.store.TableStore.over.Goals as goal

pub invariant_of-result : goal.invariant_of-result
invariant_of-result g c =
    rw c.requires
    (made c.args.config.now _ c.in_ok-new-3.ensures c.in_ok-new-2.ensures c.in_ok-new.ensures c.new-4.ensures refl refl c.new-5.ensures)
