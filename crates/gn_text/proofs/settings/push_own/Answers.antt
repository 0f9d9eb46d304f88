use Rattle.gn_text.proofs.WholeLemmas.{appended, own_put}
use Rattle.gn_text.proofs.settings.push_own.Goals as goal

pub returns-clause-ok : goal.returns-clause-ok
returns-clause-ok g c =
    appended c.push_parts.result c.args.out.now.items c.push_parts.new.out.items _ _ c.push_parts.ensures.ok
    (own_put c.args.own.now c.from.result c.from-2.result c.from-3.result c.from-4.result c.from-5.result c.from.ensures c.from-2.ensures c.from-3.ensures
    c.from-4.ensures c.from-5.ensures)
