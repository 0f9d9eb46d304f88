use Rattle.std.proofs.Common.{ap, ◌∙◌}
use Rattle.std.specs.Map.{lookup}
use Rattle.gn_wire.specs.declared.key.Key.{Key}
use Rattle.gn_wire.specs.Keys.{is_same_key}
use Rattle.gn_kept.specs.Remembered.{Remembered}
use Rattle.gn_kept.proofs.SeenLemmas.{kept_in}
use Rattle.gn_kept.proofs.seen.SeenTable.keep.Goals as goal

pub invariant_of-self-2 : goal.invariant_of-self-2
invariant_of-self-2 g c =
    let key : Key = record { kind = c.args.kind; id = c.args.id } in
    kept_in c.self.inside.sources.entries c.forget.new.sources.entries c.insert.new.self.entries c.self.inside.ring.items c.self.inside.ring.capacity key c.args.from
    c.push_front-fallen.result c.push_front-fallen.new.self c.self.invariant (ap (λ (t : Remembered). lookup (is_same_key key) t.seen_entries) c.self.view_is ∙ c.requires) c.push_front-fallen.ensures.value
    (rw (← c.reserve.ensures.entries) c.forget.ensures.entries) c.in-Ok.ensures.updates.0 c.push_front-fallen.ensures.items
