use Rattle.std.proofs.Common.{◌∙◌, ◌≤◌, ap, arith, length, sym}
use Rattle.std.specs.Map.{keys_of}
use Rattle.std.proofs.lemmas.Bool.{ltb-false}
use Rattle.std.proofs.lemmas.List.{length-map}
use Rattle.std.proofs.lemmas.Option.{slice_get_past}
use Rattle.gn_tables.specs.Outputs.{row_of, rows_of}
use Rattle.gn_tables.proofs.OutputLemmas.{number_at}
use Rattle.gn_tables.proofs.neighbours.Neighbours.number.Goals as goal

pub returns : goal.returns
returns g c =
    let found = c.in_ok-connection.ensures.lookup in
    rw (← c.self.view_is) (number_at c.self.inside.rows.items c.deref.result.now c.args.index c.in_ok-connection.field-0.now c.deref.ensures.value found.0 found.1)

pub returns-in_err-connection : goal.returns-in_err-connection
returns-in_err-connection g c =
    let rows = c.self.inside.rows.items in
    let past : length (keys_of (rows_of rows)) ≤ c.args.index =
    omega (arith, ltb-false _ _ (sym c.in_err-connection.ensures.lookup.0), ap length c.deref.ensures.value, length-map rows row_of, length-map (rows_of rows) (λ r. r.0)) in
    rw (← c.self.view_is) (c.from_residual.ensures ∙ sym (slice_get_past _ _ past))
