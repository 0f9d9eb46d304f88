use Rattle.std.proofs.Common.{◌≡◌, ◌++◌, ◌∙◌, ◌∷◌, [], ℕ, List, ap, refl, subst}
use Rattle.std.specs.Prelude.{OnOk}
use Rattle.csv.specs.Writing.{default_writer, row_text}
use Rattle.gn_numbers.specs.Names.{counter_name}
use Rattle.gn_show.specs.Rows.{queued_field}
use Rattle.gn_show.proofs.RowLemmas.{both_same}
use Rattle.gn_show.proofs.rows.push_row.Goals as goal

pub returns : goal.returns
returns c =
    subst (λ (fields : List (List ℕ)). OnOk c.push.result (c.push.new.self ≡ c.args.rows.now ++ row_text default_writer fields))
    (both_same (c.as_bytes.ensures.value ∙ c.format.ensures.text)
    (both_same (c.as_slice.ensures.value ∙ c.in_ok-time.ensures.items)
    (both_same (c.as_bytes-2.ensures.value ∙ c.format-2.ensures.text)
    (both_same (c.as_bytes-3.ensures.value ∙ c.event_name.ensures)
    (both_same (c.as_bytes-4.ensures.value ∙ c.counter_name.ensures ∙ ap counter_name c.of.ensures)
    (both_same c.number_field.ensures
    (both_same c.number_field-2.ensures
    (both_same c.as_bytes-5.ensures.value
    (both_same c.id_field.ensures
    (both_same c.number_field-3.ensures
    (both_same c.number_field-4.ensures
    (both_same c.number_field-5.ensures
    (both_same c.queued_field.ensures refl)))))
    ∙ ap (λ (fields : List (List ℕ)). fields ++ queued_field c.args.row.now.queued ∷ []) c.fields_of-packet.ensures))))))))
    c.push.ensures
