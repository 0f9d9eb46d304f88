use Rattle.gn_show.specs.Plain.{plain_line}
use Rattle.gn_show.proofs.PieceLemmas.{◌+>◌, whole_text}
use Rattle.gn_show.proofs.plain.plain_line.Goals as goal

pub returns : goal.returns
returns c =
    whole_text (λ v. v.items) c.into_text.result _ _ (plain_line c.args.index c.args.step.now) c.in_ok-out.ensures
    (c.push_shifted.ensures +> c.put.ensures +> c.push_shifted-2.ensures +> c.put-2.ensures +> c.push_event_column.ensures +> c.put-3.ensures +> c.push_reply.ensures +> c.put-4.ensures)
    c.into_text.ensures
