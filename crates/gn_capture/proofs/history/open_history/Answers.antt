use Rattle.std.proofs.Common.{ap}
use Rattle.std.proofs.lemmas.Result.{err_from_is_err_and}
use Rattle.gn_text.specs.Parsed.{Numbered}
use Rattle.gn_text.specs.Settings.{settings_of}
use Rattle.gn_capture.proofs.HistoryLemmas.{header_refused, history_opened}
use Rattle.gn_capture.proofs.history.open_history.Goals as goal

pub returns-in_err-config-clause-refused : goal.returns-in_err-config-clause-refused
returns-in_err-config-clause-refused g c =
    let refused = err_from_is_err_and c.from_residual.result c.from_residual.ensures.1 in
    rw (refused.1, refused.2)
    (header_refused g.row.A.Denot c.args.text.now c.of-lines.result.lines c.of-lines.result.after c.in_err-config.field-0.0 (ap (λ (l : Numbered). l.lines) c.of-lines.ensures)
    (ap (λ (l : Numbered). l.after) c.of-lines.ensures) c.in_err-config.ensures.header)

pub returns-clause-opened : goal.returns-clause-opened
returns-clause-opened g c =
    history_opened c.args.text.now c.of-lines.result.lines c.of-lines.result.after c.read_header.new.lines.after (settings_of c.in_ok-config.config) c.read_header.new.lines.lines
    (ap (λ (l : Numbered). l.lines) c.of-lines.ensures) (ap (λ (l : Numbered). l.after) c.of-lines.ensures)
    c.in_ok-config.ensures.header c.in_ok-config.ensures.after
