use Rattle.std.proofs.Common.{◌∙◌, Some, ap, codes, sym}
use Rattle.clap.specs.Words.{found_of, rows_of}
use Rattle.gn_words.proofs.OptionLemmas.{always_asked, seconds_asked, unread_retry}
use Rattle.gn_words.proofs.WordLemmas.{word_read}
use Rattle.gn_words.proofs.retrying.retry_of.Goals as goal

pub returns-then-is_always : goal.returns-then-is_always
returns-then-is_always c =
    always_asked (rows_of (found_of c.args.options.now))
    (sym (word_read c.get_str.result (found_of c.args.options.now) (codes "retry") (codes "always") c.get_str.ensures) ∙ sym c.is_always.ensures ∙ c.if-is_always.true)

pub returns-in-Ok : goal.returns-in-Ok
returns-in-Ok c =
    seconds_asked (rows_of (found_of c.args.options.now)) (Some c.in-Ok.seconds)
    (sym (word_read c.get_str.result (found_of c.args.options.now) (codes "retry") (codes "always") c.get_str.ensures) ∙ sym c.is_always.ensures ∙ c.if-is_always.false) c.in-Ok.ensures
    ∙ ap Some (sym c.retry_for.ensures)

pub returns-in-Err : goal.returns-in-Err
returns-in-Err c =
    unread_retry (rows_of (found_of c.args.options.now)) c.in-Err.unread
    (sym (word_read c.get_str.result (found_of c.args.options.now) (codes "retry") (codes "always") c.get_str.ensures) ∙ sym c.is_always.ensures ∙ c.if-is_always.false) c.in-Err.ensures
