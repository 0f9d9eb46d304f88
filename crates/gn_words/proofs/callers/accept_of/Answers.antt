use Rattle.std.proofs.Common.{◌∙◌, Some, codes, sym}
use Rattle.clap.specs.Words.{found_of, rows_of}
use Rattle.gn_words.proofs.OptionLemmas.{any_asked, many_asked, unread_too}
use Rattle.gn_words.proofs.WordLemmas.{word_read}
use Rattle.gn_words.proofs.callers.accept_of.Goals as goal

pub returns-then-is_any : goal.returns-then-is_any
returns-then-is_any c =
    any_asked (rows_of (found_of c.args.options.now))
    (sym (word_read c.get_str.result (found_of c.args.options.now) (codes "accept") (codes "any") c.get_str.ensures) ∙ sym c.is_any.ensures ∙ c.if-is_any.true)

pub returns-in-Ok : goal.returns-in-Ok
returns-in-Ok c =
    many_asked (rows_of (found_of c.args.options.now)) (Some c.in-Ok.accept)
    (sym (word_read c.get_str.result (found_of c.args.options.now) (codes "accept") (codes "any") c.get_str.ensures) ∙ sym c.is_any.ensures ∙ c.if-is_any.false) c.in-Ok.ensures

pub returns-in-Err : goal.returns-in-Err
returns-in-Err c =
    unread_too (rows_of (found_of c.args.options.now)) c.in-Err.unread
    (sym (word_read c.get_str.result (found_of c.args.options.now) (codes "accept") (codes "any") c.get_str.ensures) ∙ sym c.is_any.ensures ∙ c.if-is_any.false) c.in-Err.ensures
