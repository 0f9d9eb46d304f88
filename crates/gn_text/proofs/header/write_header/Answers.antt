use Rattle.gn_numbers.specs.Versions.{version_for}
use Rattle.gn_text.specs.Header.{title_text}
use Rattle.gn_text.specs.Settings.{own_text}
use Rattle.gn_text.proofs.KeptLemmas.{on_error, part_unchanged, same_kept, two_parts}
use Rattle.gn_text.proofs.WholeLemmas.{header_put, still_begins, title_put}
use Rattle.gn_text.proofs.header.write_header.Goals as goal

pub returns-in_err-push_parts-clause-err : goal.returns-in_err-push_parts-clause-err
returns-in_err-push_parts-clause-err g c =
    on_error c.from_residual.result
    (same_kept c.args.out.now.items c.push_parts.new.out.items c.in_err-push_parts.ensures.err)

pub returns-in_err-push_config-clause-err : goal.returns-in_err-push_config-clause-err
returns-in_err-push_config-clause-err g c =
    on_error c.from_residual-in_err-push_config.result
    (still_begins c.args.out.now.items _ c.push_parts.new.out.items c.push_config.new.out.items c.in_ok-push_parts.ensures.ok c.in_err-push_config.ensures.err)

pub returns-clause-err : goal.returns-clause-err
returns-clause-err g c =
    let two = two_parts c.args.out.now.items c.push_parts.new.out.items c.push_config.new.out.items _ _ c.in_ok-push_parts.ensures.ok c.in_ok-push_config.ensures.ok in
    part_unchanged c.push_own.result c.args.out.now.items _ c.push_config.new.out.items c.push_own.new.out.items two c.push_own.ensures.err

pub returns-clause-ok : goal.returns-clause-ok
returns-clause-ok g c =
    header_put c.push_own.result c.args.out.now.items c.push_parts.new.out.items c.push_config.new.out.items c.push_own.new.out.items
    (title_text c.args.text (version_for c.args.config.now.numbers)) _ (own_text c.args.config.now.own)
    (title_put c.args.text c.least_version.result (version_for c.args.config.now.numbers) c.args.out.now.items c.push_parts.new.out.items
    c.as_bytes.result.now c.title-title.result.now c.in_ok-push_parts.ensures.ok c.as_bytes.ensures.value c.title-title.ensures c.least_version.ensures)
    c.in_ok-push_config.ensures.ok c.push_own.ensures.ok
