use Rattle.gn_text.proofs.KeptLemmas.{kept_before, on_error, part_bytes_kept, same_kept, two_parts}
use Rattle.gn_text.proofs.statistics.write_stats.Goals as goal

pub returns-in_err-extend_from_slice-clause-err : goal.returns-in_err-extend_from_slice-clause-err
returns-in_err-extend_from_slice-clause-err g c =
    on_error c.from_residual.result
    (same_kept c.args.out.now.items c.extend_from_slice.new.self.items c.in_err-extend_from_slice.ensures.items)

pub returns-in_err-write_counts-clause-err : goal.returns-in_err-write_counts-clause-err
returns-in_err-write_counts-clause-err g c =
    on_error c.from_residual-in_err-write_counts.result
    (kept_before c.args.out.now.items _ c.extend_from_slice.new.self.items c.write_counts.new.out.items c.in_ok-extend_from_slice.ensures.items c.in_err-write_counts.ensures.err)

pub returns-clause-err : goal.returns-clause-err
returns-clause-err g c =
    let two = two_parts c.args.out.now.items c.extend_from_slice.new.self.items c.write_counts.new.out.items _ _ c.in_ok-extend_from_slice.ensures.items c.in_ok-write_counts.ensures.ok in
    part_bytes_kept c.extend_from_slice-2.result c.args.out.now.items _ c.write_counts.new.out.items _ c.extend_from_slice-2.new.self.items two c.extend_from_slice-2.ensures.items
