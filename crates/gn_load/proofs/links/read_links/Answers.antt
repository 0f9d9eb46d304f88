use Rattle.gn_load.proofs.LineLemmas.{all_taken, none_taken, refused_here, taken_here}
use Rattle.gn_load.proofs.links.read_links.Goals as goal

pub returns-in_err-take_line : goal.returns-in_err-take_line
returns-in_err-take_line g c =
    refused_here (λ v. v.items) c.from_residual.result c.loop-number.links.items c.args.lines.now c.loop-number.number-index c.loop-number-item.result
    c.in_err-take_line.field-0.0 c.loop-number-test.true c.loop-number-item.is c.loop-number.invariant c.from_residual.ensures.1 c.in_err-take_line.ensures

pub loop-number-init : goal.loop-number-init
loop-number-init g c = none_taken c.new-links.result.items c.args.lines.now c.new-links.ensures.items

pub loop-number-preserved : goal.loop-number-preserved
loop-number-preserved g c =
    taken_here c.loop-number.links.items c.take_line.new.links.items c.args.lines.now c.loop-number.number-index c.loop-number-item.result c.loop-number-test.true c.loop-number-item.is
    c.loop-number.invariant c.in_ok-take_line.ensures

pub returns : goal.returns
returns g c = all_taken c.loop-number.links.items c.args.lines.now c.loop-number.number-index c.loop-number-test.false c.loop-number.invariant
