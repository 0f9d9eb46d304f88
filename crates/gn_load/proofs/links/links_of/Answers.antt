use Rattle.std.proofs.Common.{◌++◌, [], ap, arith}
use Rattle.std.specs.Vec.Iter.{into_iter_items}
use Rattle.gn_text.specs.declared.fault.CaptureRefusal.TheVariants.{NoMemory}
use Rattle.gn_load.specs.Links.{links_from}
use Rattle.gn_load.proofs.LineLemmas.{all_moved, handed_on, next_moved}
use Rattle.gn_load.proofs.links.links_of.Goals as goal

pub returns-in_err-read : goal.returns-in_err-read
returns-in_err-read g c = handed_on (λ v. v.items) c.from_residual.result c.in_err-read.field-0.0 (links_from [] c.args.lines.now) c.from_residual.ensures.1 c.in_err-read.ensures

pub returns-in_err-push : goal.returns-in_err-push
returns-in_err-push g c = handed_on (λ v. v.items) c.from_residual-in_err-push.result NoMemory (links_from [] c.args.lines.now) c.from_residual-in_err-push.ensures.1 tt

pub loop-link_input-init : goal.loop-link_input-init
loop-link_input-init g c = ap (λ links. links ++ into_iter_items c.into_iter-link_input-iterator.result) c.new-links.ensures.items

pub loop-link_input-preserved : goal.loop-link_input-preserved
loop-link_input-preserved g c =
    next_moved c.loop-link_input.links.items c.push.new.self.items (into_iter_items c.loop-link_input.link_input-iterator) (into_iter_items c.next.new.self) _ c.in-Some.link_input
    c.into_link.result c.in_ok-push.ensures.items c.into_link.ensures c.in-Some.ensures.steps.0 c.loop-link_input.invariant

pub returns : goal.returns
returns g c =
    all_moved (links_from [] c.args.lines.now) c.in_ok-read.read.items c.loop-link_input.links.items (into_iter_items c.loop-link_input.link_input-iterator) _ c.in_ok-read.ensures
    c.into_iter-link_input-iterator.ensures.into_iter_gives.0 (omega (arith, c.loop-link_input.link_input-iterator.rest.ok, c.in-None.ensures.steps.0)) c.loop-link_input.invariant
