use Rattle.std.proofs.Common.{◌≡◌, ap, subst, sym}
use mathlib.Core.List.{IsPrefix}
use Rattle.gn_actors.specs.Registry.{with_home}
use Rattle.gn_hub.specs.Retired.{IsRetired}
use Rattle.gn_hub.proofs.service.Service.retire.Goals as goal

pub returns-clause-registry : goal.returns-clause-registry
returns-clause-registry g c =
    let is = c.retire.ensures.registry in
    let link = c.args.link in
    subst (λ w. c.retire.new.registry ≡ with_home (with_home c.args.registry.now link.reader w) link.writer w) (sym (ap (λ r. r.seen) is)) is

pub returns-clause-began : goal.returns-clause-began
returns-clause-began g c = subst (λ w. IsPrefix c.args.registry.now.seen w) (sym (ap (λ r. r.seen) c.retire.ensures.registry)) c.retire.ensures.began

pub returns-clause-retired : goal.returns-clause-retired
returns-clause-retired g c =
    let link = c.args.link in
    subst (λ w. IsRetired w link.reader link.writer link.conn link.idle c.retire.result) (sym (ap (λ r. r.seen) c.retire.ensures.registry)) c.retire.ensures.retired
