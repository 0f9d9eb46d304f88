use Rattle.std.proofs.Common.{rules, List, ap, refl, subst}
use Rattle.gn_bodies.specs.Admitting.{Admitting}
use Rattle.gn_bodies.specs.Events.{link_events}
use Rattle.gn_bodies.specs.ReaderRows.{WithClose}
use Rattle.gn_bodies.proofs.EventLemmas.{close_events, may_close}
use Rattle.gn_bodies.proofs.JobLemmas.{closing}
use Rattle.gn_bodies.proofs.ReadingLemmas.{closed_did, closed_row, connected_row, kept_did, open_row, unconnected_did, unconnected_row}
use Rattle.gn_bodies.proofs.handler.ReaderHandler.close_at.Goals as goal

pub returns-in-None-clause-row : goal.returns-in-None-clause-row
returns-in-None-clause-row g c role b row = unconnected_row role c.args.end c.args.connection _ b c.in-None.is row

pub returns-in-None-clause-did : goal.returns-in-None-clause-did
returns-in-None-clause-did g c did = unconnected_did c.args.end c.args.connection _ c.in-None.is did

pub returns-in_ok-found-in-Some-clause-did : goal.returns-in_ok-found-in-Some-clause-did
returns-in_ok-found-in-Some-clause-did g c did =
    let may = may_close c.in-Some.c c.close.result c.self.inside.caller c.close.new.self c.close.ensures in
    let closed = subst (λ (es : List _). WithClose c.in-Some.c (link_events c.close.new.self) es) (ap (λ v. link_events v.actor) c.self.view_is) (close_events c.in-Some.c c.self.inside.caller c.close.new.self may) in
    closed_did c.args.end c.args.connection c.in-Some.c _ _ c.in-Some.is (search rules) closed did

pub returns-in_err-found-in-Some-clause-did : goal.returns-in_err-found-in-Some-clause-did
returns-in_err-found-in-Some-clause-did g c did =
    let may = may_close c.in-Some.c c.close.result c.self.inside.caller c.close.new.self c.close.ensures in
    let closed = subst (λ (es : List _). WithClose c.in-Some.c (link_events c.close.new.self) es) (ap (λ v. link_events v.actor) c.self.view_is) (close_events c.in-Some.c c.self.inside.caller c.close.new.self may) in
    closed_did c.args.end c.args.connection c.in-Some.c _ _ c.in-Some.is (search rules) closed did

pub returns-in-Some-2-clause-did : goal.returns-in-Some-2-clause-did
returns-in-Some-2-clause-did g c did = kept_did c.args.end c.args.connection _ _ c.in-Some-2.is (search rules) did

pub returns-in_ok-found-in-Some-clause-goes_on : goal.returns-in_ok-found-in-Some-clause-goes_on
returns-in_ok-found-in-Some-clause-goes_on g c =
    let before : Admitting _ = record { actor = c.self.inside.caller; intake = c.self.inside.intake; is_refused = c.self.inside.is_refused } in
    closing c.in-Some.c c.close.result c.args.self.now before _ c.self.view_is c.close.ensures refl refl

pub returns-in_ok-found-in-Some-clause-row : goal.returns-in_ok-found-in-Some-clause-row
returns-in_ok-found-in-Some-clause-row g c role b row =
    let may = may_close c.in-Some.c c.close.result c.self.inside.caller c.close.new.self c.close.ensures in
    let closed = subst (λ (es : List _). WithClose c.in-Some.c (link_events c.close.new.self) es) (ap (λ v. link_events v.actor) c.self.view_is) (close_events c.in-Some.c c.self.inside.caller c.close.new.self may) in
    connected_row role c.args.end c.args.connection c.in-Some.c _ _ b c.in-Some.is (λ here. closed_row c.args.end c.in-Some.c _ _ _ (search rules) here closed) row

pub returns-in_err-found-in-Some-clause-goes_on : goal.returns-in_err-found-in-Some-clause-goes_on
returns-in_err-found-in-Some-clause-goes_on g c =
    let before : Admitting _ = record { actor = c.self.inside.caller; intake = c.self.inside.intake; is_refused = c.self.inside.is_refused } in
    closing c.in-Some.c c.close.result c.args.self.now before _ c.self.view_is c.close.ensures refl refl

pub returns-in_err-found-in-Some-clause-row : goal.returns-in_err-found-in-Some-clause-row
returns-in_err-found-in-Some-clause-row g c role b row =
    let may = may_close c.in-Some.c c.close.result c.self.inside.caller c.close.new.self c.close.ensures in
    let closed = subst (λ (es : List _). WithClose c.in-Some.c (link_events c.close.new.self) es) (ap (λ v. link_events v.actor) c.self.view_is) (close_events c.in-Some.c c.self.inside.caller c.close.new.self may) in
    connected_row role c.args.end c.args.connection c.in-Some.c _ _ b c.in-Some.is (λ here. closed_row c.args.end c.in-Some.c _ _ _ (search rules) here closed) row

pub returns-in-Some-2-clause-row : goal.returns-in-Some-2-clause-row
returns-in-Some-2-clause-row g c role b row =
    connected_row role c.args.end c.args.connection _ _ _ b c.in-Some-2.is (λ here. open_row c.args.end _ _ _ (search rules) here) row
