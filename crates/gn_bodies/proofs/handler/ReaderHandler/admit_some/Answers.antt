use Rattle.std.proofs.Common.{◌∙◌, ◌++◌, ap, refl, sym, take}
use Rattle.gn_hub.specs.Receipts.{with_receipts}
use Rattle.gn_bodies.specs.Admitting.{Admitting}
use Rattle.gn_bodies.specs.Events.{link_events}
use Rattle.gn_bodies.proofs.SeveralLemmas.{linked, progressed, went_on}
use Rattle.gn_bodies.proofs.handler.ReaderHandler.admit_some.Goals as goal

pub returns-in_err-put_admitted-clause-goes_on : goal.returns-in_err-put_admitted-clause-goes_on
returns-in_err-put_admitted-clause-goes_on g c =
    let (conn, ds, is) = c.requires.admits in
    let did = progressed conn ds c.args.events.now c.call_all-done.result c.self.inside.caller c.call_all-done.new.self is c.call_all-done.ensures.made in
    let before : Admitting _ = record { actor = c.self.inside.caller; intake = c.self.inside.intake; is_refused = c.self.inside.is_refused } in
    let mid : Admitting _ = record before { actor = c.call_all-done.new.self } in
    let grown = c.call_all-done.ensures.kept ∙ ap (λ w. with_receipts c.self.inside.caller w) (sym c.as_slice.ensures.value) in
    let put = c.put_admitted.ensures in
    went_on conn (take c.call_all-done.result.done ds) c.as_slice.result.now c.args.self.now before mid c.put_admitted.new.self c.self.view_is did grown refl refl put.link.numbers put.link.connection put.settled

pub returns-in-None-clause-goes_on : goal.returns-in-None-clause-goes_on
returns-in-None-clause-goes_on g c =
    let (conn, ds, is) = c.requires.admits in
    let did = progressed conn ds c.args.events.now c.call_all-done.result c.self.inside.caller c.call_all-done.new.self is c.call_all-done.ensures.made in
    let before : Admitting _ = record { actor = c.self.inside.caller; intake = c.self.inside.intake; is_refused = c.self.inside.is_refused } in
    let mid : Admitting _ = record before { actor = c.call_all-done.new.self } in
    let grown = c.call_all-done.ensures.kept ∙ ap (λ w. with_receipts c.self.inside.caller w) (sym c.as_slice.ensures.value) in
    let put = c.put_admitted.ensures in
    went_on conn (take c.call_all-done.result.done ds) c.as_slice.result.now c.args.self.now before mid c.put_admitted.new.self c.self.view_is did grown refl refl put.link.numbers put.link.connection put.settled

pub returns-in-Some-clause-goes_on : goal.returns-in-Some-clause-goes_on
returns-in-Some-clause-goes_on g c =
    let (conn, ds, is) = c.requires.admits in
    let did = progressed conn ds c.args.events.now c.call_all-done.result c.self.inside.caller c.call_all-done.new.self is c.call_all-done.ensures.made in
    let before : Admitting _ = record { actor = c.self.inside.caller; intake = c.self.inside.intake; is_refused = c.self.inside.is_refused } in
    let mid : Admitting _ = record before { actor = c.call_all-done.new.self } in
    let grown = c.call_all-done.ensures.kept ∙ ap (λ w. with_receipts c.self.inside.caller w) (sym c.as_slice.ensures.value) in
    let put = c.put_admitted.ensures in
    went_on conn (take c.call_all-done.result.done ds) c.as_slice.result.now c.args.self.now before mid c.put_admitted.new.self c.self.view_is did grown refl refl put.link.numbers put.link.connection put.settled

pub returns-in-None-clause-ok : goal.returns-in-None-clause-ok
returns-in-None-clause-ok g c =
    let (conn, ds, is) = c.requires.admits in
    let made = c.call_all-done.ensures.made in
    let did = progressed conn ds c.args.events.now c.call_all-done.result c.self.inside.caller c.call_all-done.new.self is made in
    (made.some c.in-None.is, made.within, c.put_admitted.ensures.link.events ∙ linked conn c.call_all-done.result.done ds c.args.events.now c.self.inside.caller c.call_all-done.new.self is did ∙ ap (λ v. link_events v.actor ++ take c.call_all-done.result.done c.args.events.now) c.self.view_is)

pub returns-in-Some-clause-not_live : goal.returns-in-Some-clause-not_live
returns-in-Some-clause-not_live g c =
    λ _.
    let (conn, ds, is) = c.requires.admits in
    let made = c.call_all-done.ensures.made in
    let did = progressed conn ds c.args.events.now c.call_all-done.result c.self.inside.caller c.call_all-done.new.self is made in
    (c.call_all-done.result.done, (made.refused c.in-Some.refusal c.in-Some.is).0, c.put_admitted.ensures.link.events ∙ linked conn c.call_all-done.result.done ds c.args.events.now c.self.inside.caller c.call_all-done.new.self is did ∙ ap (λ v. link_events v.actor ++ take c.call_all-done.result.done c.args.events.now) c.self.view_is)
