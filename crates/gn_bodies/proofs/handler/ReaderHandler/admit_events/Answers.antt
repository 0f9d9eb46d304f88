use Rattle.std.proofs.Common.{rules, ◌≡◌, ◌<◌, ◌+◌, ◌-◌, ◌++◌, ℕ, arith, drop, length, take}
use Rattle.gn_bodies.specs.declared.piece.Halt.TheVariants as halt
use Rattle.gn_bodies.specs.Events.{link_events}
use Rattle.gn_bodies.proofs.SeveralLemmas.{added_on, admits_part, goes_further, part_long}
use Rattle.gn_bodies.proofs.handler.ReaderHandler.admit_events.Goals as goal

pub admit_some-requires-clause-admits : goal.admit_some-requires-clause-admits
admit_some-requires-clause-admits g c =
    let (conn, ds, is) = c.requires.admits in
    (conn, take (c.end_of_batch-end.result - c.loop-at.at) (drop c.loop-at.at ds), admits_part conn c.loop-at.at (c.end_of_batch-end.result - c.loop-at.at) ds c.args.events.now is)

pub returns-in_err-at-clause-not_live : goal.returns-in_err-at-clause-not_live
returns-in_err-at-clause-not_live g c =
    let events = c.args.events.now in
    let at = c.loop-at.at in
    let long = part_long events at (c.end_of_batch-end.result - c.loop-at.at) c.loop-at.invariant.within in
    let part : c.in_err-at.field-0.0 ≡ halt.NotLive → (n : ℕ) × (n < length events) × (link_events c.admit_some.new.self.actor ≡ link_events c.args.self.now.actor ++ take n events) = λ so.
    let (n, below, added) = c.in_err-at.ensures.not_live so in
    (at + n, omega arith, added_on events at n (c.end_of_batch-end.result - c.loop-at.at) (link_events c.args.self.now.actor) (link_events c.loop-at.self.actor) (link_events c.admit_some.new.self.actor) (omega arith) c.loop-at.invariant.added added)
    in
    search rules

pub loop-at-preserved : goal.loop-at-preserved
loop-at-preserved g c =
    let was = c.loop-at.invariant in
    let events = c.args.events.now in
    let at = c.loop-at.at in
    let n = c.in_ok-at.field-0 in
    let did = c.in_ok-at.ensures.ok in
    let long = part_long events at (c.end_of_batch-end.result - c.loop-at.at) was.within in
    record {
      within = omega arith;
      went = goes_further c.args.self.now c.loop-at.self c.admit_some.new.self was.went c.admit_some.ensures.goes_on;
      added = added_on events at n (c.end_of_batch-end.result - c.loop-at.at) (link_events c.args.self.now.actor) (link_events c.loop-at.self.actor) (link_events c.admit_some.new.self.actor) did.1 was.added
          did.2;
    }
