use Rattle.std.proofs.Common.{rules, ◌≡◌, false, true}
use Rattle.gn_laws.specs.Owners as laws
use Rattle.gn_bodies.specs.Writing.{text_of}
use Rattle.gn_bodies.proofs.WrittenLemmas.{same_text}
use Rattle.gn_bodies.proofs.writer.WriterHandler.write_taken.Goals as goal

pub returns-then-not-write_text-clause-state : goal.returns-then-not-write_text-clause-state
returns-then-not-write_text-clause-state g c =
    let text : c.as_slice-text.result.now ≡ text_of (laws.packets_of c.args.self.now.lent.taken.items) = search rules in
    same_text _ false _ _ _ _ c.if-not-write_text.true text c.write_text.ensures.state

pub returns-clause-state : goal.returns-clause-state
returns-clause-state g c =
    let text : c.as_slice-text.result.now ≡ text_of (laws.packets_of c.args.self.now.lent.taken.items) = search rules in
    same_text _ true _ _ _ _ c.if-not-write_text.false text c.write_text.ensures.state
