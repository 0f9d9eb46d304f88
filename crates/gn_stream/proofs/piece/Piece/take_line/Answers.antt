use Rattle.std.proofs.Common.{◌∙◌, ap, arith, sym}
use Rattle.gn_stream.specs.Pieces.{Pieced}
use Rattle.gn_stream.proofs.PieceLemmas.{feed_cut, feed_within, free_before, none_found}
use Rattle.gn_stream.proofs.piece.Piece.take_line.Goals as goal

pub invariant_of-self : goal.invariant_of-self
invariant_of-self g c =
    let held = c.left.ensures ∙ sym (ap (λ (p : Pieced). p.held) c.self.view_is) in
    let within = feed_within c.self.inside.bytes.items c.left.result.now c.self.inside.at c.self.inside.end held c.self.invariant.1.1 c.in-Some.count
    (rw c.in-Some.is at c.memchr-feed.ensures) in
    ((omega arith, omega (arith, within, c.self.invariant.1.1)), (omega (arith, within), c.self.invariant.1.1))

pub invariant_of-self-in-None : goal.invariant_of-self-in-None
invariant_of-self-in-None g c = (c.self.invariant.1, (omega arith, c.self.invariant.1.1))

pub returns-in-Some-clause-free : goal.returns-in-Some-clause-free
returns-in-Some-clause-free g c =
    let held = c.left.ensures ∙ sym (ap (λ (p : Pieced). p.held) c.self.view_is) in
    free_before c.self.inside.bytes.items c.left.result.now c.self.inside.at c.self.inside.end held c.self.invariant.1.1 c.in-Some.count
    (rw c.in-Some.is at c.memchr-feed.ensures)

pub returns-in-Some-clause-ended : goal.returns-in-Some-clause-ended
returns-in-Some-clause-ended g c = λ _.
    let held = c.left.ensures ∙ sym (ap (λ (p : Pieced). p.held) c.self.view_is) in
    sym c.left.ensures ∙ feed_cut c.self.inside.bytes.items c.left.result.now c.self.inside.at c.self.inside.end held c.self.invariant.1.1 c.in-Some.count
    (rw c.in-Some.is at c.memchr-feed.ensures)

pub returns-in-None-clause-free : goal.returns-in-None-clause-free
returns-in-None-clause-free g c =
    let held = c.left.ensures ∙ sym (ap (λ (p : Pieced). p.held) c.self.view_is) in
    none_found c.left.result.now _ held (rw c.in-None.is at c.memchr-feed.ensures)
