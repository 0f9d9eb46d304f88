use Rattle.std.proofs.Common.{◌≡◌, ◌++◌, ◌∙◌, ◌-◌, ap, append-nil, refl, sym, take, drop, length, arith}
use Rattle.std.proofs.lemmas.List.{take_all}
use Rattle.std.proofs.lemmas.Grind.{common_steps}
use Rattle.gn_bodies.proofs.WrittenLemmas.{written_on}
use Rattle.gn_bodies.proofs.writer.write_text.Goals as goal

pub loop-at-init : goal.loop-at-init
loop-at-init g c = record { within = omega arith; made = refl; known = refl; bytes = λ _. sym (append-nil (g.W.LinkWriter.state c.args.writer.now).bytes) }

pub loop-at-preserved : goal.loop-at-preserved
loop-at-preserved g c =
    let was = c.loop-at.invariant in
    let did = c.in-Ok.ensures.state in
    let text = c.args.text.now in
    let all : take (length text - c.loop-at.at) (drop c.loop-at.at text) ≡ drop c.loop-at.at text = grind (arith, common_steps) in
    record {
      within = grind (arith, common_steps);
      made = c.in-Ok.ensures.made ∙ was.made;
      known = did.known ∙ was.known;
      bytes = λ known. written_on _ _ (g.W.LinkWriter.state c.args.writer.now).bytes text (take (length text - c.loop-at.at) (drop c.loop-at.at text)) c.loop-at.at c.in-Ok.n all (was.bytes known) (did.bytes (was.known ∙ known));
    }

pub returns-clause-made : goal.returns-clause-made
returns-clause-made g c = c.loop-at.invariant.made

pub returns-clause-state : goal.returns-clause-state
returns-clause-state g c =
    let was = c.loop-at.invariant in
    let before = g.W.LinkWriter.state c.args.writer.now in
    record {
      known = was.known;
      all = λ _ known. was.bytes known ∙ ap (λ w. before.bytes ++ w) (take_all c.loop-at.at c.args.text.now (omega arith));
      part = λ no. absurd (cc);
      hurt = λ no. absurd (cc);
    }

pub returns-in-Err-clause-made : goal.returns-in-Err-clause-made
returns-in-Err-clause-made g c = c.in-Err.ensures.made ∙ c.loop-at.invariant.made

pub returns-in-Ok-eq0-clause-made : goal.returns-in-Ok-eq0-clause-made
returns-in-Ok-eq0-clause-made g c = c.in-Ok-eq0.ensures.made ∙ c.loop-at.invariant.made
