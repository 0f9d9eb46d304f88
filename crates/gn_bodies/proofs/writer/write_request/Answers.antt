use Rattle.std.proofs.Common.{◌≡◌, [], ◌∷◌, ◌∙◌, ap, refl, sym}
use Rattle.gn_bodies.proofs.WrittenLemmas.{its_request, no_request, part_text, texts, whole_text}
use Rattle.gn_bodies.proofs.writer.write_request.Goals as goal

pub returns-in-Calling-clause-all : goal.returns-in-Calling-clause-all
returns-in-Calling-clause-all g c = λ whole.
    let text = c.request.result.now in
    record {
      row = λ known.
          whole_text text (text ∷ []) _ (g.W.LinkWriter.state c.args.writer.now) (g.W.LinkWriter.state c.write_text.new.writer) refl (λ _. c.requires.new) c.write_text.ensures.state whole known
          ∙ its_request c.args.role text c.in-Calling.is c.request.ensures;
      hurt = λ ends. absurd (cc);
    }

pub returns-in-Calling-clause-part : goal.returns-in-Calling-clause-part
returns-in-Calling-clause-part g c = λ fails.
    let only : texts c.args.role [] ≡ c.request.result.now ∷ [] = ap (λ r. texts r []) c.in-Calling.is ∙ ap (λ w. w ∷ []) (sym c.request.ensures) in
    record {
      row = part_text _ (texts c.args.role []) _ (g.W.LinkWriter.state c.args.writer.now) (g.W.LinkWriter.state c.write_text.new.writer) only (λ _. c.requires.new) c.write_text.ensures.state fails;
      hurt = λ _. c.write_text.ensures.state.hurt fails;
    }

pub returns-in-Accepting-clause-all : goal.returns-in-Accepting-clause-all
returns-in-Accepting-clause-all g c = λ _.
    record {
      row = λ _. c.requires.new ∙ sym (no_request c.args.role c.in-Accepting.is);
      hurt = λ ends. absurd (cc);
    }
