use Rattle.std.proofs.Common.{◌≡◌, [], ◌∷◌, ◌∙◌, ap, inl, sym}
use Rattle.gn_bodies.proofs.WrittenLemmas.{no_consent, no_request, part_text, texts, whole_text}
use Rattle.gn_bodies.proofs.writer.write_consent.Goals as goal

pub returns-in-Accepting-clause-all : goal.returns-in-Accepting-clause-all
returns-in-Accepting-clause-all g c = λ whole.
    let only : texts c.args.role [] ≡ c.consent.result.now ∷ [] = ap (λ r. texts r []) c.in-Accepting.is ∙ ap (λ w. w ∷ []) (sym c.consent.ensures) in
    record {
      row = whole_text _ (texts c.args.role []) _ (g.W.LinkWriter.state c.args.writer.now) (g.W.LinkWriter.state c.write_text.new.writer) only (λ was. c.requires.called.row was ∙ no_request c.args.role (inl c.in-Accepting.is))
          c.write_text.ensures.state whole;
      hurt = λ ends. absurd (cc);
    }

pub returns-in-Accepting-clause-part : goal.returns-in-Accepting-clause-part
returns-in-Accepting-clause-part g c = λ fails.
    let only : texts c.args.role [] ≡ c.consent.result.now ∷ [] = ap (λ r. texts r []) c.in-Accepting.is ∙ ap (λ w. w ∷ []) (sym c.consent.ensures) in
    record {
      row = part_text _ (texts c.args.role []) _ (g.W.LinkWriter.state c.args.writer.now) (g.W.LinkWriter.state c.write_text.new.writer) only (λ was. c.requires.called.row was ∙ no_request c.args.role (inl c.in-Accepting.is))
          c.write_text.ensures.state fails;
      hurt = λ _. c.write_text.ensures.state.hurt fails;
    }

pub returns-in-Calling-clause-all : goal.returns-in-Calling-clause-all
returns-in-Calling-clause-all g c = λ _.
    record {
      row = λ known. c.requires.called.row known ∙ no_consent c.args.role c.in-Calling.is;
      hurt = λ ends. absurd (cc);
    }
