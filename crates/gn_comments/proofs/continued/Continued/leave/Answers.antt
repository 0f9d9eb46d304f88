use Rattle.gn_comments.proofs.RestLemmas.{left_more}
use Rattle.gn_comments.proofs.continued.Continued.leave.Goals as goal

pub invariant_of-self : goal.invariant_of-self
invariant_of-self g c =
    let old = c.args.self.now in
    record {
      here = old.here;
      parted = left_more old.text.items old.left.items old.rest.items c.note.new.text.items c.note-2.new.text.items c.args.piece.now old.parted (old.before c.requires) c.note.ensures c.note-2.ensures;
      before = old.before;
      written = old.written;
    }
