use Rattle.gn_comments.proofs.CommentLemmas.{added, line_made}
use Rattle.std.proofs.Common.{◌∙◌, is_ok, sym}
use Rattle.gn_comments.proofs.comments.Comments.add.Goals as goal

pub invariant_of-self-2 : goal.invariant_of-self-2
invariant_of-self-2 c =
    let made = line_made c.clear.new.self.items c.extend_from_slice.new.self.items c.extend_from_slice-2.new.self.items c.push.new.self.items c.args.said.now c.clear.ensures.items
    c.in_ok-extend_from_slice.ensures.items c.in_ok-extend_from_slice-2.ensures.items c.in_ok-push.ensures.items in
    let all = added (is_ok c.extend_from_slice-3.result) c.args.self.now.bytes.items c.args.said.now c.deref.result.now c.extend_from_slice-3.new.self.items c.args.self.now.whole c.args.self.now.bare
    (sym c.contains.ensures.value ∙ c.if-contains.false) (c.deref.ensures.value ∙ made) c.extend_from_slice-3.ensures.items in
    record { bare = all.0; whole = all.1 }
