use Rattle.gn_comments.proofs.CommentLemmas.{line_begins}
use Rattle.std.proofs.Common.{rules}
use Rattle.gn_comments.proofs.commented.begins_behind.Goals as goal

pub returns-else-is_empty : goal.returns-else-is_empty
returns-else-is_empty c = λ text at is. line_begins text c.args.bytes.now (search rules) is
