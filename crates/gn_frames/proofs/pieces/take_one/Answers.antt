use Rattle.std.proofs.Common.{ap, drop, take, ◌∙◌}
use Rattle.gn_frames.proofs.PiecesLemmas.{left_shorter, payload_size, taken_more}
use Rattle.gn_frames.proofs.pieces.take_one.Goals as goal

pub whole-requires-clause-whole : goal.whole-requires-clause-whole
whole-requires-clause-whole g c =
    payload_size c.args.bytes.now c.advance.new.self c.in_ok-payload.payload c.args.header c.requires c.advance.ensures c.in_ok-payload.ensures.front

pub returns-clause-taken : goal.returns-clause-taken
returns-clause-taken g c =
    taken_more c.args.bytes.now c.args.header c.args.descriptors.now.items c.push.new.self.items c.whole.result c.in_ok-payload.payload c.split_to.new.self
    c.requires c.in_ok-push.ensures.items c.whole.ensures (c.in_ok-payload.ensures.front ∙ ap (take c.args.header.length) c.advance.ensures)
    (c.in_ok-payload.ensures.rest ∙ ap (drop c.args.header.length) c.advance.ensures)

pub returns-clause-shorter : goal.returns-clause-shorter
returns-clause-shorter g c =
    left_shorter c.args.bytes.now c.advance.new.self c.split_to.new.self c.args.header c.requires c.advance.ensures c.in_ok-payload.ensures.rest
