use Rattle.std.proofs.Common.{arith}
use Rattle.gn_shake.proofs.ShakingLemmas.{feeding}
use Rattle.gn_shake.proofs.shake.Shake.feed.Goals as goal

pub overflow_add-self : goal.overflow_add-self
overflow_add-self c =
    let f = feeding c.args.self.now c.self.inside.greeting.now c.args.piece.now c.self.inside.matched c.common_length-used.result c.self.inside.refused c.self.view_is c.if-self.false c.self.invariant c.common_length-used.ensures in
    let fits = f.fits in let short = c.self.told.0 in omega arith

pub invariant_of-self-then-used-piece : goal.invariant_of-self-then-used-piece
invariant_of-self-then-used-piece c =
    let f = feeding c.args.self.now c.self.inside.greeting.now c.args.piece.now c.self.inside.matched c.common_length-used.result c.self.inside.refused c.self.view_is c.if-self.false c.self.invariant c.common_length-used.ensures in
    f.fits

pub invariant_of-self-else-used-piece : goal.invariant_of-self-else-used-piece
invariant_of-self-else-used-piece c =
    let f = feeding c.args.self.now c.self.inside.greeting.now c.args.piece.now c.self.inside.matched c.common_length-used.result c.self.inside.refused c.self.view_is c.if-self.false c.self.invariant c.common_length-used.ensures in
    f.fits

pub returns-then-self-2-clause-state : goal.returns-then-self-2-clause-state
returns-then-self-2-clause-state c =
    let f = feeding c.args.self.now c.self.inside.greeting.now c.args.piece.now c.self.inside.matched c.common_length-used.result c.self.inside.refused c.self.view_is c.if-self.false c.self.invariant c.common_length-used.ensures in
    f.done_answer c.if-self-2.true

pub returns-then-self-2-clause-after : goal.returns-then-self-2-clause-after
returns-then-self-2-clause-after c =
    let f = feeding c.args.self.now c.self.inside.greeting.now c.args.piece.now c.self.inside.matched c.common_length-used.result c.self.inside.refused c.self.view_is c.if-self.false c.self.invariant c.common_length-used.ensures in
    f.done c.if-self-2.true

pub returns-then-used-piece-clause-state : goal.returns-then-used-piece-clause-state
returns-then-used-piece-clause-state c =
    let f = feeding c.args.self.now c.self.inside.greeting.now c.args.piece.now c.self.inside.matched c.common_length-used.result c.self.inside.refused c.self.view_is c.if-self.false c.self.invariant c.common_length-used.ensures in
    f.more_answer c.if-self-2.false c.if-used-piece.true

pub returns-then-used-piece-clause-after : goal.returns-then-used-piece-clause-after
returns-then-used-piece-clause-after c =
    let f = feeding c.args.self.now c.self.inside.greeting.now c.args.piece.now c.self.inside.matched c.common_length-used.result c.self.inside.refused c.self.view_is c.if-self.false c.self.invariant c.common_length-used.ensures in
    f.more c.if-self-2.false c.if-used-piece.true

pub returns-else-used-piece-clause-state : goal.returns-else-used-piece-clause-state
returns-else-used-piece-clause-state c =
    let f = feeding c.args.self.now c.self.inside.greeting.now c.args.piece.now c.self.inside.matched c.common_length-used.result c.self.inside.refused c.self.view_is c.if-self.false c.self.invariant c.common_length-used.ensures in
    f.refused_answer c.if-self-2.false c.if-used-piece.false

pub returns-else-used-piece-clause-after : goal.returns-else-used-piece-clause-after
returns-else-used-piece-clause-after c =
    let f = feeding c.args.self.now c.self.inside.greeting.now c.args.piece.now c.self.inside.matched c.common_length-used.result c.self.inside.refused c.self.view_is c.if-self.false c.self.invariant c.common_length-used.ensures in
    f.refused c.if-self-2.false c.if-used-piece.false
