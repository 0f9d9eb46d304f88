use Rattle.std.proofs.Common.{Bor, List, refl, ℕ}
use Rattle.gn_text.proofs.KeptLemmas.{items_done, items_more}
use Rattle.gn_metrics.proofs.page.push_pieces.Goals as goal

pub loop-piece-preserved : goal.loop-piece-preserved
loop-piece-preserved g c =
    items_more (λ (piece : Bor (List ℕ)). piece.now) c.args.out.now.items c.loop-piece.out.items c.extend_from_slice.new.self.items c.args.pieces.now
    c.loop-piece.piece-index _ _ c.loop-piece-test.true refl c.loop-piece.invariant c.in_ok-extend_from_slice.ensures.items

pub returns : goal.returns
returns g c =
    items_done (λ (piece : Bor (List ℕ)). piece.now) c.args.out.now.items c.loop-piece.out.items c.args.pieces.now c.loop-piece.piece-index
    c.loop-piece-test.false c.loop-piece.invariant
