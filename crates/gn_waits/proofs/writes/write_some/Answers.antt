use Rattle.std.proofs.Common.{◌∙◌, ◌++◌, ap, append-nil, refl, sym, take}
use Rattle.std.proofs.KnownBytes.{Keeps-refl, Keeps-trans}
use Rattle.gn_waits.proofs.StreamLemmas.{kept_written}
use Rattle.gn_waits.proofs.writes.write_some.Goals as goal

pub loop-init : goal.loop-init
loop-init g c = record { kept = Keeps-refl (g.T.Write.contents c.args.stream.now); told = refl }

pub returns-in-Ok-clause-written : goal.returns-in-Ok-clause-written
returns-in-Ok-clause-written g c = kept_written _ (g.T.Write.contents c.loop.stream) _ _ c.loop.invariant.kept c.in-Ok.ensures.bytes

pub returns-in-Ok-clause-told : goal.returns-in-Ok-clause-told
returns-in-Ok-clause-told g c = c.in-Ok.ensures.told ∙ ap (λ bytes. bytes ++ take c.in-Ok.n c.args.piece.now) c.loop.invariant.told

pub loop-preserved : goal.loop-preserved
loop-preserved g c = record {
  kept = Keeps-trans _ (g.T.Write.contents c.loop.stream) _ c.loop.invariant.kept c.in-Err-Interrupted.ensures.bytes;
  told = c.in-Err-Interrupted.ensures.told ∙ c.loop.invariant.told;
}

pub returns-in-Err-clause-written : goal.returns-in-Err-clause-written
returns-in-Err-clause-written g c = Keeps-trans _ (g.T.Write.contents c.loop.stream) _ c.loop.invariant.kept c.in-Err.ensures.bytes

pub returns-in-Err-clause-told : goal.returns-in-Err-clause-told
returns-in-Err-clause-told g c = c.in-Err.ensures.told ∙ c.loop.invariant.told ∙ sym (append-nil c.args.told.now)

pub returns-clause-written : goal.returns-clause-written
returns-clause-written g c = c.loop.invariant.kept

pub returns-clause-told : goal.returns-clause-told
returns-clause-told g c = c.loop.invariant.told ∙ sym (append-nil c.args.told.now)
