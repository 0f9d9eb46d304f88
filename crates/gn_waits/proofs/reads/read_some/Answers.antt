use Rattle.std.proofs.Common.{◌∙◌, ◌++◌, ap, append-nil, refl, sym, take}
use Rattle.std.proofs.KnownBytes.{Keeps-refl, Keeps-trans}
use Rattle.gn_waits.proofs.StreamLemmas.{kept_read}
use Rattle.gn_waits.proofs.reads.read_some.Goals as goal

pub loop-init : goal.loop-init
loop-init g c = record { kept = Keeps-refl (g.T.Read.remaining c.args.stream.now); told = refl }

pub returns-in-Ok-clause-read : goal.returns-in-Ok-clause-read
returns-in-Ok-clause-read g c = (kept_read _ (g.T.Read.remaining c.loop.stream) _ _ c.loop.invariant.kept c.in-Ok.ensures.bytes.0, c.in-Ok.ensures.bytes.1)

pub returns-in-Ok-clause-told : goal.returns-in-Ok-clause-told
returns-in-Ok-clause-told g c = c.in-Ok.ensures.told ∙ ap (λ bytes. bytes ++ take c.in-Ok.n c.read_once.new.buffer) c.loop.invariant.told

pub loop-preserved : goal.loop-preserved
loop-preserved g c = record {
  kept = Keeps-trans _ (g.T.Read.remaining c.loop.stream) _ c.loop.invariant.kept c.in-Err.ensures.bytes;
  told = c.in-Err.ensures.told ∙ c.loop.invariant.told;
}

pub returns-in-Err-2-clause-read : goal.returns-in-Err-2-clause-read
returns-in-Err-2-clause-read g c = Keeps-trans _ (g.T.Read.remaining c.loop.stream) _ c.loop.invariant.kept c.in-Err-2.ensures.bytes

pub returns-in-Err-2-clause-told : goal.returns-in-Err-2-clause-told
returns-in-Err-2-clause-told g c = c.in-Err-2.ensures.told ∙ c.loop.invariant.told ∙ sym (append-nil c.args.told.now)

pub returns-clause-read : goal.returns-clause-read
returns-clause-read g c = c.loop.invariant.kept

pub returns-clause-told : goal.returns-clause-told
returns-clause-told g c = c.loop.invariant.told ∙ sym (append-nil c.args.told.now)
