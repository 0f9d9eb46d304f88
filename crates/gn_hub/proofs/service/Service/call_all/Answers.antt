use Rattle.gn_hub.proofs.KeptLemmas.{all_kept, none_got}
use Rattle.gn_hub.proofs.ProgressLemmas.{not_begun}
use Rattle.std.proofs.Common.{refl, subst}
use Rattle.gn_hub.specs.Receipts.{AreKept}
use Rattle.gn_hub.proofs.service.Service.call_all.Goals as goal

pub returns-then-is_err-clause-made : goal.returns-then-is_err-clause-made
returns-then-is_err-clause-made g c =
    not_begun c.args.events.now c.no_memory.result c.args.me.now c.args.me.now c.no_memory.ensures.done c.no_memory.ensures.refusal c.requires.some refl

pub returns-then-is_err-clause-kept : goal.returns-then-is_err-clause-kept
returns-then-is_err-clause-kept g c = none_got _ _ _ c.make_room.ensures refl

pub returns-clause-kept : goal.returns-clause-kept
returns-clause-kept g c = all_kept _ _ _ (subst (λ w. AreKept w c.call_all-progress.new.kept.items c.args.me.now c.call_all-progress.new.me) c.make_room.ensures c.call_all-progress.ensures.kept)
