use Rattle.std.proofs.Common.{◌+◌, List, arith, length, refl, subst, vec_len}
use Rattle.gn_rules.specs.declared.receipt.Step.{Step}
use Rattle.gn_receipts.specs.Made.{AreMade}
use Rattle.gn_report.specs.Told.{lists_of}
use Rattle.gn_report.proofs.ToldLemmas.{made_lists, told_of}
use Rattle.gn_report.proofs.telling.tell.Goals as goal

pub returns-clause-told : goal.returns-clause-told
returns-clause-told g c =
    let made = c.in-Ok.made in
    let account = c.args.account in
    told_of account _ c.requires.own c.requires.same (
      omega (arith, made.links.ok.0, c.in-Ok.ensures.many.0, account.links.ok.0),
      omega (arith, made.workers.ok.0, c.in-Ok.ensures.many.1, c.len-workers.ensures, account.workers.ok.0),
    )
    c.in-Ok.ensures.ends
    (made_lists (vec_len account.links + vec_len account.links + c.len-workers.result + 1) (length account.links.items + length account.links.items + length account.workers.items + 1) c.args.history.items _ (lists_of made.links.items made.workers.items made.house) refl
    (omega (arith, account.links.ok.0, c.len-workers.ensures, account.workers.ok.0)) (subst (λ (steps : List (Step _)). AreMade (vec_len account.links + vec_len account.links + c.len-workers.result + 1) steps (lists_of made.links.items made.workers.items made.house)) c.deref.ensures.value c.in-Ok.ensures.receipts))
    refl
