-- Receipts that an actor got, and that are kept.
use Rattle.std.proofs.Common.{◌≡◌, List, [], ◌∷◌, ◌++◌, Result, Ok, sym, subst, ap, ◌∙◌, append_assoc, append-nil}
use Rattle.std.specs.Prelude.{IfOk}
use Rattle.gn_rules.specs.declared.receipt.Receipt.{Receipt}
use Rattle.gn_hub.specs.ActorState.{ActorState, with_receipt}
use Rattle.gn_hub.specs.Receipts.{AreKept, with_receipts}

-- none was got
pub none_kept : {A : Type 0} (before after : List (Receipt A)) (me us : ActorState A) → after ≡ before → us ≡ me → AreKept before after me us
none_kept {A} before after me us same still =
    let none : List (Receipt A) = [] in
    record { got = none; kept = same ∙ sym (append-nil before); actor = still ∙ ap (λ w. record me { receipts = w }) (sym (append-nil me.receipts)) }

-- one was got
pub one_kept : {A : Type 0} (before after : List (Receipt A)) (r : Receipt A) (me us : ActorState A) → after ≡ before ++ r ∷ [] → us ≡ with_receipt me r → AreKept before after me us
one_kept before after r me us more got = record { got = r ∷ []; kept = more; actor = got }

-- some were got, and then others
pub kept_on : {A : Type 0} (before mid after : List (Receipt A)) (me them us : ActorState A) → AreKept before mid me them → AreKept mid after them us → AreKept before after me us
kept_on {A} before mid after me them us first second = record {
  got = first.got ++ second.got;
  kept = second.kept ∙ ap (λ w. w ++ second.got) first.kept ∙ append_assoc before first.got second.got;
  actor = second.actor ∙ ap {A = ActorState A} (λ w. with_receipts w second.got) first.actor ∙ ap (λ w. record me { receipts = w }) (append_assoc me.receipts first.got second.got);
}

-- all that are kept were got
pub all_kept : {A : Type 0} (kept : List (Receipt A)) (me us : ActorState A) → AreKept [] kept me us → us ≡ with_receipts me kept
all_kept kept me us did = did.actor ∙ ap (λ w. with_receipts me w) (sym did.kept)

-- none is kept, and none was got
pub none_got : {A : Type 0} (kept : List (Receipt A)) (me us : ActorState A) → kept ≡ [] → us ≡ me → us ≡ with_receipts me kept
none_got kept me us none still = all_kept kept me us (none_kept [] kept me us none still)

-- what holds of what was answered well
pub when_ok : {X E : Type 0} (answer : Result X E) (x : X) (P : X → Type 0) → answer ≡ Ok x → IfOk answer P → P x
when_ok answer x P is did = subst (λ w. IfOk w P) is did
