-- A scribe beside a run, and the two ends of its ring.
use Rattle.std.proofs.Common.{◌≡◌, ◌∙◌, ◌<◌, ℕ, false, List, [], length, Option, Some, Result, Ok, Err, OnErr, OnOk, ap, append-nil, inl, refl, reverse, subst, sym}
use Rattle.std.specs.Option.{ForSome}
use Rattle.std.specs.Prelude.{⊤, IfErr}
use Rattle.rtrb.specs.Ends.{SameRing}
use Rattle.rtrb.specs.Ring.{received}
use Rattle.rtrb.specs.declared.end.End.{End}
use Rattle.gn_report.specs.declared.unkept.Unkept.{Unkept}
use Rattle.gn_rules.specs.Answer.{IsLegal}
use Rattle.gn_rules.specs.declared.config.Config.{Config}
use Rattle.gn_rules.specs.declared.receipt.Step.{Step}
use Rattle.gn_io.specs.Parts.{LeavesToWrite, block_size}
use Rattle.gn_io.specs.Streams.{SinkState}
use Rattle.gn_io.proofs.StreamLemmas.{leaves_all}
use Rattle.gn_journal.specs.Rings.{RingName, name_of}
use Rattle.gn_printed.specs.declared.ending.Waiting.{Waiting}
use Rattle.gn_printed.specs.declared.printed.PrintFault.{PrintFault}
use Rattle.gn_scribe.specs.declared.scribe.Scribe.{Scribe}
use Rattle.gn_printed.specs.Printed.{IsPrintFault}
use Rattle.gn_scribe.specs.Written.{HasBroken, HasEnded, HasFollowed, HasWritten}
use Rattle.gn_load.specs.Journalled.{HasStoppedWriting}

-- two ends that have one name are of one ring
same_ring : {T A P : Type 0} (p c : End T A P) → name_of c ≡ name_of p → SameRing p c
same_ring p c is = (
  ap (λ (n : RingName _). n.words) is,
  ap (λ (n : RingName _). n.slots) is,
  ap (λ (n : RingName _). n.names) is,
  ap (λ (n : RingName _). n.heap) is,
)

-- and the other way round
same_name : {T A P : Type 0} (p q : End T A P) → SameRing p q → name_of q ≡ name_of p
same_name p q same = rw (same.0, same.1, same.2, same.3) refl

some_is : {T : Type 0} {a b : T} → Some a ≡ Some b → a ≡ b
some_is is = cc

-- a sending and a taking end whose ring has one name are a pair
pub ends_meet : {T A P : Type 0} (ring : Option (RingName A)) (p c : End T A P) → ring ≡ Some (name_of p) → ring ≡ Some (name_of c) → SameRing p c
ends_meet ring p c h k = same_ring p c (some_is (sym k ∙ h))

module _ {A : Type 0} where
  -- a scribe that followed a run has the ring that it had
  pub stays_here : (ring : Option (RingName A)) (before after : Scribe A) (old new : SinkState) (written : Result ⊤ PrintFault) → ring ≡ Some (name_of before.steps.end)
      → HasFollowed before after old new written → ring ≡ Some (name_of after.steps.end)
  stays_here ring before after old new (Ok x) h followed =
      h ∙ ap (λ n. Some n) (sym (same_name before.steps.end after.steps.end followed.same.0))
  stays_here ring before after old new (Err fault) h followed =
      h ∙ ap (λ n. Some n) (sym (same_name before.steps.end after.steps.end followed.0.same.0))

  -- what a scribe did, by its answer
  pub followed_of : (before after : Scribe A) (old new : SinkState) (written : Result ⊤ PrintFault) → OnOk written (HasWritten before after old new)
      → OnErr written (HasBroken before after old new) → IfErr written (λ fault. IsPrintFault fault old new) → HasFollowed before after old new written
  followed_of before after old new (Ok x) all broken cause = all
  followed_of before after old new (Err fault) all broken cause = (broken, cause)

  -- steps that are legal by the configuration that has a name are so by whatever has it
  pub legal_by_name : (name : Option Config) (a : Config) (steps : List (Step A)) → ForSome name (λ s. s ≡ a) → IsLegal a (reverse steps)
      → ForSome name (λ s. IsLegal s (reverse steps))
  legal_by_name name a steps is legal s named = subst (λ c. IsLegal c (reverse steps)) (sym (is s named)) legal

  -- one that took no step and is given up has done all
  pub given_up : (scribe : Scribe A) (sink : SinkState) (waiting : Waiting A) (done : ⊤) → received scribe.steps ≡ [] → waiting.block ≡ scribe.block → waiting.is_begun ≡ false
      → HasEnded scribe [] sink sink (Ok done) (Ok waiting)
  given_up scribe sink waiting done none is begun = record {
    more = [];
    all = sym (append-nil (received scribe.steps) ∙ none);
    left = subst (λ (all : List ℕ). LeavesToWrite sink.written sink.written waiting.block all) (is ∙ sym (append-nil scribe.block)) (leaves_all sink.written waiting.block);
    small = λ less. subst (λ (b : List ℕ). length b < block_size) (sym is) less;
    unfailed = (refl, refl);
    begun = λ _. ((λ is. absurd (cc)), (λ some. absurd (some refl)));
  }

  -- where nothing more is written of a run that stopped
  pub still_stopped : (history : Option (Unkept (Step A))) (sink : SinkState) (waiting : Result (Waiting A) PrintFault) → HasStoppedWriting history sink sink waiting
  still_stopped history sink (Ok waiting) = inl refl
  still_stopped history sink (Err fault) = refl
