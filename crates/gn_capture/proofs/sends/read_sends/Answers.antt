use Rattle.std.proofs.Common.{◌+◌, arith, drop, slice_index_or, sym, subst, ◌∙◌, ℕ, List}
use Rattle.std.proofs.lemmas.Grind.{common_steps}
use Rattle.gn_capture.specs.Known.{SaysLast}
use Rattle.gn_capture.proofs.KnownLemmas.{says_sent, sends_more}
use Rattle.gn_capture.proofs.sends.read_sends.Goals as goal

pub loop-field-preserved : goal.loop-field-preserved
loop-field-preserved g c = record {
  parsed =
      sends_more c.loop-field.sends c.push.new.self (drop c.loop-field.field-index c.args.fields.now) (drop (c.loop-field.field-index + 1) c.args.fields.now)
      (slice_index_or c.args.fields.now c.loop-field.field-index _) c.in-Some.sending _ (grind (arith, common_steps))
      c.in_ok-push-in-Some.ensures.ok (sym c.in-Some.is ∙ c.in_ok-sending.ensures) c.loop-field.invariant.parsed;
  last = subst (λ (h : List ℕ). SaysLast h c.push.new.self) (sym c.hex_of-hex.ensures)
      (says_sent c.loop-field.sends c.push.new.self (slice_index_or c.args.fields.now c.loop-field.field-index _).now c.in-Some.sending
      c.in_ok-push-in-Some.ensures.ok (sym c.in-Some.is ∙ c.in_ok-sending.ensures));
}
