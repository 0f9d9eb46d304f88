use Rattle.std.specs.Prelude.{◌≡◌, ◌++◌, drop, map, option_map}
use Rattle.gn_capture.specs.Replies.{sends_parsed}
use Rattle.gn_capture.specs.Known.{SaysLast}
use Rattle.gn_capture.proofs.sends.read_sends.Given as goal

abbrev pub invariant-loop-field : goal.invariant-loop-field
invariant-loop-field g l = record {
  parsed : option_map (λ more. l.sends ++ more) (sends_parsed (map (λ x. x.now) (drop l.field-index l.fields))) ≡ sends_parsed (map (λ x. x.now) l.fields);
  last : SaysLast l.hex l.sends;
}
