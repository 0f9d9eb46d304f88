use Rattle.std.proofs.Common.{arith, refl}
use Rattle.gn_text.specs.declared.octets.TheConstants.{NUMBERS}
use Rattle.gn_text.proofs.DigitLemmas.{table_reads}
use Rattle.gn_text.proofs.octets.digit_value.Goals as goal

pub returns : goal.returns
returns c = table_reads NUMBERS refl c.args.digit (omega arith)
