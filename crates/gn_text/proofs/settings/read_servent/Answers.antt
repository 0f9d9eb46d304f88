use Rattle.std.proofs.Common.{arith, map}
use Rattle.std.proofs.lemmas.List.{length-map}
use Rattle.gn_text.proofs.SettingsLemmas.{other_fields}
use Rattle.gn_text.proofs.settings.read_servent.Goals as goal

pub returns-in_default : goal.returns-in_default
returns-in_default g c = other_fields (map (λ x. x.now) c.args.fields.now) (λ e. omega (arith, c.in_default.len_below, simp length-map at e))

pub returns-in_default-3 : goal.returns-in_default-3
returns-in_default-3 g c = other_fields (map (λ x. x.now) c.args.fields.now) (λ e. omega (arith, c.in_default.len_at_least, simp length-map at e))
