use Rattle.std.proofs.Common.{◌∙◌}
use Rattle.gn_payload.specs.Fields.{HitFields}
use Rattle.gn_payload.specs.Grammar.{IsHit}
use Rattle.gn_payload.specs.Reading.{hit_reading}
use Rattle.gn_payload.proofs.HitGrammar.{hit_read, read_hit}
use Rattle.gn_payload.proofs.Readers.{found_of, none_of, as_it_is}
use Rattle.gn_payload.proofs.hit.read_hit.Goals as goal

pub returns-clause-found : goal.returns-clause-found
returns-clause-found c =
    let bytes = c.args.bytes.now in
    found_of (λ (x : HitFields). x) (IsHit bytes) (hit_reading bytes) c.hit_in.result (read_hit bytes) (as_it_is c.hit_in.result ∙ c.hit_in.ensures)

pub returns-clause-none : goal.returns-clause-none
returns-clause-none c =
    let bytes = c.args.bytes.now in
    none_of (λ (x : HitFields). x) (IsHit bytes) (hit_reading bytes) c.hit_in.result (hit_read bytes) (as_it_is c.hit_in.result ∙ c.hit_in.ensures)
