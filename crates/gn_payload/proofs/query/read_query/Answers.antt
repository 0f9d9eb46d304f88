use Rattle.gn_payload.specs.Grammar.{IsQuery}
use Rattle.gn_payload.specs.Reading.{query_reading}
use Rattle.gn_payload.specs.Views.{query_fields}
use Rattle.gn_payload.proofs.HitGrammar.{query_read, read_query}
use Rattle.gn_payload.proofs.Readers.{found_of, none_of}
use Rattle.gn_payload.proofs.query.read_query.Goals as goal

pub returns-clause-found : goal.returns-clause-found
returns-clause-found c =
    let bytes = c.args.bytes.now in
    found_of query_fields (IsQuery bytes) (query_reading bytes) c.query_in.result (read_query bytes) c.query_in.ensures

pub returns-clause-none : goal.returns-clause-none
returns-clause-none c =
    let bytes = c.args.bytes.now in
    none_of query_fields (IsQuery bytes) (query_reading bytes) c.query_in.result (query_read bytes) c.query_in.ensures
