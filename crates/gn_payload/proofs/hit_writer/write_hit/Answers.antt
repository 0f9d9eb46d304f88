use Rattle.std.proofs.Common.{length, ◌∙◌, sym, arith}
use Rattle.std.proofs.lemmas.List.{length-map}
use Rattle.gn_payload.specs.Refusals.{zero_in_result}
use Rattle.gn_payload.specs.Views.{hit_fields, result_fields}
use Rattle.gn_payload.proofs.EntryLemmas.{any_mapped}
use Rattle.gn_payload.proofs.HitEncoded.{hit_length, hit_encoded, hit_appended, zero_refused, many_refused, long_refused, none_refused}
use Rattle.gn_payload.proofs.hit_writer.write_hit.Goals as goal

pub returns-clause-ok : goal.returns-clause-ok
returns-clause-ok g c =
    let h = hit_fields c.args.port c.args.ip c.args.speed c.args.results.now c.args.trailer.now c.args.servent in
    hit_appended h c.args.out.now.items _ _ _ _ _ (length c.args.results.now) (sym (length-map c.args.results.now result_fields)) c.reserve.ensures.items c.put_head.ensures.items c.put_results.ensures.items c.put.ensures.items c.put-2.ensures.items

pub returns-clause-read : goal.returns-clause-read
returns-clause-read g c =
    let h = hit_fields c.args.port c.args.ip c.args.speed c.args.results.now c.args.trailer.now c.args.servent in
    hit_encoded h (omega arith) (omega arith) (omega arith) (omega arith) c.put_results.ensures.numbers (any_mapped zero_in_result c.args.results.now ∙ sym c.any_zero.ensures ∙ c.if-any_zero.false)

pub returns-clause-refusal : goal.returns-clause-refusal
returns-clause-refusal g c =
    let h = hit_fields c.args.port c.args.ip c.args.speed c.args.results.now c.args.trailer.now c.args.servent in
    let long = hit_length h (omega arith) (omega arith) in
    let sized = c.in-Some.ensures in
    none_refused h (any_mapped zero_in_result c.args.results.now ∙ sym c.any_zero.ensures ∙ c.if-any_zero.false) (omega (arith, length-map c.args.results.now result_fields)) (omega (arith, long, sized))

pub returns-then-any_zero-clause-refusal : goal.returns-then-any_zero-clause-refusal
returns-then-any_zero-clause-refusal g c =
    let h = hit_fields c.args.port c.args.ip c.args.speed c.args.results.now c.args.trailer.now c.args.servent in
    zero_refused h (any_mapped zero_in_result c.args.results.now ∙ sym c.any_zero.ensures ∙ c.if-any_zero.true)

pub returns-then-results-gt255-clause-refusal : goal.returns-then-results-gt255-clause-refusal
returns-then-results-gt255-clause-refusal g c =
    let h = hit_fields c.args.port c.args.ip c.args.speed c.args.results.now c.args.trailer.now c.args.servent in
    many_refused h (any_mapped zero_in_result c.args.results.now ∙ sym c.any_zero.ensures ∙ c.if-any_zero.false) (omega (arith, length-map c.args.results.now result_fields))

pub returns-in_default-clause-refusal : goal.returns-in_default-clause-refusal
returns-in_default-clause-refusal g c =
    let h = hit_fields c.args.port c.args.ip c.args.speed c.args.results.now c.args.trailer.now c.args.servent in
    let long = hit_length h (omega arith) (omega arith) in
    let sized = c.in_default.ensures in
    long_refused h (any_mapped zero_in_result c.args.results.now ∙ sym c.any_zero.ensures ∙ c.if-any_zero.false) (omega (arith, length-map c.args.results.now result_fields)) (omega (arith, long, sized))

pub returns-then-is_err-clause-refusal : goal.returns-then-is_err-clause-refusal
returns-then-is_err-clause-refusal g c =
    let h = hit_fields c.args.port c.args.ip c.args.speed c.args.results.now c.args.trailer.now c.args.servent in
    let long = hit_length h (omega arith) (omega arith) in
    let sized = c.in-Some.ensures in
    none_refused h (any_mapped zero_in_result c.args.results.now ∙ sym c.any_zero.ensures ∙ c.if-any_zero.false) (omega (arith, length-map c.args.results.now result_fields)) (omega (arith, long, sized))
