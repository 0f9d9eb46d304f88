use Rattle.std.proofs.Common.{◌≡◌, length, map, ap, arith, subst, sym, rules, ◌∙◌}
use Rattle.std.specs.Prelude.{IfErr, IfOk, IfSome}
use Rattle.std.specs.Vec.Iter.{into_iter_items}
use Rattle.std.proofs.lemmas.List.{length-map}
use Rattle.std.proofs.lemmas.Simd.{map-map}
use Rattle.gn_rules.specs.Limits.{IsCrew}
use Rattle.gn_report.specs.Accounts.{report_of}
use Rattle.gn_threads.specs.Answers.{halted_views}
use Rattle.gn_threads.specs.Courses.{AreTallies}
use Rattle.gn_start.specs.Faults.{IsWholeFault}
use Rattle.gn_threads.specs.Headline.{AreMadeOf, Holds, LinksReadOwn}
use Rattle.gn_threads.proofs.AnswerLemmas.{at_fault, none_kept}
use Rattle.gn_threads.proofs.FaultLemmas.{err_without_peers, split_is_fault}
use Rattle.gn_threads.proofs.HoldsLemmas.{own_of_known}
use Rattle.gn_threads.proofs.ListLemmas.{all_come}
use Rattle.gn_threads.proofs.CourseLemmas.{left_unopened}
use Rattle.gn_threads.proofs.runs.run_by.Goals as goal

pub returns-clause-answer : goal.returns-clause-answer
returns-clause-answer g c =
    let roles = c.as_slice-roles.ensures.value ∙ c.in-Ok.ensures.roles in
    let many = ap length roles ∙ length-map c.args.links.items g.K.Link.role_of in
    let gives : into_iter_items c.into_iter.result ≡ c.in-Ok.split.links.items = c.into_iter.ensures.rest in
    let first = all_come g.K.Link.origin_of c.args.links.items (map (λ link. g.K.Reader.LinkReader.made_of link.reader) (into_iter_items c.into_iter.result)) _ (ap (λ ls. map (λ link. g.K.Reader.LinkReader.made_of link.reader) ls) gives ∙ c.in-Ok.ensures.made) many in
    let given = c.run_arriving_by.ensures.answer in
    record {
      run = record {
        crew = given.run.crew;
        bad_workers = given.run.bad_workers;
        fault = err_without_peers (λ halted. halted.fault) (map g.K.Link.may_not_split c.args.links.items) _ c.args.asked.now.workers c.run_arriving_by.result.0 (length-map c.args.links.items g.K.Link.may_not_split ∙ sym many) given.run.fault;
        holds = subst (λ roles. IfOk c.run_arriving_by.result.0 (λ account. Holds c.args.asked.now.batch g.K.Reader.LinkReader.state g.K.Writer.LinkWriter.state c.args.asked.now.config.now roles c.args.asked.now.workers (report_of account))) roles given.run.holds;
        made = subst (λ made. IfOk c.run_arriving_by.result.0 (λ account. AreMadeOf g.K.Reader.LinkReader.made_of g.K.Writer.LinkWriter.made_of made (report_of account))) first given.run.made;
      };
      kept = given.kept;
      full = given.full;
    }

pub returns-clause-tallied : goal.returns-clause-tallied
returns-clause-tallied g c =
    let many = ap length (c.as_slice-roles.ensures.value ∙ c.in-Ok.ensures.roles) ∙ length-map c.args.links.items g.K.Link.role_of in
    subst (λ n. IfErr c.run_arriving_by.result.0 (λ halted. IfSome halted.history (λ history. IfSome halted.links (λ tallies. AreTallies history.items n tallies.items)))) many c.run_arriving_by.ensures.tallied

pub returns-clause-bytes : goal.returns-clause-bytes
returns-clause-bytes g c =
    let gives : into_iter_items c.into_iter.result ≡ c.in-Ok.split.links.items = c.into_iter.ensures.rest in
    let many = ap length (c.as_slice-roles.ensures.value ∙ c.in-Ok.ensures.roles) ∙ length-map c.args.links.items g.K.Link.role_of in
    let first = all_come g.K.Link.origin_of c.args.links.items (map (λ link. g.K.Reader.LinkReader.made_of link.reader) (into_iter_items c.into_iter.result)) _ (ap (λ ls. map (λ link. g.K.Reader.LinkReader.made_of link.reader) ls) gives ∙ c.in-Ok.ensures.made) many in
    let own = own_of_known g.K.Reader.LinkReader.state g.K.Reader.LinkReader.made_of g.K.Writer.LinkWriter.made_of g.K.Reader.LinkReader.gives _ c.run_arriving_by.result.0 c.run_arriving_by.ensures.answer.run.made c.run_arriving_by.ensures.arrived in
    subst (λ sources. IfOk c.run_arriving_by.result.0 (λ account. LinksReadOwn g.K.Reader.LinkReader.state sources (report_of account))) (ap (map g.K.Reader.LinkReader.gives) first ∙ map-map g.K.Reader.LinkReader.gives g.K.Link.origin_of c.args.links.items) own

pub split_all-requires : goal.split_all-requires
split_all-requires g c = record { few = omega (arith, c.requires.few) }

pub returns-in-Err-clause-answer : goal.returns-in-Err-clause-answer
returns-in-Err-clause-answer g c =
    let within : IsCrew c.args.asked.now.workers = search rules in
    let may = subst (λ fault. IsWholeFault (map g.K.Link.may_not_split c.args.links.items) c.args.asked.now.workers fault) (sym (c.before-in-Err.ensures.0 ∙ c.from.ensures)) (split_is_fault _ c.args.asked.now.workers _ c.in-Err.ensures.fault) in
    none_kept _ _ _ _ _ _ halted_views c.before-in-Err.result c.before-in-Err.ensures.1 (at_fault _ _ _ _ _ _ c.before-in-Err.result within (λ never. never) may)

pub returns-then-workers-eq0-clause-rest : goal.returns-then-workers-eq0-clause-rest
returns-then-workers-eq0-clause-rest g c = left_unopened _ _ _ c.before-then-workers-eq0.result c.before-then-workers-eq0.ensures.1 c.give_up.ensures

pub returns-in-Err-clause-rest : goal.returns-in-Err-clause-rest
returns-in-Err-clause-rest g c = left_unopened _ _ _ c.before-in-Err.result c.before-in-Err.ensures.1 c.give_up-in-Err.ensures
