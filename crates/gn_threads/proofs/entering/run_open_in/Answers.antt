use Rattle.std.proofs.Common.{◌≡◌, false, subst, sym, true}
use Rattle.std.proofs.lemmas.Result.{IfErr-weaker, IfOk-weaker}
use Rattle.gn_report.specs.Accounts.{are_houses}
use Rattle.gn_actors.specs.declared.who.Numbering.TheVariants.{Open}
use Rattle.gn_start.specs.Over.{HaveCome, views_of}
use Rattle.gn_threads.proofs.AnsweredLemmas.{ok_always}
use Rattle.gn_threads.proofs.AnswerLemmas.{crewed}
use Rattle.gn_threads.proofs.CameLemmas.{open_answered, open_fault, open_kept, open_recalled}
use Rattle.gn_threads.proofs.entering.run_open_in.Goals as goal

pub returns-clause-answer : goal.returns-clause-answer
returns-clause-answer g c =
    let left = c.run_bodies-left.result.0 in
    let answer = c.conclude_open-answer.result.0 in
    let told = c.conclude_open-answer.ensures in
    let workers = c.args.asked.now.workers in
    let is = subst (λ opened. opened.numbering ≡ Open workers) (sym c.new-begun.ensures.0) c.in-Ok.ensures.numbering in
    let fault = open_fault g.V.Incoming.has_peers c.new-begun.result.opened.numbering left.over workers left.fault is c.run_bodies-left.ensures.fault in
    record {
      run = crewed _ _ _ _ _ _ answer c.requires.few (λ never. never.1) (IfErr-weaker answer _ _ (λ halted may. may g.V.Incoming.has_peers fault) told.fault) (ok_always answer _ tt) (ok_always answer _ tt);
      kept = told.kept;
      full = told.full;
    }

pub returns-clause-account : goal.returns-clause-account
returns-clause-account g c = λ none.
    let left = c.run_bodies-left.result.0 in
    let given = c.run_bodies-left.ensures in
    let views = views_of g.V.Reader.LinkReader.state g.V.Writer.LinkWriter.state g.V.Reader.LinkReader.gives g.V.Reader.LinkReader.made_of g.V.Writer.LinkWriter.made_of in
    let incoming = c.args.entering.incoming in
    let came = subst (λ those. HaveCome views g.V.Incoming.foreknown g.V.Incoming.is_known (g.V.Incoming.may_come those) (g.V.Incoming.may_end those) left.over) c.new-begun.ensures.1 given.came in
    let house = subst (λ those. g.V.Incoming.recalls those ≡ false → are_houses (g.V.Incoming.originates those) left.house.receipts ≡ true) c.new-begun.ensures.1 given.house.own in
    let own = house none in
    open_answered g.B.Limited.turns g.B.Limited.batch views g.V.Incoming.foreknown c.args.asked.now.config.now c.args.asked.now.workers left.over g.V.Incoming.is_known (g.V.Incoming.may_come incoming) (g.V.Incoming.may_end incoming) came left.fault given.fault.stopped
    (λ well. (given.over.whole well).0) (g.V.Incoming.originates incoming) c.conclude_open-answer.result.0 c.conclude_open-answer.ensures.links
    (IfOk-weaker c.conclude_open-answer.result.0 _ _ (λ account ended. ended (g.V.Incoming.originates incoming) own) c.conclude_open-answer.ensures.ended)

pub returns-clause-recalled : goal.returns-clause-recalled
returns-clause-recalled g c =
    let left = c.run_bodies-left.result.0 in
    let given = c.run_bodies-left.ensures in
    let views = views_of g.V.Reader.LinkReader.state g.V.Writer.LinkWriter.state g.V.Reader.LinkReader.gives g.V.Reader.LinkReader.made_of g.V.Writer.LinkWriter.made_of in
    let incoming = c.args.entering.incoming in
    let came = subst (λ those. HaveCome views g.V.Incoming.foreknown g.V.Incoming.is_known (g.V.Incoming.may_come those) (g.V.Incoming.may_end those) left.over) c.new-begun.ensures.1 given.came in
    open_recalled g.B.Limited.turns g.B.Limited.batch views g.V.Incoming.foreknown c.args.asked.now.config.now c.args.asked.now.workers left.over g.V.Incoming.is_known (g.V.Incoming.may_come incoming) (g.V.Incoming.may_end incoming) came left.fault given.fault.stopped
    (λ well. (given.over.whole well).0) c.conclude_open-answer.result.0 c.conclude_open-answer.ensures.links c.conclude_open-answer.ensures.recalled

pub returns-clause-keeper : goal.returns-clause-keeper
returns-clause-keeper g c =
    let left = c.run_bodies-left.result.0 in
    let given = c.run_bodies-left.ensures in
    let views = views_of g.V.Reader.LinkReader.state g.V.Writer.LinkWriter.state g.V.Reader.LinkReader.gives g.V.Reader.LinkReader.made_of g.V.Writer.LinkWriter.made_of in
    let incoming = c.args.entering.incoming in
    let came = subst (λ those. HaveCome views g.V.Incoming.foreknown g.V.Incoming.is_known (g.V.Incoming.may_come those) (g.V.Incoming.may_end those) left.over) c.new-begun.ensures.1 given.came in
    open_kept g.B.Limited.turns g.B.Limited.batch views g.V.Incoming.foreknown c.args.asked.now.config.now c.args.asked.now.workers left.over g.V.Incoming.is_known (g.V.Incoming.may_come incoming) (g.V.Incoming.may_end incoming) came left.fault given.fault.stopped
    (λ well. (given.over.whole well).0) g.K.Keeping.keeps c.conclude_open-answer.result.1 c.conclude_open-answer.result.0 c.conclude_open-answer.ensures.keeper given.over.kept c.conclude_open-answer.ensures.links
