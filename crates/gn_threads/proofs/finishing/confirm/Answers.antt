use Rattle.std.proofs.Common.{◌∙◌, ap, arith, length, map, subst, sym, vec_len}
use Rattle.std.proofs.lemmas.List.{length-map}
use Rattle.gn_rules.specs.Limits.{most_reads}
use Rattle.gn_report.specs.Accounts.{report_of}
use Rattle.gn_report.specs.declared.account.LinkEnd.TheVariants.{Whole}
use Rattle.gn_start.specs.Over.{AllEnded, views_of}
use Rattle.gn_threads.specs.Headline.{Holds}
use Rattle.gn_threads.specs.Left.{IsCalm, IsGathered}
use Rattle.gn_threads.proofs.finishing.confirm.Goals as goal

pub account_of-requires-clause-gathered : goal.account_of-requires-clause-gathered
account_of-requires-clause-gathered g c =
    let all = c.in_ok-all.all in
    let views = views_of g.V.Reader.LinkReader.state g.V.Writer.LinkWriter.state g.V.Reader.LinkReader.gives g.V.Reader.LinkReader.made_of g.V.Writer.LinkWriter.made_of in
    subst (λ steps. IsGathered views (most_reads c.args.config.now.numbers.steps) g.L.Limited.batch steps all.links.items all.workers.items all.house all.looks) (sym c.router-2.ensures.steps)
    (subst (λ turns. IsGathered views turns g.L.Limited.batch c.gather.new.hub.steps all.links.items all.workers.items all.house all.looks) c.requires.turns c.in_ok-all.ensures.gathered)

pub account_of-requires-clause-few : goal.account_of-requires-clause-few
account_of-requires-clause-few g c =
    let all = c.in_ok-all.all in
    let many = ap length c.in_ok-all.ensures.links ∙ length-map all.links.items (λ link. Whole link) in
    (omega (arith, many, all.links.ok, c.requires.few.0), omega (arith, c.in_ok-all.ensures.workers, c.requires.few.1))

pub account_of-requires-clause-calm : goal.account_of-requires-clause-calm
account_of-requires-clause-calm g c =
    let call = c.args.config.now in
    let looks = c.in_ok-all.all.looks in
    subst (λ settings. IsCalm call settings (g.C.RouterCore.steps c.router-2.result.now) looks) (c.router.ensures.settings ∙ sym c.router-2.ensures.settings)
    (subst (λ steps. IsCalm call (g.C.RouterCore.settings c.router.result.now) steps looks) (c.router.ensures.steps ∙ sym c.router-2.ensures.steps) (c.is_calm.ensures c.if-not-is_calm.false))

pub returns-clause-holds : goal.returns-clause-holds
returns-clause-holds g c =
    let all = c.in_ok-all.all in
    let account = c.account_of.result in
    let reads = g.V.Reader.LinkReader.state in
    let writes = g.V.Writer.LinkWriter.state in
    let call = c.args.config.now in
    subst (λ n. Holds g.L.Limited.batch reads writes call (map (λ link. link.role) account.links.items) n (report_of account)) c.in_ok-all.ensures.workers
    (subst (λ links. Holds g.L.Limited.batch reads writes call (map (λ link. link.role) links.items) (vec_len all.workers) (report_of account)) (sym c.account_of.ensures.links) c.account_of.ensures.holds)

pub returns-clause-ended : goal.returns-clause-ended
returns-clause-ended g c =
    let account = c.account_of.result in
    let views = views_of g.V.Reader.LinkReader.state g.V.Writer.LinkWriter.state g.V.Reader.LinkReader.gives g.V.Reader.LinkReader.made_of g.V.Writer.LinkWriter.made_of in
    subst (λ steps. AllEnded g.L.Limited.turns g.L.Limited.batch views steps account.links.items) (sym (c.account_of.ensures.steps ∙ c.router-2.ensures.steps))
    (subst (λ links. AllEnded g.L.Limited.turns g.L.Limited.batch views c.gather.new.hub.steps links.items) (sym c.account_of.ensures.links) c.in_ok-all.ensures.gathered.each)
