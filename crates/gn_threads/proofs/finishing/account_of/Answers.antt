use Rattle.std.proofs.Common.{◌∙◌, ap, false, reverse, subst, sym}
use Rattle.gn_rules.specs.Answer.{IsLegal}
use Rattle.gn_rules.specs.Statistics.{stats_of}
use Rattle.gn_rules.specs.Limits.{most_reads}
use Rattle.gn_start.specs.Over.{views_of}
use Rattle.gn_threads.specs.Left.{IsCalm, IsGathered}
use Rattle.gn_threads.proofs.AccountLemmas.{account_holds}
use Rattle.gn_threads.proofs.finishing.account_of.Goals as goal

pub returns-clause-holds : goal.returns-clause-holds
returns-clause-holds g c =
    let all = c.args.all in
    let call = c.args.config.now in
    let settings = g.C.RouterCore.settings c.args.core.now in
    let views = views_of g.V.Reader.LinkReader.state g.V.Writer.LinkWriter.state g.V.Reader.LinkReader.gives g.V.Reader.LinkReader.made_of g.V.Writer.LinkWriter.made_of in
    let same = sym c.unkept_steps.ensures in
    account_holds g.L.Limited.batch views call settings (record { history = c.unkept_steps.result; links = all.links; workers = all.workers; house = all.house; stats = c.stats.result; numbered = _ }) all.looks
    (subst (λ steps. IsGathered views (most_reads call.numbers.steps) g.L.Limited.batch steps all.links.items all.workers.items all.house all.looks) same c.requires.gathered)
    (subst (λ steps. IsCalm call settings steps all.looks) same c.requires.calm)
    c.ended_is_seen.ensures (subst (λ steps. IsLegal settings (reverse steps)) same c.is_legal.ensures) (c.stats.ensures ∙ ap (λ steps. stats_of (reverse steps)) same) false c.requires.house
