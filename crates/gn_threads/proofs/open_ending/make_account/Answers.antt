use Rattle.std.proofs.Common.{◌≡◌, ◌+◌, ◌∙◌, ap, length, nat_lt, reverse, subst, sym, true, vec_len}
use Rattle.std.specs.List.{list_all}
use Rattle.gn_rules.specs.Answer.{IsLegal}
use Rattle.gn_rules.specs.Limits.{most_reads}
use Rattle.gn_rules.specs.Statistics.{stats_of}
use Rattle.gn_renumber.specs.Renumbered.{renumbered}
use Rattle.gn_start.specs.Over.{views_of}
use Rattle.gn_threads.specs.Left.{IsCalm, IsGathered}
use Rattle.gn_threads.proofs.OpenLemmas.{open_ended, open_history}
use Rattle.gn_threads.proofs.open_ending.make_account.Goals as goal

pub returns-clause-ended : goal.returns-clause-ended
returns-clause-ended g c = λ originates own.
    let all = c.args.all in
    let call = c.args.config.now in
    let settings = g.C.RouterCore.settings c.args.core.now in
    let looks = c.args.looks.now in
    let links = all.links.items in
    let views = views_of g.V.Reader.LinkReader.state g.V.Writer.LinkWriter.state g.V.Reader.LinkReader.gives g.V.Reader.LinkReader.made_of g.V.Writer.LinkWriter.made_of in
    let same = sym c.unkept_steps.ensures in
    let given = c.requires.gathered in
    open_ended c.ended_is_seen.ensures c.moved_is_legal.ensures c.moved_is_alike.ensures g.L.Limited.batch views call settings
    (record { history = c.unkept_steps.result; links = all.links; workers = all.workers; house = all.house; stats = c.stats.result; numbered = _ }) looks
    (subst (λ steps. list_all (λ step. nat_lt step.actor (1 + vec_len all.workers + (length links + length links))) steps ≡ true) same
    (subst (λ n. list_all (λ step. nat_lt step.actor (1 + n + (length links + length links))) (g.C.RouterCore.steps c.args.core.now) ≡ true) (sym all.workers.ok.0) given.only))
    (subst (λ steps. IsGathered views (most_reads call.numbers.steps) g.L.Limited.batch (renumbered (length links) (length all.workers.items) steps) links all.workers.items all.house looks) same given.gathered)
    (subst (λ steps. IsCalm call settings steps looks) same c.requires.calm)
    (subst (λ steps. IsLegal settings (reverse steps)) same c.is_legal.ensures) (c.stats.ensures ∙ ap (λ steps. stats_of (reverse steps)) same) originates own

pub returns-clause-recalled : goal.returns-clause-recalled
returns-clause-recalled g c =
    let all = c.args.all in
    let call = c.args.config.now in
    let settings = g.C.RouterCore.settings c.args.core.now in
    let looks = c.args.looks.now in
    let links = all.links.items in
    let views = views_of g.V.Reader.LinkReader.state g.V.Writer.LinkWriter.state g.V.Reader.LinkReader.gives g.V.Reader.LinkReader.made_of g.V.Writer.LinkWriter.made_of in
    let same = sym c.unkept_steps.ensures in
    let given = c.requires.gathered in
    open_history g.L.Limited.batch views call settings
    (record { history = c.unkept_steps.result; links = all.links; workers = all.workers; house = all.house; stats = c.stats.result; numbered = _ }) looks
    (subst (λ steps. list_all (λ step. nat_lt step.actor (1 + vec_len all.workers + (length links + length links))) steps ≡ true) same
    (subst (λ n. list_all (λ step. nat_lt step.actor (1 + n + (length links + length links))) (g.C.RouterCore.steps c.args.core.now) ≡ true) (sym all.workers.ok.0) given.only))
    (subst (λ steps. IsGathered views (most_reads call.numbers.steps) g.L.Limited.batch (renumbered (length links) (length all.workers.items) steps) links all.workers.items all.house looks) same given.gathered)
    (subst (λ steps. IsCalm call settings steps looks) same c.requires.calm)
    (subst (λ steps. IsLegal settings (reverse steps)) same c.is_legal.ensures) (c.stats.ensures ∙ ap (λ steps. stats_of (reverse steps)) same)
