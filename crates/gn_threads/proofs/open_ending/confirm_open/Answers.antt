use Rattle.std.proofs.Common.{◌≡◌, ◌∙◌, List, ap, arith, length, subst, sym, true, vec_len}
use Rattle.std.proofs.lemmas.List.{length-map}
use Rattle.gn_rules.specs.Limits.{most_reads}
use Rattle.gn_report.specs.Accounts.{are_houses, unkept_list}
use Rattle.gn_rules.specs.declared.receipt.Receipt.{Receipt}
use Rattle.gn_report.specs.declared.account.LinkEnd.TheVariants.{Whole}
use Rattle.gn_start.specs.Over.{views_of}
use Rattle.gn_threads.specs.Homecoming.{receipts_in}
use Rattle.gn_threads.specs.OpenRuns.{IsOpenEnded, IsOpenGathered, IsOpenHistory}
use Rattle.gn_threads.proofs.OpenLemmas.{all_open, open_links, open_many, open_out}
use Rattle.gn_threads.proofs.open_ending.confirm_open.Goals as goal

pub gather_open-requires-clause-out : goal.gather_open-requires-clause-out
gather_open-requires-clause-out g c = open_out _ _ _ _ _ c.args.over c.requires.over c.requires.well c.args.house c.requires.house

pub make_account-account-requires-clause-gathered : goal.make_account-account-requires-clause-gathered
make_account-account-requires-clause-gathered g c =
    let all = c.in-Ok.all in
    let looks = c.args.over.looks in
    let is = c.in-Ok.ensures in
    let views = views_of g.V.Reader.LinkReader.state g.V.Writer.LinkWriter.state g.V.Reader.LinkReader.gives g.V.Reader.LinkReader.made_of g.V.Writer.LinkWriter.made_of in
    subst (λ steps. IsOpenGathered views (most_reads c.args.config.now.numbers.steps) g.L.Limited.batch steps all looks) (sym c.router-2.ensures.steps)
    (subst (λ turns. IsOpenGathered views turns g.L.Limited.batch c.gather_open.new.hub.steps all looks) c.requires.turns
    (all_open _ _ _ _ _ c.args.over c.requires.over c.requires.well c.args.house c.requires.house c.renumbered_is_own.ensures c.renumbered_is_only.ensures c.moved_is_alike.ensures c.gather_open.new.hub.steps all
    is.links is.workers is.house is.began is.whole))

pub make_account-account-requires-clause-numbered : goal.make_account-account-requires-clause-numbered
make_account-account-requires-clause-numbered g c =
    let all = c.in-Ok.all in
    let is = c.in-Ok.ensures in
    let over = c.args.over in
    let many = open_many _ _ _ _ _ over c.requires.over c.requires.well c.args.house c.requires.house in
    let links = ap length (open_links _ _ _ _ _ over c.requires.over c.requires.well c.args.house c.requires.house all.links.items is.links) ∙ length-map all.links.items (λ link. Whole link) in
    omega (arith, many, links, is.numbered, ap length is.workers, length-map all.workers.items unkept_list, length-map over.workers.items receipts_in, over.workers.ok)

pub returns-clause-ended : goal.returns-clause-ended
returns-clause-ended g c =
    let all = c.in-Ok.all in
    let over = c.args.over in
    let views = views_of g.V.Reader.LinkReader.state g.V.Writer.LinkWriter.state g.V.Reader.LinkReader.gives g.V.Reader.LinkReader.made_of g.V.Writer.LinkWriter.made_of in
    let crew : vec_len all.workers ≡ vec_len over.workers =
    omega (arith, ap length c.in-Ok.ensures.workers, length-map all.workers.items unkept_list, length-map over.workers.items receipts_in, all.workers.ok, over.workers.ok) in
    λ originates own.
    subst (λ n. IsOpenEnded originates views g.L.Limited.batch c.args.config.now n c.make_account-account.result) crew
    (c.make_account-account.ensures.ended originates (subst (λ (rs : List (Receipt g.row.A.Denot)). are_houses originates rs ≡ true) (sym c.in-Ok.ensures.house) own))

pub returns-clause-recalled : goal.returns-clause-recalled
returns-clause-recalled g c =
    let all = c.in-Ok.all in
    let over = c.args.over in
    let views = views_of g.V.Reader.LinkReader.state g.V.Writer.LinkWriter.state g.V.Reader.LinkReader.gives g.V.Reader.LinkReader.made_of g.V.Writer.LinkWriter.made_of in
    let crew : vec_len all.workers ≡ vec_len over.workers =
    omega (arith, ap length c.in-Ok.ensures.workers, length-map all.workers.items unkept_list, length-map over.workers.items receipts_in, all.workers.ok, over.workers.ok) in
    subst (λ n. IsOpenHistory views c.args.config.now n c.make_account-account.result) crew c.make_account-account.ensures.recalled

pub returns-clause-links : goal.returns-clause-links
returns-clause-links g c =
    let over = c.args.over in
    let links = c.make_account-account.result.links in
    open_links _ _ _ _ _ over c.requires.over c.requires.well c.args.house c.requires.house links.items (rw c.make_account-account.ensures.links c.in-Ok.ensures.links)
