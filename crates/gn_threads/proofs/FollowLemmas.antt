-- What follows of a run of which the headline holds.
use Rattle.std.proofs.Common.{◌≡◌, ◌≤◌, ◌<◌, ◌+◌, ℕ, Bool, true, false, zero, suc, List, [], length, map, get_or, reverse, take, Option, Some, None, refl, sym, ap, ◌∙◌, subst, arith}
use Rattle.std.specs.List.{sum_by}
use Rattle.std.proofs.Math.Seq.{take-length}
use Rattle.std.proofs.lemmas.Bool.{eqb-true}
use Rattle.std.proofs.lemmas.List.{get_or-map, length-map}
use Rattle.std.proofs.lemmas.List.Sums.{sum_by_more}
use Rattle.gn_rules.specs.declared.config.Config.{Config}
use Rattle.gn_rules.specs.declared.receipt.Receipt.{Receipt}
use Rattle.gn_rules.specs.declared.receipt.Step.{Step}
use Rattle.gn_rules.specs.Answer.{IsLegal}
use Rattle.gn_rules.specs.Flight.{flying}
use Rattle.gn_rules.specs.Limits.{most_reads}
use Rattle.gn_shake.specs.declared.role.Role.{Role}
use Rattle.gn_links.specs.Halves.{ReadHalf, WrittenHalf}
use Rattle.gn_laws.specs.Owners.{LinkAgrees, receipts_below}
use Rattle.gn_laws.specs.Runs.{RoutesAll}
use Rattle.gn_laws.proofs.OwnerLemmas.{links_agree, receipts_add_up}
use Rattle.gn_laws.proofs.RunLemmas.{settled_routes_all}
use Rattle.gn_report.specs.declared.report.LinkReport.{LinkReport}
use Rattle.gn_report.specs.declared.report.Report.{Report}
use Rattle.gn_actors.specs.declared.who.Who.TheVariants.{House, Writer}
use Rattle.gn_report.specs.Actors.{AreOwn, number_in, receipts_of}
use Rattle.gn_report.specs.BodyEnds.{is_settled}
use Rattle.gn_report.proofs.ConfirmedLemmas.{Confirmed, compared, took_all}
use Rattle.gn_report.proofs.ReceiptLemmas.{as_many_as_actors}
use Rattle.gn_threads.specs.Headline.{Holds, RunsAddUp}
use Rattle.gn_threads.proofs.EndLemmas.{link_read, link_written}

-- what the headline says of the actors
pub confirmed_of : {Rd W A : Type 0} (batch : ℕ) (reads : Rd → ReadHalf) (writes : W → WrittenHalf) (s : Config) (roles : List Role) (workers : ℕ) (report : Report Rd W A)
    → Holds batch reads writes s roles workers report → Confirmed false (is_settled report.history.items) roles report
confirmed_of batch reads writes s roles workers report holds = record {
  own = holds.own.0;
  only = holds.own.1;
  reader = λ k role link below.
      let at = holds.links k role link below in
      record { conn = at.conn; events = at.reader.0; once = at.reader.1; end = (link_read reads writes (most_reads s.numbers.steps) batch roles report k (get_or roles k role) (get_or report.links.items k link) at).1 };
  writer = λ k role link below.
      let at = holds.links k role link below in
      record { events = at.writer; end = (link_written reads writes (most_reads s.numbers.steps) batch roles report k (get_or roles k role) (get_or report.links.items k link) at).1 };
  others = holds.routes.0;
}

-- the first a actors have as many receipts as they made steps
counted_below : {Rd W A : Type 0} (report : Report Rd W A) → AreOwn report → (a : ℕ) → a ≤ number_in report House + 1
    → sum_by (λ receipts. length receipts) (take a (receipts_of report)) ≡ receipts_below report.history.items a
counted_below report own zero low = refl
counted_below {Rd} {W} {A} report own (suc a) low =
    let more : sum_by (λ (receipts : List (Receipt A)). length receipts) (take (a + 1) (receipts_of report)) ≡ sum_by (λ (receipts : List (Receipt A)). length receipts) (take a (receipts_of report)) + length (get_or (receipts_of report) a []) =
    sum_by_more (λ (receipts : List (Receipt A)). length receipts) (receipts_of report) a [] (omega (arith, low, as_many_as_actors report)) in
    let one : suc a ≡ a + 1 = omega arith in
    let next : sum_by (λ (receipts : List (Receipt A)). length receipts) (take (suc a) (receipts_of report)) ≡ sum_by (λ (receipts : List (Receipt A)). length receipts) (take (a + 1) (receipts_of report)) =
    ap (λ (n : ℕ). sum_by (λ (receipts : List (Receipt A)). length receipts) (take n (receipts_of report))) one in
    omega (arith, next, more, counted_below report own a (omega (arith, low)), ap (λ (receipts : List (Receipt A)). length receipts) (own a (omega (arith, low))))

-- all receipts are as many as the steps
adds_up : {Rd W A : Type 0} (settled : ℕ → Bool) (roles : List Role) (report : Report Rd W A) → Confirmed false settled roles report
    → sum_by (λ receipts. length receipts) (receipts_of report) ≡ length report.history.items
adds_up {Rd} {W} {A} settled roles report all =
    let receipts = receipts_of report in
    let whole : take (number_in report House + 1) receipts ≡ receipts = ap (λ n. take n receipts) (sym (as_many_as_actors report)) ∙ take-length receipts in
    ap (λ rs. sum_by (λ (r : List (Receipt A)). length r) rs) (sym whole) ∙ counted_below report all.own (number_in report House + 1) (omega arith)
    ∙ (receipts_add_up A report.history.items (number_in report House + 1)).1 all.only

-- each admitted ticket is routed once
routes_each_once : {A : Type 0} (s : Config) (steps : List (Step A)) → IsLegal s (reverse steps) → is_settled steps (length steps) ≡ true → RoutesAll steps
routes_each_once {A} s steps legal settled =
    let none : length (flying (reverse (take (length steps) steps))) ≡ 0 = eqb-true (length (flying (reverse (take (length steps) steps)))) 0 settled in
    settled_routes_all A s steps legal (subst (λ (x : List (Step A)). length (flying (reverse x)) ≡ 0) (take-length steps) none)

-- a link's two bodies have receipts of all that the history says of its connection
link_agrees : {Rd W A : Type 0} (s : Config) (settled : ℕ → Bool) (roles : List Role) (report : Report Rd W A) → IsLegal s (reverse report.history.items) → Confirmed false settled roles report
    → (k c : ℕ) (link : LinkReport Rd W A) → k < length report.links.items → (get_or report.links.items k link).conn ≡ Some c
    → LinkAgrees report.history.items k (number_in report (Writer k)) c
link_agrees {Rd} {W} {A} s settled roles report legal all k c link below is =
    let links = report.links.items in
    let conns : List (Option ℕ) = map (λ (l : LinkReport Rd W A). l.conn) links in
    let many : length conns ≡ length links = length-map links (λ (l : LinkReport Rd W A). l.conn) in
    let conn : get_or conns k None ≡ Some c = get_or-map (λ (l : LinkReport Rd W A). l.conn) links k link None below ∙ is in
    let agrees = links_agree A s report.history.items conns k c legal (compared s settled roles report legal all) (omega (arith, many, below)) conn in
    let at : length conns + k ≡ length links + k = omega (arith, many) in
    subst (λ w. LinkAgrees report.history.items k w c) at agrees

pub runs_add_up : (Rd W A : Type 0) → RunsAddUp Rd W A
runs_add_up Rd W A batch reads writes s roles workers report holds =
    let settled = is_settled report.history.items in
    let all = confirmed_of batch reads writes s roles workers report holds in
    record {
      counted = adds_up settled roles report all;
      routed = routes_each_once s report.history.items holds.legal holds.routes.1;
      agrees = link_agrees s settled roles report holds.legal all;
      took = took_all s settled roles report holds.legal all;
    }
