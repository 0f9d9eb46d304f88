-- What holds of the report that an account tells holds of the one that was made of it.
use Rattle.std.proofs.Common.{◌≡◌, ◌<◌, ◌≤◌, ◌+◌, ◌∙◌, ℕ, true, nat_lt, List, [], length, map, reverse, ap, arith, subst, sym}
use Rattle.std.specs.List.{list_all}
use Rattle.std.proofs.Math.ListN.{get_or}
use Rattle.std.proofs.lemmas.List.{length-map}
use Rattle.std.proofs.lemmas.Simd.{map-map}
use Rattle.gn_rules.specs.Answer.{IsLegal}
use Rattle.gn_rules.specs.History.{mine}
use Rattle.gn_rules.specs.Limits.{most_reads}
use Rattle.gn_rules.specs.Statistics.{stats_of}
use Rattle.gn_rules.specs.declared.config.Config.{Config}
use Rattle.gn_rules.specs.declared.receipt.Receipt.{Receipt}
use Rattle.gn_rules.specs.declared.receipt.Step.{Step}
use Rattle.gn_links.specs.Halves.{ReadHalf, Source, WrittenHalf}
use Rattle.gn_shake.specs.declared.role.Role.{Role}
use Rattle.gn_bodies.specs.declared.ends.ReaderEnd.{ReaderEnd}
use Rattle.gn_report.specs.Accounts.{report_of}
use Rattle.gn_actors.specs.declared.who.Who.TheVariants.{House, Worker, Writer}
use Rattle.gn_report.specs.Actors.{number_in}
use Rattle.gn_report.specs.BodyEnds.{is_settled}
use Rattle.gn_report.specs.Flaw.{AreRoutes}
use Rattle.gn_report.specs.Told.{LinkEnds, Tells, ends_of}
use Rattle.gn_report.specs.Vectors.{vec_of}
use Rattle.gn_report.specs.declared.account.Account.{Account}
use Rattle.gn_report.specs.declared.report.LinkReport.{LinkReport}
use Rattle.gn_report.specs.declared.report.Report.{Report}
use Rattle.gn_report.proofs.ToldLemmas.{link_ends, link_reading, link_writing, same_ends, same_many}
use Rattle.gn_threads.specs.Headline.{AreMadeOf, AreOfOne, Holds, LinkHolds, LinksReadOwn, ReadOwn}

-- a link that is the same but for its vectors
link_holds : {Rd W A : Type 0} (reads : Rd → ReadHalf) (writes : W → WrittenHalf) (turns batch : ℕ) (roles : List Role) (r q : Report Rd W A) (k : ℕ) (role : Role) (l m : LinkReport Rd W A)
    → ends_of l ≡ ends_of m → l.reader_receipts.items ≡ m.reader_receipts.items → l.writer_receipts.items ≡ m.writer_receipts.items → r.history.items ≡ q.history.items
    → number_in r (Writer k) ≡ number_in q (Writer k) → LinkHolds reads writes turns batch roles q k role m → LinkHolds reads writes turns batch roles r k role l
link_holds {Rd} {W} {A} reads writes turns batch roles r q k role l m ends reading writing steps writer h =
    let conn : l.conn ≡ m.conn = ap (λ (e : LinkEnds Rd W). e.conn) ends in
    let reader_end : l.reader_end ≡ m.reader_end = ap (λ (e : LinkEnds Rd W). e.reader_end) ends in
    let reader : l.reader ≡ m.reader = ap (λ (e : LinkEnds Rd W). e.reader) ends in
    let writer_end : l.writer_end ≡ m.writer_end = ap (λ (e : LinkEnds Rd W). e.writer_end) ends in
    let half : l.writer ≡ m.writer = ap (λ (e : LinkEnds Rd W). e.writer) ends in
    record {
      conn = rw (conn, reading) h.conn;
      reader = rw (conn, reading) h.reader;
      read = rw (steps, writer, writer_end, reading, reader, reader_end, conn) h.read;
      writer = rw (conn, writing) h.writer;
      written = rw (steps, writer, writing, half, writer_end, conn) h.written;
      finished = rw half h.finished;
    }

module _ {Rd W A : Type 0} (account : Account Rd W A) (report : Report Rd W A) (told : Tells account report) where
  same_workers : length report.workers.items ≡ length (report_of account).workers.items
  same_workers = told.many.1 ∙ sym (length-map account.workers.items (vec_of account.links.alloc))

  same_first : number_in report (Worker 0) ≡ number_in (report_of account) (Worker 0)
  same_first = omega (arith, same_many account report told)

  same_actors : number_in report House + 1 ≡ number_in (report_of account) House + 1
  same_actors = omega (arith, same_many account report told, same_workers)

  pub holds_told : (batch : ℕ) (reads : Rd → ReadHalf) (writes : W → WrittenHalf) (s : Config) (roles : List Role) (workers : ℕ) → Holds batch reads writes s roles workers (report_of account)
      → Holds batch reads writes s roles workers report
  holds_told batch reads writes s roles workers h = record {
    legal = subst (λ (steps : List (Step A)). IsLegal s (reverse steps)) (sym told.history) h.legal;
    each = (same_many account report told ∙ h.each.0, same_workers ∙ h.each.1);
    own = (
      λ a below.
          ap (λ (lists : List (List (Receipt A))). get_or lists a []) told.receipts
          ∙ (h.own.0 a (subst (λ n. a < n) same_actors below) ∙ ap (λ (steps : List (Step A)). mine steps a) (sym told.history)),
      subst (λ (steps : List (Step A)). list_all (λ step. nat_lt step.actor (number_in report House + 1)) steps ≡ true) (sym told.history)
          (subst (λ n. list_all (λ (step : Step A). nat_lt step.actor n) account.history.items ≡ true) (sym same_actors) h.own.1),
    );
    links = λ k role link below.
        link_holds reads writes (most_reads s.numbers.steps) batch roles report (report_of account) k _ (get_or report.links.items k link) (get_or (report_of account).links.items k link)
        (link_ends account report told k link below) (link_reading account report told k link below) (link_writing account report told k link below) told.history
        (ap (λ n. n + k) (same_many account report told)) (h.links k role link (subst (λ n. k < n) (same_many account report told) below));
    routes = (
      λ a past below.
          subst (λ (lists : List (List (Receipt A))). AreRoutes (get_or lists a [])) (sym told.receipts)
          (h.routes.0 a (subst (λ n. n ≤ a) same_first past) (subst (λ n. a < n) same_actors below)),
      subst (λ (steps : List (Step A)). is_settled steps (length steps) ≡ true) (sym told.history) h.routes.1,
    );
    stats = told.stats ∙ (h.stats ∙ ap (λ (steps : List (Step A)). stats_of (reverse steps)) (sym told.history));
  }

  -- what the halves of the links are, in order
  pub same_halves : {O : Type 0} (f : LinkEnds Rd W → O) → map (λ (link : LinkReport Rd W A). f (ends_of link)) report.links.items ≡ map (λ (link : LinkReport Rd W A). f (ends_of link)) (report_of account).links.items
  same_halves f =
      sym (map-map f ends_of report.links.items) ∙ (ap (λ (es : List (LinkEnds Rd W)). map f es) (same_ends account report told) ∙ map-map f ends_of (report_of account).links.items)

  pub made_told : {O : Type 0} (reader_of : Rd → O) (writer_of : W → O) (origins : List O) → AreMadeOf reader_of writer_of origins (report_of account) → AreMadeOf reader_of writer_of origins report
  made_told reader_of writer_of origins h = record {
    readers = same_halves (λ e. reader_of e.reader) ∙ h.readers;
    writers = same_halves (λ e. writer_of e.writer) ∙ h.writers;
  }

  pub one_told : {O : Type 0} (reader_of : Rd → O) (writer_of : W → O) → AreOfOne reader_of writer_of (report_of account) → AreOfOne reader_of writer_of report
  one_told reader_of writer_of h = same_halves (λ e. writer_of e.writer) ∙ (h ∙ sym (same_halves (λ e. reader_of e.reader)))

  pub bytes_told : (reads : Rd → ReadHalf) (sources : List Source) → LinksReadOwn reads sources (report_of account) → LinksReadOwn reads sources report
  bytes_told reads sources h = λ k source link below.
      let ends = link_ends account report told k link below in
      subst (λ (end : ReaderEnd). ReadOwn (get_or sources k source) end (reads (get_or report.links.items k link).reader)) (sym (ap (λ (e : LinkEnds Rd W). e.reader_end) ends))
      (subst (λ (half : Rd). ReadOwn (get_or sources k source) (get_or (report_of account).links.items k link).reader_end (reads half)) (sym (ap (λ (e : LinkEnds Rd W). e.reader) ends))
      (h k source link (subst (λ n. k < n) (same_many account report told) below)))
