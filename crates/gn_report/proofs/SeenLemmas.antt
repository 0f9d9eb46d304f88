-- The report of a run of which enough is seen has no flaw.
use Rattle.std.proofs.Common.{◌≡◌, ◌≤◌, ◌<◌, ◌+◌, ◌-◌, ◌==◌, ◌&&◌, ℕ, Bool, true, false, not, nat_lt, List, length, map, get_or, reverse, Option, Some, None, refl, sym, ap, ◌∙◌, subst, inl, inr, arith}
use Rattle.std.specs.Bool.{MatchBool}
use Rattle.std.specs.List.{list_all, list_any}
use Rattle.std.proofs.lemmas.Bool.{cases_lt, le-ltb, lt-ltb}
use Rattle.std.proofs.lemmas.List.{get_or-map, length-map}
use Rattle.gn_rules.specs.declared.config.Config.{Config}
use Rattle.gn_rules.specs.declared.receipt.Receipt.{Receipt}
use Rattle.gn_rules.specs.declared.receipt.Step.{Step}
use Rattle.gn_rules.specs.Answer.{IsLegal}
use Rattle.gn_rules.specs.History.{is_close, mine}
use Rattle.gn_shake.specs.declared.role.Role.{Role}
use Rattle.gn_shake.specs.declared.role.Role.TheVariants.{Plain}
use Rattle.gn_shake.specs.Greeting.{is_calling}
use Rattle.gn_bodies.specs.declared.ends.ReaderEnd.{ReaderEnd}
use Rattle.gn_bodies.specs.declared.ends.ReaderEnd.TheVariants.{Bytes, NotLive}
use Rattle.gn_bodies.specs.ReaderRows.{ReaderDid}
use Rattle.gn_report.proofs.DidLemmas.{closed_nothing, readers_alone}
use Rattle.gn_report.specs.declared.report.LinkReport.{LinkReport}
use Rattle.gn_report.specs.declared.report.Report.{Report}
use Rattle.gn_actors.specs.declared.who.Who.TheVariants.{House, Writer}
use Rattle.gn_report.specs.Actors.{number_in}
use Rattle.gn_report.specs.BodyEnds.{is_settled, may_close_first}
use Rattle.gn_report.specs.Flaw.{IsFitting, ReaderConfirmed, WriterConfirmed}
use Rattle.gn_report.specs.Seen.{AreSeen, SeenIsConfirmed, must_be_gone}
use Rattle.gn_report.proofs.ClosedLemmas.{AreLikewise, closed_by_writer}
use Rattle.gn_report.proofs.ConfirmedLemmas.{Confirmed, compared_by, others_own, reader_own, writer_own}
use Rattle.gn_report.proofs.ConnLemmas.{conn_is_known}
use Rattle.gn_report.proofs.LaterLemmas.{drained_close}
use Rattle.gn_report.proofs.RowLemmas.{connected_once, reader_end_is, writer_end_is, writers_alone}

-- actors are compared
seen_compared : {Rd W A : Type 0} {originates : Bool} (roles : List Role) (report : Report Rd W A) → AreSeen originates roles report → AreLikewise originates report.history.items (map (λ link. link.conn) report.links.items)
seen_compared {originates = originates} roles report seen =
    compared_by originates report seen.own seen.only
    (λ k d below.
    let link = seen.links k Plain d below in
    let at = get_or report.links.items k d in
    record {
      known = link.known;
      read = readers_alone at.reader_end at.conn at.reader_receipts.items link.did;
      written = writers_alone (get_or roles k Plain) at.writer_end link.written at.conn at.writer_receipts.items link.wrote.0 link.wrote.1;
    })
    (others_own originates report seen.workers seen.house)

-- a writer's connection must be closed
gone_written : (end : ReaderEnd) (c : ℕ) → must_be_gone end (Some c) ≡ true
gone_written Bytes c = refl
gone_written end c = refl

-- the connection of a link was closed by its writer, where its reader closed nothing
seen_by_writer : {Rd W A : Type 0} {originates : Bool} (s : Config) (roles : List Role) (report : Report Rd W A) → IsLegal s (reverse report.history.items) → AreSeen originates roles report → (k : ℕ) (d : LinkReport Rd W A) → k < length report.links.items → (c : ℕ)
    → (get_or report.links.items k d).conn ≡ Some c → (get_or report.links.items k d).reader_end ≡ NotLive
    → list_any (λ step. (step.actor == number_in report (Writer k)) && is_close c step.event) report.history.items ≡ true
seen_by_writer {Rd} {W} {A} s roles report legal seen k d below c is not_live =
    let links = report.links.items in
    let steps = report.history.items in
    let link = seen.links k Plain d below in
    let at = get_or links k d in
    let conns : List (Option ℕ) = map (λ (l : LinkReport Rd W A). l.conn) links in
    let many : length conns ≡ length links = length-map links (λ (l : LinkReport Rd W A). l.conn) in
    let conn : get_or conns k None ≡ Some c = get_or-map (λ (l : LinkReport Rd W A). l.conn) links k d None below ∙ is in
    let did : ReaderDid NotLive (Some c) at.reader_receipts.items =
    subst (λ o. ReaderDid NotLive o at.reader_receipts.items) is (subst (λ e. ReaderDid e at.conn at.reader_receipts.items) not_live link.did) in
    let none = subst (λ (rs : List (Receipt A)). list_all (λ r. not (is_close c r.event)) rs ≡ true) (reader_own report seen.own k d below) (closed_nothing NotLive c at.reader_receipts.items refl did) in
    let by = closed_by_writer s steps conns k c legal (seen_compared roles report seen) (omega (arith, many, below)) conn none (link.closed (ap (λ e. must_be_gone e link.written) not_live) c is) in
    subst (λ n. list_any (λ (step : Step A). (step.actor == n + k) && is_close c step.event) steps ≡ true) many by

-- a link's reader is confirmed
pub seen_reader : {Rd W A : Type 0} {originates : Bool} (s : Config) (roles : List Role) (report : Report Rd W A) → IsLegal s (reverse report.history.items) → AreSeen originates roles report → (k : ℕ) → k < length report.links.items → (r : Role) (d : LinkReport Rd W A)
    → ReaderConfirmed report.history.items (list_all is_calling roles) (length report.links.items + k) (get_or roles k r) (get_or report.links.items k d)
seen_reader {Rd} {W} {A} s roles report legal seen k below r d =
    let steps = report.history.items in
    let link = seen.links k r d below in
    let at = get_or report.links.items k d in
    let own = at.reader_receipts.items in
    let first : Bool = may_close_first (list_all is_calling roles) (get_or roles k r) at.writer_end in
    record {
      conn = link.known ∙ sym (conn_is_known s steps k own legal (reader_own report seen.own k d below));
      events = readers_alone at.reader_end at.conn own link.did;
      once = connected_once at.reader_end at.conn own link.did;
      end = reader_end_is steps (number_in report (Writer k)) first own at.reader_end link.written at.conn link.did link.closed
          (λ c is not_live.
          ap (λ b. b && list_any (λ (step : Step A). (step.actor == number_in report (Writer k)) && is_close c step.event) steps) (link.first not_live)
          ∙ seen_by_writer s roles report legal seen k d below c is not_live);
    }

-- so is its writer
pub seen_writer : {Rd W A : Type 0} {originates : Bool} (roles : List Role) (report : Report Rd W A) → AreSeen originates roles report → (k : ℕ) → k < length report.links.items → (r : Role) (d : LinkReport Rd W A)
    → WriterConfirmed (is_settled report.history.items) roles report.history.items (length report.links.items + k) (get_or roles k r) (get_or report.links.items k d)
seen_writer {Rd} {W} {A} roles report seen k below r d =
    let steps = report.history.items in
    let link = seen.links k r d below in
    let at = get_or report.links.items k d in
    let own = at.writer_receipts.items in
    let role = get_or roles k r in
    let mine_is : own ≡ mine steps (number_in report (Writer k)) = writer_own report seen.own k d below in
    record {
      events = writers_alone role at.writer_end link.written at.conn own link.wrote.0 link.wrote.1;
      end = writer_end_is (is_settled steps) roles steps (number_in report (Writer k)) role own at.writer_end link.written at.conn mine_is link.wrote.0 link.wrote.1
          (λ c on is. link.closed (ap (must_be_gone at.reader_end) on ∙ gone_written at.reader_end c) c is)
          (λ drained c index before is. drained_close (is_settled steps) roles steps c index before own is (link.settled drained) (link.later drained));
    }

-- what is so below a number, and what from it on
by_lt : {P Q : Type 0} (a n : ℕ) → (a < n → P) → (n ≤ a → Q) → MatchBool (nat_lt a n) P Q
by_lt {P} {Q} a n low high =
    elim (cases_lt a n) as (λ x. MatchBool (nat_lt a n) P Q) [
      | inl under ↦ subst (λ b. MatchBool b P Q) (sym (lt-ltb a n under)) (low under)
      | inr over ↦ subst (λ b. MatchBool b P Q) (sym (le-ltb a n over)) (high over)
    ]

-- each actor is confirmed, but that its receipts are its own
seen_fits : {Rd W A : Type 0} (s : Config) (roles : List Role) (report : Report Rd W A) → IsLegal s (reverse report.history.items) → AreSeen false roles report → (a : ℕ) → a < number_in report House + 1
    → IsFitting (is_settled report.history.items) roles report a
seen_fits {Rd} {W} {A} s roles report legal seen a below =
    let n = length report.links.items in
    let v = length report.workers.items in
    let steps = report.history.items in
    by_lt a n (λ low. seen_reader s roles report legal seen a low)
    (λ high. by_lt a (n + n)
    (λ low r d.
    let same : n + (a - n) ≡ a = omega (arith, high) in
    subst (λ i. WriterConfirmed (is_settled steps) roles steps i (get_or roles (a - n) r) (get_or report.links.items (a - n) d)) same (seen_writer roles report seen (a - n) (omega (arith, high, low)) r d))
    (λ past. by_lt a (n + n + v) (λ low d. seen.workers (a - (n + n)) d (omega (arith, past, low)))
    (λ last.
    let is : number_in report House + 1 ≡ a + 1 = omega (arith, last, below) in
    record {
      routes = seen.house;
      only = subst (λ m. list_all (λ (step : Step A). nat_lt step.actor m) steps ≡ true) is seen.only;
      tickets = seen.tickets;
    })))

-- in a legal history the report of a run of which this is seen has no flaw
pub seen_is_confirmed : (Rd W A : Type 0) → SeenIsConfirmed Rd W A
seen_is_confirmed Rd W A s roles report legal seen a below = (seen.own a below, seen_fits s roles report legal seen a below)

-- so the report of such a run says all of its actors, whether or not its own servent sends descriptors
pub seen_confirmed : {Rd W A : Type 0} {originates : Bool} (s : Config) (roles : List Role) (report : Report Rd W A) → IsLegal s (reverse report.history.items) → AreSeen originates roles report
    → Confirmed originates (is_settled report.history.items) roles report
seen_confirmed {originates = originates} s roles report legal seen = record {
  own = seen.own;
  only = seen.only;
  reader = λ k r d below. seen_reader s roles report legal seen k below r d;
  writer = λ k r d below. seen_writer roles report seen k below r d;
  others = others_own originates report seen.workers seen.house;
}
