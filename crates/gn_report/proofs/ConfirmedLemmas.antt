-- What a report without a flaw says of each link, of each worker and of the house; and what follows from it in a legal history.
use Rattle.std.proofs.Common.{◌≡◌, ◌≤◌, ◌<◌, ◌+◌, ◌-◌, ◌&&◌, ℕ, Bool, true, false, nat_lt, List, [], ◌∷◌, length, map, get_or, reverse, Vec, Option, Some, None, is_some, refl, sym, ap, ◌∙◌, subst, inl, inr, arith}
use Rattle.std.specs.Bool.{MatchBool}
use Rattle.std.specs.List.{list_all, list_any}
use Rattle.std.proofs.lemmas.Bool.{and_parts, cases_lt, le-ltb, lt-ltb}
use Rattle.std.proofs.lemmas.List.{get_or-map, length-map}
use Rattle.std.proofs.lemmas.Grind.{common_steps}
use Rattle.gn_rules.specs.declared.config.Config.{Config}
use Rattle.gn_rules.specs.declared.event.Event.{Event}
use Rattle.gn_rules.specs.declared.receipt.Receipt.{Receipt}
use Rattle.gn_rules.specs.History.{is_at, is_close, ticket_of, mine, closed_of}
use Rattle.gn_rules.specs.Answer.{IsLegal}
use Rattle.gn_shake.specs.declared.role.Role.{Role}
use Rattle.gn_shake.specs.declared.role.Role.TheVariants.{Plain}
use Rattle.gn_shake.specs.Greeting.{is_calling}
use Rattle.gn_bodies.specs.declared.ends.WriterEnd.TheVariants.{Drained}
use Rattle.gn_laws.specs.Owners.{AreCompared, is_readers, is_writers, packets_of, known_conn}
use Rattle.gn_laws.proofs.FittingLemmas.{strangers_have_none}
use Rattle.gn_laws.proofs.OwnerLemmas.{links_agree}
use Rattle.gn_report.specs.declared.report.LinkReport.{LinkReport}
use Rattle.gn_report.specs.declared.report.Report.{Report}
use Rattle.gn_actors.specs.declared.who.Who.TheVariants.{House, Worker, Writer}
use Rattle.gn_report.specs.Accounts.{are_houses, is_houses}
use Rattle.gn_report.specs.Actors.{AreOwn, number_in, receipts_of}
use Rattle.gn_report.specs.BodyEnds.{is_writer_end}
use Rattle.gn_report.proofs.ClosedLemmas.{AreLikewise}
use Rattle.gn_report.proofs.ComparedLemmas.{is_last_close}
use Rattle.gn_report.proofs.ConnLemmas.{conn_is_known}
use Rattle.gn_report.proofs.ReceiptLemmas.{at_house, at_reader, at_worker, at_writer}
use Rattle.gn_report.specs.Flaw.{AreRoutes, HouseConfirmed, IsConfirmed, ReaderConfirmed, TookAll, WriterConfirmed}

pub match_true : {P : Type 0} (Q : Type 0) (b : Bool) → b ≡ true → MatchBool b P Q → P
match_true Q true e h = h
match_true Q false e h = cc

pub match_false : {Q : Type 0} (P : Type 0) (b : Bool) → b ≡ false → MatchBool b P Q → Q
match_false P true e h = cc
match_false P false e h = h

-- all actors are confirmed
abbrev AllConfirmed : {Rd W A : Type 0} → (ℕ → Bool) → List Role → Report Rd W A → Type 0
AllConfirmed settled roles report = (a : ℕ) → a < number_in report House + 1 → IsConfirmed settled roles report a

reader_at : {Rd W A : Type 0} (settled : ℕ → Bool) (roles : List Role) (report : Report Rd W A) → AllConfirmed settled roles report
    → (k : ℕ) (r : Role) (d : LinkReport Rd W A) → k < length report.links.items
    → ReaderConfirmed report.history.items (list_all is_calling roles) (length report.links.items + k) (get_or roles k r) (get_or report.links.items k d)
reader_at settled roles report all k r d below = match_true _ _ (lt-ltb k (length report.links.items) below) (all k (omega arith)).1 r d

writer_at : {Rd W A : Type 0} (settled : ℕ → Bool) (roles : List Role) (report : Report Rd W A) → AllConfirmed settled roles report
    → (k : ℕ) (r : Role) (d : LinkReport Rd W A) → k < length report.links.items
    → WriterConfirmed settled roles report.history.items (length report.links.items + k) (get_or roles k r) (get_or report.links.items k d)
writer_at settled roles report all k r d below =
    let n = length report.links.items in
    let at = match_true _ _ (lt-ltb (n + k) (n + n) (omega arith)) (match_false _ _ (le-ltb (n + k) n (omega arith)) (all (n + k) (omega arith)).1) r d in
    let same : n + k - n ≡ k = omega arith in
    subst (λ j. WriterConfirmed settled roles report.history.items (n + k) (get_or roles j r) (get_or report.links.items j d)) same at

worker_at : {Rd W A : Type 0} (settled : ℕ → Bool) (roles : List Role) (report : Report Rd W A) → AllConfirmed settled roles report
    → (j : ℕ) (d : Vec (Receipt A) A) → j < length report.workers.items → AreRoutes (get_or report.workers.items j d).items
worker_at settled roles report all j d below =
    let n = length report.links.items in
    let a = n + n + j in
    let at = match_true _ _ (lt-ltb a (n + n + length report.workers.items) (omega arith)) (match_false _ _ (le-ltb a (n + n) (omega arith)) (match_false _ _ (le-ltb a n (omega arith)) (all a (omega arith)).1)) d in
    let same : n + n + j - (n + n) ≡ j = omega arith in
    subst (λ i. AreRoutes (get_or report.workers.items i d).items) same at

pub house_at : {Rd W A : Type 0} (settled : ℕ → Bool) (roles : List Role) (report : Report Rd W A) → AllConfirmed settled roles report
    → HouseConfirmed settled report.history.items (length report.links.items + length report.links.items + length report.workers.items) report.house.items
house_at settled roles report all =
    let n = length report.links.items in
    let a = n + n + length report.workers.items in
    match_false _ _ (le-ltb a a (omega arith)) (match_false _ _ (le-ltb a (n + n) (omega arith)) (match_false _ _ (le-ltb a n (omega arith)) (all a (omega arith)).1))

pub some_of : {X : Type 0} (xs : List X) → 0 < length xs → X
some_of [] below = absurd (omega arith)
some_of (x ∷ xs) below = x

-- what routes alone does what the house may
pub one_own : {A : Type 0} (originates : Bool) (event : Event A) → is_some (ticket_of event) ≡ true → is_houses originates event ≡ true
one_own false event routes = routes
one_own true event routes = rw routes refl

pub routes_own : {A : Type 0} (originates : Bool) (receipts : List (Receipt A)) → AreRoutes receipts → are_houses originates receipts ≡ true
routes_own originates [] routes = refl
routes_own {A} originates (r ∷ receipts) routes =
    let parts = and_parts (is_some (ticket_of r.event)) (list_all (λ (x : Receipt A). is_some (ticket_of x.event)) receipts) routes in
    rw (one_own originates r.event parts.0) (routes_own originates receipts parts.1)

-- an actor that is neither a reader nor a writer did what the house may, where workers routed alone and the house did so
pub others_own : {Rd W A : Type 0} (originates : Bool) (report : Report Rd W A) → ((j : ℕ) (d : Vec (Receipt A) A) → j < length report.workers.items → AreRoutes (get_or report.workers.items j d).items) → are_houses originates report.house.items ≡ true
    → (a : ℕ) → number_in report (Worker 0) ≤ a → a < number_in report House + 1 → are_houses originates (get_or (receipts_of report) a []) ≡ true
others_own {Rd} {W} {A} originates report workers house a past below =
    let n = length report.links.items in
    let v = length report.workers.items in
    elim (cases_lt a (n + n + v)) as (λ x. are_houses originates (get_or (receipts_of report) a []) ≡ true) [
      | inl low ↦
          let j = a - (n + n) in
          let within : j < v = omega (arith, past, low) in
          let is : a ≡ n + n + j = omega (arith, past) in
          let some = some_of report.workers.items (omega (arith, within)) in
          subst (λ (rs : List (Receipt A)). are_houses originates rs ≡ true) (sym (at_worker report j a some within is)) (routes_own originates (get_or report.workers.items j some).items (workers j some within))
      | inr high ↦
          let is : a ≡ n + n + v = omega (arith, high, below) in
          subst (λ (rs : List (Receipt A)). are_houses originates rs ≡ true) (sym (at_house report a is)) house
    ]

-- each worker's receipts are of routes alone
pub workers_route : {Rd W A : Type 0} (report : Report Rd W A) → ((j : ℕ) (d : Vec (Receipt A) A) → j < length report.workers.items → AreRoutes (get_or report.workers.items j d).items)
    → (a : ℕ) → number_in report (Worker 0) ≤ a → a < number_in report House → AreRoutes (get_or (receipts_of report) a [])
workers_route {Rd} {W} {A} report workers a past below =
    let n = length report.links.items in
    let v = length report.workers.items in
    let j = a - (n + n) in
    let within : j < v = omega (arith, past, below) in
    let is : a ≡ n + n + j = omega (arith, past) in
    let some = some_of report.workers.items (omega (arith, within)) in
    subst (λ rs. AreRoutes rs) (sym (at_worker report j a some within is)) (workers j some within)

-- what a report without a flaw says of its actors, and what is seen of a run whose own servent sends descriptors
pub record Confirmed {Rd W A : Type 0} (originates : Bool) (settled : ℕ → Bool) (roles : List Role) (report : Report Rd W A) : Type 0 where
  pub own : AreOwn report
  pub only : list_all (λ step. nat_lt step.actor (number_in report House + 1)) report.history.items ≡ true
  pub reader : (k : ℕ) (r : Role) (d : LinkReport Rd W A) → k < length report.links.items
      → ReaderConfirmed report.history.items (list_all is_calling roles) (number_in report (Writer k)) (get_or roles k r) (get_or report.links.items k d)
  pub writer : (k : ℕ) (r : Role) (d : LinkReport Rd W A) → k < length report.links.items
      → WriterConfirmed settled roles report.history.items (number_in report (Writer k)) (get_or roles k r) (get_or report.links.items k d)
  pub others : (a : ℕ) → number_in report (Worker 0) ≤ a → a < number_in report House + 1 → are_houses originates (get_or (receipts_of report) a []) ≡ true

pub confirmed : {Rd W A : Type 0} (settled : ℕ → Bool) (roles : List Role) (report : Report Rd W A) → AllConfirmed settled roles report → Confirmed false settled roles report
confirmed settled roles report all = record {
  own = λ a below. (all a below).0;
  only = (house_at settled roles report all).only;
  reader = reader_at settled roles report all;
  writer = writer_at settled roles report all;
  others = others_own false report (worker_at settled roles report all) (house_at settled roles report all).routes;
}

-- the receipts of a link's reader and of its writer, by what all actors have
pub reader_own : {Rd W A : Type 0} (report : Report Rd W A) → AreOwn report → (k : ℕ) (d : LinkReport Rd W A) → k < length report.links.items
    → (get_or report.links.items k d).reader_receipts.items ≡ mine report.history.items k
reader_own report own k d below = sym (at_reader report k d below) ∙ own k (omega (arith, below))

pub writer_own : {Rd W A : Type 0} (report : Report Rd W A) → AreOwn report → (k : ℕ) (d : LinkReport Rd W A) → k < length report.links.items
    → (get_or report.links.items k d).writer_receipts.items ≡ mine report.history.items (number_in report (Writer k))
writer_own report own k d below = sym (at_writer report k (number_in report (Writer k)) d below refl) ∙ own (number_in report (Writer k)) (omega (arith, below))

-- so did each such actor by its steps
others_only : {Rd W A : Type 0} (originates : Bool) (report : Report Rd W A) → AreOwn report → list_all (λ step. nat_lt step.actor (number_in report House + 1)) report.history.items ≡ true
    → ((a : ℕ) → number_in report (Worker 0) ≤ a → a < number_in report House + 1 → are_houses originates (get_or (receipts_of report) a []) ≡ true)
    → (a : ℕ) → number_in report (Worker 0) ≤ a → are_houses originates (mine report.history.items a) ≡ true
others_only {Rd} {W} {A} originates report own only others a past =
    elim (cases_lt a (number_in report House + 1)) as (λ x. are_houses originates (mine report.history.items a) ≡ true) [
      | inl low ↦ subst (λ (rs : List (Receipt A)). are_houses originates rs ≡ true) (own a low) (others a past low)
      | inr high ↦ ap (λ (rs : List (Receipt A)). are_houses originates rs) (strangers_have_none A report.history.items (number_in report House + 1) a only high)
    ]

-- what is said of a link's bodies: its connection is the one that its reader was given, and their events are on it
pub record IsOnLink {Rd W A : Type 0} (link : LinkReport Rd W A) : Type 0 where
  pub known : link.conn ≡ known_conn link.reader_receipts.items
  pub read : list_all (λ r. is_readers link.conn r.event) link.reader_receipts.items ≡ true
  pub written : list_all (λ r. is_writers link.conn r.event) link.writer_receipts.items ≡ true

-- where that is so of each link, and all others did what the house may, actors are compared
pub compared_by : {Rd W A : Type 0} (originates : Bool) (report : Report Rd W A) → AreOwn report → list_all (λ step. nat_lt step.actor (number_in report House + 1)) report.history.items ≡ true
    → ((k : ℕ) (d : LinkReport Rd W A) → k < length report.links.items → IsOnLink (get_or report.links.items k d))
    → ((a : ℕ) → number_in report (Worker 0) ≤ a → a < number_in report House + 1 → are_houses originates (get_or (receipts_of report) a []) ≡ true)
    → AreLikewise originates report.history.items (map (λ link. link.conn) report.links.items)
compared_by {Rd} {W} {A} originates report owned only on others =
    let links = report.links.items in
    let steps = report.history.items in
    let conns : List (Option ℕ) = map (λ (link : LinkReport Rd W A). link.conn) links in
    let many : length conns ≡ length links = length-map links (λ (link : LinkReport Rd W A). link.conn) in
    let some : (k : ℕ) → k < length conns → LinkReport Rd W A = λ k below. some_of links (omega (arith, many, below)) in
    let conn : (k : ℕ) (below : k < length conns) → get_or conns k None ≡ (get_or links k (some k below)).conn =
    λ k below. get_or-map (λ (link : LinkReport Rd W A). link.conn) links k (some k below) None (omega (arith, many, below)) in
    record {
      connected = λ k below.
          let link = on k (some k below) (omega (arith, many, below)) in
          let own = reader_own report owned k (some k below) (omega (arith, many, below)) in
          conn k below ∙ link.known ∙ ap known_conn own;
      readers = λ k below.
          let link = on k (some k below) (omega (arith, many, below)) in
          let own = reader_own report owned k (some k below) (omega (arith, many, below)) in
          subst (λ o. list_all (λ (r : Receipt A). is_readers o r.event) (mine steps k) ≡ true) (sym (conn k below))
          (subst (λ rs. list_all (λ (r : Receipt A). is_readers (get_or links k (some k below)).conn r.event) rs ≡ true) own link.read);
      writers = λ k below.
          let link = on k (some k below) (omega (arith, many, below)) in
          let own = writer_own report owned k (some k below) (omega (arith, many, below)) in
          let at : length links + k ≡ length conns + k = omega (arith, many) in
          subst (λ i. list_all (λ (r : Receipt A). is_writers (get_or conns k None) r.event) (mine steps i) ≡ true) at
          (subst (λ o. list_all (λ (r : Receipt A). is_writers o r.event) (mine steps (length links + k)) ≡ true) (sym (conn k below))
          (subst (λ rs. list_all (λ (r : Receipt A). is_writers (get_or links k (some k below)).conn r.event) rs ≡ true) own link.written));
      others = λ a past. others_only originates report owned only others a (omega (arith, many, past));
    }

-- so it is in a legal history where the report has no flaw, and as the laws of owners ask it
pub compared : {Rd W A : Type 0} (s : Config) (settled : ℕ → Bool) (roles : List Role) (report : Report Rd W A) → IsLegal s (reverse report.history.items) → Confirmed false settled roles report
    → AreCompared report.history.items (map (λ link. link.conn) report.links.items)
compared {Rd} {W} {A} s settled roles report legal all =
    let likewise = compared_by false report all.own all.only
    (λ k d below.
    let reader = all.reader k Plain d below in
    record {
      known = reader.conn ∙ conn_is_known s report.history.items k (get_or report.links.items k d).reader_receipts.items legal (reader_own report all.own k d below);
      read = reader.events;
      written = (all.writer k Plain d below).events;
    })
    all.others in
    record { connected = likewise.connected; readers = likewise.readers; writers = likewise.writers; others = likewise.others }

-- one weaker test
any_weaker : {X : Type 0} (p q : X → Bool) → ((x : X) → p x ≡ true → q x ≡ true) → (xs : List X) → list_any p xs ≡ true → list_any q xs ≡ true
any_weaker p q weaker [] e = e
any_weaker p q weaker (x ∷ xs) e = let h = any_weaker p q weaker xs in let w = weaker x in grind (arith, common_steps, h, w, e)

-- in a legal history a link whose writer ended Drained took all that was ever queued to its connection
pub took_all : {Rd W A : Type 0} (s : Config) (settled : ℕ → Bool) (roles : List Role) (report : Report Rd W A) → IsLegal s (reverse report.history.items) → Confirmed false settled roles report
    → (k : ℕ) → k < length report.links.items → TookAll report k
took_all {Rd} {W} {A} s settled roles report legal all k below d c drained is =
    let links = report.links.items in
    let steps = report.history.items in
    let link = get_or links k d in
    let writer = all.writer k Plain d below in
    let conns : List (Option ℕ) = map (λ (l : LinkReport Rd W A). l.conn) links in
    let many : length conns ≡ length links = length-map links (λ (l : LinkReport Rd W A). l.conn) in
    let conn : get_or conns k None ≡ Some c = get_or-map (λ (l : LinkReport Rd W A). l.conn) links k d None below ∙ is in
    let known = links_agree A s steps conns k c legal (compared s settled roles report legal all) (omega (arith, many, below)) conn in
    let at : length conns + k ≡ length links + k = omega (arith, many) in
    let own : mine steps (length conns + k) ≡ link.writer_receipts.items = ap (mine steps) at ∙ sym (writer_own report all.own k d below) in
    let end : is_writer_end settled roles steps (length links + k) (get_or roles k Plain) link.writer_receipts.items Drained (Some c) ≡ true =
    subst (λ o. is_writer_end settled roles steps (length links + k) (get_or roles k Plain) link.writer_receipts.items Drained o ≡ true) is
    (subst (λ e. is_writer_end settled roles steps (length links + k) (get_or roles k Plain) link.writer_receipts.items e link.conn ≡ true) drained writer.end) in
    let drains : Receipt A → Bool = λ r. is_close c r.event && is_at 0 (closed_of r.reply) in
    let says : list_any drains link.writer_receipts.items ≡ true =
    any_weaker (λ (r : Receipt A). is_last_close settled roles steps c r) drains (λ r e. grind (arith, common_steps, e)) link.writer_receipts.items end in
    ap packets_of (sym own) ∙ known.drained (subst (λ rs. list_any drains rs ≡ true) (sym own) says)
