-- Enough is seen of a run whose links have all ended, by what is known of each.
use Rattle.std.proofs.Common.{◌≡◌, ◌<◌, ◌+◌, ◌-◌, ◌++◌, ◌∷◌, ℕ, Bool, true, false, nat_lt, List, [], length, map, get_or, suc, zero, Vec, Option, Some, None, sym, ap, ◌∙◌, subst, arith}
use Rattle.std.specs.List.{list_all, slice_get}
use Rattle.std.specs.Option.{option_map_or}
use Rattle.std.proofs.lemmas.Bool.{and_parts}
use Rattle.std.proofs.lemmas.List.{get_or-map, length-map}
use Rattle.std.proofs.lemmas.List.Folds.{list_all-map}
use Rattle.std.proofs.lemmas.Simd.{map-map}
use Rattle.gn_rules.specs.declared.event.Event.TheVariants.{Close}
use Rattle.gn_rules.specs.declared.receipt.Receipt.{Receipt}
use Rattle.gn_rules.specs.declared.receipt.Step.{Step}
use Rattle.gn_rules.specs.declared.reply.Reply.TheVariants.{Closed}
use Rattle.gn_rules.specs.History.{mine}
use Rattle.gn_shake.specs.declared.role.Role.{Role}
use Rattle.gn_shake.specs.declared.role.Role.TheVariants.{Plain}
use Rattle.gn_shake.specs.Greeting.{is_awaited, is_calling}
use Rattle.gn_actors.specs.ActorState.{receipt}
use Rattle.gn_actors.specs.Tallies.{last_place}
use Rattle.gn_actors.proofs.TallyLemmas.{last_push}
use Rattle.gn_actors.specs.declared.who.Who.TheVariants.{House}
use Rattle.gn_bodies.specs.declared.ends.WriterEnd.{WriterEnd}
use Rattle.gn_bodies.specs.declared.ends.WriterEnd.TheVariants.{Drained}
use Rattle.gn_bodies.specs.Written.{WriterSteps}
use Rattle.gn_report.specs.declared.account.LinkAccount.{LinkAccount}
use Rattle.gn_report.specs.declared.report.LinkReport.{LinkReport}
use Rattle.gn_report.specs.declared.report.Report.{Report}
use Rattle.gn_report.specs.declared.unkept.Unkept.{Unkept}
use Rattle.gn_report.specs.Accounts.{IsReportOf, all_receipts, are_houses, is_routing, link_of, reader_receipts, unkept_list, writer_receipts}
use Rattle.gn_report.specs.Actors.{AreOwn, is_awaited_reader, number_in, receipts_of}
use Rattle.gn_report.specs.BodyEnds.{is_settled}
use Rattle.gn_report.specs.Ended.{EndedIsSeen, IsIdleAfter, IsRunEnded, LinkViews}
use Rattle.gn_report.specs.Flaw.{AreRoutes}
use Rattle.gn_report.specs.Looks.{IsInOrder}
use Rattle.gn_report.specs.Seen.{AreSeen, IsLinkSeen}
use Rattle.gn_report.specs.Vectors.{vec_of}
use Rattle.gn_report.proofs.ConfirmedLemmas.{reader_own, some_of}
use Rattle.gn_report.proofs.CountsLemmas.{counts_say}
use Rattle.gn_report.proofs.ReceiptLemmas.{as_many_as_actors}

-- one of which all pass a test
all_at : {X : Type 0} (p : X → Bool) (xs : List X) (k : ℕ) (d : X) → k < length xs → list_all p xs ≡ true → p (get_or xs k d) ≡ true
all_at p [] k d below all = absurd (omega (arith, below))
all_at p (x ∷ xs) zero d below all = (and_parts (p x) (list_all p xs) all).0
all_at p (x ∷ xs) (suc k) d below all = all_at p xs k d (omega (arith, below)) (and_parts (p x) (list_all p xs) all).1

-- where this is so of a role that there is, there is one
some_role : (f : Role → Bool) (roles : List Role) (a : ℕ) → option_map_or f (slice_get roles a) false ≡ true → (a < length roles) × (f (get_or roles a Plain) ≡ true)
some_role f [] a is = cc
some_role f (r ∷ roles) zero is = (omega arith, is)
some_role f (r ∷ roles) (suc a) is = let h = some_role f roles a is in (omega (arith, h.0), h.1)

-- nothing was in flight just before the last step of a writer that drained its connection
settled_last : {A : Type 0} (steps : List (Step A)) (role : Role) (end : WriterEnd) (conn found idle : Option ℕ) (own : List (Receipt A)) → end ≡ Drained → WriterSteps role end conn found idle own → IsIdleAfter steps idle
    → is_settled steps (last_place own - 1) ≡ true
settled_last {A} steps role end conn found idle own drained did settled =
    by_conn conn (subst (λ e. WriterSteps role e conn found idle own) drained did)
  where
    by_conn : (o : Option ℕ) → WriterSteps role Drained o found idle own → is_settled steps (last_place own - 1) ≡ true
    by_conn None none = absurd none
    by_conn (Some c) steps_are =
        let closing = steps_are.2 in
        let place : last_place own ≡ closing.0 + 1 = ap last_place closing.2 ∙ last_push steps_are.0 (receipt closing.0 (Close c) (Closed 0)) in
        let same : closing.0 ≡ last_place own - 1 = omega (arith, place) in
        subst (λ n. is_settled steps n ≡ true) same (subst (λ o. IsIdleAfter steps o) closing.1 settled).1

module _ {Rd W A O : Type 0} (originates : Bool) (turns batch : ℕ) (views : LinkViews Rd W O) (roles : List Role) (heap : A) (links : List (LinkAccount Rd W A)) (workers : List (Unkept (Receipt A))) (house : Unkept (Receipt A)) (report : Report Rd W A)
    (is_of : IsReportOf heap links workers house report) (run : IsRunEnded originates turns batch views roles report.history.items links workers house) where
  -- the receipts of all actors
  the_receipts : receipts_of report ≡ all_receipts links workers house
  the_receipts =
      let rd : LinkReport Rd W A → List (Receipt A) = λ l. l.reader_receipts.items in
      let wr : LinkReport Rd W A → List (Receipt A) = λ l. l.writer_receipts.items in
      let work : Vec (Receipt A) A → List (Receipt A) = λ worker. worker.items in
      let reading : map rd report.links.items ≡ map reader_receipts links = ap (map rd) is_of.links_are ∙ map-map rd (link_of heap) links in
      let writing : map wr report.links.items ≡ map writer_receipts links = ap (map wr) is_of.links_are ∙ map-map wr (link_of heap) links in
      let working : map work report.workers.items ≡ map unkept_list workers = ap (map work) is_of.workers_are ∙ map-map work (vec_of heap) workers in
      ap (λ (r : List (List (Receipt A))). r ++ (map wr report.links.items ++ (map work report.workers.items ++ report.house.items ∷ []))) reading
      ∙ (ap (λ (w : List (List (Receipt A))). map reader_receipts links ++ (w ++ (map work report.workers.items ++ report.house.items ∷ []))) writing
      ∙ (ap (λ (v : List (List (Receipt A))). map reader_receipts links ++ (map writer_receipts links ++ (v ++ report.house.items ∷ []))) working
      ∙ ap (λ (h : List (Receipt A)). map reader_receipts links ++ (map writer_receipts links ++ (map unkept_list workers ++ h ∷ []))) is_of.house_is))

  as_many : length (all_receipts links workers house) ≡ number_in report House + 1
  as_many = ap length (sym the_receipts) ∙ as_many_as_actors report

  many_links : length report.links.items ≡ length links
  many_links = ap length is_of.links_are ∙ length-map links (link_of heap)

  -- each actor's are its own
  all_own : AreOwn report
  all_own a below = ap (λ (lists : List (List (Receipt A))). get_or lists a []) the_receipts ∙ run.all.own a (subst (λ n. a < n) (sym as_many) below)

  -- a link of the report is as its account tells
  the_link : (k : ℕ) (d : LinkReport Rd W A) (some : LinkAccount Rd W A) → k < length links → get_or report.links.items k d ≡ link_of heap (get_or links k some)
  the_link k d some below = ap (λ (ls : List (LinkReport Rd W A)). get_or ls k d) is_of.links_are ∙ get_or-map (link_of heap) links k some d below

  -- a link's role
  the_role : (k : ℕ) (r : Role) (some : LinkAccount Rd W A) → k < length links → get_or roles k r ≡ (get_or links k some).role
  the_role k r some below = ap (λ (rs : List Role). get_or rs k r) run.roles_are ∙ get_or-map (λ (l : LinkAccount Rd W A). l.role) links k some r below

  many_roles : length roles ≡ length links
  many_roles = ap length run.roles_are ∙ length-map links (λ (l : LinkAccount Rd W A). l.role)

  do_all_call : list_all is_calling roles ≡ list_all (λ (l : LinkAccount Rd W A). is_calling l.role) links
  do_all_call = ap (list_all is_calling) run.roles_are ∙ list_all-map is_calling (λ (l : LinkAccount Rd W A). l.role) links

  in_order : IsInOrder (list_all is_calling roles) links
  in_order = subst (λ b. IsInOrder b links) (sym do_all_call) (counts_say Rd W A run.looks links run.counted run.right)

  -- a writer that drained its connection made its last step after all readers that are awaited
  all_later : (k : ℕ) (d : LinkAccount Rd W A) → k < length links → (get_or links k d).writer_end ≡ Drained → (a : ℕ) → is_awaited_reader roles a ≡ true
      → last_place (mine report.history.items a) < last_place (get_or links k d).writer_receipts.items
  all_later k d below drained a one =
      let awaits : Role → Bool = is_awaited (list_all is_calling roles) in
      let there = some_role awaits roles a one in
      let low : a < length links = omega (arith, there.0, many_roles) in
      let reading : LinkAccount Rd W A = get_or links a d in
      let awaited : awaits reading.role ≡ true = ap awaits (sym (the_role a Plain d low)) ∙ there.1 in
      let before : reading.last_read < (get_or links k d).last_written = in_order.later a k d low below awaited drained in
      let report_d : LinkReport Rd W A = link_of heap d in
      let within : a < length report.links.items = omega (arith, low, many_links) in
      let mine_is : reading.reader_receipts.items ≡ mine report.history.items a =
      ap (λ (l : LinkReport Rd W A). l.reader_receipts.items) (sym (the_link a report_d d low)) ∙ reader_own report all_own a report_d within in
      subst (λ n. n < last_place (get_or links k d).writer_receipts.items) (reading.placed.0 ∙ ap last_place mine_is) (subst (λ n. reading.last_read < n) (get_or links k d).placed.1 before)

  link_seen : (k : ℕ) (r : Role) (d : LinkReport Rd W A) → k < length report.links.items → IsLinkSeen roles report.history.items (get_or roles k r) (get_or report.links.items k d)
  link_seen k r d within =
      let steps = report.history.items in
      let below : k < length links = omega (arith, within, many_links) in
      let some : LinkAccount Rd W A = some_of links (omega (arith, below)) in
      let it : LinkAccount Rd W A = get_or links k some in
      let is = run.each k some below in
      let seen : IsLinkSeen roles steps it.role (link_of heap it) = record {
        did = is.read.did;
        known = is.known;
        written = it.written_on;
        wrote = ((is.found, it.idle, is.did), is.same);
        closed = is.closed;
        first = λ found. in_order.first k some below found (is.first found);
        settled = λ drained. settled_last steps it.role it.writer_end it.written_on is.found it.idle it.writer_receipts.items drained is.did is.idle;
        later = λ drained. all_later k some below drained;
      } in
      subst (λ (l : LinkReport Rd W A). IsLinkSeen roles steps (get_or roles k r) l) (sym (the_link k d some below))
      (subst (λ (role : Role). IsLinkSeen roles steps role (link_of heap it)) (sym (the_role k r some below)) seen)

  worker_seen : (j : ℕ) (d : Vec (Receipt A) A) → j < length report.workers.items → AreRoutes (get_or report.workers.items j d).items
  worker_seen j d within =
      let below : j < length workers = omega (arith, within, ap length is_of.workers_are, length-map workers (vec_of heap)) in
      let some = some_of workers (omega (arith, below)) in
      let routes : is_routing (get_or (map unkept_list workers) j []) ≡ true = all_at is_routing (map unkept_list workers) j [] (omega (arith, below, length-map workers unkept_list)) run.routes.0 in
      let there : get_or (map unkept_list workers) j [] ≡ unkept_list (get_or workers j some) = get_or-map unkept_list workers j some [] below in
      let here : get_or report.workers.items j d ≡ vec_of heap (get_or workers j some) = ap (λ (vs : List (Vec (Receipt A) A)). get_or vs j d) is_of.workers_are ∙ get_or-map (vec_of heap) workers j some d below in
      subst (λ (v : Vec (Receipt A) A). AreRoutes v.items) (sym here) (subst (λ (rs : List (Receipt A)). is_routing rs ≡ true) there routes)

  run_seen : AreSeen originates roles report
  run_seen = record {
    own = all_own;
    only = subst (λ n. list_all (λ (step : Step A). nat_lt step.actor n) report.history.items ≡ true) as_many run.all.only;
    links = link_seen;
    workers = worker_seen;
    house = subst (λ (rs : List (Receipt A)). are_houses originates rs ≡ true) (sym is_of.house_is) run.routes.1;
    tickets = run.tickets;
  }

pub ended_is_seen : (Rd W A O : Type 0) → EndedIsSeen Rd W A O
ended_is_seen Rd W A O originates turns batch views roles heap links workers house report is_of run = run_seen originates turns batch views roles heap links workers house report is_of run
