-- Runs that sockets join are a network.
use Rattle.std.proofs.Common.{◌≡◌, ℕ, true, List, ◌++◌, get_or, map, reverse, Some, sym, ap, subst, ◌∙◌, append_assoc}
use Rattle.std.specs.List.{filter_map, Contains}
use Rattle.std.proofs.lemmas.List.{reverse-reverse}
use Rattle.std.proofs.lemmas.List.Elements.{Contains-append_left}
use Rattle.gn_links.specs.Halves.{ReadHalf, WrittenHalf}
use Rattle.gn_shake.specs.declared.role.Role.{Role}
use Rattle.gn_rules.specs.declared.config.Config.{Config}
use Rattle.gn_rules.specs.declared.receipt.Step.{Step}
use Rattle.gn_rules.specs.Flight.{admission_of}
use Rattle.gn_rules.specs.Output.{taken}
use Rattle.gn_rules.specs.History.{mine}
use Rattle.gn_rules.specs.Limits.{most_reads}
use Rattle.gn_laws.specs.Owners.{LinkAgrees, packets_of}
use Rattle.gn_report.specs.declared.report.LinkReport.{LinkReport}
use Rattle.gn_report.specs.declared.report.Report.{Report}
use Rattle.gn_actors.specs.declared.who.Who.TheVariants.{Writer}
use Rattle.gn_report.specs.Actors.{number_in}
use Rattle.gn_report.proofs.ConfirmedLemmas.{reader_own, writer_own}
use Rattle.gn_threads.specs.Headline.{Holds, LinkHolds}
use Rattle.gn_threads.proofs.EndLemmas.{link_read, link_written}
use Rattle.gn_threads.proofs.FollowLemmas.{runs_add_up}
use Rattle.gn_bodies.specs.Events.{link_events_in}
use Rattle.gn_bodies.specs.ReaderRows.{ReaderRow}
use Rattle.gn_paths.specs.Networks.{Carries}
use Rattle.gn_network.specs.Sockets.{IsLinkOf, Leads, RunsMakeANetwork}
use Rattle.gn_network.proofs.OfferLemmas.{admitted_offered, offered_packet, offers_on, receipts_offer}
use Rattle.gn_network.proofs.TextLemmas.{all_text, offer, read_offers, written_begins, Begins}

-- a link of a run, with the place where it stands
record Placed {Rd W A : Type 0} (reads : Rd → ReadHalf) (writes : W → WrittenHalf) (turns batch : ℕ) (roles : List Role) (report : Report Rd W A) (role : Role) (link : LinkReport Rd W A) : Type 0 where
  k : ℕ
  holds : LinkHolds reads writes turns batch roles report k role link
  reads_own : link.reader_receipts.items ≡ mine report.history.items k
  writes_own : link.writer_receipts.items ≡ mine report.history.items (number_in report (Writer k))
  agrees : (c : ℕ) → link.conn ≡ Some c → LinkAgrees report.history.items k (number_in report (Writer k)) c

placed : {Rd W A : Type 0} (batch : ℕ) (reads : Rd → ReadHalf) (writes : W → WrittenHalf) (s : Config) (roles : List Role) (workers : ℕ) (report : Report Rd W A) (role : Role) (link : LinkReport Rd W A) (c : ℕ)
    → Holds batch reads writes s roles workers report → IsLinkOf roles report role link c → Placed reads writes (most_reads s.numbers.steps) batch roles report role link
placed {Rd} {W} {A} batch reads writes s roles workers report role link c holds is = record {
  k = is.index;
  holds = subst (λ r. LinkHolds reads writes (most_reads s.numbers.steps) batch roles report is.index r link) is.has_role
      (subst (λ l. LinkHolds reads writes (most_reads s.numbers.steps) batch roles report is.index (get_or roles is.index role) l) is.stands (holds.links is.index role link is.within));
  reads_own = subst (λ (l : LinkReport Rd W A). l.reader_receipts.items ≡ mine report.history.items is.index) is.stands (reader_own report holds.own.0 is.index link is.within);
  writes_own = subst (λ (l : LinkReport Rd W A). l.writer_receipts.items ≡ mine report.history.items (number_in report (Writer is.index))) is.stands (writer_own report holds.own.0 is.index link is.within);
  agrees = λ d conn. (runs_add_up Rd W A batch reads writes s roles workers report holds).agrees is.index d link is.within (subst (λ (l : LinkReport Rd W A). l.conn ≡ Some d) (sym is.stands) conn);
}

-- what was written at one end begins all that was to be written of what the history took there
gives_text : {Rd W A : Type 0} (reads : Rd → ReadHalf) (writes : W → WrittenHalf) (turns batch : ℕ) (roles : List Role) (report : Report Rd W A) (role : Role) (link : LinkReport Rd W A) (c : ℕ)
    → Placed reads writes turns batch roles report role link → link.conn ≡ Some c → (writes link.writer).is_known ≡ true → Begins (writes link.writer).bytes (all_text role (taken (reverse report.history.items) c))
gives_text reads writes turns batch roles report role link c at conn knows =
    let packets : packets_of link.writer_receipts.items ≡ taken (reverse report.history.items) c =
    ap packets_of at.writes_own ∙ (at.agrees c conn).takes in
    subst (λ ps. Begins (writes link.writer).bytes (all_text role ps)) packets
    (written_begins batch link.writer_end role (packets_of link.writer_receipts.items) (writes link.writer).bytes ((link_written reads writes turns batch roles report at.k role link at.holds).0 knows))

-- a beginning of a beginning
begins_further : (read written text rest : List ℕ) → written ≡ read ++ rest → Begins written text → Begins read text
begins_further read written text rest is begins = record {
  more = rest ++ begins.more;
  whole = begins.whole ∙ ap (λ bs. bs ++ begins.more) is ∙ append_assoc read rest begins.more;
}

socket_carries : {Rd W A : Type 0} (first_batch second_batch : ℕ) (reads : Rd → ReadHalf) (writes : W → WrittenHalf) (s t : Config) (roles others : List Role) (workers crew : ℕ) (first second : Report Rd W A) (c d : ℕ)
    → Holds first_batch reads writes s roles workers first → Holds second_batch reads writes t others crew second → Leads reads writes roles others first second c d
    → Carries (reverse first.history.items) c (reverse second.history.items) d
socket_carries {Rd} {W} {A} first_batch second_batch reads writes s t roles others workers crew first second c d holds holds_there leads p has =
    let from = placed first_batch reads writes s roles workers first leads.role leads.giver c holds leads.gives in
    let to = placed second_batch reads writes t others crew second leads.other leads.taker d holds_there leads.takes in
    let packets = taken (reverse first.history.items) c in
    let receipts = leads.taker.reader_receipts.items in
    let text = gives_text reads writes (most_reads s.numbers.steps) first_batch roles first leads.role leads.giver c from leads.gives.connected leads.delivered.wrote in
    let begins = begins_further (reads leads.taker.reader).bytes (writes leads.giver.writer).bytes (all_text leads.role packets) leads.delivered.rest leads.delivered.begins text in
    let row = subst (λ o. ReaderRow leads.other leads.taker.reader_end o (link_events_in receipts) (reads leads.taker.reader).bytes) leads.takes.connected ((link_read reads writes (most_reads t.numbers.steps) second_batch others second to.k leads.other leads.taker to.holds).0 leads.delivered.knows) in
    let offers = read_offers leads.role leads.other leads.taker.reader_end d (link_events_in receipts) packets (reads leads.taker.reader).bytes leads.valid leads.greets begins row in
    let agrees = to.agrees d leads.takes.connected in
    let all : offers_on d second.history.items ≡ map (offer d) offers.offered =
    sym agrees.offers ∙ ap (filter_map (λ r. admission_of r.event)) (sym to.reads_own) ∙ receipts_offer receipts ∙ offers.are in
    let offered : Contains (offers_on d second.history.items) (offer d p) =
    subst (λ (steps : List (Step A)). Contains (offers_on d steps) (offer d p)) (reverse-reverse second.history.items) (admitted_offered (reverse second.history.items) d p has) in
    subst (λ ps. Contains ps p) (sym offers.first.whole)
    (Contains-append_left offers.offered offers.first.later p
    (offered_packet d offers.offered p (subst (λ os. Contains os (offer d p)) all offered)))

pub runs_make_a_network : (Rd W A : Type 0) → RunsMakeANetwork Rd W A
runs_make_a_network Rd W A = record {
  link = λ first_batch second_batch reads writes s t roles others workers crew first second c d holds there leads. socket_carries first_batch second_batch reads writes s t roles others workers crew first second c d holds there leads;
  network = λ reads writes runs joined. record {
    legal = λ i. (joined.holds i).legal;
    both = λ i c j d link. joined.both i c j d link;
    carries = λ i c j d link. socket_carries (runs.batch i) (runs.batch j) reads writes (runs.settings i) (runs.settings j) (runs.roles i) (runs.roles j) (runs.workers i) (runs.workers j) (runs.report i) (runs.report j) c d (joined.holds i) (joined.holds j) (joined.leads i c j d link);
  };
}
