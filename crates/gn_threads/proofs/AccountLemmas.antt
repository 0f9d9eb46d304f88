-- What holds of a run of which there is an account.
use Rattle.std.proofs.Common.{◌≡◌, ◌==◌, ℕ, Bool, List, length, map, reverse, true, false, vec_len, refl, sym, subst, arith}
use Rattle.std.proofs.Math.Seq.{take-length}
use Rattle.std.proofs.lemmas.List.{length-map}
use Rattle.gn_rules.specs.declared.config.Config.{Config}
use Rattle.gn_rules.specs.declared.receipt.Step.{Step}
use Rattle.gn_rules.specs.Answer.{IsLegal}
use Rattle.gn_rules.specs.Flight.{flying}
use Rattle.gn_rules.specs.Limits.{most_reads}
use Rattle.gn_rules.specs.Statistics.{stats_of}
use Rattle.gn_shake.specs.declared.role.Role.{Role}
use Rattle.gn_report.specs.declared.account.Account.{Account}
use Rattle.gn_report.specs.declared.account.LinkAccount.{LinkAccount}
use Rattle.gn_report.specs.Accounts.{are_houses, link_of, report_of}
use Rattle.gn_report.specs.BodyEnds.{is_settled}
use Rattle.gn_report.specs.Ended.{EndedIsSeen, IsRunEnded, LinkViews}
use Rattle.gn_report.specs.Seen.{AreSeen}
use Rattle.gn_report.specs.Vectors.{vec_of}
use Rattle.gn_report.proofs.ConfirmedLemmas.{Confirmed, workers_route}
use Rattle.gn_report.proofs.SeenLemmas.{seen_confirmed}
use Rattle.gn_start.specs.Over.{AllEnded}
use Rattle.gn_threads.specs.Headline.{HoldsAs}
use Rattle.gn_threads.specs.Left.{IsCalm, IsGathered}
use Rattle.gn_report.specs.declared.looks.Looks.{Looks}
use Rattle.gn_threads.proofs.HoldsLemmas.{links_hold}

module _ {Rd W A O : Type 0} (batch : ℕ) (views : LinkViews Rd W O) (s settings : Config) (account : Account Rd W A) (looks : Looks)
    (gathered : IsGathered views (most_reads s.numbers.steps) batch account.history.items account.links.items account.workers.items account.house looks) (calm : IsCalm s settings account.history.items looks) where
  -- the roles in which its links began
  abbrev roles : List Role
  roles = map (λ (link : LinkAccount Rd W A). link.role) account.links.items

  -- all of it has ended
  run_ended : (originates : Bool) → are_houses originates account.house.items ≡ true → IsRunEnded originates (most_reads s.numbers.steps) batch views roles account.history.items account.links.items account.workers.items account.house
  run_ended originates houses = record {
    each = gathered.each;
    roles_are = refl;
    looks = looks;
    counted = gathered.counted;
    right = calm.right;
    all = gathered.own;
    routes = (gathered.routes, houses);
    tickets = subst (λ (steps : List (Step A)). (length (flying (reverse steps)) == 0) ≡ true) (sym (take-length account.history.items)) calm.tickets;
  }

  each : AllEnded (most_reads s.numbers.steps) batch views account.history.items account.links.items
  each = gathered.each

  by_call : IsLegal settings (reverse account.history.items) → IsLegal s (reverse account.history.items)
  by_call legal = subst (λ call. IsLegal call (reverse account.history.items)) calm.same legal

  -- enough of it is seen
  account_seen : EndedIsSeen Rd W A O → (originates : Bool) → are_houses originates account.house.items ≡ true → AreSeen originates roles (report_of account)
  account_seen sees originates houses =
      sees originates (most_reads s.numbers.steps) batch views roles account.links.alloc account.links.items account.workers.items account.house (report_of account)
      (record { links_are = refl; workers_are = refl; house_is = refl }) (run_ended originates houses)

  -- there is a report of each link, and a list of each worker
  as_many : (length (report_of account).links.items ≡ length roles) × (length (report_of account).workers.items ≡ vec_len account.workers)
  as_many = (
    omega (arith, length-map account.links.items (link_of account.links.alloc), length-map account.links.items (λ (link : LinkAccount Rd W A). link.role)),
    omega (arith, length-map account.workers.items (vec_of account.links.alloc), account.workers.ok),
  )

  -- so the headline holds, whether its own servent sends descriptors or not
  pub account_holds : EndedIsSeen Rd W A O → IsLegal settings (reverse account.history.items)
      → account.stats ≡ stats_of (reverse account.history.items) → (originates : Bool) → are_houses originates account.house.items ≡ true
      → HoldsAs originates batch views.reads views.writes s roles (vec_len account.workers) (report_of account)
  account_holds sees legal stats false houses =
      let seen : AreSeen false roles (report_of account) = account_seen sees false houses in
      let sure : Confirmed false (is_settled account.history.items) roles (report_of account) = seen_confirmed s roles (report_of account) (by_call legal) seen in
      record {
        legal = by_call legal;
        each = as_many;
        own = (seen.own, seen.only);
        links = links_hold (most_reads s.numbers.steps) batch views account each roles refl sure;
        routes = (sure.others, seen.tickets);
        stats = stats;
      }
  account_holds sees legal stats true houses =
      let seen : AreSeen true roles (report_of account) = account_seen sees true houses in
      let sure : Confirmed true (is_settled account.history.items) roles (report_of account) = seen_confirmed s roles (report_of account) (by_call legal) seen in
      record {
        legal = by_call legal;
        each = as_many;
        own = (seen.own, seen.only);
        links = links_hold (most_reads s.numbers.steps) batch views account each roles refl sure;
        routes = (workers_route (report_of account) seen.workers, houses, seen.tickets);
        stats = stats;
      }
