-- A run whose links came one after another, in the numbers of one whose links are all known.
use Rattle.std.proofs.Common.{◌≡◌, ◌<◌, ◌≤◌, ◌+◌, ◌==◌, ◌∷◌, ◌∙◌, ℕ, Bool, true, false, nat_lt, List, [], length, map, get_or, reverse, take, Option, Some, None, vec_len, refl, sym, ap, subst, arith, inl, inr}
use mathlib.Core.List.{IsPrefix}
use Rattle.std.specs.List.{list_all}
use Rattle.std.proofs.Math.Seq.{take-length}
use Rattle.std.proofs.lemmas.List.{length-map}
use Rattle.gn_rules.specs.declared.config.Config.{Config}
use Rattle.gn_rules.specs.declared.receipt.Receipt.{Receipt}
use Rattle.gn_rules.specs.declared.receipt.Step.{Step}
use Rattle.gn_rules.specs.Answer.{IsLegal}
use Rattle.gn_rules.specs.Flight.{flying}
use Rattle.gn_rules.specs.History.{mine}
use Rattle.gn_rules.specs.Limits.{most_reads}
use Rattle.gn_rules.specs.Statistics.{stats_of}
use Rattle.gn_actors.specs.ActorState.{ActorState}
use Rattle.gn_actors.specs.Registry.{AreWhole}
use Rattle.gn_actors.specs.Who.{number_of}
use Rattle.gn_actors.specs.declared.who.Numbering.TheVariants.{Known, Open}
use Rattle.gn_actors.specs.declared.who.Who.TheVariants.{House, Reader, Worker, Writer}
use Rattle.gn_renumber.specs.Moved.{AreAlike, MovedIsAlike, MovedIsLegal}
use Rattle.gn_renumber.specs.Renumbered.{RenumberedIsOnly, RenumberedIsOwn, known_number, renumbered}
use Rattle.gn_report.specs.Accounts.{are_houses, unkept_list}
use Rattle.gn_report.specs.Ended.{EndedIsSeen, IsIdleAfter, IsLinkEnded, LinkViews}
use Rattle.gn_report.specs.Looks.{AreCounted}
use Rattle.gn_report.specs.declared.account.LinkAccount.{LinkAccount}
use Rattle.gn_report.specs.declared.account.LinkEnd.{LinkEnd}
use Rattle.gn_report.specs.declared.account.LinkEnd.TheVariants.{Cut, Whole}
use Rattle.gn_report.specs.declared.looks.Looks.{Looks}
use Rattle.gn_report.specs.declared.unkept.Unkept.{Unkept}
use Rattle.gn_start.specs.Over.{IsOver}
use Rattle.gn_start.specs.declared.over.Over.{Over}
use Rattle.gn_threads.specs.Homecoming.{AreAllOut, receipts_in, with_all_home}
use Rattle.gn_threads.specs.Left.{IsCalm, IsGathered}
use Rattle.gn_threads.specs.OpenAccounts.{accounts_of}
use Rattle.gn_threads.specs.OpenRuns.{IsOpenEnded, IsOpenGathered, IsOpenHistory, known_account, known_steps}
use Rattle.gn_threads.specs.declared.open_account.OpenAccount.{OpenAccount}
use Rattle.gn_threads.specs.declared.open_ending.OpenGathered.{OpenGathered}
use Rattle.gn_threads.proofs.AccountLemmas.{account_holds}
use Rattle.gn_threads.proofs.HoldsLemmas.{are_arrived}
use Rattle.gn_threads.proofs.LeftLemmas.{AreApart, all_ended, all_out_home, all_receipts_own, crew, house_mine, many_home, reader_mine, routed_home, worker_mine, writer_mine}

-- the accounts of links that all have one
pub accounts_all : {Rd W A : Type 0} (links : List (LinkAccount Rd W A)) → accounts_of (map (λ link. Whole link) links) ≡ links
accounts_all [] = refl
accounts_all (link ∷ links) = ap (λ more. link ∷ more) (accounts_all links)

-- there are no more accounts than links
one_fewer : {Rd W A : Type 0} (end : LinkEnd Rd W A) (ends : List (LinkEnd Rd W A)) → length (accounts_of ends) ≤ length ends → length (accounts_of (end ∷ ends)) ≤ length (end ∷ ends)
one_fewer (Whole link) ends few = omega (arith, few)
one_fewer (Cut tally) ends few = omega (arith, few)

pub accounts_few : {Rd W A : Type 0} (ends : List (LinkEnd Rd W A)) → length (accounts_of ends) ≤ length ends
accounts_few [] = omega arith
accounts_few (end ∷ ends) = one_fewer end ends (accounts_few ends)

pub open_apart : (n v : ℕ) → AreApart (Open v) n v
open_apart n v = record {
  in_order = λ j. omega arith;
  house_aside = inl (omega arith);
  reader_house = λ k below same. absurd (omega (arith, same));
  writer_house = λ k below same. absurd (omega (arith, same));
  reader_aside = λ k below. inr (omega arith);
  writer_aside = λ k below. inr (omega arith);
}

-- what is known of a link that has ended is known of it in a history that is alike
idle_alike : {A : Type 0} (steps others : List (Step A)) (idle : Option ℕ) → AreAlike steps others → IsIdleAfter steps idle → IsIdleAfter others idle
idle_alike steps others None alike is = tt
idle_alike {A} steps others (Some at) alike is = (omega (arith, is.0, alike.many), ap (λ (ts : List ℕ). length ts == 0) (alike.flying_in at) ∙ is.1)

pub ended_alike : {Rd W A O : Type 0} (turns batch : ℕ) (views : LinkViews Rd W O) (steps others : List (Step A)) (link : LinkAccount Rd W A) → AreAlike steps others → IsLinkEnded turns batch views steps link
    → IsLinkEnded turns batch views others link
ended_alike turns batch views steps others link alike is = record {
  read = is.read;
  known = is.known;
  own = is.own;
  failed = is.failed;
  wrote = is.wrote;
  finished = is.finished;
  one = is.one;
  found = is.found;
  did = is.did;
  idle = idle_alike steps others link.idle alike is.idle;
  same = is.same;
  closed = λ must c conn. alike.closed c ∙ is.closed must c conn;
  first = is.first;
}

module _ {Rd W K B A O : Type 0} (views : LinkViews Rd W O) (keeps : K → List (Option (LinkEnd Rd W A)) → Type 0) (turns batch v : ℕ) (over : Over Rd W K B A) (ended : IsOver views keeps turns batch (Open v) v over)
    (house : ActorState A) (house_is : house.number ≡ 0) (here : over.is_lost ≡ false) (accounts : List (LinkAccount Rd W A)) (are : over.links.items ≡ map (λ link. Whole link) accounts) where
  abbrev whole_of : LinkAccount Rd W A → LinkEnd Rd W A
  whole_of link = Whole link

  -- there are two numbers for each link
  pub open_long : length over.registry.lists ≡ 1 + v + (length accounts + length accounts)
  open_long =
      let long : length over.registry.lists ≡ 1 + v + (over.came + over.came) = ended.lists in
      omega (arith, long, ended.all here, ap length are, length-map accounts whole_of)

  module _ (own_law : RenumberedIsOwn A) (only_law : RenumberedIsOnly A) (steps : List (Step A)) (alike : AreAlike steps (renumbered (length accounts) v steps)) (begun : IsPrefix over.registry.seen steps)
      (whole : AreWhole steps (with_all_home over.registry.lists (house ∷ over.workers.items))) where
    abbrev apart : AreApart (Open v) (length accounts) v
    apart = open_apart (length accounts) v

    -- no step is of anybody but its actors
    pub open_only : list_all (λ step. nat_lt step.actor (1 + v + (length accounts + length accounts))) steps ≡ true
    open_only =
        subst (λ n. list_all (λ (step : Step A). nat_lt step.actor n) steps ≡ true)
        (many_home views keeps turns batch (Open v) (length accounts) v apart over ended house house_is here ∙ open_long) whole.only

    -- all that is gathered of it, in the numbers of known links
    pub open_gathered : (workers : List (Unkept (Receipt A))) (own : Unkept (Receipt A)) (worked : length workers ≡ v) → map unkept_list workers ≡ map receipts_in over.workers.items → own.items ≡ house.receipts
        → AreCounted over.looks (map (λ link. Some (Whole link)) accounts)
        → IsGathered views turns batch (renumbered (length accounts) v steps) accounts workers own over.looks
    open_gathered workers own worked working last counted =
        let n = length accounts in
        let moved = renumbered n v steps in
        record {
          each = λ k d below.
              ended_alike turns batch views steps moved (get_or accounts k d) alike
              (all_ended views keeps turns batch (Open v) n v apart over ended house house_is here accounts are steps begun k d below);
          counted = counted;
          own = all_receipts_own moved accounts workers own
              (λ k d below.
              reader_mine views keeps turns batch (Open v) n v apart over ended house house_is here accounts are steps k d whole below below (omega (arith, below, open_long)) ∙ sym (own_law n v steps (Reader k) open_only below))
              (λ k d below.
              writer_mine views keeps turns batch (Open v) n v apart over ended house house_is here accounts are steps k d whole below below (omega (arith, below, open_long)) ∙ sym (own_law n v steps (Writer k) open_only below))
              (λ j d below.
              let low : j < v = omega (arith, below, worked) in
              let same : n + n + j ≡ n + (n + j) = omega arith in
              worker_mine views keeps turns batch (Open v) n v apart over ended house house_is here steps workers j d working whole low
              ∙ (sym (own_law n v steps (Worker j) open_only low) ∙ ap (mine moved) same))
              (let same : n + n + v ≡ n + (n + (length workers + 0)) = omega (arith, worked) in
              last ∙ (house_mine views keeps turns batch (Open v) n v apart over ended house house_is here steps whole ∙ (sym (own_law n v steps House open_only tt) ∙ ap (mine moved) same)))
              (let total : number_of (Known n v) House + 1 ≡ n + n + length workers + 1 = omega (arith, worked) in
              subst (λ i. list_all (λ (step : Step A). nat_lt step.actor i) moved ≡ true) total (only_law n v steps open_only));
          routes = routed_home views keeps turns batch (Open v) n v apart over ended house house_is here workers working;
        }

module _ {Rd W K B A O : Type 0} (views : LinkViews Rd W O) (keeps : K → List (Option (LinkEnd Rd W A)) → Type 0) (turns batch v : ℕ) (over : Over Rd W K B A) (ended : IsOver views keeps turns batch (Open v) v over)
    (well : over.fault ≡ None) (house : ActorState A) (house_is : house.number ≡ 0) where
  -- its house and its workers are out before they come home
  pub open_out : AreAllOut over.registry.lists (house ∷ over.workers.items)
  open_out = all_out_home views keeps turns batch (Open v) 0 v (open_apart 0 v) over ended house house_is (ended.whole well).0

  -- there are two numbers for each link that has ended
  pub open_many : length over.registry.lists ≡ length over.links.items + length over.links.items + v + 1
  open_many =
      let long : length over.registry.lists ≡ 1 + v + (over.came + over.came) = ended.lists in
      omega (arith, long, ended.all (ended.whole well).0)

  module _ (accounts : List (LinkAccount Rd W A)) (are : accounts ≡ accounts_of over.links.items) where
    -- the accounts that its links have are those of all of them
    same_accounts : accounts ≡ (ended.whole well).1.0
    same_accounts =
        let all = (ended.whole well).1 in
        are ∙ (ap (λ (ends : List (LinkEnd Rd W A)). accounts_of ends) all.1 ∙ accounts_all all.0)

    pub open_links : over.links.items ≡ map (λ link. Whole link) accounts
    open_links = (ended.whole well).1.1 ∙ ap (λ (ls : List (LinkAccount Rd W A)). map (λ link. Whole link) ls) (sym same_accounts)

    open_counted : AreCounted over.looks (map (λ link. Some (Whole link)) accounts)
    open_counted = subst (λ (ls : List (LinkAccount Rd W A)). AreCounted over.looks (map (λ link. Some (Whole link)) ls)) (sym same_accounts) (ended.whole well).1.2

  -- all is gathered of it once its actors are home
  pub all_open : RenumberedIsOwn A → RenumberedIsOnly A → MovedIsAlike A → (steps : List (Step A)) (all : OpenGathered Rd W A) → all.links.items ≡ accounts_of over.links.items
      → map unkept_list all.workers.items ≡ map receipts_in over.workers.items → all.house.items ≡ house.receipts → IsPrefix over.registry.seen steps
      → AreWhole steps (with_all_home over.registry.lists (house ∷ over.workers.items)) → IsOpenGathered views turns batch steps all over.looks
  all_open own_law only_law alike_law steps all are working last begun whole =
      let here = (ended.whole well).0 in
      let links = all.links.items in
      let as_many : length all.workers.items ≡ v =
      omega (arith, ap length working, length-map over.workers.items receipts_in, length-map all.workers.items unkept_list, crew views keeps turns batch (Open v) 0 v (open_apart 0 v) over ended house house_is here) in
      let alike = alike_law (known_number (length links) v) steps in
      let every = open_links links are in
      record {
        only = subst (λ w. list_all (λ (step : Step A). nat_lt step.actor (1 + w + (length links + length links))) steps ≡ true) (sym as_many)
            (open_only views keeps turns batch v over ended house house_is here links every own_law only_law steps alike begun whole);
        gathered = subst (λ w. IsGathered views turns batch (renumbered (length links) w steps) links all.workers.items all.house over.looks) (sym as_many)
            (open_gathered views keeps turns batch v over ended house house_is here links every own_law only_law steps alike begun whole all.workers.items all.house as_many working last
            (open_counted links are));
      }

-- a whole history that is alike has as many tickets in flight
none_flying : {A : Type 0} (steps others : List (Step A)) → AreAlike steps others → (length (flying (reverse steps)) == 0) ≡ true → (length (flying (reverse others)) == 0) ≡ true
none_flying {A} steps others alike none =
    let k = length others in
    let here : take k others ≡ others = take-length others in
    let there : take k steps ≡ steps = ap (λ n. take n steps) alike.many ∙ take-length steps in
    let same : flying (reverse others) ≡ flying (reverse steps) =
    ap (λ (ss : List (Step A)). flying (reverse ss)) (sym here) ∙ (alike.flying_in k ∙ ap (λ (ss : List (Step A)). flying (reverse ss)) there) in
    ap (λ (ts : List ℕ). length ts == 0) same ∙ none

-- what holds of the history of such a run, by what was gathered of it, whatever its house did
pub open_history : {Rd W A O : Type 0} (batch : ℕ) (views : LinkViews Rd W O) (s settings : Config) (account : OpenAccount Rd W A) (looks : Looks)
    → list_all (λ step. nat_lt step.actor (1 + vec_len account.workers + (length account.links.items + length account.links.items))) account.history.items ≡ true
    → IsGathered views (most_reads s.numbers.steps) batch (known_steps account) account.links.items account.workers.items account.house looks
    → IsCalm s settings account.history.items looks → IsLegal settings (reverse account.history.items) → account.stats ≡ stats_of (reverse account.history.items)
    → IsOpenHistory views s (vec_len account.workers) account
open_history batch views s settings account looks only gathered calm legal stats = record {
  legal = subst (λ call. IsLegal call (reverse account.history.items)) calm.same legal;
  only = only;
  own = gathered.own;
  routes = (gathered.routes, calm.tickets);
  each = (batch, gathered.each);
  arrived = are_arrived (most_reads s.numbers.steps) batch views (known_account account) gathered.each;
  stats = stats;
}

-- what holds of the account of such a run, by what was gathered of it
pub open_ended : {Rd W A O : Type 0} → EndedIsSeen Rd W A O → MovedIsLegal A → MovedIsAlike A → (batch : ℕ) (views : LinkViews Rd W O) (s settings : Config) (account : OpenAccount Rd W A) (looks : Looks)
    → list_all (λ step. nat_lt step.actor (1 + vec_len account.workers + (length account.links.items + length account.links.items))) account.history.items ≡ true
    → IsGathered views (most_reads s.numbers.steps) batch (known_steps account) account.links.items account.workers.items account.house looks
    → IsCalm s settings account.history.items looks → IsLegal settings (reverse account.history.items) → account.stats ≡ stats_of (reverse account.history.items)
    → (originates : Bool) → are_houses originates account.house.items ≡ true → IsOpenEnded originates views batch s (vec_len account.workers) account
open_ended {Rd} {W} {A} sees legal_law alike_law batch views s settings account looks only gathered calm legal stats originates houses =
    let steps = account.history.items in
    let known = known_account account in
    let number = known_number (length account.links.items) (length account.workers.items) in
    let alike : AreAlike steps (known_steps account) = alike_law number steps in
    let still : IsCalm s settings (known_steps account) looks = record { same = calm.same; tickets = none_flying steps (known_steps account) alike calm.tickets; right = calm.right } in
    record {
      legal = subst (λ call. IsLegal call (reverse steps)) calm.same legal;
      only = only;
      holds = account_holds batch views s settings known looks gathered still sees (legal_law settings number steps legal) (stats ∙ sym alike.stats) originates houses;
      arrived = are_arrived (most_reads s.numbers.steps) batch views known gathered.each;
    }
