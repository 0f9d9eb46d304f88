-- What the bodies of each link did, by the account of the run.
use Rattle.std.proofs.Common.{◌≡◌, ◌<◌, ◌≤◌, ◌+◌, ◌-◌, ◌∙◌, ℕ, List, [], ◌∷◌, length, map, replicate, Option, None, Some, Vec, ap, arith, subst, sym, length-append}
use Rattle.std.specs.Prelude.{IfSome}
use Rattle.std.proofs.Math.ListN.{get_or}
use Rattle.std.proofs.lemmas.List.{get_or-map, length-map, length-replicate}
use Rattle.gn_rules.specs.History.{mine}
use Rattle.gn_rules.specs.declared.config.Config.{Config}
use Rattle.gn_rules.specs.declared.receipt.Step.{Step}
use Rattle.gn_actors.specs.Tallies.{tally_of}
use Rattle.gn_shake.specs.declared.role.Role.TheVariants.{Accepting, Calling}
use Rattle.gn_report.specs.Accounts.{link_of, report_of}
use Rattle.gn_report.specs.Actors.{AreOwn}
use Rattle.gn_report.specs.declared.account.Account.{Account}
use Rattle.gn_report.specs.declared.account.LinkAccount.{LinkAccount}
use Rattle.gn_report.specs.declared.account.LinkTally.{LinkTally}
use Rattle.gn_report.specs.declared.report.LinkReport.{LinkReport}
use Rattle.gn_report.specs.declared.unkept.Unkept.{Unkept}
use Rattle.gn_report.proofs.ConfirmedLemmas.{reader_own, writer_own}
use Rattle.gn_sockets.specs.TcpHalves.{TcpReading, TcpWriting, half_read, half_written}
use Rattle.gn_threads.specs.Courses.{AreTallies}
use Rattle.gn_threads.specs.Headline.{Holds}
use Rattle.gn_service.specs.Links.{roles_of}
use Rattle.gn_service.specs.Tallies.{tallies_of}

-- a link, where there is one
some_link : {L : Type 0} (links : List L) (k : ℕ) → k < length links → L
some_link [] k below = absurd (omega (arith, below))
some_link (x ∷ xs) k below = x

module _ {Rd W A : Type 0} (account : Account Rd W A) (own : AreOwn (report_of account)) (k : ℕ) (d : LinkTally) (below : k < length account.links.items) (x : LinkAccount Rd W A) where
  among : k < length (map (link_of account.links.alloc) account.links.items)
  among = subst (λ n. k < n) (sym (length-map account.links.items (link_of account.links.alloc))) below

  at_link : get_or (tallies_of account.links.items) k d ≡ record { read = (get_or account.links.items k x).read; written = (get_or account.links.items k x).written }
  at_link = get_or-map (λ link. record { read = link.read; written = link.written }) account.links.items k x d below

  in_report : get_or (map (link_of account.links.alloc) account.links.items) k (link_of account.links.alloc x) ≡ link_of account.links.alloc (get_or account.links.items k x)
  in_report = get_or-map (link_of account.links.alloc) account.links.items k x (link_of account.links.alloc x) below

  reader_tally : (get_or (tallies_of account.links.items) k d).read ≡ tally_of (mine account.history.items k)
  reader_tally =
      ap (λ (t : LinkTally). t.read) at_link
      ∙ ((get_or account.links.items k x).counted.0
      ∙ ap tally_of (sym (ap (λ (l : LinkReport Rd W A). l.reader_receipts.items) in_report) ∙ reader_own (report_of account) own k (link_of account.links.alloc x) among))

  writer_tally : (n : ℕ) → length account.links.items ≡ n → (get_or (tallies_of account.links.items) k d).written ≡ tally_of (mine account.history.items (n + k))
  writer_tally n many =
      ap (λ (t : LinkTally). t.written) at_link
      ∙ ((get_or account.links.items k x).counted.1
      ∙ (ap tally_of (sym (ap (λ (l : LinkReport Rd W A). l.writer_receipts.items) in_report) ∙ writer_own (report_of account) own k (link_of account.links.alloc x) among)
      ∙ ap (λ m. tally_of (mine account.history.items (m + k))) (length-map account.links.items (link_of account.links.alloc) ∙ many)))

-- the tallies of an account's links are what its history counts
are_tallies : {Rd W A : Type 0} (account : Account Rd W A) → AreOwn (report_of account) → (n : ℕ) → length account.links.items ≡ n
    → AreTallies account.history.items n (tallies_of account.links.items)
are_tallies account own n many = record {
  many = length-map account.links.items (λ link. record { read = link.read; written = link.written }) ∙ many;
  read = λ k d below.
      let within = subst (λ m. k < m) (sym many) below in reader_tally account own k d within (some_link account.links.items k within);
  written = λ k d below.
      let within = subst (λ m. k < m) (sym many) below in writer_tally account own k d within (some_link account.links.items k within) n many;
}

-- there are as many roles as links
pub many_roles : (calls links : ℕ) → calls ≤ links → length (roles_of calls links) ≡ links
many_roles calls links few = omega (
  arith,
  few,
  length-append (replicate calls Calling) (replicate (links - calls) Accepting),
  length-replicate calls Calling,
  length-replicate (links - calls) Accepting,
)

-- so of a run over TCP
pub tallied_as : {A : Type 0} (batch : ℕ) (s : Config) (calls links : ℕ) → calls ≤ links → (workers : ℕ) (account : Account TcpReading TcpWriting A)
    → Holds batch half_read half_written s (roles_of calls links) workers (report_of account) → (history : Option (Unkept (Step A))) (found : Option (Vec LinkTally A))
    → history ≡ Some account.history → IfSome found (λ tallies. tallies.items ≡ tallies_of account.links.items)
    → IfSome history (λ history. IfSome found (λ tallies. AreTallies history.items links tallies.items))
tallied_as {A} batch s calls links few workers account holds history None at is =
    subst (λ (h : Option (Unkept (Step A))). IfSome h (λ history. Unit {0})) (sym at) tt
tallied_as {A} batch s calls links few workers account holds history (Some tallies) at is =
    let many : length account.links.items ≡ links =
    sym (length-map account.links.items (link_of account.links.alloc)) ∙ (holds.each.0 ∙ many_roles calls links few) in
    subst (λ (h : Option (Unkept (Step A))). IfSome h (λ history. AreTallies history.items links tallies.items)) (sym at)
    (subst (λ (ts : List LinkTally). AreTallies account.history.items links ts) (sym is) (are_tallies account holds.own.0 links many))

-- and of what is the same
pub tallies_as : {A : Type 0} (links : ℕ) (before after : Option (Unkept (Step A))) (found again : Option (Vec LinkTally A)) → after ≡ before → again ≡ found
    → IfSome before (λ history. IfSome found (λ tallies. AreTallies history.items links tallies.items))
    → IfSome after (λ history. IfSome again (λ tallies. AreTallies history.items links tallies.items))
tallies_as {A} links before after found again same is tallied =
    subst (λ (t : Option (Vec LinkTally A)). IfSome after (λ history. IfSome t (λ tallies. AreTallies history.items links tallies.items))) (sym is)
    (subst (λ (h : Option (Unkept (Step A))). IfSome h (λ history. IfSome found (λ tallies. AreTallies history.items links tallies.items))) (sym same) tallied)
