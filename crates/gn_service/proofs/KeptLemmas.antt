-- What a run over TCP answers whose router keeps its steps.
use Rattle.std.proofs.Common.{◌≡◌, ◌∙◌, List, Result, Ok, Err, ap, subst, sym}
use Rattle.std.specs.Prelude.{MatchResult}
use Rattle.std.proofs.lemmas.Simd.{map-map}
use Rattle.gn_rules.specs.declared.receipt.Step.{Step}
use Rattle.gn_report.specs.Accounts.{link_of, report_of}
use Rattle.gn_report.specs.Told.{Tells}
use Rattle.gn_report.specs.declared.account.Account.{Account}
use Rattle.gn_report.specs.declared.report.LinkReport.{LinkReport}
use Rattle.gn_report.specs.declared.report.Report.{Report}
use Rattle.gn_sockets.specs.TcpHalves.{TcpReading, TcpWriting}
use Rattle.gn_tcp.specs.Seen.{SocketSeen}
use Rattle.gn_threads.proofs.ToldLemmas.{same_halves}
use Rattle.gn_service.specs.Ran.{Remembered, account_sockets, ran_of, socket_of, sockets_of}

-- what holds of a result that is this
pub held_ok : {T E : Type 0} (r : Result T E) (x : T) (P : T → Type 0) (Q : E → Type 0) → r ≡ Ok x → MatchResult r P Q → P x
held_ok r x P Q is h = subst (λ q. MatchResult q P Q) is h

pub held_err : {T E : Type 0} (r : Result T E) (e : E) (P : T → Type 0) (Q : E → Type 0) → r ≡ Err e → MatchResult r P Q → Q e
held_err r e P Q is h = subst (λ q. MatchResult q P Q) is h

-- what is remembered, by its steps and by its links
abbrev pub of_both : {A : Type 0} → List (Step A) → List SocketSeen → Remembered A
of_both steps sockets = record { steps = steps; sockets = sockets }

-- what is remembered of an account is so of its report
pub ran_as : {A : Type 0} (account : Account TcpReading TcpWriting A) (steps : List (Step A)) (sockets : List SocketSeen) → steps ≡ account.history.items → sockets ≡ account_sockets account.links.items
    → of_both steps sockets ≡ ran_of (report_of account)
ran_as {A} account steps sockets is same =
    let all : sockets_of (report_of account).links.items ≡ account_sockets account.links.items =
    map-map (λ (link : LinkReport TcpReading TcpWriting A). socket_of link.reader link.writer) (link_of account.links.alloc) account.links.items in
    ap (λ xs. of_both xs sockets) is ∙ ap (λ ys. of_both account.history.items ys) (same ∙ sym all)

-- and of the report that is told
pub ran_told : {A : Type 0} (account : Account TcpReading TcpWriting A) (report : Report TcpReading TcpWriting A) → Tells account report → ran_of (report_of account) ≡ ran_of report
ran_told {A} account report told =
    let same : sockets_of report.links.items ≡ sockets_of (report_of account).links.items = same_halves account report told (λ e. socket_of e.reader e.writer) in
    ap (λ ys. of_both account.history.items ys) (sym same) ∙ ap (λ xs. of_both xs (sockets_of report.links.items)) (sym told.history)
