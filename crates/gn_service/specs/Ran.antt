-- What a run over TCP did, as it is remembered.
use Rattle.std.specs.Prelude.{List, map}
use Rattle.gn_rules.specs.declared.receipt.Step.{Step}
use Rattle.gn_report.specs.declared.account.LinkAccount.{LinkAccount}
use Rattle.gn_report.specs.declared.report.LinkReport.{LinkReport}
use Rattle.gn_report.specs.declared.report.Report.{Report}
use Rattle.gn_tcp.specs.Seen.{SocketSeen}
use Rattle.gn_sockets.specs.TcpHalves.{TcpReading, TcpWriting}

-- the steps of its history, and its links, each by what its socket gave and took
pub record Remembered (A : Type 0) : Type 0 where
  pub steps : List (Step A)
  pub sockets : List SocketSeen

-- what is remembered of the two halves of a link
abbrev pub socket_of : TcpReading → TcpWriting → SocketSeen
socket_of reader writer = record { gave = reader.bytes; writing = writer }

-- what is remembered of the links
abbrev pub sockets_of : {A : Type 0} → List (LinkReport TcpReading TcpWriting A) → List SocketSeen
sockets_of links = map (λ link. socket_of link.reader link.writer) links

-- so of the links of an account
abbrev pub account_sockets : {A : Type 0} → List (LinkAccount TcpReading TcpWriting A) → List SocketSeen
account_sockets links = map (λ link. socket_of link.reader link.writer) links

-- what is remembered of a run with this report
abbrev pub ran_of : {A : Type 0} → Report TcpReading TcpWriting A → Remembered A
ran_of report = record { steps = report.history.items; sockets = sockets_of report.links.items }
