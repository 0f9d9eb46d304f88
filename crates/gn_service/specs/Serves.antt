-- What a run over TCP answers.
use Rattle.std.specs.Prelude.{◌+◌, ℕ, true, List, length, IfErr, IfOk, IfSome, Result}
use Rattle.std.specs.declared.net.socket_addr.SocketAddr.{SocketAddr}
use Rattle.gn_rules.specs.declared.config.Config.{Config}
use Rattle.gn_report.specs.Accounts.{report_of}
use Rattle.gn_report.specs.declared.account.Account.{Account}
use Rattle.gn_report.specs.declared.report.Report.{Report}
use Rattle.gn_sockets.specs.TcpHalves.{TcpReading, TcpWriting, half_read, half_written}
use Rattle.gn_threads.specs.Answers.{FaultViews, IsKeptAnswer, halted_views}
use Rattle.gn_threads.specs.Courses.{AreTallies}
use Rattle.gn_start.specs.Faults.{IsArrivingFault}
use Rattle.gn_threads.specs.Headline.{AreMadeOf, AreOfOne, Holds}
use Rattle.gn_threads.specs.declared.halted.Halted.{Halted}
use Rattle.gn_service.specs.Links.{origins_of, roles_of}
use Rattle.gn_service.specs.Ran.{Remembered}

-- the report of a run that comes with what is remembered of it
abbrev pub served_report : {A : Type 0} → Report TcpReading TcpWriting A × Remembered A → Report TcpReading TcpWriting A
served_report done = done.0

-- the report that an account tells which comes so
abbrev pub served_account : {A : Type 0} → Account TcpReading TcpWriting A × Remembered A → Report TcpReading TcpWriting A
served_account done = report_of done.0

-- what a run answers over links to these peers and to so many that call, whose writers write at most so many packets at once: it is a
-- run of links that arrive, and the two halves of each were split from one socket
pub record IsServed {A Q F H : Type 0} (batch : ℕ) (s : Config) (peers : List SocketAddr) (accept workers : ℕ)
    (report : Q → Report TcpReading TcpWriting A) (told : FaultViews F H A) (answer : Result Q F) : Type 0 where
  pub answered : IsKeptAnswer s workers (IsArrivingFault true (length peers + accept) workers)
      (Holds batch half_read half_written s (roles_of (length peers) (length peers + accept)) workers)
      (AreMadeOf (λ half. half.origin) (λ half. half.origin) (origins_of peers (length peers + accept))) report told answer
  pub one_socket : IfOk answer (λ q. AreOfOne (λ half. half.socket) (λ half. half.socket) (report q))

-- so of a run whose steps nobody keeps, with the tallies of its links where it stopped
pub record IsTallied {A : Type 0} (batch : ℕ) (s : Config) (peers : List SocketAddr) (accept workers : ℕ)
    (answer : Result (Account TcpReading TcpWriting A) (Halted A)) : Type 0 where
  pub served : IsServed batch s peers accept workers report_of halted_views answer
  pub tallied : IfErr answer (λ halted. IfSome halted.history (λ history. IfSome halted.links (λ tallies.
      AreTallies history.items (length peers + accept) tallies.items)))
