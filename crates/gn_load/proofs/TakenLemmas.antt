-- A run to which so many call is one to which so many call, or any number.
use Rattle.std.proofs.Common.{ℕ, Bool, false, List, Some, Ok, Err}
use Rattle.std.specs.declared.net.socket_addr.SocketAddr.{SocketAddr}
use Rattle.gn_io.specs.Streams.{SinkState}
use Rattle.gn_report.specs.declared.account.Account.{Account}
use Rattle.gn_rules.specs.declared.config.Config.{Config}
use Rattle.gn_service.specs.Ran.{Remembered}
use Rattle.gn_sockets.specs.TcpHalves.{TcpReading, TcpWriting}
use Rattle.gn_load.specs.Any.{IsJournalledTaken}
use Rattle.gn_load.specs.Journalled.{IsJournalled}
use Rattle.gn_load.specs.declared.serve_halted.ServeHalted.{ServeHalted}
use Rattle.gn_load.specs.declared.taken.Taken.TheVariants.{All}

module _ {A : Type 0} (again pings : Bool) (batch : ℕ) (s : Config) (peers : List SocketAddr) (workers : ℕ) (old new : SinkState) where
  pub all_taken : (accept : ℕ) (account : Account TcpReading TcpWriting A) (ran : Remembered A) → IsJournalled batch s peers accept workers old new (Ok (account, ran))
      → IsJournalledTaken false again pings batch s peers (Some accept) workers old new (Ok (All account, ran))
  all_taken accept account ran h =
      record {
        crew = h.crew;
        bad_workers = tt;
        fault = tt;
        account = (h.ran, h.holds, h.made, h.one_socket);
        written = h.written;
        unfailed = h.unfailed;
        part = tt;
        full = tt;
        tallied = tt;
        remembered = tt;
      }

  pub all_halted : (accept : ℕ) (halted : ServeHalted A) → IsJournalled batch s peers accept workers old new (Err halted)
      → IsJournalledTaken false again pings batch s peers (Some accept) workers old new (Err halted)
  all_halted accept halted h =
      record {
        crew = tt;
        bad_workers = h.bad_workers;
        fault = h.fault;
        account = tt;
        written = tt;
        unfailed = tt;
        part = h.part;
        full = h.full;
        tallied = h.tallied;
        remembered = h.remembered;
      }
