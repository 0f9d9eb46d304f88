-- What a run over TCP answers that takes any number of callers.
use Rattle.std.specs.Prelude.{◌≡◌, ℕ, ⊤, Bool, false, true, List, [], IfOk, IfSome, Option, None, Some, Result}
use Rattle.std.specs.List.{slice_get}
use Rattle.std.specs.declared.net.socket_addr.SocketAddr.{SocketAddr}
use Rattle.gn_rules.specs.declared.config.Config.{Config}
use Rattle.gn_shake.specs.declared.role.Role.{Role}
use Rattle.gn_shake.specs.declared.role.Role.TheVariants.{Accepting, Calling}
use Rattle.gn_report.specs.Ended.{LinkViews}
use Rattle.gn_sockets.specs.TcpHalves.{TcpReading, TcpWriting, half_read, half_written}
use Rattle.gn_sockets.specs.declared.origin.TcpOrigin.{TcpOrigin}
use Rattle.gn_waits.specs.declared.socket.Socket.{Socket}
use Rattle.gn_start.specs.Over.{views_of}
use Rattle.gn_threads.specs.Answers.{IsKeptAnswer, halted_views}
use Rattle.gn_threads.specs.OpenRuns.{IsOpenAnswer, IsOpenFault, IsRecalledAnswer, known_report}
use Rattle.gn_threads.specs.declared.halted.Halted.{Halted}
use Rattle.gn_threads.specs.declared.open_account.OpenAccount.{OpenAccount}
use Rattle.gn_service.specs.Ran.{Remembered, account_sockets}

-- what is seen of the halves of a link over TCP
abbrev pub tcp_views : LinkViews TcpReading TcpWriting (TcpOrigin × Socket)
tcp_views =
    views_of half_read half_written (λ _. record { is_foretold = false; bytes = []; may_fail = true })
    (λ half. (half.origin, half.socket)) (λ half. (half.origin, half.socket))

-- how a link begins, by the peer that is called over it, if one is
abbrev pub role_to : Option SocketAddr → Role
role_to (Some peer) = Calling
role_to None = Accepting

-- how link k begins in a run that calls these peers once: the k-th is called over link k
abbrev pub role_at : List SocketAddr → ℕ → Role
role_at peers k = role_to (slice_get peers k)

-- where it comes from
abbrev pub origin_at : List SocketAddr → ℕ → TcpOrigin
origin_at peers k = record { link = k; called = slice_get peers k }

-- one of these peers is called, or none
abbrev pub IsToOne : List SocketAddr → Option SocketAddr → Type 0
IsToOne peers called = IfSome called (λ peer. (j : ℕ) × (slice_get peers j ≡ Some peer))

-- link k may begin so and come from there, in a run that calls these peers once; or for as long as it runs: over the first links they
-- are called in their order, and each of the others is accepted or to any of them
abbrev pub IsLinkOf : Bool → List SocketAddr → ℕ → Role → TcpOrigin → Type 0
IsLinkOf false peers k role origin = (role ≡ role_at peers k) × (origin ≡ origin_at peers k)
IsLinkOf true peers k role origin =
    (origin.link ≡ k) × (role ≡ role_to origin.called) × IsToOne peers origin.called
    × ((peer : SocketAddr) → slice_get peers k ≡ Some peer → origin.called ≡ Some peer)

-- what is remembered of a run with this account
abbrev pub ran_of_any : {A : Type 0} → OpenAccount TcpReading TcpWriting A → Remembered A
ran_of_any account = record { steps = account.history.items; sockets = account_sockets account.links.items }

-- the account of a run whose first links are to these peers, in order, as far as there are links, and whose others called, or are to peers
-- that are called again, where they are; whose own servent sends Pings or not, and whose writers write at most so many packets at once: it
-- is one of links that come one after another
abbrev pub IsAnyAccount : {A : Type 0} → Bool → Bool → ℕ → Config → List SocketAddr → ℕ → OpenAccount TcpReading TcpWriting A → Type 0
IsAnyAccount again pings batch s peers workers account =
    IsOpenAnswer pings tcp_views (λ origin. origin.0) batch s workers (IsLinkOf again peers) account

-- what such a run answers, with or without its account
pub record IsServedToAny {A Q : Type 0} (again pings : Bool) (batch : ℕ) (s : Config) (peers : List SocketAddr) (workers : ℕ)
    (account_of : Q → OpenAccount TcpReading TcpWriting A) (answer : Result Q (Halted A)) : Type 0 where
  pub answered : IsKeptAnswer s workers (IsOpenFault true workers) (λ _. ⊤) (λ _. ⊤) (λ q. known_report (account_of q)) halted_views answer
  pub account : IfOk answer (λ q. IsAnyAccount again pings batch s peers workers (account_of q))

-- the account of a run that may have gone on with steps of before: its history is legal, and its links came as those of any such run
abbrev pub IsResumedAccount : {A : Type 0} → Bool → Config → List SocketAddr → ℕ → OpenAccount TcpReading TcpWriting A → Type 0
IsResumedAccount again s peers workers account =
    IsRecalledAnswer tcp_views (λ origin. origin.0) s workers (IsLinkOf again peers) account

-- what such a run answers, with or without its account; and what it answers as any run, where there were no steps of before
pub record IsServedAfter {A Q : Type 0} (recalls again pings : Bool) (batch : ℕ) (s : Config) (peers : List SocketAddr) (workers : ℕ)
    (account_of : Q → OpenAccount TcpReading TcpWriting A) (answer : Result Q (Halted A)) : Type 0 where
  pub answered : IsKeptAnswer s workers (IsOpenFault true workers) (λ _. ⊤) (λ _. ⊤) (λ q. known_report (account_of q)) halted_views answer
  pub resumed : IfOk answer (λ q. IsResumedAccount again s peers workers (account_of q))
  pub account : recalls ≡ false → IfOk answer (λ q. IsAnyAccount again pings batch s peers workers (account_of q))

-- an account by itself
abbrev pub open_account : {A : Type 0} → OpenAccount TcpReading TcpWriting A → OpenAccount TcpReading TcpWriting A
open_account account = account

-- the account that comes with what is remembered of its run
abbrev pub served_open : {A : Type 0} → OpenAccount TcpReading TcpWriting A × Remembered A → OpenAccount TcpReading TcpWriting A
served_open done = done.0
