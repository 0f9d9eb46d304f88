-- The links of a run over TCP.
use Rattle.std.specs.Prelude.{ℕ, zero, suc, ◌∷◌, ◌-◌, List, [], ◌++◌, replicate}
use Rattle.gn_shake.specs.declared.role.Role.{Role}
use Rattle.gn_shake.specs.declared.role.Role.TheVariants.{Accepting, Calling}
use Rattle.std.specs.List.{slice_get}
use Rattle.std.specs.declared.net.socket_addr.SocketAddr.{SocketAddr}
use Rattle.gn_sockets.specs.declared.origin.TcpOrigin.{TcpOrigin}

-- the roles of the links of a run: those that call come first
abbrev pub roles_of : ℕ → ℕ → List Role
roles_of calls links = replicate calls Calling ++ replicate (links - calls) Accepting

-- where so many links come from, of which the first has this number, in a run that calls these peers: the k-th peer is called
-- over link k, and the links above them are accepted
abbrev pub origins_from : List SocketAddr → ℕ → ℕ → List TcpOrigin
origins_from peers k zero = []
origins_from peers k (suc more) = record { link = k; called = slice_get peers k } ∷ origins_from peers (suc k) more

-- where the links of such a run come from
abbrev pub origins_of : List SocketAddr → ℕ → List TcpOrigin
origins_of peers links = origins_from peers 0 links
