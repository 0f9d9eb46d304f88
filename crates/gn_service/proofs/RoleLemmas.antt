-- The roles of a run's links, in an array that has room for more; and where the links come from that are still to come.
use Rattle.std.proofs.Common.{◌≡◌, ◌≤◌, ◌<◌, ◌+◌, ◌-◌, ◌++◌, ◌∷◌, ℕ, zero, suc, List, [], length, map, take, set, replicate, refl, ap, sym, subst, ◌∙◌, arith, Option, Some, None}
use Rattle.std.specs.Borrow.{Bor}
use Rattle.std.specs.List.{ItemBy, slice_get}
use Rattle.std.proofs.lemmas.Option.{slice_get_past, slice_get_read}
use Rattle.std.specs.declared.net.socket_addr.SocketAddr.{SocketAddr}
use Rattle.gn_shake.specs.declared.role.Role.{Role}
use Rattle.gn_waits.specs.declared.socket.Socket.{Socket}
use Rattle.gn_report.specs.declared.report.Report.{Report}
use Rattle.gn_sockets.specs.TcpHalves.{TcpReading, TcpWriting}
use Rattle.gn_tcp.specs.Tcp.{TcpLinked}
use Rattle.gn_threads.specs.Headline.{AreOfOne}
use Rattle.gn_sockets.specs.declared.origin.TcpOrigin.{TcpOrigin}
use Rattle.std.proofs.Math.Seq.{take-append-add}
use Rattle.std.proofs.lemmas.Simd.{map-map}
use Rattle.std.proofs.lemmas.List.{append_assoc, length-replicate, replicate_more, set_at, take-replicate}
use Rattle.gn_service.specs.Links.{origins_from}

-- one place more of a row gets another value
pub one_more : {X : Type 0} (c a : X) (k most : ℕ) → k < most → set (replicate k c ++ replicate (most - k) a) k c ≡ replicate (k + 1) c ++ replicate (most - (k + 1)) a
one_more c a k most below =
    let rest : most - k ≡ suc (most - (k + 1)) = omega (arith, below) in
    ap (λ n. set (replicate k c ++ replicate n a) k c) rest ∙ set_at (replicate k c) a (replicate (most - (k + 1)) a) c k (length-replicate k c)
    ∙ sym (append_assoc (replicate k c) (c ∷ []) (replicate (most - (k + 1)) a)) ∙ ap (λ xs. xs ++ replicate (most - (k + 1)) a) (replicate_more k c)

-- the first places of a row in which the first ones got another value
pub first_ones : {X : Type 0} (c a : X) (calls links most k : ℕ) (xs : List X) → xs ≡ replicate k c ++ replicate (most - k) a → k ≡ calls → calls ≤ links → links ≤ most
    → take links xs ≡ replicate calls c ++ replicate (links - calls) a
first_ones c a calls links most k xs is same few fits =
    let long : links ≡ length (replicate calls c) + (links - calls) = omega (arith, length-replicate calls c, few) in
    ap (λ ys. take links ys) is ∙ ap (λ n. take links (replicate n c ++ replicate (most - n) a)) same ∙ ap (λ n. take n (replicate calls c ++ replicate (most - calls) a)) long
    ∙ take-append-add (replicate calls c) (replicate (most - calls) a) (links - calls) ∙ ap (λ ys. replicate calls c ++ ys) (take-replicate (links - calls) (most - calls) a (omega (arith, fits)))

-- of some links that are to come one comes, from where it comes, and the others are left
pub one_left : (peers : List SocketAddr) (k next n left : ℕ) (origin : TcpOrigin) → origin ≡ record { link = k; called = slice_get peers k } → next ≡ suc k → n ≡ suc left → origins_from peers k n ≡ origin ∷ origins_from peers next left
one_left peers k next n left origin is follows some =
    ap (λ m. origins_from peers k m) some ∙ ap (λ o. o ∷ origins_from peers (suc k) left) (sym is) ∙ ap (λ m. origin ∷ origins_from peers m left) (sym follows)

-- so many links come, of so many
all_come : (peers : List SocketAddr) (k n : ℕ) → take n (origins_from peers k n) ≡ origins_from peers k n
all_come peers k zero = refl
all_come peers k (suc n) = ap (λ xs. record { link = k; called = slice_get peers k } ∷ xs) (all_come peers (suc k) n)

-- all links of a run come that are to come
pub all_of : (peers : List SocketAddr) (many left n : ℕ) → many ≡ n → left ≡ n → take many (origins_from peers 0 left) ≡ origins_from peers 0 n
all_of peers many left n all left_all =
    ap (λ m. take m (origins_from peers 0 left)) (all ∙ sym left_all) ∙ all_come peers 0 left ∙ ap (λ m. origins_from peers 0 m) left_all

-- a peer that was looked up is the one there
pub peer_is : (peers : List SocketAddr) (k : ℕ) (found : Option (Bor SocketAddr)) (peer : Bor SocketAddr) → ItemBy (λ (x : Bor SocketAddr). x.now) peers k k found → found ≡ Some peer
    → slice_get peers k ≡ Some peer.now
peer_is peers k found peer item is =
    let there = subst (λ (o : Option (Bor SocketAddr)). ItemBy (λ (x : Bor SocketAddr). x.now) peers k k o) is item in
    slice_get_read peers (length peers) k peer.now refl there.3.0 there.1

-- where none was found, none is there
pub no_peer : (peers : List SocketAddr) (k : ℕ) (found : Option (Bor SocketAddr)) → ItemBy (λ (x : Bor SocketAddr). x.now) peers k k found → found ≡ None → slice_get peers k ≡ None
no_peer peers k found item is =
    let there = subst (λ (o : Option (Bor SocketAddr)). ItemBy (λ (x : Bor SocketAddr). x.now) peers k k o) is item in
    slice_get_past peers k there.3

-- where a link comes from that has no number yet, of a peer that was called or not
abbrev pub unnumbered : Option SocketAddr → TcpOrigin
unnumbered called = record { link = 0; called = called }

-- such a link by its own role, to the peer of its place
pub met_as : (found : TcpLinked) (role own : Role) (called peer : Option SocketAddr) → (found.role ≡ own) × (found.origin ≡ unnumbered peer) → role ≡ own → called ≡ peer
    → (found.role ≡ role) × (found.origin ≡ unnumbered called)
met_as found role own called peer is same there = (is.0 ∙ sym same, is.1 ∙ ap unnumbered (sym there))

-- where both halves of each link say the same of it, they say the same of its socket
pub socket_of_one : {A : Type 0} (report : Report TcpReading TcpWriting A) → AreOfOne {O = TcpOrigin × Socket} (λ half. (half.origin, half.socket)) (λ half. (half.origin, half.socket)) report
    → AreOfOne (λ half. half.socket) (λ half. half.socket) report
socket_of_one report one =
    let socket : TcpOrigin × Socket → Socket = λ both. both.1 in
    sym (map-map socket (λ link. (link.writer.origin, link.writer.socket)) report.links.items) ∙ ap (map socket) one ∙ map-map socket (λ link. (link.reader.origin, link.reader.socket)) report.links.items
