-- The sends of a legal reply go to live connections, to each at most one, and those that say so find room.
use Rattle.std.proofs.Common.{◌≡◌, ℕ, ◌+◌, ◌<◌, ◌==◌, ◌&&◌, not, Bool, true, false, cond, if◌then◌else◌, List, [], ◌∷◌, ◌++◌, length, filter, map, nat_eq, nat_lt, Some, None, refl, sym, ap, ◌∙◌, subst, arith, append_assoc}
use Rattle.std.specs.List.{All, list_any}
use Rattle.std.specs.Map.{lookup}
use Rattle.std.specs.Option.{option_map_or}
use Rattle.std.proofs.lemmas.Grind.{common_steps}
use Rattle.std.proofs.lemmas.List.{append-nil, map-id}
use Rattle.std.proofs.lemmas.List.Elements.{All-nil, All-cons, All-head, All-tail, All-map, All-filter, All-weaker}
use Rattle.std.proofs.lemmas.Map.Views.{exact_unsigned_eq}
use Rattle.gn_wire.specs.Packet.{is_expired, forward_of, Packet}
use Rattle.gn_rules.specs.declared.config.Config.{Config}
use Rattle.gn_rules.specs.declared.receipt.Step.{Step}
use Rattle.gn_rules.specs.declared.sends.Sending.{Sending}
use Rattle.gn_rules.specs.Flight.{Admission}
use Rattle.gn_rules.specs.History.{connections, live, live_connections}
use Rattle.gn_rules.specs.Output.{out, queued_to}
use Rattle.gn_rules.specs.Sending.{fanout, flood_sends, is_ping, own_pong, send}
use Rattle.gn_rules.proofs.SendLemmas.{fanout_to, queued_none}
use Rattle.gn_rules.proofs.StepLemmas.{below_is_other, listed, map_agree, map_map}
use Rattle.gn_tables.specs.Outputs.{Outputs, has_room, pushed, row_with}
use Rattle.gn_table_router.specs.Sent.{CanSend, given, sent}
use Rattle.gn_table_router.specs.Tabled.{AreApart, AreNumbered, outputs}
use Rattle.gn_table_router.proofs.FlightLemmas.{below_all}
use Rattle.gn_table_router.proofs.NumberLemmas.{apart_filter}
use Rattle.gn_table_router.proofs.ReadLemmas.{output_is}

all_of : {X : Type 0} (P : X → Type 0) (xs : List X) → ((x : X) → P x) → All P xs
all_of P [] h = All-nil P
all_of P (x ∷ xs) h = All-cons P x xs (h x) (all_of P xs h)

all_passing : {X : Type 0} (p : X → Bool) (xs : List X) → All (λ x. p x ≡ true) (filter p xs)
all_passing p [] = All-nil (λ x. p x ≡ true)
all_passing {X} p (x ∷ xs) =
    let rest : All (λ x. p x ≡ true) (filter p xs) = all_passing p xs in
    elim (p x) as (λ b. p x ≡ b → All (λ x. p x ≡ true) (cond b (x ∷ filter p xs) (filter p xs))) [
      | true ↦ λ e. All-cons (λ (x : X). p x ≡ true) x (filter p xs) e rest
      | false ↦ λ e. rest
    ] refl

flip : (a b : ℕ) → (a == b) ≡ (b == a)
flip a b = grind (arith, common_steps)

-- a row of another doesn't matter to a search
lookup_other : (c d : ℕ) (f : List Packet → List Packet) (rs : List (ℕ × List Packet)) → (c == d) ≡ false
    → lookup (nat_eq c) (map (row_with d f) rs) ≡ lookup (nat_eq c) rs
lookup_other c d f [] h = refl
lookup_other c d f (r ∷ rs) h =
    elim (c == r.0) as (λ b. (c == r.0) ≡ b → cond b (Some (if r.0 == d then f r.1 else r.1)) (lookup (nat_eq c) (map (row_with d f) rs)) ≡ cond b (Some r.1) (lookup (nat_eq c) rs)) [
      | true ↦ λ e.
          let same : c ≡ r.0 = exact_unsigned_eq c r.0 e in
          let other : (r.0 == d) ≡ false = ap (λ n. n == d) (sym same) ∙ h in
          rw other refl
      | false ↦ λ e. lookup_other c d f rs h
    ] refl

room_other : {A : Type 0} (c : ℕ) (x : Sending A) (l : Outputs) → (c == x.to) ≡ false → has_room c (given x l) ≡ has_room c l
room_other c x l h =
    elim x.queued as (λ b. has_room c (if b then pushed x.to x.packet l else l) ≡ has_room c l) [
      | true ↦ ap (λ o. option_map_or (λ packets. nat_lt (length packets) l.room) o false) (lookup_other c x.to (λ packets. packets ++ x.packet ∷ []) l.rows h)
      | false ↦ refl
    ]

-- sends of which each names its room, one for each connection
module _ {A : Type 0} where
  verdict : Outputs → Sending A → Type 0
  verdict l x = x.queued ≡ has_room x.to l

  sends_still : (x : Sending A) (l : Outputs) (ys : List (Sending A)) → All (λ y. y.queued ≡ has_room y.to l) ys → All (λ m. (m == x.to) ≡ false) (map (λ y. y.to) ys)
      → All (λ y. y.queued ≡ has_room y.to (given x l)) ys
  sends_still x l [] h other = All-nil (λ (y : Sending A). y.queued ≡ has_room y.to (given x l))
  sends_still x l (y ∷ ys) h other =
      All-cons (λ (y : Sending A). y.queued ≡ has_room y.to (given x l)) y ys
      (All-head (λ (y : Sending A). y.queued ≡ has_room y.to l) y ys h ∙ sym (room_other y.to x l (All-head (λ m. (m == x.to) ≡ false) y.to (map (λ y. y.to) ys) other)))
      (sends_still x l ys (All-tail (λ (y : Sending A). y.queued ≡ has_room y.to l) y ys h) (All-tail (λ m. (m == x.to) ≡ false) y.to (map (λ y. y.to) ys) other))

  pub can_send : (xs : List (Sending A)) (l : Outputs) → All (λ x. x.queued ≡ has_room x.to l) xs → AreApart (map (λ x. x.to) xs) → CanSend xs l
  can_send [] l h apart = tt
  can_send (x ∷ xs) l h apart = (
    (λ queued. sym (All-head (λ (x : Sending A). x.queued ≡ has_room x.to l) x xs h) ∙ queued),
    can_send xs (given x l) (sends_still x l xs (All-tail (λ (x : Sending A). x.queued ≡ has_room x.to l) x xs h) apart.0) apart.1,
  )

  -- one send, and then the others
  row_sent : (x : Sending A) (xs : List (Sending A)) (b : Bool) (r : ℕ × List Packet) → x.queued ≡ b
      → r.1 ++ queued_to r.0 (x ∷ xs) ≡ (cond b (if r.0 == x.to then r.1 ++ x.packet ∷ [] else r.1) r.1) ++ queued_to r.0 xs
  row_sent x xs true r e =
      elim (r.0 == x.to) as (λ b. (r.0 == x.to) ≡ b → r.1 ++ queued_to r.0 (x ∷ xs) ≡ (if b then r.1 ++ x.packet ∷ [] else r.1) ++ queued_to r.0 xs) [
        | true ↦ λ f. let there : (x.to == r.0) ≡ true = flip x.to r.0 ∙ f in rw (there, e) (sym (append_assoc r.1 (x.packet ∷ []) (queued_to r.0 xs)))
        | false ↦ λ f. let there : (x.to == r.0) ≡ false = flip x.to r.0 ∙ f in rw there refl
      ] refl
  row_sent x xs false r e =
      elim (x.to == r.0) as (λ b. (x.to == r.0) ≡ b → r.1 ++ queued_to r.0 (x ∷ xs) ≡ r.1 ++ queued_to r.0 xs) [
        | true ↦ λ f. rw (f, e) refl
        | false ↦ λ f. rw f refl
      ] refl

  pub sent_more : (x : Sending A) (xs : List (Sending A)) (l : Outputs) → sent (x ∷ xs) l ≡ sent xs (given x l)
  sent_more x xs l =
      elim x.queued as (λ b. x.queued ≡ b → sent (x ∷ xs) l ≡ sent xs (if b then pushed x.to x.packet l else l)) [
        | true ↦ λ e. ap (λ (rs : List (ℕ × List Packet)). record l { rows = rs })
            (map_agree (λ r. (r.0, r.1 ++ queued_to r.0 (x ∷ xs))) (λ (r : ℕ × List Packet). (r.0, (if r.0 == x.to then r.1 ++ x.packet ∷ [] else r.1) ++ queued_to r.0 xs)) (λ r. ap (λ ps. (r.0, ps)) (row_sent x xs true r e)) l.rows
            ∙ sym (map_map (row_with x.to (λ packets. packets ++ x.packet ∷ [])) (λ r. (r.0, r.1 ++ queued_to r.0 xs)) l.rows))
        | false ↦ λ e. ap (λ (rs : List (ℕ × List Packet)). record l { rows = rs })
            (map_agree (λ r. (r.0, r.1 ++ queued_to r.0 (x ∷ xs))) (λ r. (r.0, r.1 ++ queued_to r.0 xs)) (λ r. ap (λ ps. (r.0, ps)) (row_sent x xs false r e)) l.rows)
      ] refl

pub sent_none : (A : Type 0) (l : Outputs) → sent {A = A} [] l ≡ l
sent_none A l = ap (λ (rs : List (ℕ × List Packet)). record l { rows = rs })
    (map_agree (λ r. (r.0, r.1 ++ [])) (λ r. r) (λ r. ap (λ ps. (r.0, ps)) (append-nil r.1)) l.rows ∙ map-id l.rows)

-- sends that are still to be made, so many, of which all together began at the first output queues
pub record IsSending {A : Type 0} (sends : List (Sending A)) (count : ℕ) (now first : Outputs) (all : List (Sending A)) : Type 0 where
  pub can : CanSend sends now
  pub rest : sent sends now ≡ sent all first
  pub counted : count ≡ length sends

pub sending_more : {A : Type 0} (xs : List (Sending A)) (x : Sending A) (rest : List (Sending A)) (m n : ℕ) (now next first : Outputs) (all : List (Sending A))
    → xs ≡ x ∷ rest → n + 1 ≡ m → next ≡ given x now → IsSending xs m now first all → IsSending rest n next first all
sending_more {A} xs x rest m n now next first all steps count made was =
    let can : CanSend (x ∷ rest) now = subst (λ (ys : List (Sending A)). CanSend ys now) steps was.can in
    let longer : length xs ≡ length (x ∷ rest) = ap length steps in
    record {
      can = rw made can.1;
      rest = ap (sent rest) made ∙ sym (sent_more x rest now) ∙ ap (λ (ys : List (Sending A)). sent ys now) (sym steps) ∙ was.rest;
      counted = omega (arith, count, longer, was.counted);
    }

pub sending_first : {A : Type 0} (xs : List (Sending A)) (x : Sending A) (rest : List (Sending A)) (m : ℕ) (now first : Outputs) (all : List (Sending A))
    → xs ≡ x ∷ rest → IsSending xs m now first all → x.queued ≡ true → has_room x.to now ≡ true
sending_first {A} xs x rest m now first all steps was queued =
    let can : CanSend (x ∷ rest) now = subst (λ (ys : List (Sending A)). CanSend ys now) steps was.can in
    can.0 queued

-- all are made
pub sending_done : {A : Type 0} (xs : List (Sending A)) (m : ℕ) (now first : Outputs) (all : List (Sending A))
    → m ≡ 0 → IsSending xs m now first all → now ≡ sent all first
sending_done {A} [] m now first all none was = sym (sent_none A now) ∙ was.rest
sending_done (x ∷ xs) m now first all none was = let long : m ≡ length (x ∷ xs) = was.counted in absurd (omega arith)

-- what the sends of a legal reply are
pub record AreSendable {A : Type 0} (s : Config) (past : List (Step A)) (sends : List (Sending A)) : Type 0 where
  pub room : All (λ x. x.queued ≡ nat_lt (length (out past x.to)) s.numbers.out) sends
  pub alive : All (λ x. live past x.to ≡ true) sends
  pub apart : AreApart (map (λ x. x.to) sends)

module _ {A : Type 0} (s : Config) (past : List (Step A)) where
  room_is : (x : Sending A) → x.queued ≡ nat_lt (length (out past x.to)) s.numbers.out → live past x.to ≡ true → x.queued ≡ has_room x.to (outputs s past)
  room_is x h alive =
      h ∙ sym (ap (λ o. option_map_or (λ packets. nat_lt (length packets) s.numbers.out) o false) (output_is s past x.to ∙ ap (λ b. cond b (Some (out past x.to)) None) alive))

  all_room : (xs : List (Sending A)) → All (λ x. x.queued ≡ nat_lt (length (out past x.to)) s.numbers.out) xs → All (λ x. live past x.to ≡ true) xs
      → All (λ x. x.queued ≡ has_room x.to (outputs s past)) xs
  all_room [] h alive = All-nil (λ (x : Sending A). x.queued ≡ has_room x.to (outputs s past))
  all_room (x ∷ xs) h alive =
      All-cons (λ (x : Sending A). x.queued ≡ has_room x.to (outputs s past)) x xs
      (room_is x (All-head (λ (x : Sending A). x.queued ≡ nat_lt (length (out past x.to)) s.numbers.out) x xs h) (All-head (λ (x : Sending A). live past x.to ≡ true) x xs alive))
      (all_room xs (All-tail (λ (x : Sending A). x.queued ≡ nat_lt (length (out past x.to)) s.numbers.out) x xs h) (All-tail (λ (x : Sending A). live past x.to ≡ true) x xs alive))

  -- they find room among the output queues of the neighbours
  pub sends_fit : (sends : List (Sending A)) → AreSendable s past sends → CanSend sends (outputs s past)
  sends_fit sends are = can_send sends (outputs s past) (all_room sends are.room are.alive) are.apart

  none_new : (k c : ℕ) (sends : List (Sending A)) → All (λ d. d < k + 1) (connections past) → k < c → All (λ x. live past x.to ≡ true) sends
      → list_any (λ d. d == c) (map (λ x. x.to) sends) ≡ false
  none_new k c [] below h alive = refl
  none_new k c (x ∷ xs) below h alive =
      let old : x.to < k + 1 = below_all x.to (k + 1) (connections past) below (listed past x.to (All-head (λ (x : Sending A). live past x.to ≡ true) x xs alive)) in
      rw (below_is_other x.to c (omega arith)) (none_new k c xs below h (All-tail (λ (x : Sending A). live past x.to ≡ true) x xs alive))

  -- nothing is queued to a number that none has yet
  pub sends_quiet : (k c : ℕ) (sends : List (Sending A)) → AreNumbered s past k → k < c → AreSendable s past sends → queued_to c sends ≡ []
  sends_quiet k c sends numbered h are = queued_none c sends (none_new k c sends numbered.below h are.alive)

  pub no_sends : AreSendable s past []
  no_sends = record {
    room = All-nil (λ (x : Sending A). x.queued ≡ nat_lt (length (out past x.to)) s.numbers.out);
    alive = All-nil (λ (x : Sending A). live past x.to ≡ true);
    apart = tt;
  }

  sends_cons : (p : Packet) (c : ℕ) (xs : List (Sending A)) → live past c ≡ true → All (λ m. (m == c) ≡ false) (map (λ x. x.to) xs) → AreSendable s past xs
      → AreSendable s past (send s past p c ∷ xs)
  sends_cons p c xs alive other are = record {
    room = All-cons (λ (x : Sending A). x.queued ≡ nat_lt (length (out past x.to)) s.numbers.out) (send s past p c) xs refl are.room;
    alive = All-cons (λ (x : Sending A). live past x.to ≡ true) (send s past p c) xs alive are.alive;
    apart = (other, are.apart);
  }

  pub one_send : (p : Packet) (c : ℕ) → live past c ≡ true → AreSendable s past (send s past p c ∷ [])
  one_send p c alive = sends_cons p c [] alive (All-nil (λ m. (m == c) ≡ false)) no_sends

  module _ (apart : AreApart (connections past)) where
    pub fanout_sends : (c : ℕ) (p : Packet) → AreSendable s past (fanout s past c p)
    fanout_sends c p =
        let ns : List ℕ = filter (λ d. not (d == c)) (live_connections past) in
        record {
          room = All-map (λ (x : Sending A). x.queued ≡ nat_lt (length (out past x.to)) s.numbers.out) (send s past p) ns (all_of (λ n. (send s past p n).queued ≡ nat_lt (length (out past n)) s.numbers.out) ns (λ n. refl));
          alive = All-map (λ (x : Sending A). live past x.to ≡ true) (send s past p) ns
              (All-filter (λ d. not (d == c)) (λ n. live past n ≡ true) (live_connections past) (all_passing (live past) (connections past)));
          apart = rw (fanout_to s past c p) (apart_filter (λ d. not (d == c)) (live_connections past) (apart_filter (live past) (connections past) apart));
        }

    forwards_apart : (expired : Bool) (c : ℕ) (p : Packet) → All (λ m. (m == c) ≡ false) (map (λ (x : Sending A). x.to) (if expired then [] else fanout s past c p))
    forwards_apart true c p = All-nil (λ m. (m == c) ≡ false)
    forwards_apart false c p =
        rw (fanout_to s past c p)
        (All-weaker (λ m. not (m == c) ≡ true) (λ m. (m == c) ≡ false) (λ m h. unnot (m == c) h) _ (all_passing (λ d. not (d == c)) (live_connections past)))
      where
        unnot : (b : Bool) → not b ≡ true → b ≡ false
        unnot true h = absurd (cc)
        unnot false h = refl

    forwards : (expired : Bool) (c : ℕ) (p : Packet) → AreSendable s past (if expired then [] else fanout s past c p)
    forwards true c p = no_sends
    forwards false c p = fanout_sends c p

    pong_first : (ping alive : Bool) (pong : Packet) (c : ℕ) (xs : List (Sending A)) → live past c ≡ alive → All (λ m. (m == c) ≡ false) (map (λ x. x.to) xs) → AreSendable s past xs
        → AreSendable s past ((if ping && alive then send s past pong c ∷ [] else []) ++ xs)
    pong_first true true pong c xs e others are = sends_cons pong c xs e others are
    pong_first true false pong c xs e others are = are
    pong_first false alive pong c xs e others are = are

    pub flood : (a : Admission) → AreSendable s past (flood_sends s past a)
    flood a =
        let expired : Bool = is_expired s.numbers.life a.packet in
        let forward : Packet = forward_of s.numbers.life a.packet in
        pong_first (is_ping a.packet.kind) (live past a.origin) (own_pong s.own a.packet) a.origin _ refl (forwards_apart expired a.origin forward) (forwards expired a.origin forward)
