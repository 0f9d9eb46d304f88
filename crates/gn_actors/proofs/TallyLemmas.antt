-- What receipts count, and where the last of them stands, with one more.
use Rattle.std.proofs.Common.{◌≡◌, ◌≤◌, ◌<◌, ◌+◌, ◌^◌, ℕ, suc, Bool, true, not, nat_lt, cond, Option, Some, None, List, [], ◌∷◌, ◌++◌, length, get_or, refl, sym, ap, ◌∙◌, subst, arith}
use Rattle.std.specs.List.{count_by}
use Rattle.std.specs.Option.{option_or}
use Rattle.std.proofs.lemmas.Bool.{and_parts, ltb-false, not-true}
use Rattle.std.proofs.lemmas.List.Sums.{sum_by_push, count_by-le-length}
use Rattle.gn_rules.specs.declared.receipt.Receipt.{Receipt}
use Rattle.gn_rules.specs.declared.receipt.Step.{Step}
use Rattle.gn_rules.specs.declared.event.Event.TheVariants.{Route}
use Rattle.gn_rules.specs.declared.reply.Reply.{Reply}
use Rattle.gn_rules.specs.declared.reply.Reply.TheVariants as kind
use Rattle.gn_rules.specs.Fits.{is_at_threshold, replies}
use Rattle.gn_rules.specs.History.{connected_of, step_of}
use Rattle.gn_laws.specs.Owners.{AreFitting, indices_ascend, known_conn}
use Rattle.gn_actors.specs.ActorState.{receipt}
use Rattle.gn_actors.specs.Tallies.{HasRoom, is_offer, is_taking, last_place, tally_of, tally_with}
use Rattle.gn_actors.specs.declared.tally.Tally.{Tally}

-- the last receipt
pub last_push : {A : Type 0} (rs : List (Receipt A)) (r : Receipt A) → last_place (rs ++ r ∷ []) ≡ r.index + 1
last_push [] r = refl
last_push (s ∷ []) r = refl
last_push (s ∷ t ∷ rs) r = last_push (t ∷ rs) r

or_later : (a b c : Option ℕ) → option_or (option_or a b) c ≡ option_or a (option_or b c)
or_later None b c = refl
or_later (Some n) b c = refl

or_none : (a : Option ℕ) → option_or a None ≡ a
or_none None = refl
or_none (Some n) = refl

-- the connection that receipts tell of, with one more
pub known_push : {A : Type 0} (rs : List (Receipt A)) (r : Receipt A) → known_conn (rs ++ r ∷ []) ≡ option_or (known_conn rs) (connected_of r.reply)
known_push [] r = or_none (connected_of r.reply)
known_push (s ∷ rs) r = ap (λ o. option_or (connected_of s.reply) o) (known_push rs r) ∙ sym (or_later (connected_of s.reply) (known_conn rs) (connected_of r.reply))

count_push : {X : Type 0} (p : X → Bool) (xs : List X) (x : X) → count_by p (xs ++ x ∷ []) ≡ count_by p xs + cond (p x) 1 0
count_push p xs x = sum_by_push (λ y. cond (p y) 1 0) xs x

abbrev told : Option ℕ → ℕ → ℕ → ℕ → Tally
told connection offered busy taken = record { connection = connection; offered = offered; busy = busy; taken = taken }

told_is : (o o' : Option ℕ) (a a' b b' c c' : ℕ) → o ≡ o' → a ≡ a' → b ≡ b' → c ≡ c' → told o a b c ≡ told o' a' b' c'
told_is o o' a a' b b' c c' e f g h = ap (λ w. told w a b c) e ∙ ap (λ w. told o' w b c) f ∙ ap (λ w. told o' a' w c) g ∙ ap (λ w. told o' a' b' w) h

pub tally_push : {A : Type 0} (rs : List (Receipt A)) (r : Receipt A) → tally_of (rs ++ r ∷ []) ≡ tally_with (tally_of rs) r
tally_push {A} rs r =
    let before = tally_of rs in
    let all = tally_of (rs ++ r ∷ []) in
    let more = tally_with before r in
    told_is all.connection more.connection all.offered more.offered all.busy more.busy all.taken more.taken (known_push rs r)
    (count_push (λ (r : Receipt A). is_offer r.event) rs r) (count_push (λ (r : Receipt A). is_at_threshold r.reply) rs r) (count_push (λ (r : Receipt A). is_taking r.reply) rs r)

no_more : (n : ℕ) → n + 0 ≡ n
no_more n = omega arith

told_same : (t : Tally) → told (option_or t.connection None) (t.offered + 0) (t.busy + 0) (t.taken + 0) ≡ t
told_same t = told_is (option_or t.connection None) t.connection (t.offered + 0) t.offered (t.busy + 0) t.busy (t.taken + 0) t.taken (or_none t.connection) (no_more t.offered) (no_more t.busy) (no_more t.taken)

-- a Route's receipt counts nothing
pub tally_route : {A : Type 0} (t : Tally) (index ticket : ℕ) (reply : Reply A) → replies {A = A} (Route ticket) reply ≡ true → tally_with t (receipt index (Route ticket) reply) ≡ t
tally_route t index ticket (kind.Routed sends local) fits = told_same t
tally_route t index ticket (kind.Dropped reason) fits = told_same t
tally_route t index ticket reply fits = absurd (cc)

-- receipts whose indices ascend from i, all below n, are at most so many
few : {A : Type 0} (i n : ℕ) (rs : List (Receipt A)) → i ≤ n → indices_ascend i rs ≡ true → ((j : ℕ) (d : Receipt A) → j < length rs → (get_or rs j d).index < n) → i + length rs ≤ n
few i n [] low ascends below = omega (arith, low)
few {A} i n (r ∷ rs) low ascends below =
    let parts = and_parts (not (nat_lt r.index i)) (indices_ascend (r.index + 1) rs) ascends in
    let here : r.index < n = below 0 r (omega arith) in
    let rest = few (r.index + 1) n rs (omega (arith, here)) parts.1 (λ j d low'. below (suc j) d (omega (arith, low'))) in
    let first : i ≤ r.index = ltb-false r.index i (not-true (nat_lt r.index i) parts.0) in
    omega (arith, rest, first)

-- an actor has at most as many receipts as steps were made
pub few_receipts : {A : Type 0} (steps : List (Step A)) (a : ℕ) (rs : List (Receipt A)) → AreFitting steps a rs → length rs ≤ length steps
few_receipts steps a rs fits = let few = few 0 (length steps) rs (omega arith) fits.ascend (λ j d below. (fits.stands j d (step_of a d) below).0) in omega (arith, few)

-- the counts of receipts that are fewer than that may be one more
pub has_room : {A : Type 0} (rs : List (Receipt A)) (t : Tally) → t ≡ tally_of rs → length rs + 1 < 2 ^ 64 → HasRoom t
has_room {A} rs t is long =
    let offers = count_by-le-length (λ (r : Receipt A). is_offer r.event) rs in
    let refusals = count_by-le-length (λ (r : Receipt A). is_at_threshold r.reply) rs in
    let takings = count_by-le-length (λ (r : Receipt A). is_taking r.reply) rs in
    subst HasRoom (sym is) (record { offered = omega (arith, offers, long); busy = omega (arith, refusals, long); taken = omega (arith, takings, long) })
