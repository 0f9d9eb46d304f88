-- What a link's actors were answered is all that the history says of the link's connection.
use Rattle.std.proofs.Common.{◌≡◌, ◌≤◌, ◌<◌, ◌+◌, ◌-◌, ◌==◌, ◌↔◌, ℕ, zero, suc, Bool, true, false, ◌&&◌, ◌||◌, nat_lt, cond, List, [], ◌∷◌, ◌++◌, filter, length, get_or, reverse, is_some, Option, Some, None, Ok, inl, inr, refl, sym, ap, ◌∙◌, arith}
use Rattle.std.specs.List.{All, AllByRecursion, cons_option, count_by, filter_map, list_all, list_any}
use Rattle.std.specs.Option.{option_or, option_to_list}
use Rattle.std.proofs.lemmas.Bool.{cases_lt, cases_eq, eqb-false, false_from_ne_true}
use Rattle.std.proofs.lemmas.Grind.{common_steps, reverse_onto}
use Rattle.std.proofs.lemmas.List.{reverse-reverse}
use Rattle.std.proofs.lemmas.List.Elements.{All-from_recursion, All-get_or, filter_map-append, recursion_from_All}
use Rattle.std.proofs.lemmas.List.Sorted.{All-permutation, list_any-IsPermutation, IsPermutation-reverse}
use Rattle.std.proofs.lemmas.List.Sums.{count_by-le-length}
use Rattle.std.proofs.lemmas.Map.Views.{exact_unsigned_eq}
use Rattle.gn_wire.specs.Packet.{Packet}
use Rattle.gn_rules.specs.declared.config.Config.{Config}
use Rattle.gn_rules.specs.declared.event.Event.{Event}
use Rattle.gn_rules.specs.declared.event.Event.TheVariants.{Close, Admit, Route, Take}
use Rattle.gn_rules.specs.declared.receipt.Receipt.{Receipt}
use Rattle.gn_rules.specs.declared.receipt.Step.{Step}
use Rattle.gn_rules.specs.declared.reply.Reply.{Reply}
use Rattle.gn_rules.specs.Answer.{answer, IsLegal}
use Rattle.gn_rules.specs.Flight.{Admission, admission_of}
use Rattle.gn_rules.specs.History.{closed_of, connected_of, is_at, is_close, is_take, taken_of, ticket_of, mine, mine_from}
use Rattle.gn_rules.specs.Output.{taken}
use Rattle.gn_laws.specs.Owners.{known_conn, receipts_below, packets_of, is_readers, is_writers, AreCompared, ConnectedToOne, LinksAgree, ReceiptsAddUp}
use Rattle.gn_rules.proofs.AnswerLemmas.{answered}
use Rattle.gn_laws.proofs.ConnectionLemmas.{connections_count}
use Rattle.gn_laws.proofs.CountLemmas.{tally, count-cons, count_some, count-reverse, same_in_both}
use Rattle.gn_laws.proofs.PacketLemmas.{drained_took_all}

-- an actor has as many receipts as steps
pub mine_length : {A : Type 0} (a i : ℕ) (steps : List (Step A)) → length (mine_from a i steps) ≡ count_by (λ step. step.actor == a) steps
mine_length a i [] = refl
mine_length {A} a i (step ∷ steps) =
    let more = count-cons (λ (x : Step A). x.actor == a) step steps in
    let rest = mine_length a (i + 1) steps in
    elim (step.actor == a) as (λ b. (step.actor == a) ≡ b → length (cond b (record { index = i; event = step.event; reply = step.reply } ∷ mine_from a (i + 1) steps) (mine_from a (i + 1) steps)) ≡ count_by (λ (x : Step A). x.actor == a) (step ∷ steps)) [
      | true ↦ λ e. omega (arith, more, rest, ap tally e)
      | false ↦ λ e. omega (arith, more, rest, ap tally e)
    ] refl

below_one_more : {A : Type 0} (n : ℕ) (steps : List (Step A)) → count_by (λ step. nat_lt step.actor (suc n)) steps ≡ count_by (λ step. nat_lt step.actor n) steps + count_by (λ step. step.actor == n) steps
below_one_more n [] = refl
below_one_more {A} n (step ∷ steps) =
    omega (arith, below_one_more n steps, one step.actor, count-cons (λ (x : Step A). nat_lt x.actor (suc n)) step steps, count-cons (λ (x : Step A). nat_lt x.actor n) step steps, count-cons (λ (x : Step A). x.actor == n) step steps)
  where
    one : (a : ℕ) → tally (nat_lt a (suc n)) ≡ tally (nat_lt a n) + tally (a == n)
    one a = grind (arith, common_steps)

pub receipts_counted : {A : Type 0} (steps : List (Step A)) (n : ℕ) → receipts_below steps n ≡ count_by (λ step. nat_lt step.actor n) steps
receipts_counted steps zero = sym (none steps)
  where
    none : {A : Type 0} (steps : List (Step A)) → count_by (λ step. nat_lt step.actor 0) steps ≡ 0
    none [] = refl
    none {A} (step ∷ steps) = omega (arith, none steps, low step.actor, count-cons (λ (x : Step A). nat_lt x.actor 0) step steps)
      where
        low : (a : ℕ) → tally (nat_lt a 0) ≡ 0
        low a = grind (arith, common_steps)
receipts_counted steps (suc n) = omega (arith, receipts_counted steps n, mine_length n 0 steps, below_one_more n steps)

-- a count is the length exactly where all items pass
count_all : {X : Type 0} (p : X → Bool) (xs : List X) → (count_by p xs ≡ length xs) ↔ (list_all p xs ≡ true)
count_all p [] = ((λ e. refl), (λ e. refl))
count_all p (x ∷ xs) =
    let more = count-cons p x xs in
    let most = count_by-le-length p xs in
    let rest = count_all p xs in
    elim (p x) as (λ b. p x ≡ b → (count_by p (x ∷ xs) ≡ length (x ∷ xs)) ↔ ((b && list_all p xs) ≡ true)) [
      | true ↦ λ e. ((λ h. rest.0 (omega (arith, more, h, ap tally e))), (λ h. omega (arith, more, rest.1 h, ap tally e)))
      | false ↦ λ e. ((λ h. absurd (omega (arith, more, most, h, ap tally e))), (λ h. absurd (cc)))
    ] refl

pub receipts_add_up : (A : Type 0) → ReceiptsAddUp A
receipts_add_up A steps n =
    let both = count_all (λ (step : Step A). nat_lt step.actor n) steps in
    let counted = receipts_counted steps n in
    ((λ h. both.0 (sym counted ∙ h)), (λ h. counted ∙ both.1 h))

-- two actors' receipts that pass a test are no more than the steps that pass it
two_actors : {A : Type 0} (q : Event A → Reply A → Bool) (j k : ℕ) → (j ≡ k → ⊥) → (i : ℕ) (steps : List (Step A))
    → count_by (λ r. q r.event r.reply) (mine_from j i steps) + count_by (λ r. q r.event r.reply) (mine_from k i steps) ≤ count_by (λ x. q x.event x.reply) steps
two_actors q j k apart i [] = omega arith
two_actors {A} q j k apart i (step ∷ steps) =
    let p : Receipt A → Bool = λ r. q r.event r.reply in
    let r : Receipt A = record { index = i; event = step.event; reply = step.reply } in
    let rest = two_actors q j k apart (i + 1) steps in
    let all = count-cons (λ (x : Step A). q x.event x.reply) step steps in
    let mine_j = count-cons p r (mine_from j (i + 1) steps) in
    let mine_k = count-cons p r (mine_from k (i + 1) steps) in
    elim (step.actor == j) as (λ b. (step.actor == j) ≡ b → count_by p (cond b (r ∷ mine_from j (i + 1) steps) (mine_from j (i + 1) steps)) + count_by p (mine_from k i (step ∷ steps)) ≤ count_by (λ x. q x.event x.reply) (step ∷ steps)) [
      | true ↦ λ e. elim (step.actor == k) as (λ b. (step.actor == k) ≡ b → count_by p (r ∷ mine_from j (i + 1) steps) + count_by p (cond b (r ∷ mine_from k (i + 1) steps) (mine_from k (i + 1) steps)) ≤ count_by (λ x. q x.event x.reply) (step ∷ steps)) [
        | true ↦ λ f. absurd (apart (sym (exact_unsigned_eq step.actor j e) ∙ exact_unsigned_eq step.actor k f))
        | false ↦ λ f. omega (arith, rest, all, mine_j)
      ] refl
      | false ↦ λ e. elim (step.actor == k) as (λ b. count_by p (mine_from j (i + 1) steps) + count_by p (cond b (r ∷ mine_from k (i + 1) steps) (mine_from k (i + 1) steps)) ≤ count_by (λ x. q x.event x.reply) (step ∷ steps)) [
        | true ↦ omega (arith, rest, all, mine_k)
        | false ↦ omega (arith, rest, all)
      ]
    ] refl

pub connected_to_one : (A : Type 0) → ConnectedToOne A
connected_to_one A s steps c j k legal known_j known_k =
    elim (cases_eq j k) as (λ x. j ≡ k) [
      | inl same ↦ same
      | inr apart ↦
          let q : Event A → Reply A → Bool = λ event reply. is_at c (connected_of reply) in
          let both = two_actors q j k apart 0 steps in
          let first = count_some (λ (r : Receipt A). q r.event r.reply) (mine steps j) known_j in
          let second = count_some (λ (r : Receipt A). q r.event r.reply) (mine steps k) known_k in
          let once = (connections_count A s (reverse steps) legal).once c in
          let same = count-reverse (λ (x : Step A). q x.event x.reply) steps in
          absurd (omega (arith, both, first, second, once, same))
    ]

-- the packet that a step took from c, where it is a Take(c)
abbrev took : {A : Type 0} → ℕ → Step A → Option Packet
took c step = cond (is_take c step.event) (taken_of step.reply) None

-- the packets that were taken, in the order of the steps
taken_in_order : {A : Type 0} (past : List (Step A)) (c : ℕ) → taken past c ≡ filter_map (took c) (reverse past)
taken_in_order [] c = refl
taken_in_order (step ∷ past) c =
    ap (λ ps. ps ++ option_to_list (took c step)) (taken_in_order past c)
    ∙ ap (λ ps. filter_map (took c) (reverse past) ++ ps) (one (took c step))
    ∙ sym (filter_map-append (took c) (reverse past) (step ∷ []))
    ∙ ap (filter_map (took c)) (sym (reverse_onto past step []))
  where
    one : (o : Option Packet) → option_to_list o ≡ cons_option o []
    one None = refl
    one (Some p) = refl

-- what g finds in actor a's steps as h finds it in its receipts, and in no other's steps, is stated by its receipts, in order
record IsVerdictBy {A Y : Type 0} (h : Event A → Reply A → Option Y) (g : Step A → Option Y) (a : ℕ) (step : Step A) : Type 0 where
  own : step.actor ≡ a → h step.event step.reply ≡ g step
  other : (step.actor ≡ a → ⊥) → g step ≡ None

mine_agrees : {A Y : Type 0} (h : Event A → Reply A → Option Y) (g : Step A → Option Y) (a i : ℕ) (steps : List (Step A)) → AllByRecursion (IsVerdictBy h g a) steps
    → filter_map (λ r. h r.event r.reply) (mine_from a i steps) ≡ filter_map g steps
mine_agrees h g a i [] each = refl
mine_agrees {A} h g a i (step ∷ steps) each =
    let f : Receipt A → Option _ = λ r. h r.event r.reply in
    let r : Receipt A = record { index = i; event = step.event; reply = step.reply } in
    let rest = mine_agrees h g a (i + 1) steps each.1 in
    elim (step.actor == a) as (λ b. (step.actor == a) ≡ b → filter_map f (cond b (r ∷ mine_from a (i + 1) steps) (mine_from a (i + 1) steps)) ≡ cons_option (g step) (filter_map g steps)) [
      | true ↦ λ e. ap (λ o. cons_option o (filter_map f (mine_from a (i + 1) steps))) (each.0.own (exact_unsigned_eq step.actor a e)) ∙ ap (cons_option (g step)) rest
      | false ↦ λ e. rest ∙ ap (λ o. cons_option o (filter_map g steps)) (sym (each.0.other (eqb-false step.actor a e)))
    ] refl

-- a test of all receipts of an actor holds at each of its steps
at_mine : {A : Type 0} (p : Event A → Bool) (a i : ℕ) (steps : List (Step A)) → list_all (λ r. p r.event) (mine_from a i steps) ≡ true
    → (k : ℕ) (d : Step A) → k < length steps → (get_or steps k d).actor ≡ a → p (get_or steps k d).event ≡ true
at_mine p a i [] all k d below is = absurd (omega arith)
at_mine p a i (step ∷ steps) all zero d below is = grind (arith, common_steps)
at_mine p a i (step ∷ steps) all (suc k) d below is =
    let rest : list_all (λ r. p r.event) (mine_from a (i + 1) steps) ≡ true = grind (arith, common_steps) in
    at_mine p a (i + 1) steps rest k d (omega arith) is

-- a test that some receipt of an actor passes some step passes
any_mine : {A : Type 0} (q : Event A → Reply A → Bool) (a i : ℕ) (steps : List (Step A)) → list_any (λ r. q r.event r.reply) (mine_from a i steps) ≡ true → list_any (λ x. q x.event x.reply) steps ≡ true
any_mine q a i [] h = cc
any_mine q a i (step ∷ steps) h =
    let rest = any_mine q a (i + 1) steps in
    elim (q step.event step.reply) as (λ b. (q step.event step.reply) ≡ b → (b || list_any (λ x. q x.event x.reply) steps) ≡ true) [
      | true ↦ λ e. refl
      | false ↦ λ e. rest (without e (step.actor == a) h)
    ] refl
  where
    without : q step.event step.reply ≡ false → (b : Bool)
        → list_any (λ r. q r.event r.reply) (cond b (record { index = i; event = step.event; reply = step.reply } ∷ mine_from a (i + 1) steps) (mine_from a (i + 1) steps)) ≡ true
        → list_any (λ r. q r.event r.reply) (mine_from a (i + 1) steps) ≡ true
    without e true h = rw e at h
    without e false h = h

-- a Close of c gives no packet
abbrev IsEven : {A : Type 0} → ℕ → Step A → Type 0
IsEven c step = is_close c step.event ≡ true → taken_of step.reply ≡ None

close_gives : {A : Type 0} (s : Config) (past : List (Step A)) (event : Event A) (reply : Reply A) (c : ℕ) → answer s past event ≡ Ok reply → is_close c event ≡ true → taken_of reply ≡ None
close_gives {A} s past (Close d) reply c e closing = ap (λ (r : Reply A). taken_of r) (answered s past (Close d) reply e).1
close_gives s past event reply c e closing = absurd (cc)

all_even : {A : Type 0} (s : Config) (past : List (Step A)) (c : ℕ) → IsLegal s past → AllByRecursion (IsEven c) past
all_even s [] c legal = tt
all_even s (step ∷ past) c legal = ((λ closing. close_gives s past step.event step.reply c legal.0 closing), all_even s past c legal.1)

each_even : {A : Type 0} (s : Config) (steps : List (Step A)) (c : ℕ) → IsLegal s (reverse steps) → All (IsEven c) steps
each_even s steps c legal =
    All-permutation (IsEven c) (reverse steps) steps (rw reverse-reverse at (IsPermutation-reverse (reverse steps))) (All-from_recursion (IsEven c) (reverse steps) (all_even s (reverse steps) c legal))

-- what an event offers on c
abbrev offered_on : {A : Type 0} → ℕ → Event A → Option Admission
offered_on c (Admit d packet) = cond (d == c) (Some (record { origin = d; packet = packet })) None
offered_on c event = None

-- one event more
offered_more : {A : Type 0} (event : Event A) (c : ℕ) (on all : List Admission) → on ≡ filter (λ offer. offer.origin == c) all
    → cons_option (offered_on c event) on ≡ filter (λ offer. offer.origin == c) (cons_option (admission_of event) all)
offered_more (Admit d packet) c on all rest =
    let here : Admission = record { origin = d; packet = packet } in
    let others = filter (λ (offer : Admission). offer.origin == c) all in
    elim (d == c) as (λ b. cons_option (cond b (Some here) None) on ≡ cond b (here ∷ others) others) [
      | true ↦ ap (λ offers. here ∷ offers) rest
      | false ↦ rest
    ]
offered_more event c on all rest = rest

-- what the steps offer on c, in order
offered_in_order : {A : Type 0} (steps : List (Step A)) (c : ℕ)
    → filter_map (λ step. offered_on c step.event) steps ≡ filter (λ offer. offer.origin == c) (filter_map (λ step. admission_of step.event) steps)
offered_in_order [] c = refl
offered_in_order {A} (step ∷ steps) c =
    offered_more step.event c (filter_map (λ (x : Step A). offered_on c x.event) steps) (filter_map (λ (x : Step A). admission_of x.event) steps) (offered_in_order steps c)

-- a reader that offers on c has it as its connection
reader_conn : {A : Type 0} (o : Option ℕ) (event : Event A) (c : ℕ) → is_readers o event ≡ true → is_some (offered_on c event) ≡ true → o ≡ Some c
reader_conn None (Admit d packet) c reads offers = absurd (cc)
reader_conn (Some x) (Admit d packet) c reads offers =
    let same : d ≡ c = exact_unsigned_eq d c (at (d == c) offers) in
    ap (λ (n : ℕ). Some n) (sym (exact_unsigned_eq d x reads) ∙ same)
  where
    offer : Admission
    offer = record { origin = d; packet = packet }

    at : (b : Bool) → is_some (cond b (Some offer) None) ≡ true → b ≡ true
    at true h = refl
    at false h = cc
reader_conn o event c reads offers = absurd (cc)

-- a writer that takes from c has it as its connection
writer_conn : {A : Type 0} (o : Option ℕ) (event : Event A) (c : ℕ) → is_writers o event ≡ true → is_take c event ≡ true → o ≡ Some c
writer_conn None (Take d) c writes taking = absurd (cc)
writer_conn (Some x) (Take d) c writes taking = ap (λ (n : ℕ). Some n) (sym (exact_unsigned_eq c d taking ∙ exact_unsigned_eq d x writes))
writer_conn o event c writes taking = absurd (cc)

-- no reader takes, no writer offers, and what routes does neither
reader_takes : {A : Type 0} (o : Option ℕ) (event : Event A) (c : ℕ) → is_readers o event ≡ true → is_take c event ≡ true → ⊥
reader_takes o (Take d) c reads taking = cc
reader_takes o event c reads taking = cc

writer_offers : {A : Type 0} (o : Option ℕ) (event : Event A) (c : ℕ) → is_writers o event ≡ true → is_some (offered_on c event) ≡ true → ⊥
writer_offers o (Admit d packet) c writes offers = cc
writer_offers o event c writes offers = cc

router_takes : {A : Type 0} (event : Event A) (c : ℕ) → is_some (ticket_of event) ≡ true → is_take c event ≡ true → ⊥
router_takes (Route t) c routes taking = cc
router_takes event c routes taking = cc

router_offers : {A : Type 0} (event : Event A) (c : ℕ) → is_some (ticket_of event) ≡ true → is_some (offered_on c event) ≡ true → ⊥
router_offers (Route t) c routes offers = cc
router_offers event c routes offers = cc

-- a link, and what is known of it
record IsLink {A : Type 0} (s : Config) (steps : List (Step A)) (conns : List (Option ℕ)) (k c : ℕ) : Type 0 where
  legal : IsLegal s (reverse steps)
  compared : AreCompared steps conns
  inside : k < length conns
  conn : get_or conns k None ≡ Some c

-- the connection that receipts name is that of one of them
known_some : {A : Type 0} (receipts : List (Receipt A)) (c : ℕ) → known_conn receipts ≡ Some c → list_any (λ r. is_at c (connected_of r.reply)) receipts ≡ true
known_some [] c h = cc
known_some (r ∷ receipts) c h =
    elim (connected_of r.reply) as (λ o. option_or o (known_conn receipts) ≡ Some c → (is_at c o || list_any (λ r. is_at c (connected_of r.reply)) receipts) ≡ true) [
      | None ↦ λ e. known_some receipts c e
      | Some d ↦ λ e. let is : d ≡ c = cc in rw is (rw (itself c) refl)
    ] h
  where
    itself : (n : ℕ) → (n == n) ≡ true
    itself n = grind (arith, common_steps)

-- two links of one connection are one
one_link : {A : Type 0} (s : Config) (steps : List (Step A)) (conns : List (Option ℕ)) (j k c : ℕ) → IsLink s steps conns k c → j < length conns → get_or conns j None ≡ Some c → j ≡ k
one_link {A} s steps conns j k c link within same =
    connected_to_one A s steps c j k link.legal (known_some (mine steps j) c (sym (link.compared.connected j within) ∙ same)) (known_some (mine steps k) c (sym (link.compared.connected k link.inside) ∙ link.conn))

-- each Take(c) is of the link's writer
taken_by : {A : Type 0} (s : Config) (steps : List (Step A)) (conns : List (Option ℕ)) (k c : ℕ) → IsLink s steps conns k c
    → (i : ℕ) (d : Step A) → i < length steps → is_take c (get_or steps i d).event ≡ true → (get_or steps i d).actor ≡ length conns + k
taken_by {A} s steps conns k c link i d below taking =
    let step : Step A = get_or steps i d in
    let n = length conns in
    elim (cases_lt step.actor n) as (λ x. step.actor ≡ n + k) [
      | inl low ↦ absurd (reader_takes (get_or conns step.actor None) step.event c (at_mine (is_readers (get_or conns step.actor None)) step.actor 0 steps (link.compared.readers step.actor low) i d below refl) taking)
      | inr high ↦ elim (cases_lt step.actor (n + n)) as (λ x. step.actor ≡ n + k) [
        | inl low ↦
            let j : ℕ = step.actor - n in
            let within : j < n = omega arith in
            let is : step.actor ≡ n + j = omega arith in
            let writes = at_mine (is_writers (get_or conns j None)) (n + j) 0 steps (link.compared.writers j within) i d below is in
            let one = one_link s steps conns j k c link within (writer_conn (get_or conns j None) step.event c writes taking) in
            omega (arith, is, one)
        | inr beyond ↦ absurd (router_takes step.event c (at_mine (λ e. is_some (ticket_of e)) step.actor 0 steps (link.compared.others step.actor beyond) i d below refl) taking)
      ]
    ]

-- each Admit(c, d) is of the link's reader
offered_by : {A : Type 0} (s : Config) (steps : List (Step A)) (conns : List (Option ℕ)) (k c : ℕ) → IsLink s steps conns k c
    → (i : ℕ) (d : Step A) → i < length steps → is_some (offered_on c (get_or steps i d).event) ≡ true → (get_or steps i d).actor ≡ k
offered_by {A} s steps conns k c link i d below offers =
    let step : Step A = get_or steps i d in
    let n = length conns in
    elim (cases_lt step.actor n) as (λ x. step.actor ≡ k) [
      | inl low ↦
          let reads = at_mine (is_readers (get_or conns step.actor None)) step.actor 0 steps (link.compared.readers step.actor low) i d below refl in
          one_link s steps conns step.actor k c link low (reader_conn (get_or conns step.actor None) step.event c reads offers)
      | inr high ↦ elim (cases_lt step.actor (n + n)) as (λ x. step.actor ≡ k) [
        | inl low ↦
            let j : ℕ = step.actor - n in
            let within : j < n = omega arith in
            let is : step.actor ≡ n + j = omega arith in
            absurd (writer_offers (get_or conns j None) step.event c (at_mine (is_writers (get_or conns j None)) (n + j) 0 steps (link.compared.writers j within) i d below is) offers)
        | inr beyond ↦ absurd (router_offers step.event c (at_mine (λ e. is_some (ticket_of e)) step.actor 0 steps (link.compared.others step.actor beyond) i d below refl) offers)
      ]
    ]

-- a reader's own offer is on its connection
own_offer : {A : Type 0} (event : Event A) (c : ℕ) → is_readers (Some c) event ≡ true → admission_of event ≡ offered_on c event
own_offer (Admit d packet) c reads = ap (λ b. cond b (Some (record { origin = d; packet = packet })) None) (sym reads)
own_offer event c reads = refl

none_unless : {X : Type 0} (o : Option X) → (is_some o ≡ true → ⊥) → o ≡ None
none_unless None h = refl
none_unless (Some x) h = absurd (h refl)

turned : (d c : ℕ) → (d == c) ≡ true → (c == d) ≡ true
turned d c h = same_in_both c d ∙ h

-- a writer's own packet is taken from its connection
own_packet : {A : Type 0} (event : Event A) (reply : Reply A) (c : ℕ) → is_writers (Some c) event ≡ true → (is_close c event ≡ true → taken_of reply ≡ None) → taken_of reply ≡ cond (is_take c event) (taken_of reply) None
own_packet (Take d) reply c writes even = ap (λ b. cond b (taken_of reply) None) (sym (turned d c writes))
own_packet (Close d) reply c writes even = even (turned d c writes)
own_packet event reply c writes even = absurd (cc)

pub links_agree : (A : Type 0) → LinksAgree A
links_agree A s steps conns k c legal compared inside conn =
    let n = length conns in
    let link : IsLink s steps conns k c = record { legal = legal; compared = compared; inside = inside; conn = conn } in
    let offering : Event A → Reply A → Option Admission = λ event reply. admission_of event in
    let giving : Event A → Reply A → Option Packet = λ event reply. taken_of reply in
    let on : Step A → Option Admission = λ step. offered_on c step.event in
    let even = each_even s steps c legal in
    let takes : packets_of (mine steps (n + k)) ≡ taken (reverse steps) c =
    mine_agrees giving (took c) (n + k) 0 steps (recursion_from_All (IsVerdictBy giving (took c) (n + k)) steps (λ i d below. record {
      own = λ is. own_packet (get_or steps i d).event (get_or steps i d).reply c (ap (λ o. is_writers o (get_or steps i d).event) (sym conn) ∙ at_mine (is_writers (get_or conns k None)) (n + k) 0 steps (compared.writers k inside) i d below is) (All-get_or (IsEven c) steps i d below even);
      other = λ isnt. ap (λ b. cond b (taken_of (get_or steps i d).reply) None) (false_from_ne_true (is_take c (get_or steps i d).event) (λ taking. isnt (taken_by s steps conns k c link i d below taking)));
    }))
    ∙ ap (filter_map (took c)) (sym (reverse-reverse steps))
    ∙ sym (taken_in_order (reverse steps) c) in
    record {
      offers = mine_agrees offering on k 0 steps (recursion_from_All (IsVerdictBy offering on k) steps (λ i d below. record {
        own = λ is. own_offer (get_or steps i d).event c (ap (λ o. is_readers o (get_or steps i d).event) (sym conn) ∙ at_mine (is_readers (get_or conns k None)) k 0 steps (compared.readers k inside) i d below is);
        other = λ isnt. none_unless (offered_on c (get_or steps i d).event) (λ offers. isnt (offered_by s steps conns k c link i d below offers));
      }))
          ∙ offered_in_order steps c;
      takes = takes;
      drained = λ known.
          let drains : Event A → Reply A → Bool = λ event reply. is_close c event && is_at 0 (closed_of reply) in
          let there = any_mine drains (n + k) 0 steps known in
          takes ∙ drained_took_all A s (reverse steps) c legal (sym (list_any-IsPermutation (λ (x : Step A). drains x.event x.reply) steps (reverse steps) (IsPermutation-reverse steps)) ∙ there);
    }
