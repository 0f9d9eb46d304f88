-- What one more step does.
use Rattle.std.proofs.Common.{◌≡◌, ℕ, suc, zero, ◌<◌, ◌==◌, Bool, true, false, ◌&&◌, ◌||◌, not, cond, if◌then◌else◌, List, [], ◌∷◌, ◌++◌, drop, filter, map, take, Some, None, refl, sym, ap, ◌∙◌, arith}
use Rattle.std.specs.List.{All, list_any}
use Rattle.std.specs.Option.{option_to_list}
use Rattle.std.proofs.lemmas.Grind.{common_steps}
use Rattle.std.proofs.lemmas.List.Elements.{filter-append, filter_agree, All-head, All-tail, All-weaker}
use Rattle.std.proofs.lemmas.List.{append-nil, map-append, take-take}
use Rattle.std.proofs.lemmas.Map.Views.{any-filter_same, exact_unsigned_eq}
use Rattle.gn_rules.specs.declared.receipt.Step.{Step}
use Rattle.gn_rules.specs.declared.event.Event.{Event}
use Rattle.gn_rules.specs.declared.event.Event.TheVariants.{Connect, Close, Route, Take}
use Rattle.gn_rules.specs.declared.reply.Reply.{Reply}
use Rattle.gn_rules.specs.declared.reply.Reply.TheVariants.{Connected, Closed, Admitted, Taken}
use Rattle.gn_wire.specs.Packet.{Packet}
use Rattle.gn_rules.specs.Flight.{is_route, tickets, is_routed, flying}
use Rattle.gn_rules.specs.History.{connected_of, admitted_of, is_close, is_take, is_at, sends_of, live, connections, live_connections}
use Rattle.gn_rules.specs.Output.{out, queued_to, rows}

-- two filters, one after the other
pub filter_both : {X : Type 0} (p q : X → Bool) (xs : List X) → filter (λ x. p x && q x) xs ≡ filter p (filter q xs)
filter_both p q [] = refl
filter_both p q (x ∷ xs) = grind (arith, common_steps, filter_both p q xs)

-- filters that agree on the items
pub filter_same : {X : Type 0} (p q : X → Bool) (xs : List X) → All (λ x. p x ≡ q x) xs → filter p xs ≡ filter q xs
filter_same p q [] h = refl
filter_same p q (x ∷ xs) h =
    let here : p x ≡ q x = All-head (λ x. p x ≡ q x) x xs h in
    let rest : filter p xs ≡ filter q xs = filter_same p q xs (All-tail (λ x. p x ≡ q x) x xs h) in
    cc

-- a number is not one that is greater
pub below_is_other : (d c : ℕ) → d < c → (d == c) ≡ false
below_is_other d c h = grind (arith, common_steps)

pub is_itself : (c : ℕ) → (c == c) ≡ true
is_itself c = grind (arith, common_steps)

-- a step that connects a new connection
pub live_connections-connected : {A : Type 0} (past : List (Step A)) (actor c : ℕ) → All (λ d. d < c) (connections past)
    → live_connections (record { actor = actor; event = Connect; reply = Connected c } ∷ past) ≡ live_connections past ++ c ∷ []
live_connections-connected {A} past actor c below =
    let after : ℕ → Bool = live (record { actor = actor; event = Connect; reply = Connected c } ∷ past) in
    let same : All (λ d. after d ≡ live past d) (connections past) =
    All-weaker (λ d. d < c) (λ d. after d ≡ live past d) (λ d h. rw (below_is_other d c h) refl) (connections past) below in
    let now : after c ≡ true = rw (is_itself c) refl in
    filter-append after (connections past) (c ∷ [])
    ∙ ap (λ xs. xs ++ filter after (c ∷ [])) (filter_same after (live past) (connections past) same)
    ∙ ap (λ b. filter (live past) (connections past) ++ cond b (c ∷ []) []) now

-- a step that closes
pub live_connections-closed : {A : Type 0} (past : List (Step A)) (actor c n : ℕ)
    → live_connections (record { actor = actor; event = Close c; reply = Closed n } ∷ past) ≡ filter (λ d. not (d == c)) (live_connections past)
live_connections-closed past actor c n =
    rw (append-nil (connections past)) (filter_both (λ d. not (d == c)) (live past) (connections past))

-- a step that admits under a new ticket
pub flying-admitted : {A : Type 0} (past : List (Step A)) (event : Event A) (actor t : ℕ) → ((u : ℕ) → is_route u event ≡ false) → is_routed past t ≡ false
    → flying (record { actor = actor; event = event; reply = Admitted t } ∷ past) ≡ flying past ++ t ∷ []
flying-admitted past event actor t other not_routed =
    let after : ℕ → Bool = λ u. not (is_routed (record { actor = actor; event = event; reply = Admitted t } ∷ past) u) in
    let before : ℕ → Bool = λ u. not (is_routed past u) in
    let same : (u : ℕ) → after u ≡ before u = λ u. rw (other u) refl in
    filter_agree after before same (tickets past ++ t ∷ []) ∙ filter-append before (tickets past) (t ∷ []) ∙ rw not_routed refl

-- a step that routes
pub flying-routed : {A : Type 0} (past : List (Step A)) (reply : Reply A) (actor t : ℕ) → admitted_of reply ≡ None
    → flying (record { actor = actor; event = Route t; reply = reply } ∷ past) ≡ filter (λ u. not (u == t)) (flying past)
flying-routed past reply actor t none =
    rw (none, append-nil (tickets past)) (filter_agree _ (λ u. not (u == t) && not (is_routed past u)) (λ u. grind (arith, common_steps)) (tickets past) ∙ filter_both (λ u. not (u == t)) (λ u. not (is_routed past u)) (tickets past))

-- a step that connects nothing and closes nothing
pub live_connections-kept : {A : Type 0} (past : List (Step A)) (step : Step A) → connected_of step.reply ≡ None → ((c : ℕ) → is_close c step.event ≡ false)
    → live_connections (step ∷ past) ≡ live_connections past
live_connections-kept past step none other =
    rw (none, append-nil (connections past)) (filter_agree _ (live past) (λ c. rw (none, other c) refl) (connections past))

pub flying-kept : {A : Type 0} (past : List (Step A)) (step : Step A) → admitted_of step.reply ≡ None → ((t : ℕ) → is_route t step.event ≡ false)
    → flying (step ∷ past) ≡ flying past
flying-kept past step none other =
    rw (none, append-nil (tickets past)) (filter_agree _ (λ t. not (is_routed past t)) (λ t. rw (other t) refl) (tickets past))

-- a map of a filter, where the map's items keep the test
pub map_filter : {X Y : Type 0} (f : X → Y) (p : X → Bool) (q : Y → Bool) (xs : List X) → ((x : X) → q (f x) ≡ p x) → map f (filter p xs) ≡ filter q (map f xs)
map_filter f p q [] e = refl
map_filter f p q (x ∷ xs) e =
    let rest : map f (filter p xs) ≡ filter q (map f xs) = map_filter f p q xs e in
    let here : q (f x) ≡ p x = e x in
    elim (p x) as (λ b. q (f x) ≡ b → map f (cond b (x ∷ filter p xs) (filter p xs)) ≡ cond (q (f x)) (f x ∷ filter q (map f xs)) (filter q (map f xs))) [
      | true ↦ λ h. rw h (ap (λ ys. f x ∷ ys) rest)
      | false ↦ λ h. rw h rest
    ] here

pub map_map : {X Y Z : Type 0} (f : X → Y) (g : Y → Z) (xs : List X) → map g (map f xs) ≡ map (λ x. g (f x)) xs
map_map f g [] = refl
map_map f g (x ∷ xs) = ap (λ ys. g (f x) ∷ ys) (map_map f g xs)

-- maps that agree
pub map_agree : {X Y : Type 0} (f g : X → Y) → ((x : X) → f x ≡ g x) → (xs : List X) → map f xs ≡ map g xs
map_agree f g e [] = refl
map_agree f g e (x ∷ xs) = ap (λ y. y ∷ map f xs) (e x) ∙ ap (λ ys. g x ∷ ys) (map_agree f g e xs)

-- a new connection comes last, and nothing waits for it
pub rows-connected : {A : Type 0} (past : List (Step A)) (actor c : ℕ) → All (λ d. d < c) (connections past) → out past c ≡ []
    → rows (record { actor = actor; event = Connect; reply = Connected c } ∷ past) ≡ rows past ++ (c, []) ∷ []
rows-connected {A} past actor c below empty =
    let step : Step A = record { actor = actor; event = Connect; reply = Connected c } in
    let row : ℕ → ℕ × List Packet = λ d. (d, out past d) in
    ap (map (λ d. (d, out (step ∷ past) d))) (live_connections-connected past actor c below)
    ∙ map_agree (λ d. (d, out (step ∷ past) d)) row (λ d. rw (append-nil (out past d)) refl) (live_connections past ++ c ∷ [])
    ∙ map-append row (live_connections past) (c ∷ []) ∙ ap (λ xs. rows past ++ (c, xs) ∷ []) empty

-- a closed connection goes
pub rows-closed : {A : Type 0} (past : List (Step A)) (actor c n : ℕ)
    → rows (record { actor = actor; event = Close c; reply = Closed n } ∷ past) ≡ filter (λ r. not (r.0 == c)) (rows past)
rows-closed {A} past actor c n =
    let step : Step A = record { actor = actor; event = Close c; reply = Closed n } in
    let row : ℕ → ℕ × List Packet = λ d. (d, out past d) in
    ap (map (λ d. (d, out (step ∷ past) d))) (live_connections-closed past actor c n)
    ∙ map_agree (λ d. (d, out (step ∷ past) d)) row (λ d. rw (append-nil (out past d)) refl) (filter (λ d. not (d == c)) (live_connections past))
    ∙ map_filter row (λ d. not (d == c)) (λ r. not (r.0 == c)) (live_connections past) (λ d. refl)

-- a packet that is taken goes from its row
pub rows-taken : {A : Type 0} (past : List (Step A)) (actor c : ℕ) (packet : Packet)
    → rows (record { actor = actor; event = Take c; reply = Taken packet } ∷ past) ≡ map (λ r. (r.0, (if r.0 == c then drop 1 r.1 else r.1))) (rows past)
rows-taken {A} past actor c packet =
    let step : Step A = record { actor = actor; event = Take c; reply = Taken packet } in
    let row : ℕ → ℕ × List Packet = λ d. (d, out past d) in
    let f : ℕ × List Packet → ℕ × List Packet = λ r. (r.0, (if r.0 == c then drop 1 r.1 else r.1)) in
    ap (map (λ d. (d, out (step ∷ past) d))) (live_connections-kept past step refl (λ d. refl))
    ∙ map_agree (λ d. (d, out (step ∷ past) d)) (λ d. f (row d)) (λ d. rw (append-nil (if d == c then drop 1 (out past d) else out past d)) refl) (live_connections past)
    ∙ sym (map_map row f (live_connections past))

-- sends go after what waits
pub rows-sent : {A : Type 0} (past : List (Step A)) (step : Step A) → connected_of step.reply ≡ None → ((c : ℕ) → is_close c step.event ≡ false) → ((c : ℕ) → is_take c step.event ≡ false)
    → rows (step ∷ past) ≡ map (λ r. (r.0, r.1 ++ queued_to r.0 (sends_of step.reply))) (rows past)
rows-sent past step none no_close no_take =
    let row : ℕ → ℕ × List Packet = λ d. (d, out past d) in
    let f : ℕ × List Packet → ℕ × List Packet = λ r. (r.0, r.1 ++ queued_to r.0 (sends_of step.reply)) in
    ap (map (λ d. (d, out (step ∷ past) d))) (live_connections-kept past step none no_close)
    ∙ map_agree (λ d. (d, out (step ∷ past) d)) (λ d. f (row d)) (λ d. rw (no_take d) refl) (live_connections past)
    ∙ sym (map_map row f (live_connections past))

any_append : {X : Type 0} (p : X → Bool) (xs ys : List X) → list_any p (xs ++ ys) ≡ (list_any p xs || list_any p ys)
any_append p [] ys = refl
any_append p (x ∷ xs) ys =
    let rest : list_any p (xs ++ ys) ≡ (list_any p xs || list_any p ys) = any_append p xs ys in
    elim (p x) as (λ b. (b || list_any p (xs ++ ys)) ≡ ((b || list_any p xs) || list_any p ys)) [ true ↦ refl | false ↦ rest ]

-- a live connection was made
pub listed : {A : Type 0} (past : List (Step A)) (c : ℕ) → live past c ≡ true → list_any (λ d. c == d) (connections past) ≡ true
listed [] c h = cc
listed (step ∷ earlier) c h =
    any_append (λ d. c == d) (connections earlier) (option_to_list (connected_of step.reply))
    ∙ elim (connected_of step.reply) as (λ o. (is_at c o || (not (is_close c step.event) && live earlier c)) ≡ true → (list_any (λ d. c == d) (connections earlier) || list_any (λ d. c == d) (option_to_list o)) ≡ true) [
      | None ↦ λ e. elim (is_close c step.event) as (λ b. (not b && live earlier c) ≡ true → (list_any (λ d. c == d) (connections earlier) || false) ≡ true) [
        | true ↦ λ e. cc
        | false ↦ λ e. rw (listed earlier c e) refl
      ] e
      | Some d ↦ λ e. elim (c == d) as (λ b. (b || (not (is_close c step.event) && live earlier c)) ≡ true → (list_any (λ d. c == d) (connections earlier) || (b || false)) ≡ true) [
        | true ↦ λ e. or_true (list_any (λ d. c == d) (connections earlier))
        | false ↦ λ e. elim (is_close c step.event) as (λ b. (not b && live earlier c) ≡ true → (list_any (λ d. c == d) (connections earlier) || false) ≡ true) [
          | true ↦ λ e. cc
          | false ↦ λ e. rw (listed earlier c e) refl
        ] e
      ] e
    ] h
  where
    or_true : (b : Bool) → (b || true) ≡ true
    or_true true = refl
    or_true false = refl

-- the live connections are those that are live
pub is_listed : {A : Type 0} (past : List (Step A)) (c : ℕ) → list_any (λ d. c == d) (live_connections past) ≡ live past c
is_listed past c =
    any-filter_same (λ d. c == d) (live past) (live past c) (λ d h. ap (live past) (sym (exact_unsigned_eq c d h))) (connections past)
    ∙ elim (live past c) as (λ b. live past c ≡ b → (b && list_any (λ d. c == d) (connections past)) ≡ b) [
      | true ↦ λ h. listed past c h
      | false ↦ λ h. refl
    ] refl

-- the newest n, after one more
pub take_more_new : {X : Type 0} (n : ℕ) (x : X) (xs : List X) → take n (x ∷ xs) ≡ take n (x ∷ take n xs)
take_more_new zero x xs = refl
take_more_new (suc n) x xs = ap (λ ys. x ∷ ys) (sym (take-take n (suc n) xs (omega arith)))
