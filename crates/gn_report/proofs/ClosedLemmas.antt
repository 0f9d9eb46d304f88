-- Who closed a link's connection, in a legal history whose actors' steps are as compared.
use Rattle.std.proofs.Common.{◌≡◌, ◌≤◌, ◌<◌, ◌+◌, ◌-◌, ◌==◌, ℕ, suc, Bool, true, false, not, ◌&&◌, ◌||◌, cond, List, [], ◌∷◌, length, get_or, reverse, Option, Some, None, inl, inr, refl, sym, ap, ◌∙◌, subst, arith}
use Rattle.std.specs.List.{list_all, list_any}
use Rattle.std.specs.Option.{option_or}
use Rattle.std.proofs.lemmas.Bool.{and_parts, cases_eq, cases_lt, eq-eqb, ne_eqb}
use Rattle.std.proofs.lemmas.List.Folds.{list_any_at}
use Rattle.std.proofs.lemmas.Map.Views.{exact_unsigned_eq}
use Rattle.gn_rules.specs.declared.config.Config.{Config}
use Rattle.gn_rules.specs.declared.event.Event.{Event}
use Rattle.gn_rules.specs.declared.event.Event.TheVariants.{Close}
use Rattle.gn_rules.specs.declared.receipt.Receipt.{Receipt}
use Rattle.gn_rules.specs.declared.receipt.Step.{Step}
use Rattle.gn_rules.specs.Answer.{IsLegal}
use Rattle.gn_rules.specs.History.{connected_of, is_at, is_close, live, mine, mine_from, step_of}
use Rattle.gn_laws.specs.Owners.{AreFitting, is_readers, is_writers, known_conn}
use Rattle.gn_laws.proofs.CountLemmas.{any_from_count, count-reverse, count_some}
use Rattle.gn_laws.proofs.OwnerLemmas.{connected_to_one}
use Rattle.gn_report.specs.Accounts.{are_houses, is_houses}

-- what is compared of each actor's steps, where all but readers and writers do what the house may
pub record AreLikewise {A : Type 0} (originates : Bool) (steps : List (Step A)) (conns : List (Option ℕ)) : Type 0 where
  pub connected : (k : ℕ) → k < length conns → get_or conns k None ≡ known_conn (mine steps k)
  pub readers : (k : ℕ) → k < length conns → list_all (λ r. is_readers (get_or conns k None) r.event) (mine steps k) ≡ true
  pub writers : (k : ℕ) → k < length conns → list_all (λ r. is_writers (get_or conns k None) r.event) (mine steps (length conns + k)) ≡ true
  pub others : (a : ℕ) → length conns + length conns ≤ a → are_houses originates (mine steps a) ≡ true

any_reverse : {X : Type 0} (p : X → Bool) (xs : List X) → list_any p xs ≡ true → list_any p (reverse xs) ≡ true
any_reverse p xs any = any_from_count p (reverse xs) (omega (arith, count_some p xs any, count-reverse p xs))

any_back : {X : Type 0} (p : X → Bool) (xs : List X) → list_any p (reverse xs) ≡ true → list_any p xs ≡ true
any_back p xs any = any_from_count p xs (omega (arith, count_some p (reverse xs) any, count-reverse p xs))

-- where one of a list passes a test
record Passes {X : Type 0} (p : X → Bool) (xs : List X) (d : X) : Type 0 where
  place : ℕ
  within : place < length xs
  is : p (get_or xs place d) ≡ true

some_at : {X : Type 0} (p : X → Bool) (xs : List X) (d : X) → list_any p xs ≡ true → Passes p xs d
some_at p [] d any = absurd (cc)
some_at {X} p (x ∷ xs) d any =
    elim (p x) as (λ b. p x ≡ b → (b || list_any p xs) ≡ true → Passes p (x ∷ xs) d) [
      | true ↦ λ is all. record { place = 0; within = omega arith; is = is }
      | false ↦ λ is all. let rest = some_at p xs d all in let low = rest.within in record { place = suc rest.place; within = omega (arith, low); is = rest.is }
    ] refl any

-- what one of an actor's receipts is, one of the steps is
pub fits_some : {A : Type 0} (f : Step A → Bool) (steps : List (Step A)) (a : ℕ) (own : List (Receipt A)) → AreFitting steps a own → list_any (λ r. f (step_of a r)) own ≡ true → list_any f steps ≡ true
fits_some f steps a [] fits any = absurd (cc)
fits_some {A} f steps a (r ∷ rs) fits any =
    let at = some_at (λ (x : Receipt A). f (step_of a x)) (r ∷ rs) r any in
    let stands = fits.stands at.place r (step_of a r) at.within in
    list_any_at f steps (get_or (r ∷ rs) at.place r).index (step_of a r) stands.0 (ap f stands.1 ∙ at.is)

-- the connection that receipts name is that of one of them
known_some : {A : Type 0} (receipts : List (Receipt A)) (c : ℕ) → known_conn receipts ≡ Some c → list_any (λ r. is_at c (connected_of r.reply)) receipts ≡ true
known_some [] c is = absurd (cc)
known_some (r ∷ receipts) c is =
    elim (connected_of r.reply) as (λ o. option_or o (known_conn receipts) ≡ Some c → (is_at c o || list_any (λ r. is_at c (connected_of r.reply)) receipts) ≡ true) [
      | None ↦ λ e. known_some receipts c e
      | Some d ↦ λ e. let same : d ≡ c = cc in rw (eq-eqb c d (sym same)) refl
    ] is

-- a connection that was made, and isn't live, was closed
made_then_closed : {A : Type 0} (past : List (Step A)) (c : ℕ) → live past c ≡ false → list_any (λ step. is_at c (connected_of step.reply)) past ≡ true → list_any (λ step. is_close c step.event) past ≡ true
made_then_closed [] c gone made = absurd (cc)
made_then_closed {A} (step ∷ earlier) c gone made = by_cases (is_at c (connected_of step.reply)) (is_close c step.event) (live earlier c) gone made (made_then_closed earlier c)
  where
    closed : Bool
    closed = list_any (λ (s : Step A). is_close c s.event) earlier

    made_before : Bool
    made_before = list_any (λ (s : Step A). is_at c (connected_of s.reply)) earlier

    by_cases : (m k l : Bool) → (m || (not k && l)) ≡ false → (m || made_before) ≡ true → (l ≡ false → made_before ≡ true → closed ≡ true) → (k || closed) ≡ true
    by_cases true k l gone' made' earlier' = absurd (cc)
    by_cases false true l gone' made' earlier' = refl
    by_cases false false l gone' made' earlier' = earlier' gone' made'

-- where a connection that an actor was given, by receipts that fit, isn't live any more, somebody closed it
pub gone_is_closed : {A : Type 0} (steps : List (Step A)) (a c : ℕ) (own : List (Receipt A)) → AreFitting steps a own → known_conn own ≡ Some c → live (reverse steps) c ≡ false → list_any (λ step. is_close c step.event) steps ≡ true
gone_is_closed {A} steps a c own fits given gone =
    let gives : Step A → Bool = λ step. is_at c (connected_of step.reply) in
    let made : list_any gives steps ≡ true = fits_some gives steps a own fits (known_some own c given) in
    any_back (λ (step : Step A). is_close c step.event) steps (made_then_closed (reverse steps) c gone (any_reverse gives steps made))

-- a test that all receipts of an actor pass, said of the steps
pub all_mine : {A : Type 0} (f : Event A → Bool) (a i : ℕ) (steps : List (Step A)) → list_all (λ r. f r.event) (mine_from a i steps) ≡ true → list_all (λ step. not (step.actor == a) || f step.event) steps ≡ true
all_mine f a i [] all = refl
all_mine {A} f a i (step ∷ steps) all = cases (step.actor == a) all (all_mine f a (i + 1) steps)
  where
    own : List (Receipt A)
    own = mine_from a (i + 1) steps

    rest : Bool
    rest = list_all (λ (x : Step A). not (x.actor == a) || f x.event) steps

    cases : (b : Bool) → list_all (λ (r : Receipt A). f r.event) (cond b (record { index = i; event = step.event; reply = step.reply } ∷ own) own) ≡ true → (list_all (λ (r : Receipt A). f r.event) own ≡ true → rest ≡ true)
        → ((not b || f step.event) && rest) ≡ true
    cases true here later = let parts = and_parts (f step.event) (list_all (λ (r : Receipt A). f r.event) own) here in rw parts.0 (later parts.1)
    cases false here later = later here

-- somebody closed c, and this step didn't, or was another's
closed_here : (k e ra rb : Bool) → (k || ra) ≡ true → e ≡ true → (ra ≡ true → rb ≡ true) → ((e && k) || rb) ≡ true
closed_here true e ra rb any is later = rw is refl
closed_here false true ra rb any is later = later any
closed_here false false ra rb any is later = absurd (cc)

closed_later : (k e ra rb : Bool) → (k || ra) ≡ true → k ≡ false → (ra ≡ true → rb ≡ true) → ((e && k) || rb) ≡ true
closed_later true e ra rb any kept later = absurd (cc)
closed_later false true ra rb any kept later = later any
closed_later false false ra rb any kept later = later any

not_own : (e k : Bool) → e ≡ true → (not e || not k) ≡ true → k ≡ false
not_own true true is all = absurd (cc)
not_own true false is all = refl
not_own false k is all = absurd (cc)

by_step : {A : Type 0} (c w : ℕ) (steps : List (Step A)) → list_any (λ step. is_close c step.event) steps ≡ true
    → ((a : ℕ) → (a ≡ w → ⊥) → list_all (λ step. not (step.actor == a) || not (is_close c step.event)) steps ≡ true)
    → list_any (λ step. (step.actor == w) && is_close c step.event) steps ≡ true
by_step c w [] any none = absurd (cc)
by_step {A} c w (step ∷ steps) any none =
    let closes : Step A → Bool = λ x. is_close c x.event in
    let by : Step A → Bool = λ x. (x.actor == w) && is_close c x.event in
    let later : list_any closes steps ≡ true → list_any by steps ≡ true =
    λ more. by_step c w steps more (λ a other. (and_parts (not (step.actor == a) || not (is_close c step.event)) (list_all (λ (x : Step A). not (x.actor == a) || not (is_close c x.event)) steps) (none a other)).1) in
    elim (cases_eq step.actor w) as (λ x. list_any by (step ∷ steps) ≡ true) [
      | inl same ↦ closed_here (is_close c step.event) (step.actor == w) (list_any closes steps) (list_any by steps) any (eq-eqb step.actor w same) later
      | inr other ↦
          let parts = and_parts (not (step.actor == step.actor) || not (is_close c step.event)) (list_all (λ (x : Step A). not (x.actor == step.actor) || not (is_close c x.event)) steps) (none step.actor other) in
          closed_later (is_close c step.event) (step.actor == w) (list_any closes steps) (list_any by steps) any (not_own (step.actor == step.actor) (is_close c step.event) (eq-eqb step.actor step.actor refl) parts.0) later
    ]

-- where somebody closed c, and nobody but actor w did, w did
pub closed_by : {A : Type 0} (c w : ℕ) (steps : List (Step A)) → list_any (λ step. is_close c step.event) steps ≡ true → ((a : ℕ) → (a ≡ w → ⊥) → list_all (λ r. not (is_close c r.event)) (mine steps a) ≡ true)
    → list_any (λ step. (step.actor == w) && is_close c step.event) steps ≡ true
closed_by {A} c w steps any none = by_step c w steps any (λ a other. all_mine (λ (event : Event A). not (is_close c event)) a 0 steps (none a other))

other_step : (b k ra rb : Bool) → (k || ra) ≡ true → (not b || not k) ≡ true → (ra ≡ true → rb ≡ true) → ((not b && k) || rb) ≡ true
other_step true true ra rb any kept later = absurd (cc)
other_step true false ra rb any kept later = later any
other_step false true ra rb any kept later = refl
other_step false false ra rb any kept later = later any

by_others : {A : Type 0} (c w : ℕ) (steps : List (Step A)) → list_any (λ step. is_close c step.event) steps ≡ true → list_all (λ step. not (step.actor == w) || not (is_close c step.event)) steps ≡ true
    → list_any (λ step. not (step.actor == w) && is_close c step.event) steps ≡ true
by_others c w [] any none = absurd (cc)
by_others {A} c w (step ∷ steps) any none =
    let parts = and_parts (not (step.actor == w) || not (is_close c step.event)) (list_all (λ (x : Step A). not (x.actor == w) || not (is_close c x.event)) steps) none in
    other_step (step.actor == w) (is_close c step.event) (list_any (λ (x : Step A). is_close c x.event) steps) (list_any (λ (x : Step A). not (x.actor == w) && is_close c x.event) steps) any parts.0
    (λ more. by_others c w steps more parts.1)

-- where somebody closed c, and actor w didn't, another did
pub closed_by_others : {A : Type 0} (c w : ℕ) (steps : List (Step A)) → list_any (λ step. is_close c step.event) steps ≡ true → list_all (λ r. not (is_close c r.event)) (mine steps w) ≡ true
    → list_any (λ step. not (step.actor == w) && is_close c step.event) steps ≡ true
closed_by_others {A} c w steps any none = by_others c w steps any (all_mine (λ (event : Event A). not (is_close c event)) w 0 steps none)

-- where what all receipts pass keeps c open, none of them closes it
none_closes : {A : Type 0} (c : ℕ) (f : Event A → Bool) (own : List (Receipt A)) → ((event : Event A) → f event ≡ true → is_close c event ≡ false) → list_all (λ r. f r.event) own ≡ true → list_all (λ r. not (is_close c r.event)) own ≡ true
none_closes c f [] keeps all = refl
none_closes {A} c f (r ∷ own) keeps all =
    let parts = and_parts (f r.event) (list_all (λ (x : Receipt A). f x.event) own) all in
    rw (keeps r.event parts.0) (none_closes c f own keeps parts.1)

-- who has another connection, or none, doesn't close c
keeps_open : (o : Option ℕ) (c d : ℕ) → (o ≡ Some c → ⊥) → is_at d o ≡ true → (c == d) ≡ false
keeps_open None c d other is = absurd (cc)
keeps_open (Some x) c d other is = ne_eqb c d (λ same. other (ap (λ (n : ℕ). Some n) (sym (same ∙ exact_unsigned_eq d x is))))

reader_keeps : {A : Type 0} (o : Option ℕ) (c : ℕ) → (o ≡ Some c → ⊥) → (event : Event A) → is_readers o event ≡ true → is_close c event ≡ false
reader_keeps o c other (Close d) is = keeps_open o c d other is
reader_keeps o c other event is = refl

writer_keeps : {A : Type 0} (o : Option ℕ) (c : ℕ) → (o ≡ Some c → ⊥) → (event : Event A) → is_writers o event ≡ true → is_close c event ≡ false
writer_keeps o c other (Close d) is = keeps_open o c d other is
writer_keeps o c other event is = refl

house_keeps : {A : Type 0} (originates : Bool) (c : ℕ) (event : Event A) → is_houses originates event ≡ true → is_close c event ≡ false
house_keeps true c (Close d) is = absurd (cc)
house_keeps false c (Close d) is = absurd (cc)
house_keeps originates c event is = refl

-- links of one connection are one
same_link : {A : Type 0} {originates : Bool} (s : Config) (steps : List (Step A)) (conns : List (Option ℕ)) (j k c : ℕ) → IsLegal s (reverse steps) → AreLikewise originates steps conns → j < length conns → k < length conns → get_or conns j None ≡ Some c
    → get_or conns k None ≡ Some c → j ≡ k
same_link {A} s steps conns j k c legal compared at inside one two =
    connected_to_one A s steps c j k legal (known_some (mine steps j) c (sym (compared.connected j at) ∙ one)) (known_some (mine steps k) c (sym (compared.connected k inside) ∙ two))

-- where somebody closed the connection of link k, and its reader didn't, its writer did
pub closed_by_writer : {A : Type 0} {originates : Bool} (s : Config) (steps : List (Step A)) (conns : List (Option ℕ)) (k c : ℕ) → IsLegal s (reverse steps) → AreLikewise originates steps conns → k < length conns → get_or conns k None ≡ Some c
    → list_all (λ r. not (is_close c r.event)) (mine steps k) ≡ true → list_any (λ step. is_close c step.event) steps ≡ true → list_any (λ step. (step.actor == (length conns + k)) && is_close c step.event) steps ≡ true
closed_by_writer {A} {originates} s steps conns k c legal compared inside conn none any =
    let n = length conns in
    closed_by c (n + k) steps any
    (λ a other.
    elim (cases_lt a n) as (λ x. list_all (λ r. not (is_close c r.event)) (mine steps a) ≡ true) [
      | inl low ↦ elim (cases_eq a k) as (λ x. list_all (λ r. not (is_close c r.event)) (mine steps a) ≡ true) [
        | inl same ↦ subst (λ i. list_all (λ (r : Receipt A). not (is_close c r.event)) (mine steps i) ≡ true) (sym same) none
        | inr apart ↦ none_closes c (is_readers (get_or conns a None)) (mine steps a) (reader_keeps (get_or conns a None) c (λ is. apart (same_link s steps conns a k c legal compared low inside is conn))) (compared.readers a low)
      ]
      | inr high ↦ elim (cases_lt a (n + n)) as (λ x. list_all (λ r. not (is_close c r.event)) (mine steps a) ≡ true) [
        | inl low ↦
            let j : ℕ = a - n in
            let within : j < n = omega arith in
            let is : a ≡ n + j = omega arith in
            let apart : j ≡ k → ⊥ = λ same. other (is ∙ ap (λ i. n + i) same) in
            subst (λ i. list_all (λ (r : Receipt A). not (is_close c r.event)) (mine steps i) ≡ true) (sym is)
            (none_closes c (is_writers (get_or conns j None)) (mine steps (n + j)) (writer_keeps (get_or conns j None) c (λ here. apart (same_link s steps conns j k c legal compared within inside here conn))) (compared.writers j within))
        | inr beyond ↦ none_closes c (is_houses originates) (mine steps a) (house_keeps originates c) (compared.others a beyond)
      ]
    ])
