-- Between two steps that keep one key, or send a packet of it, as many others were kept as are remembered.
use Rattle.std.proofs.Common.{◌≡◌, ◌≤◌, ◌<◌, ℕ, zero, suc, Bool, true, false, cond, nat_lt, List, [], ◌∷◌, ◌++◌, length, map, take, is_some, Some, None, Ok, inl, inr, refl, sym, ap, subst, ◌∙◌, arith}
use Rattle.std.specs.List.{AllByRecursion, IsDistinct}
use Rattle.std.specs.Map.{lookup}
use Rattle.std.specs.Option.{option_to_list}
use Rattle.std.proofs.lemmas.Grind.{common_steps}
use Rattle.gn_wire.specs.declared.key.Key.{Key}
use Rattle.gn_wire.specs.Keys.{is_same_key}
use Rattle.gn_rules.specs.declared.config.Config.{Config}
use Rattle.gn_rules.specs.declared.event.Event.{Event}
use Rattle.gn_rules.specs.declared.receipt.Step.{Step}
use Rattle.gn_rules.specs.declared.reply.Reply.{Reply}
use Rattle.gn_rules.specs.Answer.{answer, IsLegal}
use Rattle.gn_rules.specs.History.{sends_of}
use Rattle.gn_rules.specs.SeenEntries.{entry_of, is_remembered, seen_entries}
use Rattle.gn_rules.proofs.LegalLemmas.{legal_before}
use Rattle.gn_paths.specs.Paths.{kept_since}
use Rattle.gn_paths.specs.Sends.{is_kept_kind, sends_of_key, AreOthers, NotSentAgain}
use Rattle.gn_paths.proofs.KeptLemmas.{key_itself, kept_new, seen_since, sends_kept}
use Rattle.gn_paths.proofs.PathLemmas.{below_is}

-- while a key is remembered nothing of it is sent
silent : {A : Type 0} (s : Config) (past : List (Step A)) (event : Event A) (reply : Reply A) (key : Key) → answer s past event ≡ Ok reply → is_kept_kind key.kind ≡ true → is_remembered s past key ≡ true
    → sends_of_key key (sends_of reply) ≡ 0
silent s past event reply key e kept remembered =
    elim (sends_kept s past event reply key e kept) as (λ w. sends_of_key key (sends_of reply) ≡ 0) [
      | inl none ↦ none
      | inr entry ↦
          let new : is_remembered s past key ≡ false = kept_new s past event reply key entry.0 e entry.1 in
          absurd (cc)
    ]

-- an entry is found where fewer than n stand before it
found_within : (t : Key → Bool) (n : ℕ) (xs : List (Key × ℕ)) (entry : Key × ℕ) (rest : List (Key × ℕ)) → t entry.0 ≡ true → length xs < n → is_some (lookup t (take n (xs ++ entry ∷ rest))) ≡ true
found_within t zero xs entry rest is h = absurd (omega (arith, h))
found_within t (suc n) [] entry rest is h = ap (λ b. is_some (cond b (Some entry.1) (lookup t (take n rest)))) is
found_within t (suc n) (x ∷ xs) entry rest is h =
    elim (t x.0) as (λ b. is_some (cond b (Some x.1) (lookup t (take n (xs ++ entry ∷ rest)))) ≡ true) [
      | true ↦ refl
      | false ↦ found_within t n xs entry rest is (omega (arith, h))
    ]

not_below_is : (n m : ℕ) → nat_lt n m ≡ false → m ≤ n
not_below_is n m e = grind (arith, common_steps, e)

-- the keys of entries
abbrev keys : List (Key × ℕ) → List Key
keys entries = map (λ entry. entry.0) entries

-- a key that isn't found in the last m entries differs from the keys of the last n, where n is no more
apart_from : (key : Key) (n m : ℕ) (entries : List (Key × ℕ)) → n ≤ m → is_some (lookup (is_same_key key) (take m entries)) ≡ false → AllByRecursion (λ other. is_same_key key other ≡ false) (keys (take n entries))
apart_from key zero m entries within none = tt
apart_from key (suc n) m [] within none = tt
apart_from key (suc n) zero (e ∷ entries) within none = absurd (omega (arith, within))
apart_from key (suc n) (suc m) (e ∷ entries) within none =
    elim (is_same_key key e.0) as (λ b. is_same_key key e.0 ≡ b → is_some (cond b (Some e.1) (lookup (is_same_key key) (take m entries))) ≡ false → AllByRecursion (λ other. is_same_key key other ≡ false) (e.0 ∷ keys (take n entries))) [
      | true ↦ λ is f. absurd (cc)
      | false ↦ λ is f. (is, apart_from key n m entries (omega (arith, within)) f)
    ] refl none

-- in a legal history the last entries, as many as are remembered, are of different keys
all_differ : {A : Type 0} (s : Config) (past : List (Step A)) (n : ℕ) → IsLegal s past → n ≤ s.numbers.seen → IsDistinct is_same_key (keys (take n (seen_entries past)))
unfolding IsDistinct
all_differ s past zero legal within = tt
all_differ s [] (suc n) legal within = tt
all_differ {A} s (step ∷ past) (suc n) legal within =
    elim (entry_of past step.event step.reply) as (λ o. entry_of past step.event step.reply ≡ o → IsDistinct is_same_key (keys (take (suc n) (option_to_list o ++ seen_entries past)))) [
      | None ↦ λ e. all_differ s past (suc n) legal.1 within
      | Some entry ↦ λ e.
          let new : is_remembered s past entry.0 ≡ false = kept_new s past step.event step.reply entry.0 entry.1 legal.0 e in
          (apart_from entry.0 n s.numbers.seen (seen_entries past) (omega (arith, within)) new, all_differ s past n legal.1 (omega (arith, within)))
    ] refl

contrary : true ≡ false → ⊥
contrary e = cc

-- so many entries, where there are as many
take_first : {X : Type 0} (n : ℕ) (xs ys : List X) → n ≤ length xs → take n (xs ++ ys) ≡ take n xs
take_first zero xs ys h = refl
take_first (suc n) [] ys h = absurd (omega (arith, h))
take_first (suc n) (x ∷ xs) ys h = ap (λ zs. x ∷ zs) (take_first n xs ys (omega (arith, h)))

-- between two steps that keep one key others were kept
between_keeps : {A : Type 0} (s : Config) (second : Step A) (between : List (Step A)) (first : Step A) (earlier : List (Step A)) (key : Key) (c d : ℕ) → IsLegal s (second ∷ between ++ first ∷ earlier)
    → entry_of earlier first.event first.reply ≡ Some (key, c) → entry_of (between ++ first ∷ earlier) second.event second.reply ≡ Some (key, d) → AreOthers s.numbers.seen key (kept_since between (first ∷ earlier))
unfolding IsDistinct
between_keeps {A} s second between first earlier key c d legal once again = record {
  many = many;
  different = (
    subst (λ es. AllByRecursion (λ other. is_same_key key other ≡ false) (keys es)) last (apart_from key s.numbers.seen s.numbers.seen (seen_entries past) (omega arith) new),
    subst (λ es. IsDistinct is_same_key (keys es)) last (all_differ s past s.numbers.seen legal.1 (omega arith)),
  );
}
  where
    past : List (Step A)
    past = between ++ first ∷ earlier

    since : List (Key × ℕ)
    since = kept_since between (first ∷ earlier)

    new : is_remembered s past key ≡ false
    new = kept_new s past second.event second.reply key d legal.0 again

    seen : seen_entries past ≡ since ++ (key, c) ∷ seen_entries earlier
    seen = seen_since between (first ∷ earlier) ∙ ap (λ o. since ++ (option_to_list o ++ seen_entries earlier)) once

    many : s.numbers.seen ≤ length since
    many =
        elim (nat_lt (length since) s.numbers.seen) as (λ b. nat_lt (length since) s.numbers.seen ≡ b → s.numbers.seen ≤ length since) [
          | false ↦ λ h. not_below_is (length since) s.numbers.seen h
          | true ↦ λ h.
              let found = found_within (is_same_key key) s.numbers.seen since (key, c) (seen_entries earlier) (key_itself key) (below_is (length since) s.numbers.seen h) in
              let old : is_remembered s past key ≡ true = ap (λ es. is_some (lookup (is_same_key key) (take s.numbers.seen es))) seen ∙ found in
              absurd (contrary (sym old ∙ new))
        ] refl

    last : take s.numbers.seen (seen_entries past) ≡ take s.numbers.seen since
    last = ap (take s.numbers.seen) seen ∙ take_first s.numbers.seen since ((key, c) ∷ seen_entries earlier) many

-- what sends a packet of a key keeps it
keeps_sent : {A : Type 0} (s : Config) (past : List (Step A)) (event : Event A) (reply : Reply A) (key : Key) → answer s past event ≡ Ok reply → is_kept_kind key.kind ≡ true → 0 < sends_of_key key (sends_of reply)
    → (c : ℕ) × (entry_of past event reply ≡ Some (key, c))
keeps_sent s past event reply key e kept some =
    elim (sends_kept s past event reply key e kept) as (λ w. (c : ℕ) × (entry_of past event reply ≡ Some (key, c))) [
      | inl none ↦ absurd (omega (arith, some, none))
      | inr entry ↦ entry
    ]

-- between two steps that send a packet of one key
between_sends : {A : Type 0} (s : Config) (second : Step A) (between : List (Step A)) (first : Step A) (earlier : List (Step A)) (key : Key) → IsLegal s (second ∷ between ++ first ∷ earlier) → is_kept_kind key.kind ≡ true
    → 0 < sends_of_key key (sends_of first.reply) → 0 < sends_of_key key (sends_of second.reply) → AreOthers s.numbers.seen key (kept_since between (first ∷ earlier))
between_sends s second between first earlier key legal kept once again =
    let before = legal_before s between (first ∷ earlier) legal.1 in
    let one = keeps_sent s earlier first.event first.reply key before.0 kept once in
    let two = keeps_sent s (between ++ first ∷ earlier) second.event second.reply key legal.0 kept again in
    between_keeps s second between first earlier key one.0 two.0 legal one.1 two.1

pub not_sent_again : (A : Type 0) → NotSentAgain A
not_sent_again A = record {
  silent = λ s past event reply key e kept remembered. silent s past event reply key e kept remembered;
  kept = λ s second between first earlier key c d legal once again. between_keeps s second between first earlier key c d legal once again;
  sent = λ s second between first earlier key legal kept once again. between_sends s second between first earlier key legal kept once again;
}
