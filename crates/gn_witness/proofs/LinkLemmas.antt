-- A link, one step on.
use Rattle.std.proofs.Common.{◌≡◌, ◌==◌, ℕ, ◌+◌, ◌<◌, ◌≤◌, true, false, cond, if◌then◌else◌, List, [], ◌∷◌, ◌++◌, get_or, take, drop, reverse, length, Option, Some, None, inl, inr, refl, sym, ap, subst, ◌∙◌}
use Rattle.std.specs.List.{Contains}
use Rattle.std.specs.Option.{option_to_list}
use Rattle.std.proofs.lemmas.List.{reverse-append, take_all, take-append-drop}
use Rattle.std.proofs.lemmas.List.Elements.{Contains-append_cases, Contains-append_left, Contains-append_right, Contains-push}
use Rattle.gn_wire.specs.Packet.{Packet}
use Rattle.gn_rules.specs.declared.event.Event.{Event}
use Rattle.gn_rules.specs.declared.event.Event.TheVariants.{Admit}
use Rattle.gn_rules.specs.declared.receipt.Step.{Step}
use Rattle.gn_rules.specs.declared.reply.Reply.{Reply}
use Rattle.gn_rules.specs.declared.reply.Reply.TheVariants.{Admitted}
use Rattle.gn_rules.specs.History.{is_take, taken_of}
use Rattle.gn_rules.specs.Output.{taken}
use Rattle.gn_rules.proofs.PastLemmas.{past_more}
use Rattle.gn_paths.specs.Networks.{Carries}
use Rattle.gn_paths.specs.Sends.{admitted_by, admitted_on}
use Rattle.gn_paths.proofs.OriginLemmas.{in_cons, none_in}

-- one that is given is the one of the list
pub given_in : {X : Type 0} (o : Option X) (x : X) → o ≡ Some x → Contains (option_to_list o) x
given_in None x e = absurd (cc)
given_in (Some y) x e = let same : y ≡ x = cc in subst (λ z. Contains (y ∷ []) z) same (Contains-push [] y)

-- one of an option's list is given
in_given : {X : Type 0} (o : Option X) (x : X) → Contains (option_to_list o) x → o ≡ Some x
in_given None x has = absurd (none_in x has)
in_given (Some y) x has = elim (in_cons y [] x has) as (λ w. Some y ≡ Some x) [
  | inl same ↦ ap (λ z. Some z) same
  | inr none ↦ absurd (none_in x none)
]

-- what was taken stays taken
taken_later : {A : Type 0} (later earlier : List (Step A)) (c : ℕ) (p : Packet) → Contains (taken earlier c) p → Contains (taken (later ++ earlier) c) p
taken_later [] earlier c p has = has
taken_later (step ∷ later) earlier c p has =
    Contains-append_left (taken (later ++ earlier) c) (option_to_list (if is_take c step.event then taken_of step.reply else None)) p (taken_later later earlier c p has)

-- a history's later part stands before its earlier one, the newest step first
pub parts : {A : Type 0} (steps : List (Step A)) (i : ℕ) → reverse steps ≡ reverse (drop i steps) ++ reverse (take i steps)
parts steps i = ap reverse (sym (take-append-drop i steps)) ∙ reverse-append (take i steps) (drop i steps)

module _ {A : Type 0} (steps : List (Step A)) (i : ℕ) (step : Step A) (within : i < length steps) (is : step ≡ get_or steps i step) where
  -- any step stands after those before it
  pub stands_at : reverse steps ≡ reverse (drop (i + 1) steps) ++ step ∷ reverse (take i steps)
  stands_at = parts steps (i + 1) ∙ ap (λ past. reverse (drop (i + 1) steps) ++ past) (past_more steps i step within is)

  -- what any step takes was taken
  pub taken_at : (c : ℕ) (p : Packet) → (if is_take c step.event then taken_of step.reply else None) ≡ Some p → Contains (taken (reverse steps) c) p
  taken_at c p now =
      subst (λ (past : List (Step A)). Contains (taken past c) p) (sym stands_at)
      (taken_later (reverse (drop (i + 1) steps)) (step ∷ reverse (take i steps)) c p
      (Contains-append_right (taken (reverse (take i steps)) c) (option_to_list (if is_take c step.event then taken_of step.reply else None)) p
      (given_in (if is_take c step.event then taken_of step.reply else None) p now)))

  -- a link that carries what the steps before admitted, and what this one does, carries what both do
  pub carries_more : (first : List (Step A)) (c d : ℕ) → ((p : Packet) → admitted_by d step.event step.reply ≡ Some p → Contains (taken first c) p)
      → Carries first c (reverse (take i steps)) d → Carries first c (reverse (take (i + 1) steps)) d
  carries_more first c d now before =
      subst (λ (past : List (Step A)). Carries first c past d) (sym (past_more steps i step within is))
      (λ p has. elim (Contains-append_cases (admitted_on (reverse (take i steps)) d) (option_to_list (admitted_by d step.event step.reply)) p has) as (λ w. Contains (taken first c) p) [
        | inl earlier ↦ before p earlier
        | inr last ↦ now p (in_given (admitted_by d step.event step.reply) p last)
      ])

-- what an admission admits on d is its descriptor
its : {A : Type 0} (reply : Reply A) (e d : ℕ) (q p : Packet) → admitted_by d (Admit e q) reply ≡ Some p → ((e == d) ≡ true) × (q ≡ p)
its (Admitted t) e d q p h =
    elim (e == d) as (λ b. cond {A = Option Packet} b (Some q) None ≡ Some p → (b ≡ true) × (q ≡ p)) [
      | true ↦ λ s. (refl, cc)
      | false ↦ λ s. absurd (cc)
    ] h
its reply e d q p h = absurd (cc)

pub admits_its : {A : Type 0} (event : Event A) (reply : Reply A) (e d : ℕ) (q p : Packet) → event ≡ Admit e q → admitted_by d event reply ≡ Some p → ((e == d) ≡ true) × (q ≡ p)
admits_its {A} event reply e d q p is h = its reply e d q p (subst (λ (x : Event A). admitted_by d x reply ≡ Some p) is h)

-- all steps are walked
pub walked : {A : Type 0} (steps : List (Step A)) (i : ℕ) → length steps ≤ i → reverse (take i steps) ≡ reverse steps
walked steps i h = ap reverse (take_all i steps h)
