-- What is counted of links as they end; and what that says once all have ended.
use Rattle.std.proofs.Common.{◌≡◌, ◌≤◌, ◌<◌, ◌&&◌, ◌||◌, ◌≢◌, ◌⊎◌, ℕ, zero, suc, Bool, true, false, not, List, [], ◌∷◌, ◌++◌, length, map, get_or, set, Option, Some, None, refl, sym, ap, ◌∙◌, subst, inl, inr, arith}
use Rattle.std.specs.List.{list_all, slice_get}
use Rattle.std.proofs.Math.Bool.{or-true}
use Rattle.std.proofs.lemmas.Bool.{and_parts, cases_eq}
use Rattle.std.specs.Option.{option_map}
use Rattle.std.proofs.lemmas.Option.{slice_get_within, slice_get-get_or, slice_get-map}
use Rattle.gn_shake.specs.declared.role.Role.{Role}
use Rattle.gn_shake.specs.Greeting.{is_calling}
use Rattle.gn_bodies.specs.declared.ends.ReaderEnd.TheVariants.{NotLive}
use Rattle.gn_bodies.specs.declared.ends.WriterEnd.{WriterEnd}
use Rattle.gn_bodies.specs.declared.ends.WriterEnd.TheVariants.{Drained, WriteFailed}
use Rattle.gn_report.specs.declared.account.LinkAccount.{LinkAccount}
use Rattle.gn_report.specs.declared.account.LinkEnd.{LinkEnd}
use Rattle.gn_report.specs.declared.account.LinkEnd.TheVariants.{Cut, Whole}
use Rattle.gn_report.specs.declared.account.LinkTally.{LinkTally}
use Rattle.gn_report.specs.declared.looks.Looks.{Looks}
use Rattle.gn_report.specs.BodyEnds.{may_close_first}
use Rattle.gn_report.specs.Looks.{AreCounted, AreRight, CountsSay, IsBefore, IsCounted, IsFrom, calls_so_far}

pub get_set_same : {X : Type 0} (xs : List X) (i : ℕ) (x : X) → i < length xs → slice_get (set xs i x) i ≡ Some x
get_set_same [] i x h = absurd (omega (arith, h))
get_set_same (y ∷ ys) zero x h = refl
get_set_same (y ∷ ys) (suc i) x h = get_set_same ys i x (omega (arith, h))

pub get_set_other : {X : Type 0} (xs : List X) (i j : ℕ) (x : X) → j ≢ i → slice_get (set xs i x) j ≡ slice_get xs j
get_set_other [] i j x h = refl
get_set_other (y ∷ ys) zero zero x h = absurd (h refl)
get_set_other (y ∷ ys) zero (suc j) x h = refl
get_set_other (y ∷ ys) (suc i) zero x h = refl
get_set_other (y ∷ ys) (suc i) (suc j) x h = get_set_other ys i j x (λ e. h (ap suc e))

-- what stands in a list with one more stood there before, or is that one
get_push : {X : Type 0} (xs : List X) (x y : X) (k : ℕ) → slice_get (xs ++ x ∷ []) k ≡ Some y → (slice_get xs k ≡ Some y) ⊎ (x ≡ y)
get_push [] x y zero h = inr (cc)
get_push [] x y (suc k) h = absurd (cc)
get_push (z ∷ zs) x y zero h = inl h
get_push (z ∷ zs) x y (suc k) h = get_push zs x y k h

swapped : (b c : Bool) → (b && c) ≡ (c && b)
swapped true true = refl
swapped true false = refl
swapped false true = refl
swapped false false = refl

grouped : (b c d : Bool) → (b && (c && d)) ≡ ((b && c) && d)
grouped true c d = refl
grouped false c d = refl

-- where one of a list that passes a test makes way for another
all_set : {X : Type 0} (p : X → Bool) (xs : List X) (k : ℕ) (x y : X) → slice_get xs k ≡ Some x → p x ≡ true → list_all p (set xs k y) ≡ (list_all p xs && p y)
all_set p [] k x y at passes = absurd (cc)
all_set {X} p (z ∷ zs) zero x y at passes =
    let same : z ≡ x = cc in
    let here : p z ≡ true = ap p same ∙ passes in
    rw here (swapped (p y) (list_all p zs))
all_set p (z ∷ zs) (suc k) x y at passes = ap (λ b. p z && b) (all_set p zs k x y at passes) ∙ grouped (p z) (list_all p zs) (p y)

-- looks that count what others count, and more
pub record CountMore (old new : Looks) : Type 0 where
  pub read : old.read_until ≤ new.read_until
  pub called : old.called_until ≤ new.called_until
  pub drained : (place : ℕ) → IsFrom old.drained_from place → IsFrom new.drained_from place
  pub needs : old.needs_caller ≡ true → new.needs_caller ≡ true

module _ {Rd W A : Type 0} where
  still_counted : (old new : Looks) (link : LinkAccount Rd W A) → CountMore old new → IsCounted old link → IsCounted new link
  still_counted old new link more is = record {
    read = λ plain. let low = is.read plain in omega (arith, low, more.read);
    called = λ calls. let low = is.called calls in omega (arith, low, more.called);
    drained = λ drained. more.drained link.last_written (is.drained drained);
    needs = λ found drained. more.needs (is.needs found drained);
  }

  -- no link came yet
  pub counted_none : (looks : Looks) → looks.all_call ≡ true → AreCounted {Rd = Rd} {W = W} {A = A} looks []
  counted_none looks calls = record { each = λ k link at. absurd (cc at); calls = calls }

  -- one more came
  pub counted_came : (looks : Looks) (links : List (Option (LinkEnd Rd W A))) → AreCounted looks links → AreCounted looks (links ++ None ∷ [])
  counted_came looks links are = record {
    each = λ k link at.
        elim (get_push links None (Some (Whole link)) k at) as (λ x. IsCounted looks link) [
          | inl old ↦ are.each k link old
          | inr new ↦ absurd (cc new)
        ];
    calls = are.calls ∙ sym (all_push links);
  }
    where
      all_push : (all : List (Option (LinkEnd Rd W A))) → list_all calls_so_far (all ++ None ∷ []) ≡ list_all calls_so_far all
      all_push [] = refl
      all_push (end ∷ all) = ap (λ b. calls_so_far end && b) (all_push all)

  -- both bodies of one have ended
  pub counted_ended : (old new : Looks) (links : List (Option (LinkEnd Rd W A))) (k : ℕ) (link : LinkAccount Rd W A) → CountMore old new → IsCounted new link → new.all_call ≡ (old.all_call && is_calling link.role)
      → slice_get links k ≡ Some None → AreCounted old links → AreCounted new (set links k (Some (Whole link)))
  counted_ended old new links k link more here calls at are =
      let below = slice_get_within links k None at in
      record {
        each = λ j other is.
            elim (cases_eq j k) as (λ x. IsCounted new other) [
              | inl same ↦
                  let both : Some (Some (Whole link)) ≡ Some (Some (Whole other)) = sym (get_set_same links k (Some (Whole link)) below) ∙ subst (λ n. slice_get (set links k (Some (Whole link))) n ≡ Some (Some (Whole other))) same is in
                  let link_is : link ≡ other = (cc both) in
                  subst (λ l. IsCounted new l) link_is here
              | inr apart ↦ still_counted old new other more (are.each j other (sym (get_set_other links k j (Some (Whole link)) apart) ∙ is))
            ];
        calls = calls ∙ ap (λ b. b && is_calling link.role) are.calls ∙ sym (all_set calls_so_far links k None (Some (Whole link)) at refl);
      }

  -- so where these are the counts with it
  pub counted_one : (old : Looks) (link : LinkAccount Rd W A) (read called : ℕ) (from : Option ℕ) (calls drained found : Bool) → calls ≡ is_calling link.role
      → (link.writer_end ≡ Drained → drained ≡ true) → (link.reader_end ≡ NotLive → found ≡ true) → (old.read_until ≤ read) × (not calls ≡ true → link.last_read ≤ read)
      → (old.called_until ≤ called) × (calls ≡ true → link.last_read ≤ called) → ((place : ℕ) → IsFrom old.drained_from place → IsFrom from place) → (drained ≡ true → IsFrom from link.last_written)
      → (links : List (Option (LinkEnd Rd W A))) (k : ℕ) → slice_get links k ≡ Some None → AreCounted old links
      → AreCounted (record { read_until = read; called_until = called; drained_from = from; all_call = old.all_call && calls; needs_caller = old.needs_caller || (found && drained) }) (set links k (Some (Whole link)))
  counted_one old link read called from calls drained found calls_is drains finds reading calling was now links k at are =
      let new : Looks = record { read_until = read; called_until = called; drained_from = from; all_call = old.all_call && calls; needs_caller = old.needs_caller || (found && drained) } in
      let more : CountMore old new = record {
        read = reading.0;
        called = calling.0;
        drained = was;
        needs = λ is. ap (λ b. b || (found && drained)) is;
      } in
      let here : IsCounted new link = record {
        read = λ plain. reading.1 (ap not (calls_is ∙ plain));
        called = λ is. calling.1 (calls_is ∙ is);
        drained = λ is. now (drains is);
        needs = λ closed is. ap (λ b. old.needs_caller || (b && drained)) (finds closed) ∙ ap (λ b. old.needs_caller || b) (drains is) ∙ or-true old.needs_caller;
      } in
      counted_ended old new links k link more here (ap (λ b. old.all_call && b) calls_is) at are

  -- one was cut off
  pub counted_cut : (looks : Looks) (links : List (Option (LinkEnd Rd W A))) (k : ℕ) (tally : LinkTally) → slice_get links k ≡ Some None → AreCounted looks links → AreCounted looks (set links k (Some (Cut tally)))
  counted_cut looks links k tally at are =
      let below = slice_get_within links k None at in
      record {
        each = λ j other is.
            elim (cases_eq j k) as (λ x. IsCounted looks other) [
              | inl same ↦
                  let both : Some (Some (Cut tally)) ≡ Some (Some (Whole other)) = sym (get_set_same links k (Some (Cut tally)) below) ∙ subst (λ n. slice_get (set links k (Some (Cut tally))) n ≡ Some (Some (Whole other))) same is in
                  absurd (cc both)
              | inr apart ↦ are.each j other (sym (get_set_other links k j (Some (Cut tally)) apart) ∙ is)
            ];
        calls = are.calls ∙ sym (all_set calls_so_far links k None (Some (Cut tally)) at refl ∙ swapped (list_all calls_so_far links) true);
      }

  -- once all have ended
  all_whole : (links : List (LinkAccount Rd W A)) → list_all calls_so_far (map (λ link. Some (Whole link)) links) ≡ list_all (λ link. is_calling link.role) links
  all_whole [] = refl
  all_whole (link ∷ links) = ap (λ b. is_calling link.role && b) (all_whole links)

  counted_at : (looks : Looks) (links : List (LinkAccount Rd W A)) → AreCounted looks (map (λ link. Some (Whole link)) links) → (k : ℕ) (d : LinkAccount Rd W A) → k < length links → IsCounted looks (get_or links k d)
  counted_at looks links are k d below =
      let whole : LinkAccount Rd W A → Option (LinkEnd Rd W A) = λ link. Some (Whole link) in
      are.each k (get_or links k d) (slice_get-map whole links k ∙ ap (option_map whole) (slice_get-get_or links k d below))

-- a place that isn't after one that is before a third one
before_from : (p q r : ℕ) (from : Option ℕ) → p ≤ q → IsBefore q from → IsFrom from r → p < r
before_from p q r None low before is = absurd is
before_from p q r (Some from) low before is = omega (arith, low, before, is)

-- who may close first where not all links call
may_close : (all_call : Bool) (role : Role) (end : WriterEnd) → may_close_first false role end ≡ true → (end ≡ Drained → all_call ≡ true → ⊥) → may_close_first all_call role end ≡ true
may_close all_call role WriteFailed may not_both = refl
may_close true role Drained may not_both = absurd (not_both refl refl)
may_close false role Drained may not_both = may
may_close all_call role end may not_both = absurd (cc)

-- a reader that is awaited, of a link that calls or not
awaited_calls : (all_call calls : Bool) → (all_call || not calls) ≡ true → calls ≡ true → all_call ≡ true
awaited_calls true calls awaited is = refl
awaited_calls false true awaited is = awaited
awaited_calls false false awaited is = is

-- what looks say that are right
or_not : (a b : Bool) → (not a || b) ≡ true → a ≡ true → b ≡ true
or_not true b either is = either
or_not false b either is = absurd (cc)

is_false : (b : Bool) → not b ≡ true → b ≡ false
is_false true is = absurd (cc)
is_false false is = refl

pub right_when : (looks : Looks) (read called : Bool) → (read ≡ true → IsBefore looks.read_until looks.drained_from) → (called ≡ true → IsBefore looks.called_until looks.drained_from)
    → (read && (not looks.all_call || (called && not looks.needs_caller))) ≡ true → AreRight looks
right_when looks read called reading calling all =
    let parts = and_parts read (not looks.all_call || (called && not looks.needs_caller)) all in
    record {
      read = reading parts.0;
      called = λ is. calling (and_parts called (not looks.needs_caller) (or_not looks.all_call (called && not looks.needs_caller) parts.1 is)).0;
      first = λ is. is_false looks.needs_caller (and_parts called (not looks.needs_caller) (or_not looks.all_call (called && not looks.needs_caller) parts.1 is)).1;
    }

pub counts_say : (Rd W A : Type 0) → CountsSay Rd W A
counts_say Rd W A looks links are right =
    let all_call : Bool = list_all (λ (link : LinkAccount Rd W A). is_calling link.role) links in
    let same : looks.all_call ≡ all_call = are.calls ∙ all_whole links in
    record {
      later = λ j k d low high awaited drained.
          let reading = counted_at looks links are j d low in
          let writing = (counted_at looks links are k d high).drained drained in
          let read : ℕ = (get_or links j d).last_read in
          let written : ℕ = (get_or links k d).last_written in
          elim (is_calling (get_or links j d).role) as (λ b. is_calling (get_or links j d).role ≡ b → read < written) [
            | true ↦ λ calls. before_from read looks.called_until written looks.drained_from (reading.called calls) (right.called (same ∙ awaited_calls all_call (is_calling (get_or links j d).role) awaited calls)) writing
            | false ↦ λ plain. before_from read looks.read_until written looks.drained_from (reading.read plain) right.read writing
          ] refl;
      first = λ k d below found may.
          let one = counted_at looks links are k d below in
          may_close all_call (get_or links k d).role (get_or links k d).writer_end may
          (λ drained calls. let no : true ≡ false = sym (one.needs found drained) ∙ right.first (same ∙ calls) in absurd (cc no));
    }
