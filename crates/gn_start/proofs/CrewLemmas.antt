-- The workers of a run, as they start and as they are joined.
use Rattle.std.proofs.Common.{◌≡◌, ◌<◌, ◌≤◌, ◌+◌, ◌&&◌, ℕ, Bool, true, false, List, [], ◌∷◌, ◌++◌, Option, None, length, map, suc, zero, refl, sym, ap, ◌∙◌, subst, arith}
use Rattle.std.specs.Prelude.{IfSome}
use Rattle.std.specs.List.{list_all}
use Rattle.std.proofs.lemmas.List.{map_push}
use Rattle.gn_rules.specs.declared.receipt.Receipt.{Receipt}
use Rattle.gn_actors.specs.ActorState.{ActorState}
use Rattle.gn_rules.specs.declared.receipt.Step.{Step}
use Rattle.gn_actors.specs.Registry.{RegistryState, registry_state, with_one_out}
use Rattle.gn_actors.specs.Who.{number_of}
use Rattle.gn_actors.specs.declared.who.Numbering.{Numbering}
use Rattle.gn_actors.specs.declared.who.Numbering.TheVariants.{Known, Open}
use Rattle.gn_actors.specs.declared.who.Who.TheVariants.{Worker}
use Rattle.gn_bodies.specs.declared.worker.WorkerDone.{WorkerDone}
use Rattle.gn_report.specs.Accounts.{is_routing}
use Rattle.gn_start.specs.Crews.{AreWorked, count_from}
use Rattle.gn_start.specs.Faults.{IsFaultOf}
use Rattle.gn_start.specs.Joined.{IsWorkerJoined}
use Rattle.gn_start.specs.declared.crew.Worked.{Worked}
use Rattle.gn_start.specs.declared.fault.RunFault.{RunFault}

-- workers have their numbers in order
worker_number : (m : Numbering) (j : ℕ) → number_of m (Worker j) ≡ number_of m (Worker 0) + j
worker_number (Known n v) j = omega arith
worker_number (Open v) j = omega arith

pub next_number : (m : Numbering) (j n : ℕ) → n ≡ number_of m (Worker j) → n ≡ number_of m (Worker 0) + j
next_number m j n is = is ∙ worker_number m j

pub counted_more : (first n : ℕ) → count_from first n ++ (first + n) ∷ [] ≡ count_from first (n + 1)
counted_more first zero = ap (λ (k : ℕ). k ∷ []) (omega arith)
counted_more first (suc n) =
    let next : first + suc n ≡ suc first + n = omega arith in
    let more : suc (n + 1) ≡ suc n + 1 = omega arith in
    ap (λ (ks : List ℕ). first ∷ ks) (ap (λ (k : ℕ). count_from (suc first) n ++ k ∷ []) next ∙ counted_more (suc first) n) ∙ ap (count_from first) more

-- with one more
pub one_more : {X : Type 0} (number : X → ℕ) (first n : ℕ) (xs xs' : List X) (x : X) → xs' ≡ xs ++ x ∷ [] → number x ≡ first + n → map number xs ≡ count_from first n → map number xs' ≡ count_from first (n + 1)
one_more number first n xs xs' x e is are = ap (map number) e ∙ map_push number xs x ∙ ap (λ (ks : List ℕ). ks ++ number x ∷ []) are ∙ ap (λ (k : ℕ). count_from first n ++ k ∷ []) is ∙ counted_more first n

-- one more is out
pub one_more_out : {A : Type 0} (lists : List (List (Receipt A))) (seen : List (Step A)) (n : ℕ) (r r' : RegistryState A) → r' ≡ with_one_out r → r ≡ registry_state lists n seen → r' ≡ registry_state lists (n + 1) seen
one_more_out lists seen n r r' is was = is ∙ ap with_one_out was

all_more : {X : Type 0} (p : X → Bool) (xs : List X) (x : X) → list_all p xs ≡ true → p x ≡ true → list_all p (xs ++ x ∷ []) ≡ true
all_more p [] x all is = rw is refl
all_more {X} p (y ∷ ys) x all is =
    elim (p y) as (λ b. (b && list_all p ys) ≡ true → (b && list_all p (ys ++ x ∷ [])) ≡ true) [
      | true ↦ λ rest. all_more p ys x rest is
      | false ↦ λ no. absurd (cc no)
    ] all

-- while workers are joined, so many still to be
pub record Joining {H B A : Type 0} (number : H → ℕ) (first many all : ℕ) (lost : Bool) (rest : List H) (worked : Worked B A) : Type 0 where
  pub joined : ℕ
  pub left : joined + length rest ≡ all
  pub most : all ≤ many
  pub numbers : map number rest ≡ count_from (first + joined) (length rest)
  pub kept : worked.is_lost ≡ false → (lost ≡ false) × (map (λ me. me.number) worked.actors.items ≡ count_from first joined) × (list_all (λ me. is_routing me.receipts) worked.actors.items ≡ true)
  pub faults : (links workers : ℕ) → first + many ≤ links + links + workers + 1 → IfSome worked.fault (λ f. IsFaultOf links workers f)

module _ {H B A : Type 0} (number : H → ℕ) (first many all : ℕ) (lost : Bool) where
  pub none_joined : (rest : List H) (worked : Worked B A) → map number rest ≡ count_from first all → length rest ≡ all → all ≤ many → worked.is_lost ≡ lost → worked.actors.items ≡ [] → worked.fault ≡ None → Joining number first many all lost rest worked
  none_joined rest worked numbers long most is none faultless = record {
    joined = 0;
    left = omega (arith, long);
    most = most;
    numbers = numbers ∙ ap (count_from first) (sym long) ∙ ap (λ k. count_from k (length rest)) (omega arith);
    kept = λ not. (sym is ∙ not, ap (map (λ (me : ActorState A). me.number)) none, ap (list_all (λ (me : ActorState A). is_routing me.receipts)) none);
    faults = λ links workers room. subst (λ (f : Option RunFault). IfSome f (λ f. IsFaultOf links workers f)) (sym faultless) tt;
  }

  pub one_joined : (rest rest' : List H) (h : H) (done : WorkerDone B A) (worked worked' : Worked B A) → Joining number first many all lost rest worked → rest ≡ h ∷ rest' → IsWorkerJoined (number h) done
      → (worked'.is_lost ≡ false → (worked.is_lost ≡ false) × (worked'.actors.items ≡ worked.actors.items ++ done.actor ∷ []))
      → ((links workers : ℕ) → IfSome worked.fault (λ f. IsFaultOf links workers f) → done.actor.number < links + links + workers + 1 → IfSome worked'.fault (λ f. IsFaultOf links workers f))
      → Joining number first many all lost rest' worked'
  one_joined rest rest' h done worked worked' was e is kept faults =
      let left : was.joined + suc (length rest') ≡ all = ap (λ n. was.joined + n) (ap length (sym e)) ∙ was.left in
      let most = was.most in
      let both : number h ∷ map number rest' ≡ (first + was.joined) ∷ count_from (suc (first + was.joined)) (length rest') = ap (map number) (sym e) ∙ was.numbers ∙ ap (λ (n : ℕ). count_from (first + was.joined) n) (ap length e) in
      let own : number h ≡ first + was.joined = (cc both) in
      let rest_are : map number rest' ≡ count_from (suc (first + was.joined)) (length rest') = (cc both) in
      let is_number : done.actor.number ≡ first + was.joined = is.number ∙ own in
      record {
        joined = was.joined + 1;
        left = omega (arith, left);
        most = was.most;
        numbers = rest_are ∙ ap (λ (n : ℕ). count_from n (length rest')) (omega arith);
        kept = λ not.
            let now = kept not in
            let then = was.kept now.0 in (
              then.0,
              one_more (λ (me : ActorState A). me.number) first was.joined worked.actors.items worked'.actors.items done.actor now.1 is_number then.1,
              ap (list_all (λ (me : ActorState A). is_routing me.receipts)) now.1 ∙ all_more (λ (me : ActorState A). is_routing me.receipts) worked.actors.items done.actor then.2 is.routed,
            );
        faults = λ links workers room. faults links workers (was.faults links workers room) (omega (arith, is_number, left, most, room));
      }

  pub all_joined : (rest : List H) (worked : Worked B A) → length rest ≡ 0 → (lost ≡ false → all ≡ many) → Joining number first many all lost rest worked → AreWorked first many worked
  all_joined rest worked none whole was =
      let left = was.left in
      record {
        numbers = λ not. let then = was.kept not in let all_are = whole then.0 in then.1 ∙ ap (count_from first) (omega (arith, left, none, all_are));
        routed = λ not. (was.kept not).2;
      }
