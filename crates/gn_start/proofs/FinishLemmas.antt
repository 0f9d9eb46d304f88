-- What a run leaves whose links have ended, and whose workers are joined.
use Rattle.std.proofs.Common.{◌≡◌, ◌<◌, ◌+◌, ◌||◌, ℕ, Bool, true, false, List, [], ◌∷◌, Option, Some, None, is_some, length, map, get_or, suc, zero, refl, sym, ap, ◌∙◌, subst, arith, Vec, vec_len}
use Rattle.std.specs.List.{list_all, slice_get}
use Rattle.std.proofs.lemmas.List.{get_or-map, length-map}
use Rattle.std.proofs.lemmas.Simd.{map-map}
use Rattle.gn_shake.specs.declared.role.Role.{Role}
use Rattle.gn_actors.specs.ActorState.{ActorState}
use Rattle.gn_actors.specs.Registry.{RegistryState}
use Rattle.gn_actors.specs.Who.{number_of}
use Rattle.gn_actors.specs.declared.who.Numbering.{Numbering}
use Rattle.gn_actors.specs.declared.who.Who.TheVariants.{Worker, House}
use Rattle.gn_report.specs.Accounts.{is_routing}
use Rattle.gn_report.specs.Ended.{LinkViews}
use Rattle.gn_report.specs.Looks.{AreCounted}
use Rattle.gn_report.specs.declared.account.LinkAccount.{LinkAccount}
use Rattle.gn_report.specs.declared.account.LinkEnd.{LinkEnd}
use Rattle.gn_report.specs.declared.account.LinkEnd.TheVariants.{Whole}
use Rattle.gn_start.specs.Crews.{AreWorked, count_from}
use Rattle.gn_start.specs.Seats.{Seat}
use Rattle.gn_start.specs.Kept.{IsKept, IsOne, IsTable}
use Rattle.gn_start.specs.Numbers.{numbers_of, reader_of, workers_of, writer_of}
use Rattle.gn_start.specs.Over.{AreNumberedFrom, HasEnded, HaveCome, IsOver}
use Rattle.gn_start.specs.Table.{AreAll, AreFree, EndsBy, IsLinkTable, all_came, came_in, ends_of, ends_so_far}
use Rattle.gn_start.specs.declared.crew.Worked.{Worked}
use Rattle.gn_start.specs.declared.incoming.NewLink.{NewLink}
use Rattle.gn_start.specs.declared.over.Over.{Over}
use Rattle.gn_start.specs.declared.states.LinkState.{LinkState}
use Rattle.gn_start.specs.declared.states.LinkState.TheVariants.{Ended}
use Rattle.gn_start.specs.declared.trouble.Trouble.{Trouble}
use Rattle.gn_start.proofs.EndLemmas.{AllEnded, accounts_of, all_ended, all_whole, ends_at, ends_long, ends_some, whole_without_fault}
use Rattle.gn_start.proofs.KeptLemmas.{none_before}
use Rattle.gn_start.proofs.LoopLemmas.{came_long}
use Rattle.gn_start.proofs.NumberLemmas.{house_is_no_links, house_within, worker_is_no_links, worker_within}

pub get_mapped : {X Y : Type 0} (f : X → Y) (xs : List X) (k : ℕ) (x : X) → slice_get xs k ≡ Some x → slice_get (map f xs) k ≡ Some (f x)
get_mapped f [] k x h = absurd (cc h)
get_mapped {X} {Y} f (y ∷ ys) zero x h = let same : y ≡ x = (cc h) in ap (λ (z : X). Some (f z)) same
get_mapped f (y ∷ ys) (suc k) x h = get_mapped f ys k x h

counted_at : (first many j : ℕ) → j < many → (d : ℕ) → get_or (count_from first many) j d ≡ first + j
counted_at first zero j low d = absurd (omega (arith, low))
counted_at first (suc many) zero low d = omega arith
counted_at first (suc many) (suc j) low d = counted_at (suc first) many j (omega (arith, low)) d ∙ omega arith

pub counted_long : (first many : ℕ) → length (count_from first many) ≡ many
counted_long first zero = refl
counted_long first (suc many) = ap suc (counted_long (suc first) many)

-- actors whose numbers are these are numbered so
pub numbered : {A : Type 0} (first many : ℕ) (actors : List (ActorState A)) → map (λ me. me.number) actors ≡ count_from first many → AreNumberedFrom first actors
numbered {A} first many actors are j d low =
    let long : length actors ≡ many = sym (length-map actors (λ (me : ActorState A). me.number)) ∙ ap length are ∙ counted_long first many in
    sym (get_or-map (λ (me : ActorState A). me.number) actors j d d.number low) ∙ ap (λ (xs : List ℕ). get_or xs j d.number) are ∙ counted_at first many j (subst (λ n. j < n) long low) d.number

or_false : (a b : Bool) → (a || b) ≡ false → (a ≡ false) × (b ≡ false)
or_false true b e = let no : true ≡ false = e in absurd (cc no)
or_false false b e = (refl, e)

not_true : (b : Bool) → (b ≡ true → ⊥) → b ≡ false
not_true true never = absurd (never refl)
not_true false never = refl

-- the trouble of a run with that of its workers: where nothing is lost, nothing was of either; where it has no fault, it had none before, and
-- nothing is lost
pub trouble_of : (t w o : Trouble) (lost : Bool) → (t.is_lost ≡ true → is_some t.fault ≡ true) → w.is_lost ≡ t.is_lost → (is_some t.fault ≡ true → is_some w.fault ≡ true)
    → o.is_lost ≡ (w.is_lost || lost) → (is_some w.fault ≡ true → is_some o.fault ≡ true) × (lost ≡ true → is_some o.fault ≡ true)
    → (o.is_lost ≡ false → (t.is_lost ≡ false) × (lost ≡ false)) × (o.fault ≡ None → (t.fault ≡ None) × (o.is_lost ≡ false))
trouble_of t w o lost found same with is has = (
  λ not. let both = or_false w.is_lost lost (sym is ∙ not) in (sym same ∙ both.0, both.1),
  λ none.
      let was : t.fault ≡ None = none_before t.fault w.fault with (none_before w.fault o.fault has.0 none) in
      let kept : t.is_lost ≡ false = not_true t.is_lost (λ e. let no : true ≡ false = sym (found e) ∙ ap is_some was in absurd (cc no)) in
      let good : lost ≡ false = not_true lost (λ e. let no : true ≡ false = sym (has.1 e) ∙ ap is_some none in absurd (cc no)) in
      (was, is ∙ ap (λ b. b || lost) (same ∙ kept) ∙ good),
)

module _ {Rd W K B A O : Type 0} (turns batch : ℕ) (views : LinkViews Rd W O) (has_peers : Bool) (m : Numbering) (keeps : K → List (Option (LinkEnd Rd W A)) → Type 0) where
  -- the table of a run of which nothing is lost
  kept_table : (keeper : K) (came intakes : ℕ) (t : Trouble) (over : Over Rd W K B A) (live : List (Option (Seat Rd W))) (states : List (LinkState Rd W A)) (r : RegistryState A)
      → IsTable turns batch views has_peers (keeps keeper) m came intakes t over.looks live states r → t.is_lost ≡ false
      → IsLinkTable (IsKept turns batch views r.seen) (IsOne views) m came false (is_some t.fault) live states r
  kept_table keeper came intakes t over live states r is well = subst (λ b. IsLinkTable (IsKept turns batch views r.seen) (IsOne views) m came b (is_some t.fault) live states r) well is.links

  pub over_is : (over : Over Rd W K B A) (came intakes : ℕ) (t t' : Trouble) (worked : Worked B A) (live : List (Option (Seat Rd W))) (states : List (LinkState Rd W A)) (r : RegistryState A)
      → IsTable turns batch views has_peers (keeps over.keeper) m came intakes t over.looks live states r → AreFree live → AreWorked (number_of m (Worker 0)) (workers_of m) worked
      → over.came ≡ came → over.registry ≡ r → over.links.items ≡ ends_of states → over.workers ≡ worked.actors → over.fault ≡ t'.fault → over.is_lost ≡ t'.is_lost
      → (t'.is_lost ≡ false → (t.is_lost ≡ false) × (worked.is_lost ≡ false)) → (t'.fault ≡ None → (t.fault ≡ None) × (t'.is_lost ≡ false))
      → IsOver views keeps turns batch m (workers_of m) over
  over_is over came intakes t t' worked live states r is free crew e_came e_registry e_links e_workers e_fault e_lost well none =
      let all : t.is_lost ≡ false → AllEnded states = λ not. all_ended (IsKept turns batch views r.seen) (IsOne views) m came (is_some t.fault) live states r (kept_table over.keeper came intakes t over live states r is not) free in
      let long : length over.registry.lists ≡ numbers_of m over.came = ap (λ (x : RegistryState A). length x.lists) e_registry ∙ is.links.long ∙ ap (numbers_of m) (sym e_came) in
      record {
        lists = long;
        house = (
          subst (λ n. number_of m House < n) (sym long) (house_within m over.came),
          ap (λ (x : RegistryState A). get_or x.lists (number_of m House) []) e_registry ∙ is.links.others (number_of m House) (house_is_no_links m came is.links.fits),
        );
        crew = λ j low. (
          subst (λ n. number_of m (Worker j) < n) (sym long) (worker_within m over.came j low),
          ap (λ (x : RegistryState A). get_or x.lists (number_of m (Worker j)) []) e_registry ∙ is.links.others (number_of m (Worker j)) (worker_is_no_links m came j is.links.fits low),
        );
        working = λ not.
            let kept = well (sym e_lost ∙ not) in
            let numbers = crew.numbers kept.1 in
            let many : length worked.actors.items ≡ workers_of m = sym (length-map worked.actors.items (λ (me : ActorState A). me.number)) ∙ ap length numbers ∙ counted_long (number_of m (Worker 0)) (workers_of m) in
            subst (λ (v : Vec (ActorState A) A). (vec_len v ≡ workers_of m) × AreNumberedFrom (number_of m (Worker 0)) v.items × (list_all (λ me. is_routing me.receipts) v.items ≡ true)) (sym e_workers)
            (omega (arith, many, worked.actors.ok), numbered (number_of m (Worker 0)) (workers_of m) worked.actors.items numbers, crew.routed kept.1);
        all = λ not. ap length e_links ∙ ends_long states (all (well (sym e_lost ∙ not)).0) ∙ is.links.many ∙ sym e_came;
        kept = λ not.
            let was = (well (sym e_lost ∙ not)).0 in
            subst (keeps over.keeper) (ends_some states (all was) ∙ ap (map (λ (e : LinkEnd Rd W A). Some e)) (sym e_links)) (is.keeper was);
        each = λ not k link at.
            let was = (well (sym e_lost ∙ not)).0 in
            let here = ends_at states (all was) k link (ap (λ (xs : List (LinkEnd Rd W A)). slice_get xs k) (sym e_links) ∙ at) in
            subst (λ (x : RegistryState A). HasEnded turns batch views x.seen x.lists (reader_of m k) (writer_of m k) link) (sym e_registry) (is.links.ended k here.0 link here.1).0;
        whole = λ faultless.
            let good = none (sym e_fault ∙ faultless) in
            let was = (well good.1).0 in
            let table : IsLinkTable (IsKept turns batch views r.seen) (IsOne views) m came false false live states r =
            subst (λ b. IsLinkTable (IsKept turns batch views r.seen) (IsOne views) m came false b live states r) (ap is_some good.0) (kept_table over.keeper came intakes t over live states r is was) in
            let accounts = accounts_of (ends_of states) in
            let are = all_whole (ends_of states) (whole_without_fault (IsKept turns batch views r.seen) (IsOne views) m came live states r table (all was)) in
            let counted : ends_so_far states ≡ map (λ link. Some (Whole link)) accounts = ends_some states (all was) ∙ ap (map (λ (e : LinkEnd Rd W A). Some e)) are ∙ map-map (λ (e : LinkEnd Rd W A). Some e) (λ (link : LinkAccount Rd W A). Whole link) accounts in (
              e_lost ∙ good.1,
              (accounts, e_links ∙ are, subst (AreCounted over.looks) counted is.counted),
            );
      }

  -- the same of a run whose numbering goes by another name
  pub over_of : (m' : Numbering) (over : Over Rd W K B A) (came intakes : ℕ) (t t' : Trouble) (worked : Worked B A) (live : List (Option (Seat Rd W))) (states : List (LinkState Rd W A)) (r : RegistryState A)
      → m ≡ m' → IsTable turns batch views has_peers (keeps over.keeper) m came intakes t over.looks live states r → AreFree live → AreWorked (number_of m' (Worker 0)) (workers_of m') worked
      → over.came ≡ came → over.registry ≡ r → over.links.items ≡ ends_of states → over.workers ≡ worked.actors → over.fault ≡ t'.fault → over.is_lost ≡ t'.is_lost
      → (t'.is_lost ≡ false → (t.is_lost ≡ false) × (worked.is_lost ≡ false)) × (t'.fault ≡ None → (t.fault ≡ None) × (t'.is_lost ≡ false))
      → IsOver views keeps turns batch m' (workers_of m') over
  over_of m' over came intakes t t' worked live states r e is free crew e_came e_registry e_links e_workers e_fault e_lost troubles =
      subst (λ n. IsOver views keeps turns batch n (workers_of n) over) e
      (over_is over came intakes t t' worked live states r is free (subst (λ n. AreWorked (number_of n (Worker 0)) (workers_of n) worked) (sym e) crew) e_came e_registry e_links e_workers e_fault e_lost troubles.0 troubles.1)

  -- and the links are those that were to come
  pub came_is : {F : Type 0} (foreknown : O → F) (is_known : Bool) (may : ℕ → Role → F → Type 0) (ends : ℕ → Type 0) (over : Over Rd W K B A) (came intakes : ℕ) (t t' : Trouble) (live : List (Option (Seat Rd W))) (states : List (LinkState Rd W A)) (r : RegistryState A)
      → IsTable turns batch views has_peers (keeps over.keeper) m came intakes t over.looks live states r → AreFree live
      → over.links.items ≡ ends_of states → over.fault ≡ t'.fault → over.is_lost ≡ t'.is_lost
      → (t'.is_lost ≡ false → t.is_lost ≡ false) → (t'.fault ≡ None → (t.fault ≡ None) × (t'.is_lost ≡ false))
      → AreAll views.reader_of foreknown is_known (is_some t.fault) m may ends (all_came states) → (is_known ≡ true → EndsBy m ends)
      → HaveCome views foreknown is_known may ends over
  came_is {F} foreknown is_known may ends over came intakes t t' live states r is free e_links e_fault e_lost well none made by =
      let ended : t.is_lost ≡ false → AllEnded states = λ not. all_ended (IsKept turns batch views r.seen) (IsOne views) m came (is_some t.fault) live states r (kept_table over.keeper came intakes t over live states r is not) free in
      let at : t.is_lost ≡ false → (k : ℕ) (link : LinkAccount Rd W A) → slice_get over.links.items k ≡ Some (Whole link) → (c : NewLink Rd W) × (slice_get states k ≡ Some (Ended c (Whole link))) =
      λ not k link h. ends_at states (ended not) k (Whole link) (ap (λ (xs : List (LinkEnd Rd W A)). slice_get xs k) (sym e_links) ∙ h) in
      record {
        may_come = λ not k link h.
            let here = at (well (sym e_lost ∙ not)) k link h in
            let came = get_mapped came_in states k (Ended here.0 (Whole link)) here.1 in
            let of = (is.links.ended k here.0 (Whole link) here.1).1 in
            subst (λ (x : Role). may k x (foreknown (views.reader_of link.reader))) (sym of.0)
            (subst (λ (x : O). may k here.0.role (foreknown x)) (sym of.1) (made.so_far.may_come k here.0 came));
        no_more = λ faultless known.
            let good = none (sym e_fault ∙ faultless) in
            let many : length over.links.items ≡ length (all_came states) = ap length e_links ∙ ends_long states (ended (well good.1)) ∙ sym (came_long states) in
            subst (λ n. ends n) (sym many) (made.no_more known (ap is_some good.0) (by known));
      }
