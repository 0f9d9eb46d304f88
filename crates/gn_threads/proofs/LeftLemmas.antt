-- What is left of a run, once its actors come home.
use Rattle.std.proofs.Common.{◌≡◌, ◌≢◌, ◌<◌, ◌≤◌, ◌+◌, ◌-◌, ◌⊎◌, ◌++◌, ◌∷◌, ◌∙◌, ℕ, true, false, nat_lt, List, [], length, map, get_or, set, Option, Some, None, vec_len, refl, sym, ap, subst, arith, inl, inr}
use mathlib.Core.List.{IsPrefix}
use Rattle.std.specs.List.{filter_map, list_all}
use Rattle.std.proofs.lemmas.List.{get_or-map, get_or-set_other, get_or-set_same, length-append, length-map, length-set}
use Rattle.std.proofs.lemmas.List.Folds.{list_all-map}
use Rattle.std.proofs.lemmas.Option.{slice_get-get_or}
use Rattle.gn_rules.specs.declared.receipt.Receipt.{Receipt}
use Rattle.gn_rules.specs.declared.receipt.Step.{Step}
use Rattle.gn_rules.specs.History.{mine}
use Rattle.gn_actors.specs.ActorState.{ActorState}
use Rattle.gn_actors.specs.Registry.{AreWhole}
use Rattle.gn_actors.specs.Tallies.{tally_of}
use Rattle.gn_actors.specs.Who.{number_of}
use Rattle.gn_actors.specs.declared.who.Numbering.{Numbering}
use Rattle.gn_actors.specs.declared.who.Numbering.TheVariants.{Known}
use Rattle.gn_actors.specs.declared.who.Who.TheVariants.{House, Reader, Worker, Writer}
use Rattle.gn_report.specs.Accounts.{account_in, all_receipts, is_routing, reader_receipts, tally_in, unkept_list, writer_receipts}
use Rattle.gn_report.specs.Ended.{LinkViews}
use Rattle.gn_report.specs.declared.account.LinkAccount.{LinkAccount}
use Rattle.gn_report.specs.declared.account.LinkEnd.{LinkEnd}
use Rattle.gn_report.specs.declared.account.LinkEnd.TheVariants.{Cut, Whole}
use Rattle.gn_report.specs.declared.account.LinkTally.{LinkTally}
use Rattle.gn_report.specs.declared.kept.Kept.{Kept}
use Rattle.gn_report.specs.declared.unkept.Unkept.{Unkept}
use Rattle.gn_report.proofs.EndedLemmas.{ended_longer}
use Rattle.gn_start.specs.Numbers.{workers_of}
use Rattle.gn_start.specs.Over.{AllEnded, HasEnded, IsOver}
use Rattle.gn_start.specs.declared.over.Over.{Over}
use Rattle.gn_threads.specs.Courses.{AreTallies}
use Rattle.gn_threads.specs.Homecoming.{AreAllOut, receipts_in, with_all_home}
use Rattle.gn_report.specs.Looks.{AreCounted}
use Rattle.gn_threads.specs.Left.{HasKept, IsGathered, IsOverWith}
use Rattle.gn_threads.proofs.HomeLemmas.{all_out, as_many_lists, other_list, own_list}
use Rattle.gn_report.proofs.ConfirmedLemmas.{some_of}
use Rattle.gn_threads.proofs.ListLemmas.{each_of_four}

each_kept : {Rd W A : Type 0} (links : List (LinkAccount Rd W A)) → filter_map account_in (map (λ (end : LinkEnd Rd W A). Some end) (map (λ link. Whole link) links)) ≡ links
each_kept [] = refl
each_kept (link ∷ links) = ap (λ more. link ∷ more) (each_kept links)

-- the accounts that are kept of links that all have one
pub accounts_kept : {Rd W A : Type 0} (accounts : List (LinkAccount Rd W A)) (ends : List (LinkEnd Rd W A)) (kept : List (Option (LinkEnd Rd W A))) → kept ≡ map (λ end. Some end) ends
    → ends ≡ map (λ link. Whole link) accounts → filter_map account_in kept ≡ accounts
accounts_kept {Rd} {W} {A} accounts ends kept is are =
    ap (filter_map account_in) is ∙ (ap (λ (es : List (LinkEnd Rd W A)). filter_map account_in (map (λ end. Some end) es)) are ∙ each_kept accounts)

-- what the two actors of a link counted
abbrev tally_by : {Rd W A : Type 0} → LinkEnd Rd W A → LinkTally
tally_by (Whole link) = record { read = link.read; written = link.written }
tally_by (Cut tally) = tally

each_tallied : {Rd W A : Type 0} (ends : List (LinkEnd Rd W A)) → filter_map tally_in (map (λ end. Some end) ends) ≡ map tally_by ends
each_tallied [] = refl
each_tallied (Whole link ∷ ends) = ap (λ more. tally_by (Whole link) ∷ more) (each_tallied ends)
each_tallied (Cut tally ∷ ends) = ap (λ more. tally ∷ more) (each_tallied ends)

-- the tallies that are kept of links that have ended
tallies_kept : {Rd W A : Type 0} (ends : List (LinkEnd Rd W A)) (kept : List (Option (LinkEnd Rd W A))) → kept ≡ map (λ end. Some end) ends → filter_map tally_in kept ≡ map tally_by ends
tallies_kept ends kept is = ap (filter_map tally_in) is ∙ each_tallied ends

-- they count what the lists of the links' actors say
tally_counts : {Rd W A O : Type 0} (turns batch : ℕ) (views : LinkViews Rd W O) (seen : List (Step A)) (lists : List (List (Receipt A))) (reader writer : ℕ) (end : LinkEnd Rd W A)
    → HasEnded turns batch views seen lists reader writer end
    → ((tally_by end).read ≡ tally_of (get_or lists reader [])) × ((tally_by end).written ≡ tally_of (get_or lists writer []))
tally_counts turns batch views seen lists reader writer (Whole link) has =
    (link.counted.0 ∙ ap tally_of (sym has.1), link.counted.1 ∙ ap tally_of (sym has.2))
tally_counts turns batch views seen lists reader writer (Cut tally) has = has

-- all receipts of a run are its actors' own steps, where those of each are
pub all_receipts_own : {Rd W A : Type 0} (steps : List (Step A)) (links : List (LinkAccount Rd W A)) (workers : List (Unkept (Receipt A))) (own : Unkept (Receipt A))
    → ((k : ℕ) (d : LinkAccount Rd W A) → k < length links → reader_receipts (get_or links k d) ≡ mine steps k)
    → ((k : ℕ) (d : LinkAccount Rd W A) → k < length links → writer_receipts (get_or links k d) ≡ mine steps (length links + k))
    → ((j : ℕ) (d : Unkept (Receipt A)) → j < length workers → unkept_list (get_or workers j d) ≡ mine steps (length links + (length links + j)))
    → own.items ≡ mine steps (length links + (length links + (length workers + 0)))
    → list_all (λ step. nat_lt step.actor (length links + length links + length workers + 1)) steps ≡ true → AreWhole steps (all_receipts links workers own)
all_receipts_own {Rd} {W} {A} steps links workers own read written worked last only =
    let none : List (Receipt A) = [] in
    let readers = map reader_receipts links in
    let writers = map writer_receipts links in
    let others = map unkept_list workers in
    let reading = length-map links reader_receipts in
    let writing = length-map links writer_receipts in
    let working = length-map workers unkept_list in
    let ends = length-append others (own.items ∷ []) in
    let rest = length-append writers (others ++ own.items ∷ []) in
    let long : length (all_receipts links workers own) ≡ length links + length links + length workers + 1 = omega (arith, length-append readers (writers ++ (others ++ own.items ∷ [])), rest, ends, reading, writing, working) in
    record {
      own = λ a below.
          each_of_four (mine steps) readers writers others own.items none
          (λ k low. let d = some_of links (omega (arith, low, reading)) in get_or-map reader_receipts links k d none (omega (arith, low, reading)) ∙ read k d (omega (arith, low, reading)))
          (λ k low.
          let d = some_of links (omega (arith, low, writing)) in
          let same : length links + k ≡ length readers + k = omega (arith, reading) in
          get_or-map writer_receipts links k d none (omega (arith, low, writing)) ∙ (written k d (omega (arith, low, writing)) ∙ ap (mine steps) same))
          (λ k low.
          let d = some_of workers (omega (arith, low, working)) in
          let same : length links + (length links + k) ≡ length readers + (length writers + k) = omega (arith, reading, writing) in
          get_or-map unkept_list workers k d none (omega (arith, low, working)) ∙ (worked k d (omega (arith, low, working)) ∙ ap (mine steps) same))
          (let same : length links + (length links + (length workers + 0)) ≡ length readers + (length writers + (length others + 0)) = omega (arith, reading, writing, working) in last ∙ ap (mine steps) same)
          a (omega (arith, below, long, reading, writing, working));
      only = subst (λ m. list_all (λ (step : Step A). nat_lt step.actor m) steps ≡ true) (sym long) only;
    }

-- a number is before this many from the first on, or past them
abbrev pub IsBeside : ℕ → ℕ → ℕ → Type 0
IsBeside first many i = (i < first) ⊎ (first + many ≤ i)

-- the numbers of the house, of the workers and of the actors of so many links are apart, and those of the workers follow one another
pub record AreApart (m : Numbering) (n v : ℕ) : Type 0 where
  pub in_order : (j : ℕ) → number_of m (Worker j) ≡ number_of m (Worker 0) + j
  pub house_aside : IsBeside (number_of m (Worker 0)) v (number_of m House)
  pub reader_house : (k : ℕ) → k < n → number_of m (Reader k) ≢ number_of m House
  pub writer_house : (k : ℕ) → k < n → number_of m (Writer k) ≢ number_of m House
  pub reader_aside : (k : ℕ) → k < n → IsBeside (number_of m (Worker 0)) v (number_of m (Reader k))
  pub writer_aside : (k : ℕ) → k < n → IsBeside (number_of m (Worker 0)) v (number_of m (Writer k))

pub known_apart : (n v : ℕ) → AreApart (Known n v) n v
known_apart n v = record {
  in_order = λ j. omega arith;
  house_aside = inr (omega arith);
  reader_house = λ k below same. absurd (omega (arith, below, same));
  writer_house = λ k below same. absurd (omega (arith, below, same));
  reader_aside = λ k below. inl (omega (arith, below));
  writer_aside = λ k below. inl (omega (arith, below));
}

-- a number beside those of so many workers is none of theirs
not_worker : (first v i j : ℕ) → IsBeside first v i → j < v → i ≢ first + j
not_worker first v i j (inl low) below = λ same. absurd (omega (arith, low, below, same))
not_worker first v i j (inr high) below = λ same. absurd (omega (arith, high, below, same))

module _ {Rd W K B A O : Type 0} (views : LinkViews Rd W O) (keeps : K → List (Option (LinkEnd Rd W A)) → Type 0) (turns batch : ℕ) (m : Numbering) (n v : ℕ) (apart : AreApart m n v) (over : Over Rd W K B A)
    (ended : IsOver views keeps turns batch m v over) (house : ActorState A) (house_is : house.number ≡ number_of m House) (here : over.is_lost ≡ false) where
  -- the lists by number once the house and the workers are home
  abbrev pub lists_home : List (List (Receipt A))
  lists_home = with_all_home over.registry.lists (house ∷ over.workers.items)

  -- those once the house is home
  abbrev lists_then : List (List (Receipt A))
  lists_then = set over.registry.lists house.number house.receipts

  as_many_then : length lists_then ≡ length over.registry.lists
  as_many_then = length-set over.registry.lists house.number house.receipts

  pub crew : length over.workers.items ≡ v
  crew = omega (arith, over.workers.ok, (ended.working here).0)

  beside_them : (i : ℕ) → IsBeside (number_of m (Worker 0)) v i → IsBeside (number_of m (Worker 0)) (length over.workers.items) i
  beside_them i aside = subst (λ w. IsBeside (number_of m (Worker 0)) w i) (sym crew) aside

  -- they are out before
  pub all_out_home : AreAllOut over.registry.lists (house ∷ over.workers.items)
  all_out_home =
      let none : List (Receipt A) = [] in
      let first = number_of m (Worker 0) in (
        omega (arith, house_is, ended.house.0),
        ap (λ k. get_or over.registry.lists k none) house_is ∙ ended.house.1,
        all_out lists_then over.workers.items first (ended.working here).1
            (λ i low high.
            let j = i - first in
            let below : j < v = omega (arith, low, high, crew) in
            let is : number_of m (Worker j) ≡ i = omega (arith, apart.in_order j, low) in
            let i_is : first + j ≡ i = omega (arith, low) in
            let free = ended.crew j below in
            let other : i ≢ house.number = λ same. not_worker first v (number_of m House) j apart.house_aside below (sym house_is ∙ (sym same ∙ sym i_is)) in (
              omega (arith, free.0, is, as_many_then),
              get_or-set_other over.registry.lists house.number i house.receipts none other ∙ (ap (λ k. get_or over.registry.lists k none) (sym is) ∙ free.1),
            )),
      )

  -- there are as many lists
  pub many_home : length lists_home ≡ length over.registry.lists
  many_home = as_many_lists lists_then over.workers.items ∙ as_many_then

  -- those of the links' actors are as they were
  pub other_home : (i : ℕ) → i ≢ number_of m House → IsBeside (number_of m (Worker 0)) v i → get_or lists_home i [] ≡ get_or over.registry.lists i []
  other_home i other aside =
      other_list lists_then over.workers.items (number_of m (Worker 0)) i (ended.working here).1 (beside_them i aside)
      ∙ get_or-set_other over.registry.lists house.number i house.receipts [] (λ same. other (same ∙ house_is))

  -- those of the workers are theirs, and so is that of the house
  pub worker_home : (j : ℕ) (d : ActorState A) → j < v → get_or lists_home (number_of m (Worker j)) [] ≡ (get_or over.workers.items j d).receipts
  worker_home j d below =
      let none : List (Receipt A) = [] in
      ap (λ k. get_or lists_home k none) (apart.in_order j)
      ∙ own_list lists_then over.workers.items (number_of m (Worker 0)) j d (ended.working here).1 (omega (arith, (ended.crew j below).0, apart.in_order j, as_many_then)) (omega (arith, below, crew))

  pub house_home : get_or lists_home (number_of m House) [] ≡ house.receipts
  house_home =
      let none : List (Receipt A) = [] in
      other_list lists_then over.workers.items (number_of m (Worker 0)) (number_of m House) (ended.working here).1 (beside_them (number_of m House) apart.house_aside)
      ∙ (ap (λ k. get_or lists_then k none) (sym house_is) ∙ get_or-set_same over.registry.lists house.number house.receipts none (omega (arith, house_is, ended.house.0)))

  -- the end of each link
  pub end_at : (k : ℕ) (d : LinkEnd Rd W A) → k < length over.links.items
      → HasEnded turns batch views over.registry.seen over.registry.lists (number_of m (Reader k)) (number_of m (Writer k)) (get_or over.links.items k d)
  end_at k d below = ended.each here k (get_or over.links.items k d) (slice_get-get_or over.links.items k d below)

  -- workers routed alone
  pub routed_home : (workers : List (Unkept (Receipt A))) → map unkept_list workers ≡ map receipts_in over.workers.items → list_all is_routing (map unkept_list workers) ≡ true
  routed_home workers working = ap (list_all is_routing) working ∙ (list_all-map is_routing receipts_in over.workers.items ∙ (ended.working here).2)

  -- the receipts of each worker, and of the house, are its own steps
  pub worker_mine : (steps : List (Step A)) (workers : List (Unkept (Receipt A))) (j : ℕ) (d : Unkept (Receipt A)) → map unkept_list workers ≡ map receipts_in over.workers.items → AreWhole steps lists_home → j < v
      → unkept_list (get_or workers j d) ≡ mine steps (number_of m (Worker j))
  worker_mine steps workers j d working whole below =
      let none : List (Receipt A) = [] in
      let many : length workers ≡ v = omega (arith, ap length working, length-map over.workers.items receipts_in, length-map workers unkept_list, crew) in
      let some = some_of over.workers.items (omega (arith, below, crew)) in
      sym (get_or-map unkept_list workers j d none (omega (arith, below, many)))
      ∙ (ap (λ ls. get_or ls j none) working
      ∙ (get_or-map receipts_in over.workers.items j some none (omega (arith, below, crew))
      ∙ (sym (worker_home j some below) ∙ whole.own (number_of m (Worker j)) (omega (arith, (ended.crew j below).0, many_home)))))

  pub house_mine : (steps : List (Step A)) → AreWhole steps lists_home → house.receipts ≡ mine steps (number_of m House)
  house_mine steps whole = sym house_home ∙ whole.own (number_of m House) (omega (arith, ended.house.0, many_home))

  module _ (accounts : List (LinkAccount Rd W A)) (are : over.links.items ≡ map (λ link. Whole link) accounts) where
    -- of each link is known by its account how it ended
    pub account_at : (k : ℕ) (d : LinkAccount Rd W A) → k < length accounts
        → HasEnded turns batch views over.registry.seen over.registry.lists (number_of m (Reader k)) (number_of m (Writer k)) (Whole (get_or accounts k d))
    account_at k d below =
        let whole : LinkAccount Rd W A → LinkEnd Rd W A = λ link. Whole link in
        let many : length over.links.items ≡ length accounts = ap length are ∙ length-map accounts whole in
        let at : get_or over.links.items k (whole d) ≡ whole (get_or accounts k d) = ap (λ es. get_or es k (whole d)) are ∙ get_or-map whole accounts k d (whole d) below in
        subst (λ e. HasEnded turns batch views over.registry.seen over.registry.lists (number_of m (Reader k)) (number_of m (Writer k)) e) at (end_at k (whole d) (omega (arith, below, many)))

    pub all_ended : (steps : List (Step A)) → IsPrefix over.registry.seen steps → AllEnded turns batch views steps accounts
    all_ended steps begun k d below = ended_longer turns batch views over.registry.seen steps (get_or accounts k d) begun (account_at k d below).0

    -- the receipts of the actors of each link are their own steps
    pub reader_mine : (steps : List (Step A)) (k : ℕ) (d : LinkAccount Rd W A) → AreWhole steps lists_home → k < length accounts → k < n → number_of m (Reader k) < length over.registry.lists
        → reader_receipts (get_or accounts k d) ≡ mine steps (number_of m (Reader k))
    reader_mine steps k d whole below few within =
        sym (account_at k d below).1 ∙ (sym (other_home (number_of m (Reader k)) (apart.reader_house k few) (apart.reader_aside k few)) ∙ whole.own (number_of m (Reader k)) (omega (arith, within, many_home)))

    pub writer_mine : (steps : List (Step A)) (k : ℕ) (d : LinkAccount Rd W A) → AreWhole steps lists_home → k < length accounts → k < n → number_of m (Writer k) < length over.registry.lists
        → writer_receipts (get_or accounts k d) ≡ mine steps (number_of m (Writer k))
    writer_mine steps k d whole below few within =
        sym (account_at k d below).2 ∙ (sym (other_home (number_of m (Writer k)) (apart.writer_house k few) (apart.writer_aside k few)) ∙ whole.own (number_of m (Writer k)) (omega (arith, within, many_home)))

module _ {Rd W B A O : Type 0} (views : LinkViews Rd W O) (turns batch n v : ℕ) (over : Over Rd W (Kept Rd W A) B A) (house : ActorState A) (left : IsOverWith views turns batch n v over house)
    (here : over.is_lost ≡ false) where
  -- the lists by number of a run of known links once the house and the workers are home
  abbrev pub known_home : List (List (Receipt A))
  known_home = with_all_home over.registry.lists (house ∷ over.workers.items)

  -- they are out before
  pub known_out : AreAllOut over.registry.lists (house ∷ over.workers.items)
  known_out = all_out_home views HasKept turns batch (Known n v) n v (known_apart n v) over left.ended house left.house_is here

  lists_long : length over.registry.lists ≡ n + n + v + 1
  lists_long = left.ended.lists

  known_long : length known_home ≡ n + n + v + 1
  known_long = many_home views HasKept turns batch (Known n v) n v (known_apart n v) over left.ended house left.house_is here ∙ lists_long

  link_home : (i : ℕ) → i < n + n → get_or known_home i [] ≡ get_or over.registry.lists i []
  link_home i below =
      other_home views HasKept turns batch (Known n v) n v (known_apart n v) over left.ended house left.house_is here i (λ same. absurd (omega (arith, same, below))) (inl (omega (arith, below)))

  -- what the actors of the links counted, where all of them came
  pub tallied_home : (steps : List (Step A)) (kept : List (Option (LinkEnd Rd W A))) (tallies : List LinkTally) → kept ≡ map (λ end. Some end) over.links.items → tallies ≡ filter_map tally_in kept
      → length tallies ≡ n → AreWhole steps known_home → AreTallies steps n tallies
  tallied_home steps kept tallies is are many whole =
      let ends = over.links.items in
      let all : tallies ≡ map tally_by ends = are ∙ tallies_kept ends kept is in
      let as_many : length ends ≡ n = omega (arith, ap length all, length-map ends tally_by, many) in
      let at : (k : ℕ) (d : LinkTally) (e : LinkEnd Rd W A) → k < n → get_or tallies k d ≡ tally_by (get_or ends k e) = λ k d e below.
      ap (λ ts. get_or ts k d) all ∙ get_or-map tally_by ends k e d (omega (arith, below, as_many)) in
      let some : (k : ℕ) → k < n → LinkEnd Rd W A = λ k below. some_of ends (omega (arith, below, as_many)) in
      let counts : (k : ℕ) (below : k < n) → ((tally_by (get_or ends k (some k below))).read ≡ tally_of (get_or over.registry.lists k []))
      × ((tally_by (get_or ends k (some k below))).written ≡ tally_of (get_or over.registry.lists (n + k) [])) = λ k below.
      tally_counts turns batch views over.registry.seen over.registry.lists k (n + k) (get_or ends k (some k below))
      (end_at views HasKept turns batch (Known n v) n v (known_apart n v) over left.ended house left.house_is here k (some k below) (omega (arith, below, as_many))) in
      let own : (i : ℕ) → i < n + n → tally_of (get_or over.registry.lists i []) ≡ tally_of (mine steps i) = λ i below. ap tally_of (sym (link_home i below) ∙ whole.own i (omega (arith, below, known_long))) in
      record {
        many = many;
        read = λ k d below. ap (λ (t : LinkTally). t.read) (at k d (some k below) below) ∙ ((counts k below).0 ∙ own k (omega (arith, below)));
        written = λ k d below. ap (λ (t : LinkTally). t.written) (at k d (some k below) below) ∙ ((counts k below).1 ∙ own (n + k) (omega (arith, below)));
      }

  -- the receipts of all actors are their own steps
  pub all_of_home : (accounts : List (LinkAccount Rd W A)) → over.links.items ≡ map (λ link. Whole link) accounts → (steps : List (Step A)) (workers : List (Unkept (Receipt A))) (own : Unkept (Receipt A))
      → length over.links.items ≡ n → map unkept_list workers ≡ map receipts_in over.workers.items → own.items ≡ house.receipts → AreWhole steps known_home → AreWhole steps (all_receipts accounts workers own)
  all_of_home accounts are steps workers own came working last whole =
      let apart = known_apart n v in
      let whole_of : LinkAccount Rd W A → LinkEnd Rd W A = λ link. Whole link in
      let many : length accounts ≡ n = omega (arith, came, ap length are, length-map accounts whole_of) in
      let worked : length workers ≡ v =
      omega (arith, ap length working, length-map over.workers.items receipts_in, length-map workers unkept_list, crew views HasKept turns batch (Known n v) n v apart over left.ended house left.house_is here) in
      all_receipts_own steps accounts workers own
      (λ k d below.
      reader_mine views HasKept turns batch (Known n v) n v apart over left.ended house left.house_is here accounts are steps k d whole below (omega (arith, below, many)) (omega (arith, below, many, lists_long)))
      (λ k d below.
      let same : n + k ≡ length accounts + k = omega (arith, many) in
      writer_mine views HasKept turns batch (Known n v) n v apart over left.ended house left.house_is here accounts are steps k d whole below (omega (arith, below, many)) (omega (arith, below, many, lists_long))
      ∙ ap (mine steps) same)
      (λ j d below.
      let same : n + n + j ≡ length accounts + (length accounts + j) = omega (arith, many) in
      worker_mine views HasKept turns batch (Known n v) n v apart over left.ended house left.house_is here steps workers j d working whole (omega (arith, below, worked)) ∙ ap (mine steps) same)
      (let same : n + n + v ≡ length accounts + (length accounts + (length workers + 0)) = omega (arith, many, worked) in
      last ∙ (house_mine views HasKept turns batch (Known n v) n v apart over left.ended house left.house_is here steps whole ∙ ap (mine steps) same))
      (let total : length known_home ≡ length accounts + length accounts + length workers + 1 = omega (arith, known_long, many, worked) in
      subst (λ k. list_all (λ (step : Step A). nat_lt step.actor k) steps ≡ true) total whole.only)

-- the same of so many links and workers
pub over_as : {Rd W B A O : Type 0} (views : LinkViews Rd W O) (turns batch n v m w : ℕ) (over : Over Rd W (Kept Rd W A) B A) (house : ActorState A) → n ≡ m → v ≡ w → IsOverWith views turns batch n v over house
    → IsOverWith views turns batch m w over house
over_as views turns batch n v m w over house links crew left =
    subst (λ k. IsOverWith views turns batch k w over house) links (subst (λ k. IsOverWith views turns batch n k over house) crew left)

module _ {Rd W B A O : Type 0} (views : LinkViews Rd W O) (turns batch n v : ℕ) (over : Over Rd W (Kept Rd W A) B A) (house : ActorState A) (left : IsOverWith views turns batch n v over house)
    (well : over.fault ≡ None) where
  -- its workers are all here
  pub workers_here : vec_len over.workers ≡ v
  workers_here = (left.ended.working (left.ended.whole well).0).0

  here_known : over.is_lost ≡ false
  here_known = (left.ended.whole well).0

  -- the accounts that are kept are those of all links
  same_kept : (links : List (LinkAccount Rd W A)) → links ≡ filter_map account_in over.keeper.links.items → links ≡ (left.ended.whole well).1.0
  same_kept links are = are ∙ accounts_kept (left.ended.whole well).1.0 over.links.items over.keeper.links.items (left.ended.kept here_known) (left.ended.whole well).1.1

  pub links_kept : (links : List (LinkAccount Rd W A)) → links ≡ filter_map account_in over.keeper.links.items → over.links.items ≡ map (λ link. Whole link) links
  links_kept links are = (left.ended.whole well).1.1 ∙ ap (λ (ls : List (LinkAccount Rd W A)). map (λ link. Whole link) ls) (sym (same_kept links are))

  -- all is gathered once its actors are home
  pub all_gathered : (steps : List (Step A)) (links : List (LinkAccount Rd W A)) (workers : List (Unkept (Receipt A))) (own : Unkept (Receipt A)) → length over.links.items ≡ n
      → links ≡ filter_map account_in over.keeper.links.items → map unkept_list workers ≡ map receipts_in over.workers.items → own.items ≡ house.receipts → IsPrefix over.registry.seen steps
      → AreWhole steps (with_all_home over.registry.lists (house ∷ over.workers.items)) → IsGathered views turns batch steps links workers own over.looks
  all_gathered steps links workers own many are working last begun whole =
      let all = links_kept links are in
      record {
        each = all_ended views HasKept turns batch (Known n v) n v (known_apart n v) over left.ended house left.house_is here_known links all steps begun;
        counted = subst (λ (ls : List (LinkAccount Rd W A)). AreCounted over.looks (map (λ link. Some (Whole link)) ls)) (sym (same_kept links are)) (left.ended.whole well).1.2;
        own = all_of_home views turns batch n v over house left here_known links all steps workers own many working last whole;
        routes = routed_home views HasKept turns batch (Known n v) n v (known_apart n v) over left.ended house left.house_is here_known workers working;
      }

-- what is left of a run whose actors are numbered as those of so many known links
pub over_known : {Rd W B A O : Type 0} (views : LinkViews Rd W O) (turns batch n v : ℕ) (m : Numbering) (over : Over Rd W (Kept Rd W A) B A) (house : ActorState A) → m ≡ Known n v
    → IsOver views HasKept turns batch m (workers_of m) over → house.number ≡ number_of m House → is_routing house.receipts ≡ true → IsOverWith views turns batch n v over house
over_known views turns batch n v m over house is ended number routed = record {
  ended = subst (λ k. IsOver views HasKept turns batch k (workers_of k) over) is ended;
  house_is = subst (λ k. house.number ≡ number_of k House) is number;
  routed = routed;
}
