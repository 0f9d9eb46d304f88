-- The table of links, as a link comes and as one ends.
use Rattle.std.proofs.Common.{◌≡◌, ◌<◌, ◌+◌, ◌^◌, ◌≢◌, ◌⊎◌, ℕ, Bool, true, List, [], ◌∷◌, ◌++◌, Option, Some, None, length, get_or, set, replicate, suc, zero, refl, sym, ap, ◌∙◌, subst, arith, inl, inr}
use Rattle.std.specs.List.{slice_get}
use Rattle.std.proofs.lemmas.Bool.{cases_eq}
use Rattle.std.proofs.lemmas.List.{get_or-set_same, get_or-set_other, length-set, length_push, length-append, length-replicate, map_push}
use Rattle.std.proofs.lemmas.Option.{slice_get_within}
use Rattle.gn_rules.specs.declared.receipt.Receipt.{Receipt}
use Rattle.gn_rules.specs.declared.receipt.Step.{Step}
use Rattle.gn_actors.specs.Registry.{IsOut, RegistryState, registry_state}
use Rattle.gn_actors.specs.declared.who.Numbering.{Numbering}
use Rattle.gn_report.specs.declared.account.LinkEnd.{LinkEnd}
use Rattle.gn_report.specs.declared.account.LinkEnd.TheVariants.{Whole, Cut}
use Rattle.gn_start.specs.Homing.{with_lists}
use Rattle.gn_start.specs.Seats.{Seat}
use Rattle.gn_start.specs.Numbers.{HasRoom, more_of, numbers_of, reader_of, writer_of}
use Rattle.gn_start.specs.Table.{IsLinkTable, MayBe, all_came, came_in, end_in, ends_so_far, seat_for, with_end}
use Rattle.gn_start.specs.declared.incoming.NewLink.{NewLink}
use Rattle.gn_start.specs.declared.states.LinkState.{LinkState}
use Rattle.gn_start.specs.declared.states.LinkState.TheVariants.{At, Ended, Lost}
use Rattle.gn_report.proofs.CountsLemmas.{get_set_other, get_set_same}
use Rattle.gn_start.proofs.ListLemmas.{get_push_cases, get_push_new, get_push_old, grown_same, is_slot, stay}
use Rattle.gn_start.proofs.NumberLemmas.{AreApart, apart, numbers_next, reader_is_new, two, up_next, within, writer_is_new}

-- what may be known where so much is lost and faulty may be where more is
may_more : {Rd W A : Type 0} (lost faulty lost' faulty' : Bool) (s : LinkState Rd W A) → (lost ≡ true → lost' ≡ true) → (faulty ≡ true → faulty' ≡ true) → MayBe lost faulty s → MayBe lost' faulty' s
may_more lost faulty lost' faulty' (At i c) l f may = tt
may_more lost faulty lost' faulty' (Ended c (Whole link)) l f may = tt
may_more lost faulty lost' faulty' (Ended c (Cut tally)) l f may = f may
may_more lost faulty lost' faulty' (Lost c) l f may = l may

-- a link that has ended, in place of what was known of it
end_is : {Rd W A : Type 0} (states : List (LinkState Rd W A)) (k : ℕ) (e : LinkEnd Rd W A) (s : LinkState Rd W A) → slice_get states k ≡ Some s → with_end states k e ≡ set states k (Ended (came_in s) e)
end_is [] k e s h = absurd (cc)
end_is {Rd} {W} {A} (z ∷ zs) zero e s h = let same : z ≡ s = (cc h) in ap (λ (w : LinkState Rd W A). Ended (came_in w) e ∷ zs) same
end_is {Rd} {W} {A} (z ∷ zs) (suc k) e s h = ap (λ (w : List (LinkState Rd W A)). z ∷ w) (end_is zs k e s h)

-- what came, as one more comes, and as one ends
pub came_more : {Rd W A : Type 0} (states states' : List (LinkState Rd W A)) (s : LinkState Rd W A) → states' ≡ states ++ s ∷ [] → all_came states' ≡ all_came states ++ came_in s ∷ []
came_more states states' s e = ap all_came e ∙ map_push came_in states s

pub came_same : {Rd W A : Type 0} (states : List (LinkState Rd W A)) (k : ℕ) (e : LinkEnd Rd W A) → all_came (with_end states k e) ≡ all_came states
came_same [] k e = refl
came_same (s ∷ states) zero e = refl
came_same {Rd} {W} (s ∷ states) (suc k) e = ap (λ (w : List (NewLink Rd W)). came_in s ∷ w) (came_same states k e)

-- how all ended so far, as one more comes, and as one ends
pub so_far_more : {Rd W A : Type 0} (states states' : List (LinkState Rd W A)) (s : LinkState Rd W A) → states' ≡ states ++ s ∷ [] → ends_so_far states' ≡ ends_so_far states ++ end_in s ∷ []
so_far_more states states' s e = ap ends_so_far e ∙ map_push end_in states s

pub so_far_ended : {Rd W A : Type 0} (states : List (LinkState Rd W A)) (k : ℕ) (e : LinkEnd Rd W A) → ends_so_far (with_end states k e) ≡ set (ends_so_far states) k (Some e)
so_far_ended [] k e = refl
so_far_ended (s ∷ states) zero e = refl
so_far_ended {Rd} {W} {A} (s ∷ states) (suc k) e = ap (λ (w : List (Option (LinkEnd Rd W A))). end_in s ∷ w) (so_far_ended states k e)

-- one that is there has not ended
pub so_far_none : {Rd W A : Type 0} (states : List (LinkState Rd W A)) (k i : ℕ) (c : NewLink Rd W) → slice_get states k ≡ Some (At i c) → slice_get (ends_so_far states) k ≡ Some None
so_far_none [] k i c h = absurd (cc)
so_far_none {Rd} {W} {A} (s ∷ states) zero i c h = let same : s ≡ At i c = (cc h) in ap (λ (w : LinkState Rd W A). Some (end_in w)) same
so_far_none (s ∷ states) (suc k) i c h = so_far_none states k i c h

module _ {Rd W A : Type 0} (kept : NewLink Rd W → LinkEnd Rd W A → List (Receipt A) → List (Receipt A) → Type 0) (one : NewLink Rd W → Type 0) (m : Numbering) where
  -- one link more came, of which this is known; and slots changed for it, or for none
  one_more : (came : ℕ) (lost faulty lost' faulty' : Bool) (live live' : List (Option (Seat Rd W))) (states : List (LinkState Rd W A)) (r : RegistryState A) (s : LinkState Rd W A)
      → IsLinkTable kept one m came lost faulty live states r → HasRoom m came
      → (lost ≡ true → lost' ≡ true) → (faulty ≡ true → faulty' ≡ true) → (lost' ≡ true → faulty' ≡ true)
      → one (came_in s) → MayBe lost' faulty' s → length live' ≡ length live
      → ((i : ℕ) (p : Seat Rd W) → get_or live' i None ≡ Some p → (get_or live i None ≡ Some p) ⊎ ((s ≡ At i p.came) × (p ≡ seat_for m came p.came)))
      → ((k i : ℕ) (c : NewLink Rd W) → get_or live i None ≡ Some (seat_for m k c) → get_or live' i None ≡ Some (seat_for m k c))
      → ((i : ℕ) (c : NewLink Rd W) → s ≡ At i c → get_or live' i None ≡ Some (seat_for m came c))
      → ((c : NewLink Rd W) (e : LinkEnd Rd W A) → s ≢ Ended c e)
      → IsLinkTable kept one m (came + 1) lost' faulty' live' (states ++ s ∷ []) (registry_state (r.lists ++ replicate (more_of m) []) (r.out + 1 + 1) r.seen)
  one_more came lost faulty lost' faulty' live live' states r s t room l f found is_one may many_live was_taken was_there is_there not_ended =
      let many = t.many in
      let few = t.few in
      let up = up_next m came room in
      let same : (n : ℕ) → get_or (r.lists ++ replicate (more_of m) []) n [] ≡ get_or r.lists n [] = λ n. grown_same r.lists (more_of m) n in
      let lists = r.lists ++ replicate (more_of m) [] in
      record {
        many = omega (arith, length_push states s, many);
        slots = subst (λ n. n < 2 ^ 32) (sym many_live) t.slots;
        long = length-append r.lists (replicate (more_of m) []) ∙ ap (λ n. n + length (replicate {A = List (Receipt A)} (more_of m) [])) t.long ∙ ap (λ n. numbers_of m came + n) (length-replicate {A = List (Receipt A)} (more_of m) []) ∙ numbers_next m came;
        fits = up;
        few = omega (arith, few);
        taken = λ j p e.
            elim (was_taken j p e) as (λ _. (slice_get (states ++ s ∷ []) p.link ≡ Some (At j p.came)) × (p ≡ seat_for m p.link p.came)) [
              | inl old ↦ let was = t.taken j p old in (get_push_old states s (At j p.came) p.link was.0, was.1)
              | inr new ↦
                  let link : p.link ≡ came = ap (λ (q : Seat Rd W). q.link) new.1 in
                  let last : p.link ≡ length states = link ∙ sym many in (
                    subst (λ n. slice_get (states ++ s ∷ []) n ≡ Some (At j p.came)) (sym last) (get_push_new states s ∙ ap (λ (w : LinkState Rd W A). Some w) new.0),
                    new.1 ∙ ap (λ n. seat_for m n p.came) (sym link),
                  )
            ];
        there = λ k j c e.
            elim (get_push_cases states s (At j c) k e) as (λ _. get_or live' j None ≡ Some (seat_for m k c)) [
              | inl before ↦ was_there k j c (t.there k j c before)
              | inr new ↦ is_there j c new.1 ∙ ap (λ n. Some (seat_for m n c)) (sym many ∙ sym new.0)
            ];
        out = λ k j c e.
            elim (get_push_cases states s (At j c) k e) as (λ _. (get_or lists (reader_of m k) [] ≡ []) × (get_or lists (writer_of m k) [] ≡ [])) [
              | inl before ↦ let was = t.out k j c before in (same (reader_of m k) ∙ was.0, same (writer_of m k) ∙ was.1)
              | inr new ↦
                  let k_is : k ≡ came = new.0 ∙ many in (
                    same (reader_of m k) ∙ subst (λ n. get_or r.lists (reader_of m n) [] ≡ []) (sym k_is) (t.others (reader_of m came) (reader_is_new m came room)),
                    same (writer_of m k) ∙ subst (λ n. get_or r.lists (writer_of m n) [] ≡ []) (sym k_is) (t.others (writer_of m came) (writer_is_new m came room)),
                  )
            ];
        ended = λ k c g e.
            elim (get_push_cases states s (Ended c g) k e) as (λ _. kept c g (get_or lists (reader_of m k) []) (get_or lists (writer_of m k) [])) [
              | inl before ↦
                  subst (λ w. kept c g w (get_or lists (writer_of m k) [])) (sym (same (reader_of m k)))
                  (subst (λ w. kept c g (get_or r.lists (reader_of m k) []) w) (sym (same (writer_of m k))) (t.ended k c g before))
              | inr new ↦ absurd (not_ended c g new.1)
            ];
        others = λ n nobody. same n ∙ t.others n (λ k below. nobody k (omega (arith, below)));
        may = λ k w e.
            elim (get_push_cases states s w k e) as (λ _. MayBe lost' faulty' w) [
              | inl before ↦ may_more lost faulty lost' faulty' w l f (t.may k w before)
              | inr new ↦ subst (MayBe lost' faulty') new.1 may
            ];
        ones = λ k w e.
            elim (get_push_cases states s w k e) as (λ _. one (came_in w)) [
              | inl before ↦ t.ones k w before
              | inr new ↦ subst (λ (v : LinkState Rd W A). one (came_in v)) new.1 is_one
            ];
        found = found;
      }

  -- a link comes, and its threads run at a slot
  one_come : (came i : ℕ) (lost faulty : Bool) (live : List (Option (Seat Rd W))) (states : List (LinkState Rd W A)) (r : RegistryState A) (c : NewLink Rd W)
      → IsLinkTable kept one m came lost faulty live states r → HasRoom m came → one c → i < length live → get_or live i None ≡ None
      → IsLinkTable kept one m (came + 1) lost faulty (set live i (Some (seat_for m came c))) (states ++ At i c ∷ []) (registry_state (r.lists ++ replicate (more_of m) []) (r.out + 1 + 1) r.seen)
  one_come came i lost faulty live states r c t room is_one below free =
      let own : Option (Seat Rd W) = Some (seat_for m came c) in
      let is : get_or (set live i own) i None ≡ own = get_or-set_same live i own None below in
      let at : ℕ → NewLink Rd W → LinkState Rd W A = λ n w. At n w in
      one_more came lost faulty lost faulty live (set live i own) states r (At i c) t room (λ e. e) (λ e. e) t.found is_one tt (length-set live i own)
      (λ j p e.
      elim (cases_eq j i) as (λ _. (get_or live j None ≡ Some p) ⊎ ((at i c ≡ at j p.came) × (p ≡ seat_for m came p.came))) [
        | inl same ↦
            let both : own ≡ Some p = sym is ∙ subst (λ n. get_or (set live i own) n None ≡ Some p) same e in
            let p_is : seat_for m came c ≡ p = (cc both) in
            let c_is : c ≡ p.came = ap (λ (q : Seat Rd W). q.came) p_is in
            inr (ap (λ n. at n c) (sym same) ∙ ap (at j) c_is, sym p_is ∙ ap (λ (w : NewLink Rd W). seat_for m came w) c_is)
        | inr other ↦ inl (sym (get_or-set_other live i j own None other) ∙ e)
      ])
      (λ k j w here. get_or-set_other live i j own None (λ same. let no : None ≡ Some (seat_for m k w) = sym free ∙ subst (λ n. get_or live n None ≡ Some (seat_for m k w)) same here in absurd (cc no)) ∙ here)
      (λ j w e.
      let same : i ≡ j = (cc e) in
      let c_is : c ≡ w = (cc e) in
      subst (λ n. get_or (set live i own) n None ≡ Some (seat_for m came w)) same (is ∙ ap (λ (v : NewLink Rd W). Some (seat_for m came v)) c_is))
      (λ w g e. let no = e in absurd (cc no))

  -- a link comes for which there are no threads
  one_lost : (came : ℕ) (lost faulty : Bool) (live : List (Option (Seat Rd W))) (states : List (LinkState Rd W A)) (r : RegistryState A) (c : NewLink Rd W)
      → IsLinkTable kept one m came lost faulty live states r → HasRoom m came → one c
      → IsLinkTable kept one m (came + 1) true true live (states ++ Lost c ∷ []) (registry_state (r.lists ++ replicate (more_of m) []) (r.out + 1 + 1) r.seen)
  one_lost came lost faulty live states r c t room is_one =
      one_more came lost faulty true true live live states r (Lost c) t room (λ e. refl) (λ e. refl) (λ e. refl) is_one refl refl
      (λ j p e. inl e)
      (λ k j w here. here)
      (λ j w e. let no = e in absurd (cc no))
      (λ w g e. let no = e in absurd (cc no))

  -- who stands in a slot is out
  pub are_out : (came i : ℕ) (lost faulty : Bool) (live : List (Option (Seat Rd W))) (states : List (LinkState Rd W A)) (r : RegistryState A) (p : Seat Rd W) → IsLinkTable kept one m came lost faulty live states r
      → get_or live i None ≡ Some p → IsOut r p.reader × IsOut r p.writer × (p.reader ≢ p.writer) × (p.other ≡ p.came.role)
  are_out came i lost faulty live states r p t here =
      let was = t.taken i p here in
      let low : p.link < came = subst (λ n. p.link < n) t.many (slice_get_within states p.link (At i p.came) was.0) in
      let free = t.out p.link i p.came was.0 in
      let in_all = within m p.link came t.fits low in
      let a : p.reader ≡ reader_of m p.link = ap (λ (q : Seat Rd W). q.reader) was.1 in
      let b : p.writer ≡ writer_of m p.link = ap (λ (q : Seat Rd W). q.writer) was.1 in (
        (subst (λ n. p.reader < n) (sym t.long) (subst (λ n. n < numbers_of m came) (sym a) in_all.0), ap (λ n. get_or r.lists n []) a ∙ free.0),
        (subst (λ n. p.writer < n) (sym t.long) (subst (λ n. n < numbers_of m came) (sym b) in_all.1), ap (λ n. get_or r.lists n []) b ∙ free.1),
        λ e. two m p.link came t.fits low (sym a ∙ e ∙ b),
        ap (λ (q : Seat Rd W). q.other) was.1,
      )

  -- a table by equal parts
  same_table : (came : ℕ) (lost faulty lost' faulty' : Bool) (live live' : List (Option (Seat Rd W))) (states states' : List (LinkState Rd W A)) (r r' : RegistryState A)
      → lost' ≡ lost → faulty' ≡ faulty → live' ≡ live → states' ≡ states → r' ≡ r
      → IsLinkTable kept one m came lost faulty live states r → IsLinkTable kept one m came lost' faulty' live' states' r'
  same_table came lost faulty lost' faulty' live live' states states' r r' e_lost e_faulty e_live e_states e_registry t =
      subst (λ w. IsLinkTable kept one m came w faulty' live' states' r') (sym e_lost) (subst (λ w. IsLinkTable kept one m came lost w live' states' r') (sym e_faulty)
      (subst (λ w. IsLinkTable kept one m came lost faulty w states' r') (sym e_live) (subst (λ w. IsLinkTable kept one m came lost faulty live w r') (sym e_states)
      (subst (λ w. IsLinkTable kept one m came lost faulty live states w) (sym e_registry) t))))

  -- the same table of a run with more faults
  pub more_faults : (came : ℕ) (lost faulty lost' faulty' : Bool) (live : List (Option (Seat Rd W))) (states : List (LinkState Rd W A)) (r : RegistryState A)
      → (lost ≡ true → lost' ≡ true) → (faulty ≡ true → faulty' ≡ true) → (lost' ≡ true → faulty' ≡ true)
      → IsLinkTable kept one m came lost faulty live states r → IsLinkTable kept one m came lost' faulty' live states r
  more_faults came lost faulty lost' faulty' live states r l f found t = record {
    many = t.many;
    slots = t.slots;
    long = t.long;
    fits = t.fits;
    few = t.few;
    taken = t.taken;
    there = t.there;
    out = t.out;
    ended = t.ended;
    others = t.others;
    may = λ k s e. may_more lost faulty lost' faulty' s l f (t.may k s e);
    ones = t.ones;
    found = found;
  }

  -- the table once a link has come
  pub after_come : (came came' i : ℕ) (lost faulty lost' faulty' : Bool) (live live' : List (Option (Seat Rd W))) (states states' : List (LinkState Rd W A)) (r r' : RegistryState A) (c : NewLink Rd W) (p : Seat Rd W)
      → IsLinkTable kept one m came lost faulty live states r → HasRoom m came → one c → i < length live → get_or live i None ≡ None
      → came' ≡ came + 1 → lost' ≡ lost → faulty' ≡ faulty → p ≡ seat_for m came c → live' ≡ set live i (Some p) → states' ≡ states ++ At i c ∷ []
      → r' ≡ registry_state (r.lists ++ replicate (more_of m) []) (r.out + 1 + 1) r.seen
      → IsLinkTable kept one m came' lost' faulty' live' states' r'
  after_come came came' i lost faulty lost' faulty' live live' states states' r r' c p t room is_one below free e_came e_lost e_faulty p_is e_live e_states e_registry =
      subst (λ n. IsLinkTable kept one m n lost' faulty' live' states' r') (sym e_came)
      (same_table (came + 1) lost faulty lost' faulty' (set live i (Some (seat_for m came c))) live' (states ++ At i c ∷ []) states' (registry_state (r.lists ++ replicate (more_of m) []) (r.out + 1 + 1) r.seen) r'
      e_lost e_faulty (e_live ∙ ap (λ (q : Seat Rd W). set live i (Some q)) p_is) e_states e_registry
      (one_come came i lost faulty live states r c t room is_one below free))

  -- once one was lost
  pub after_lost : (came came' : ℕ) (lost faulty lost' faulty' : Bool) (live live' : List (Option (Seat Rd W))) (states states' : List (LinkState Rd W A)) (r r' : RegistryState A) (c : NewLink Rd W)
      → IsLinkTable kept one m came lost faulty live states r → HasRoom m came → one c
      → came' ≡ came + 1 → lost' ≡ true → faulty' ≡ true → live' ≡ live → states' ≡ states ++ Lost c ∷ []
      → r' ≡ registry_state (r.lists ++ replicate (more_of m) []) (r.out + 1 + 1) r.seen
      → IsLinkTable kept one m came' lost' faulty' live' states' r'
  after_lost came came' lost faulty lost' faulty' live live' states states' r r' c t room is_one e_came e_lost e_faulty e_live e_states e_registry =
      subst (λ n. IsLinkTable kept one m n lost' faulty' live' states' r') (sym e_came)
      (same_table (came + 1) true true lost' faulty' live live' (states ++ Lost c ∷ []) states' (registry_state (r.lists ++ replicate (more_of m) []) (r.out + 1 + 1) r.seen) r'
      e_lost e_faulty e_live e_states e_registry
      (one_lost came lost faulty live states r c t room is_one))

-- a link ends: what is kept of links may grow by it
module _ {Rd W A : Type 0} (kept kept' : NewLink Rd W → LinkEnd Rd W A → List (Receipt A) → List (Receipt A) → Type 0) (one : NewLink Rd W → Type 0) (m : Numbering) where
  pub after_ended : (came i : ℕ) (lost faulty lost' faulty' : Bool) (live live' : List (Option (Seat Rd W))) (states states' : List (LinkState Rd W A)) (r r' : RegistryState A) (p : Seat Rd W) (g : LinkEnd Rd W A)
      (reads writes : List (Receipt A)) (seen : List (Step A))
      → IsLinkTable kept one m came lost faulty live states r → get_or live i None ≡ Some p
      → live' ≡ set live i None → states' ≡ with_end states p.link g → r' ≡ with_lists r p.reader reads p.writer writes seen
      → (lost ≡ true → lost' ≡ true) → (faulty ≡ true → faulty' ≡ true) → (lost' ≡ true → faulty' ≡ true) → MayBe lost' faulty' (Ended p.came g)
      → ((c : NewLink Rd W) (e : LinkEnd Rd W A) (a b : List (Receipt A)) → kept c e a b → kept' c e a b) → kept' p.came g reads writes
      → IsLinkTable kept' one m came lost' faulty' live' states' r'
  after_ended came i lost faulty lost' faulty' live live' states states' r r' p g reads writes seen t here e_live e_states e_registry l f found may longer keeps =
      let many = t.many in
      let few = t.few in
      let k = p.link in
      let c = p.came in
      let at = (t.taken i p here).0 in
      let p_is = (t.taken i p here).1 in
      let low_states : k < length states = slice_get_within states k (At i c) at in
      let low : k < came = subst (λ n. k < n) many low_states in
      let below : i < length live = is_slot live i p here in
      let a = reader_of m k in
      let b = writer_of m k in
      let a_is : p.reader ≡ a = ap (λ (q : Seat Rd W). q.reader) p_is in
      let b_is : p.writer ≡ b = ap (λ (q : Seat Rd W). q.writer) p_is in
      let lists = set (set r.lists a reads) b writes in
      let all = within m k came t.fits low in
      let ends : List (LinkState Rd W A) = set states k (Ended c g) in
      let is : slice_get ends k ≡ Some (Ended c g) = get_set_same states k (Ended c g) low_states in
      let old : (j : ℕ) (s : LinkState Rd W A) → j ≢ k → slice_get ends j ≡ Some s → slice_get states j ≡ Some s = λ j s not e. sym (get_set_other states k j (Ended c g) not) ∙ e in
      let low_of : (j : ℕ) (s : LinkState Rd W A) → slice_get states j ≡ Some s → j < came = λ j s e. subst (λ n. j < n) many (slice_get_within states j s e) in
      let far : (j : ℕ) → j < came → j ≢ k → AreApart m j k = λ j low_j not. apart m j k came t.fits low_j low not in
      let same_reads : (j : ℕ) → j < came → j ≢ k → get_or lists (reader_of m j) [] ≡ get_or r.lists (reader_of m j) [] = λ j low_j not. let w = far j low_j not in stay r.lists a b (reader_of m j) reads writes w.rr w.rw in
      let same_writes : (j : ℕ) → j < came → j ≢ k → get_or lists (writer_of m j) [] ≡ get_or r.lists (writer_of m j) [] = λ j low_j not. let w = far j low_j not in stay r.lists a b (writer_of m j) reads writes w.wr w.ww in
      let own_reads : get_or lists a [] ≡ reads = get_or-set_other (set r.lists a reads) b a writes [] (two m k came t.fits low) ∙ get_or-set_same r.lists a reads [] (subst (λ n. a < n) (sym t.long) all.0) in
      let own_writes : get_or lists b [] ≡ writes = get_or-set_same (set r.lists a reads) b writes [] (subst (λ n. b < n) (sym (length-set r.lists a reads ∙ t.long)) all.1) in
      let now : (j : ℕ) (s : LinkState Rd W A) → j ≡ k → slice_get ends j ≡ Some s → Some (Ended c g) ≡ Some s = λ j s same e. sym is ∙ subst (λ n. slice_get ends n ≡ Some s) same e in
      let table : IsLinkTable kept' one m came lost' faulty' (set live i None) ends (with_lists r a reads b writes seen) = record {
        many = length-set states k (Ended c g) ∙ many;
        slots = subst (λ n. n < 2 ^ 32) (sym (length-set live i None)) t.slots;
        long = length-set (set r.lists a reads) b writes ∙ length-set r.lists a reads ∙ t.long;
        fits = t.fits;
        few = omega (arith, few);
        taken = λ j q e.
            elim (cases_eq j i) as (λ _. (slice_get ends q.link ≡ Some (At j q.came)) × (q ≡ seat_for m q.link q.came)) [
              | inl same ↦ let no : None ≡ Some q = sym (get_or-set_same live i None None below) ∙ subst (λ n. get_or (set live i None) n None ≡ Some q) same e in absurd (cc no)
              | inr other ↦
                  let then = t.taken j q (sym (get_or-set_other live i j None None other) ∙ e) in (
                    get_set_other states k q.link (Ended c g) (λ same. let both : Some (At i c) ≡ Some (At j q.came) = sym at ∙ subst (λ n. slice_get states n ≡ Some (At j q.came)) same then.0 in other (cc both)) ∙ then.0,
                    then.1,
                  )
            ];
        there = λ j h w e.
            elim (cases_eq j k) as (λ _. get_or (set live i None) h None ≡ Some (seat_for m j w)) [
              | inl same ↦ let no = now j (At h w) same e in absurd (cc no)
              | inr other ↦
                  let then = t.there j h w (old j (At h w) other e) in
                  get_or-set_other live i h None None (λ same. let both : Some p ≡ Some (seat_for m j w) = sym here ∙ subst (λ n. get_or live n None ≡ Some (seat_for m j w)) same then in let seats : p ≡ seat_for m j w = (cc both) in other (sym (ap (λ (q : Seat Rd W). q.link) seats))) ∙ then
            ];
        out = λ j h w e.
            elim (cases_eq j k) as (λ _. (get_or lists (reader_of m j) [] ≡ []) × (get_or lists (writer_of m j) [] ≡ [])) [
              | inl same ↦ let no = now j (At h w) same e in absurd (cc no)
              | inr other ↦
                  let before = old j (At h w) other e in
                  let was = t.out j h w before in
                  let low_j = low_of j (At h w) before in (same_reads j low_j other ∙ was.0, same_writes j low_j other ∙ was.1)
            ];
        ended = λ j w h e.
            elim (cases_eq j k) as (λ _. kept' w h (get_or lists (reader_of m j) []) (get_or lists (writer_of m j) [])) [
              | inl same ↦
                  let states_are : Ended c g ≡ Ended w h = (let both = now j (Ended w h) same e in cc both) in
                  let c_is : c ≡ w = (cc states_are) in
                  let g_is : g ≡ h = (cc states_are) in
                  let there_reads : reads ≡ get_or lists (reader_of m j) [] = sym own_reads ∙ ap (λ n. get_or lists (reader_of m n) []) (sym same) in
                  let there_writes : writes ≡ get_or lists (writer_of m j) [] = sym own_writes ∙ ap (λ n. get_or lists (writer_of m n) []) (sym same) in
                  subst (λ x. kept' x h (get_or lists (reader_of m j) []) (get_or lists (writer_of m j) [])) c_is (subst (λ x. kept' c x (get_or lists (reader_of m j) []) (get_or lists (writer_of m j) [])) g_is
                  (subst (λ x. kept' c g x (get_or lists (writer_of m j) [])) there_reads (subst (λ x. kept' c g reads x) there_writes keeps)))
              | inr other ↦
                  let before = old j (Ended w h) other e in
                  let low_j = low_of j (Ended w h) before in
                  longer w h (get_or lists (reader_of m j) []) (get_or lists (writer_of m j) [])
                  (subst (λ x. kept w h x (get_or lists (writer_of m j) [])) (sym (same_reads j low_j other)) (subst (λ x. kept w h (get_or r.lists (reader_of m j) []) x) (sym (same_writes j low_j other)) (t.ended j w h before)))
            ];
        others = λ n nobody. stay r.lists a b n reads writes (nobody k low).0 (nobody k low).1 ∙ t.others n nobody;
        may = λ j s e.
            elim (cases_eq j k) as (λ _. MayBe lost' faulty' s) [
              | inl same ↦ let own : Ended c g ≡ s = (let both = now j s same e in cc both) in subst (MayBe lost' faulty') own may
              | inr other ↦ may_more lost faulty lost' faulty' s l f (t.may j s (old j s other e))
            ];
        ones = λ j s e.
            elim (cases_eq j k) as (λ _. one (came_in s)) [
              | inl same ↦ let own : Ended c g ≡ s = (let both = now j s same e in cc both) in subst (λ (w : LinkState Rd W A). one (came_in w)) own (t.ones k (At i c) at)
              | inr other ↦ t.ones j s (old j s other e)
            ];
        found = found;
      } in
      let e_ends : states' ≡ ends = e_states ∙ end_is states k g (At i c) at in
      let e_lists : r' ≡ with_lists r a reads b writes seen = e_registry ∙ ap (λ n. with_lists r n reads p.writer writes seen) a_is ∙ ap (λ n. with_lists r a reads n writes seen) b_is in
      subst (λ w. IsLinkTable kept' one m came lost' faulty' w states' r') (sym e_live) (subst (λ w. IsLinkTable kept' one m came lost' faulty' (set live i None) w r') (sym e_ends)
      (subst (λ w. IsLinkTable kept' one m came lost' faulty' (set live i None) ends w) (sym e_lists) table))
