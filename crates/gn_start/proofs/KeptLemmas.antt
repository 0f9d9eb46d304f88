-- A table of links and what goes with it, as a link comes, as one ends, and at the end.
use Rattle.std.proofs.Common.{◌≡◌, ◌<◌, ◌≤◌, ◌+◌, ◌≢◌, ◌⊎◌, ℕ, Bool, true, false, List, [], ◌∷◌, ◌++◌, Option, Some, None, is_some, length, get_or, set, replicate, refl, sym, ap, ◌∙◌, subst, arith, inl, inr}
use Rattle.std.specs.Prelude.{IfSome}
use Rattle.std.specs.List.{slice_get}
use Rattle.std.proofs.lemmas.Option.{slice_get_within}
use mathlib.Core.List.{IsPrefix}
use Rattle.gn_rules.specs.declared.receipt.Receipt.{Receipt}
use Rattle.gn_rules.specs.declared.receipt.Step.{Step}
use Rattle.gn_actors.specs.ActorState.{ActorState, new_actor}
use Rattle.gn_actors.specs.Registry.{IsOut, RegistryState, registry_state}
use Rattle.gn_actors.specs.declared.who.Numbering.{Numbering}
use Rattle.gn_actors.specs.declared.who.Numbering.TheVariants.{Known, Open}
use Rattle.gn_report.specs.Ended.{LinkViews}
use Rattle.gn_report.specs.Looks.{AreCounted}
use Rattle.gn_report.specs.declared.looks.Looks.{Looks}
use Rattle.gn_report.specs.declared.account.LinkEnd.{LinkEnd}
use Rattle.gn_report.specs.declared.account.LinkEnd.TheVariants.{Whole, Cut}
use Rattle.gn_report.proofs.CountsLemmas.{counted_came}
use Rattle.gn_report.proofs.EndedLemmas.{ended_longer}
use Rattle.gn_start.specs.Faults.{IsArrivingFault, IsFaultOf}
use Rattle.gn_start.specs.Homing.{IsWhole, with_lists}
use Rattle.gn_start.specs.Seats.{Seat}
use Rattle.gn_start.specs.Kept.{IsKept, IsOne, IsTable}
use Rattle.gn_start.specs.Numbers.{HasRoom, links_of, more_of, reader_of, workers_of, writer_of}
use Rattle.gn_start.specs.Table.{IsLinkTable, MayBe, ends_so_far, seat_for, with_end}
use Rattle.gn_start.specs.declared.fault.RunFault.{RunFault}
use Rattle.gn_start.specs.declared.fault.RunFault.TheVariants.{Listen, Call, Link, NoMemory, Audit}
use Rattle.gn_start.specs.declared.incoming.NewLink.{NewLink}
use Rattle.gn_start.specs.declared.states.LinkState.{LinkState}
use Rattle.gn_start.specs.declared.states.LinkState.TheVariants.{At, Ended, Lost}
use Rattle.gn_start.specs.declared.trouble.Trouble.{Trouble}
use Rattle.gn_start.proofs.LoopLemmas.{not_so}
use Rattle.gn_start.proofs.NumberLemmas.{in_run}
use Rattle.gn_start.proofs.TableLemmas.{after_come, after_ended, after_lost, are_out, more_faults, so_far_ended, so_far_more, so_far_none}

-- what is kept of a link that ended is kept of it in each longer history
pub kept_longer : {Rd W A O : Type 0} (turns batch : ℕ) (views : LinkViews Rd W O) (seen steps : List (Step A)) → IsPrefix seen steps → (c : NewLink Rd W) (e : LinkEnd Rd W A) (reads writes : List (Receipt A))
    → IsKept turns batch views seen c e reads writes → IsKept turns batch views steps c e reads writes
kept_longer turns batch views seen steps begun c (Whole link) reads writes is = ((ended_longer turns batch views seen steps link begun is.0.0, is.0.1, is.0.2), is.1)
kept_longer turns batch views seen steps begun c (Cut tally) reads writes is = is

-- a fault of a run of so many links is one of a run of more
fault_more : (has_peers : Bool) (links links' workers : ℕ) (fault : RunFault) → links ≤ links' → IsArrivingFault has_peers links workers fault → IsArrivingFault has_peers links' workers fault
fault_more has_peers links links' workers (Call k) more is = let low = is.1 in (is.0, omega (arith, low, more))
fault_more has_peers links links' workers (Link k) more is = let low = is.1 in (is.0, omega (arith, low, more))
fault_more has_peers links links' workers (Audit a) more is = omega (arith, is, more)
fault_more has_peers links links' workers fault more is = is

pub some_fault_more : (has_peers : Bool) (links links' workers : ℕ) (fault : Option RunFault) → links ≤ links' → IfSome fault (λ f. IsArrivingFault has_peers links workers f) → IfSome fault (λ f. IsArrivingFault has_peers links' workers f)
some_fault_more has_peers links links' workers None more is = tt
some_fault_more has_peers links links' workers (Some fault) more is = fault_more has_peers links links' workers fault more is

links_more : (m : Numbering) (came : ℕ) → links_of m came ≤ links_of m (came + 1)
links_more (Known n v) came = omega arith
links_more (Open v) came = omega arith

-- a body's fault is one of a run whose links come one after another
pub of_body : (has_peers : Bool) (links workers : ℕ) (fault : Option RunFault) → IfSome fault (λ f. IsFaultOf links workers f) → IfSome fault (λ f. IsArrivingFault has_peers links workers f)
of_body has_peers links workers None is = tt
of_body has_peers links workers (Some Listen) is = absurd is
of_body has_peers links workers (Some (Call k)) is = absurd is
of_body has_peers links workers (Some (Link k)) is = absurd is
of_body has_peers links workers (Some fault) is = is

-- what is so of each of these faults is so of the one that is told
pub one_of : (P : RunFault → Type 0) (a b f : Option RunFault) → IfSome a P → IfSome b P → (f ≡ a) ⊎ (f ≡ b) → IfSome f P
one_of P a b f of_a of_b (inl is) = subst (λ (x : Option RunFault). IfSome x P) (sym is) of_a
one_of P a b f of_a of_b (inr is) = subst (λ (x : Option RunFault). IfSome x P) (sym is) of_b

pub one_of_three : (P : RunFault → Type 0) (a b c f : Option RunFault) → IfSome a P → IfSome b P → IfSome c P → (f ≡ a) ⊎ (f ≡ b) ⊎ (f ≡ c) → IfSome f P
one_of_three P a b c f of_a of_b of_c (inl is) = subst (λ (x : Option RunFault). IfSome x P) (sym is) of_a
one_of_three P a b c f of_a of_b of_c (inr is) = one_of P b c f of_b of_c is

-- which of three it is, where one of two is put to a third
pub of_three : (a b c w f : Option RunFault) → (w ≡ a) ⊎ (w ≡ b) → (f ≡ w) ⊎ (f ≡ c) → (f ≡ a) ⊎ (f ≡ b) ⊎ (f ≡ c)
of_three a b c w f first (inr is) = inr (inr is)
of_three a b c w f (inl first) (inl is) = inl (is ∙ first)
of_three a b c w f (inr first) (inl is) = inr (inl (is ∙ first))

-- there was none before where there is none now
pub none_before : (was now : Option RunFault) → (is_some was ≡ true → is_some now ≡ true) → now ≡ None → was ≡ None
none_before None now some none = refl
none_before (Some fault) now some none = let no : true ≡ false = sym (some refl) ∙ ap is_some none in absurd (cc no)

-- what may be known of a link that ended with this fault, or with none
pub may_end : {Rd W A : Type 0} (lost faulty : Bool) (c : NewLink Rd W) (e : LinkEnd Rd W A) (fault : Option RunFault) → (fault ≡ None → IsWhole e) → (is_some fault ≡ true → faulty ≡ true) → MayBe lost faulty (Ended c e)
may_end lost faulty c (Whole link) fault whole has = tt
may_end lost faulty c (Cut tally) None whole has = absurd (whole refl)
may_end lost faulty c (Cut tally) (Some fault) whole has = has refl

-- a link whose actors are the two new ones stands in its slot as one that came so
pub seat_is : {Rd W A : Type 0} (m : Numbering) (k : ℕ) (c : NewLink Rd W) (p : Seat Rd W) (a b : ActorState A) → a ≡ new_actor (reader_of m k) → b ≡ new_actor (writer_of m k)
    → p ≡ record { link = k; reader = a.number; writer = b.number; came = c; other = c.role } → p ≡ seat_for m k c
seat_is {Rd} {W} {A} m k c p a b reads writes is =
    let seat : ℕ → ℕ → Seat Rd W = λ r w. record { link = k; reader = r; writer = w; came = c; other = c.role } in
    is ∙ ap (λ (x : ActorState A). seat x.number b.number) reads ∙ ap (λ (x : ActorState A). seat (reader_of m k) x.number) writes

module _ {Rd W A O : Type 0} (turns batch : ℕ) (views : LinkViews Rd W O) (has_peers : Bool) (m : Numbering) where
  -- the table once a link has come
  pub table_come : (keeps keeps' : List (Option (LinkEnd Rd W A)) → Type 0) (came intakes intakes' i : ℕ) (t : Trouble) (looks : Looks) (live live' : List (Option (Seat Rd W))) (states states' : List (LinkState Rd W A)) (r r' : RegistryState A) (c : NewLink Rd W) (p : Seat Rd W)
      → IsTable turns batch views has_peers keeps m came intakes t looks live states r → HasRoom m came → IsOne views c → i < length live → get_or live i None ≡ None
      → p ≡ seat_for m came c → live' ≡ set live i (Some p) → states' ≡ states ++ At i c ∷ [] → r' ≡ registry_state (r.lists ++ replicate (more_of m) []) (r.out + 1 + 1) r.seen
      → intakes' ≤ intakes + 1 → ((all : List (Option (LinkEnd Rd W A))) → keeps all → keeps' (all ++ None ∷ []))
      → IsTable turns batch views has_peers keeps' m (came + 1) intakes' t looks live' states' r'
  table_come keeps keeps' came intakes intakes' i t looks live live' states states' r r' c p is room one below free p_is e_live e_states e_registry made told =
      let so_far : ends_so_far states' ≡ ends_so_far states ++ None ∷ [] = so_far_more states states' (At i c) e_states in
      let e_seen : r'.seen ≡ r.seen = ap (λ (x : RegistryState A). x.seen) e_registry in
      let few = is.made in
      record {
        links = subst (λ w. IsLinkTable (IsKept turns batch views w) (IsOne views) m (came + 1) t.is_lost (is_some t.fault) live' states' r') (sym e_seen)
            (after_come (IsKept turns batch views r.seen) (IsOne views) m came (came + 1) i t.is_lost (is_some t.fault) t.is_lost (is_some t.fault) live live' states states' r r' c p
            is.links room one below free refl refl refl p_is e_live e_states e_registry);
        keeper = λ well. subst keeps' (sym so_far) (told (ends_so_far states) (is.keeper well));
        counted = subst (AreCounted looks) (sym so_far) (counted_came looks (ends_so_far states) is.counted);
        named = some_fault_more has_peers (links_of m came) (links_of m (came + 1)) (workers_of m) t.fault (links_more m came) is.named;
        made = omega (arith, made, few);
      }

  -- once one was lost
  pub table_lost : (keeps keeps' : List (Option (LinkEnd Rd W A)) → Type 0) (came intakes intakes' : ℕ) (t t' : Trouble) (looks : Looks) (live live' : List (Option (Seat Rd W))) (states states' : List (LinkState Rd W A)) (r r' : RegistryState A) (c : NewLink Rd W)
      → IsTable turns batch views has_peers keeps m came intakes t looks live states r → HasRoom m came → IsOne views c
      → t'.is_lost ≡ true → is_some t'.fault ≡ true → (t'.fault ≡ t.fault) ⊎ (t'.fault ≡ Some NoMemory)
      → live' ≡ live → states' ≡ states ++ Lost c ∷ [] → r' ≡ registry_state (r.lists ++ replicate (more_of m) []) (r.out + 1 + 1) r.seen
      → intakes' ≤ intakes + 1
      → IsTable turns batch views has_peers keeps' m (came + 1) intakes' t' looks live' states' r'
  table_lost keeps keeps' came intakes intakes' t t' looks live live' states states' r r' c is room one lost faulty each e_live e_states e_registry made =
      let so_far : ends_so_far states' ≡ ends_so_far states ++ None ∷ [] = so_far_more states states' (Lost c) e_states in
      let e_seen : r'.seen ≡ r.seen = ap (λ (x : RegistryState A). x.seen) e_registry in
      let few = is.made in
      record {
        links = subst (λ w. IsLinkTable (IsKept turns batch views w) (IsOne views) m (came + 1) t'.is_lost (is_some t'.fault) live' states' r') (sym e_seen)
            (after_lost (IsKept turns batch views r.seen) (IsOne views) m came (came + 1) t.is_lost (is_some t.fault) t'.is_lost (is_some t'.fault) live live' states states' r r' c
            is.links room one refl lost faulty e_live e_states e_registry);
        keeper = λ well. let no : true ≡ false = sym lost ∙ well in absurd (cc no);
        counted = subst (AreCounted looks) (sym so_far) (counted_came looks (ends_so_far states) is.counted);
        named = one_of (λ f. IsArrivingFault has_peers (links_of m (came + 1)) (workers_of m) f) t.fault (Some NoMemory) t'.fault (some_fault_more has_peers (links_of m came) (links_of m (came + 1)) (workers_of m) t.fault (links_more m came) is.named) tt each;
        made = omega (arith, made, few);
      }

  -- once one has ended
  pub table_ended : (keeps keeps' : List (Option (LinkEnd Rd W A)) → Type 0) (came intakes intakes' i : ℕ) (t t' : Trouble) (found : Option RunFault) (looks looks' : Looks) (live live' : List (Option (Seat Rd W))) (states states' : List (LinkState Rd W A)) (r r' : RegistryState A) (p : Seat Rd W)
      (e : LinkEnd Rd W A) (reads writes : List (Receipt A))
      → IsTable turns batch views has_peers keeps m came intakes t looks live states r → get_or live i None ≡ Some p
      → live' ≡ set live i None → states' ≡ with_end states p.link e → r' ≡ with_lists r p.reader reads p.writer writes r'.seen → IsPrefix r.seen r'.seen → intakes' ≡ intakes
      → (IsOne views p.came → IsKept turns batch views r'.seen p.came e reads writes)
      → (found ≡ None → IsWhole e) → IfSome found (λ f. (links workers : ℕ) → p.reader < links + links + workers + 1 → p.writer < links + links + workers + 1 → IsFaultOf links workers f)
      → (t.is_lost ≡ true → t'.is_lost ≡ true) → (t'.is_lost ≡ true → is_some t'.fault ≡ true) → (is_some t.fault ≡ true → is_some t'.fault ≡ true) → (is_some found ≡ true → is_some t'.fault ≡ true)
      → (t'.fault ≡ t.fault) ⊎ (t'.fault ≡ found) ⊎ (t'.fault ≡ Some NoMemory)
      → ((all : List (Option (LinkEnd Rd W A))) → keeps all → t'.is_lost ≡ false → keeps' (set all p.link (Some e)))
      → ((all : List (Option (LinkEnd Rd W A))) → slice_get all p.link ≡ Some None → AreCounted looks all → AreCounted looks' (set all p.link (Some e)))
      → IsTable turns batch views has_peers keeps' m came intakes' t' looks' live' states' r'
  table_ended keeps keeps' came intakes intakes' i t t' found looks looks' live live' states states' r r' p e reads writes is here e_live e_states e_registry begun e_made kept whole named lost faulty has also each told counts =
      let was = is.links.taken i p here in
      let so_far : ends_so_far states' ≡ set (ends_so_far states) p.link (Some e) = ap ends_so_far e_states ∙ so_far_ended states p.link e in
      let low : p.link < came = subst (λ n. p.link < n) is.links.many (slice_get_within states p.link (At i p.came) was.0) in
      let numbers = in_run m p.link came is.links.fits low in
      let a : p.reader ≡ reader_of m p.link = ap (λ (q : Seat Rd W). q.reader) was.1 in
      let b : p.writer ≡ writer_of m p.link = ap (λ (q : Seat Rd W). q.writer) was.1 in
      let one : IsOne views p.came = is.links.ones p.link (At i p.came) was.0 in
      let of : (f : Option RunFault) → IfSome f (λ f. (links workers : ℕ) → p.reader < links + links + workers + 1 → p.writer < links + links + workers + 1 → IsFaultOf links workers f) → IfSome f (λ f. IsFaultOf (links_of m came) (workers_of m) f) = elim [
        | None ↦ λ h. tt
        | Some f ↦ λ h. h (links_of m came) (workers_of m) (subst (λ n. n < links_of m came + links_of m came + workers_of m + 1) (sym a) numbers.0) (subst (λ n. n < links_of m came + links_of m came + workers_of m + 1) (sym b) numbers.1)
      ] in
      record {
        links = after_ended (IsKept turns batch views r.seen) (IsKept turns batch views r'.seen) (IsOne views) m came i t.is_lost (is_some t.fault) t'.is_lost (is_some t'.fault) live live' states states' r r' p e reads writes r'.seen
            is.links here e_live e_states e_registry lost has faulty (may_end t'.is_lost (is_some t'.fault) p.came e found whole also) (kept_longer turns batch views r.seen r'.seen begun) (kept one);
        keeper = λ well. subst keeps' (sym so_far) (told (ends_so_far states) (is.keeper (not_so t.is_lost t'.is_lost lost well)) well);
        counted = subst (AreCounted looks') (sym so_far) (counts (ends_so_far states) (so_far_none states p.link i p.came was.0) is.counted);
        named = one_of_three (λ f. IsArrivingFault has_peers (links_of m came) (workers_of m) f) t.fault found (Some NoMemory) t'.fault is.named (of_body has_peers (links_of m came) (workers_of m) found (of found named)) tt each;
        made = (let few = is.made in omega (arith, e_made, few));
      }

  -- who stands in a slot is out
  pub seat_is_out : (keeps : List (Option (LinkEnd Rd W A)) → Type 0) (came intakes i : ℕ) (t : Trouble) (looks : Looks) (live : List (Option (Seat Rd W))) (states : List (LinkState Rd W A)) (r : RegistryState A) (p : Seat Rd W)
      → IsTable turns batch views has_peers keeps m came intakes t looks live states r → get_or live i None ≡ Some p
      → IsOut r p.reader × IsOut r p.writer × (p.reader ≢ p.writer) × (p.other ≡ p.came.role)
  seat_is_out keeps came intakes i t looks live states r p is here =
      are_out (IsKept turns batch views r.seen) (IsOne views) m came i t.is_lost (is_some t.fault) live states r p is.links here

  -- where nothing but equal slots were put
  pub table_same : (keeps : List (Option (LinkEnd Rd W A)) → Type 0) (came intakes : ℕ) (t : Trouble) (looks : Looks) (live live' : List (Option (Seat Rd W))) (states : List (LinkState Rd W A)) (r : RegistryState A)
      → live' ≡ live → IsTable turns batch views has_peers keeps m came intakes t looks live states r → IsTable turns batch views has_peers keeps m came intakes t looks live' states r
  table_same keeps came intakes t looks live live' states r e is = subst (λ (w : List (Option (Seat Rd W))). IsTable turns batch views has_peers keeps m came intakes t looks w states r) (sym e) is

  -- with more faults
  pub table_noted : (keeps : List (Option (LinkEnd Rd W A)) → Type 0) (came intakes : ℕ) (t t' : Trouble) (found : Option RunFault) (looks : Looks) (live : List (Option (Seat Rd W))) (states : List (LinkState Rd W A)) (r : RegistryState A)
      → IsTable turns batch views has_peers keeps m came intakes t looks live states r
      → t'.is_lost ≡ t.is_lost → (is_some t.fault ≡ true → is_some t'.fault ≡ true)
      → (t'.fault ≡ t.fault) ⊎ (t'.fault ≡ found)
      → IfSome found (λ f. IsArrivingFault has_peers (links_of m came) (workers_of m) f)
      → IsTable turns batch views has_peers keeps m came intakes t' looks live states r
  table_noted keeps came intakes t t' found looks live states r is lost has each named = record {
    links = more_faults (IsKept turns batch views r.seen) (IsOne views) m came t.is_lost (is_some t.fault) t'.is_lost (is_some t'.fault) live states r (λ e. lost ∙ e) has (λ e. has (is.links.found (sym lost ∙ e))) is.links;
    keeper = λ well. is.keeper (sym lost ∙ well);
    counted = is.counted;
    named = one_of (λ f. IsArrivingFault has_peers (links_of m came) (workers_of m) f) t.fault found t'.fault is.named named each;
    made = is.made;
  }
