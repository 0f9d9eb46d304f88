-- What a table of rings gives, and what it keeps.
use Rattle.std.proofs.Common.{◌≡◌, ◌<◌, ◌≤◌, ◌==◌, ℕ, Bool, true, false, not, cond, nat_eq, nat_lt, List, [], ◌∷◌, ◌++◌, map, filter, get_or, length, Option, Some, None, Result, Ok, Err, IsOk, OnOk, IfErr, refl, sym, ap, ◌∙◌, arith, length-append, length-drop, ◌+◌, subst, drop, ⊎_elim, ◌↔◌}
use Rattle.std.specs.Option.{option_map, IfSome}
use Rattle.std.specs.List.{All, IsDistinct, slice_get}
use Rattle.std.specs.List.Sorted.{IsStrictlyIncreasing}
use Rattle.std.specs.Map.{lookup, keys_of, values_of, set_value, remove_entry}
use Rattle.std.specs.Cmp.{nat_eq_equiv}
use Rattle.std.specs.Ordering.{nat_cmp}
use Rattle.std.proofs.lemmas.Bool.{cases_lt, lt-ltb, le-ltb, ltb-true}
use Rattle.std.proofs.lemmas.List.{map-append, length-map, get_or-map, get_or_append_left, get_or_at}
use Rattle.std.proofs.lemmas.List.Elements.{All-get_or, All-push, All-head, All-tail, All-map, All-nil, All-cons}
use Rattle.std.proofs.lemmas.List.Kept.{IsStrictlyIncreasing-filter}
use Rattle.std.proofs.lemmas.Option.{slice_get-map, slice_get_read}
use Rattle.std.proofs.lemmas.Map.{keys-set_value, length-set_value, lookup-none}
use Rattle.std.proofs.lemmas.Map.Entries.{none_past_head}
use Rattle.std.proofs.lemmas.Map.Keys.{IsDistinct-tail, IsDistinct-from_sorted, sorted_from_strictly_increasing}
use Rattle.std.proofs.lemmas.Map.Views.{All-values-set_value, All-map-remove_entry, IfSome-lookup_from_All}
use Rattle.circular_buffer.specs.Buffer.{Buffer, buffer}
use Rattle.gn_wire.specs.Packet.{Packet}
use Rattle.gn_tables.proofs.MapLemmas.{same_test}
use Rattle.gn_tables.specs.Outputs.{AreOutputs, AreRings, IsRing, has_room, joined, left, outputs_of, popped, pushed, row_of, row_with, rows_of}

-- ---- searches

-- a search among the rows is one among the rings
pub lookup_rows : (c : ℕ) (es : List (ℕ × Buffer Packet)) → lookup (nat_eq c) (rows_of es) ≡ option_map (λ b. b.items) (lookup (nat_eq c) es)
lookup_rows c [] = refl
lookup_rows c (e ∷ es) =
    let rest : lookup (nat_eq c) (rows_of es) ≡ option_map (λ b. b.items) (lookup (nat_eq c) es) = lookup_rows c es in
    elim (nat_eq c e.0) as (λ t. cond t (Some e.1.items) (lookup (nat_eq c) (rows_of es)) ≡ option_map (λ b. b.items) (cond t (Some e.1) (lookup (nat_eq c) es))) [
      | true ↦ refl
      | false ↦ rest
    ]

-- the ring that is found is one of the table's
pub found_ring : (c most room : ℕ) (es : List (ℕ × Buffer Packet)) (v : Buffer Packet) → AreRings es most room → lookup (nat_eq c) es ≡ Some v → IsRing room v
found_ring c most room es v are found =
    let there : IfSome (lookup (nat_eq c) es) (IsRing room) = IfSome-lookup_from_All (IsRing room) (nat_eq c) es are.rings in
    rw found at there

-- ---- one more neighbour

ascending_push : (c : ℕ) (ks : List ℕ) → IsStrictlyIncreasing ks → All (λ k. k < c) ks → IsStrictlyIncreasing (ks ++ c ∷ [])
ascending_push c ks ascending below = λ k h.
    ⊎_elim (λ p. rw (get_or_append_left ks (c ∷ []) 0 k (omega arith), get_or_append_left ks (c ∷ []) 0 (k + 1) p) (ascending k p))
    (λ p. let at : length ks ≡ k + 1 = omega (arith, length-append ks (c ∷ [])) in
    rw (get_or_append_left ks (c ∷ []) 0 k (omega arith), get_or_at ks c [] 0 (k + 1) at) (below k 0 (omega arith)))
    (cases_lt (k + 1) (length ks))

all_unmapped : {X Y : Type 0} (f : X → Y) (P : Y → Type 0) (xs : List X) → All P (map f xs) → All (λ x. P (f x)) xs
all_unmapped f P [] h = All-nil (λ x. P (f x))
all_unmapped f P (x ∷ xs) h = All-cons (λ y. P (f y)) x xs (All-head P (f x) (map f xs) h) (all_unmapped f P xs (All-tail P (f x) (map f xs) h))

-- a neighbour that is added, with an empty ring
pub added : (es fs : List (ℕ × Buffer Packet)) (most room c : ℕ) (b : Buffer Packet) → AreRings es most room → length (rows_of es) < most → All (λ r. r.0 < c) (rows_of es) → b ≡ buffer [] room
    → fs ≡ es ++ (c, b) ∷ [] → AreRings fs most room × (outputs_of most room fs ≡ joined c (outputs_of most room es))
added es fs most room c b are few below b_is is =
    let above : All (λ e. e.0 < c) es = all_unmapped row_of (λ r. r.0 < c) es below in
    let keys_below : All (λ k. k < c) (keys_of es) = All-map (λ k. k < c) (λ (e : ℕ × Buffer Packet). e.0) es above in
    let empty : Buffer Packet = buffer [] room in
    let empty_fits : IsRing room empty = (refl, omega arith) in
    let fs_is : fs ≡ es ++ (c, empty) ∷ [] = is ∙ ap (λ ring. es ++ (c, ring) ∷ []) b_is in
    rw fs_is (
      record {
        few = omega (arith, length-append es ((c, empty) ∷ []), length-map es row_of);
        most_fits = are.most_fits;
        room_fits = are.room_fits;
        ascending = rw (map-append (λ (e : ℕ × Buffer Packet). e.0) es ((c, empty) ∷ [])) (ascending_push c (keys_of es) are.ascending keys_below);
        rings = rw (map-append (λ (e : ℕ × Buffer Packet). e.1) es ((c, empty) ∷ [])) (All-push (IsRing room) (values_of es) empty are.rings empty_fits);
      },
      rw (map-append row_of es ((c, empty) ∷ [])) refl,
    )

-- ---- a neighbour less

differs : (c d : ℕ) → nat_eq c d ≡ false → (d == c) ≡ false
differs c d h = nat_eq_equiv.symm d c ∙ h

-- no row of c is there to be left out
pub none_left_out : (c : ℕ) (es : List (ℕ × Buffer Packet)) → lookup (nat_eq c) es ≡ None → filter (λ r. not (r.0 == c)) (rows_of es) ≡ rows_of es
none_left_out c [] none = refl
none_left_out c (e ∷ es) none =
    elim (nat_eq c e.0) as (λ b. nat_eq c e.0 ≡ b → cond b (Some e.1) (lookup (nat_eq c) es) ≡ None → filter (λ r. not (r.0 == c)) (rows_of (e ∷ es)) ≡ rows_of (e ∷ es)) [
      | true ↦ λ t h. cc
      | false ↦ λ t h. rw (differs c e.0 t, none_left_out c es h) refl
    ] refl none

-- the rows without that of c
pub left_rows : (c : ℕ) (es : List (ℕ × Buffer Packet)) → IsDistinct nat_eq (keys_of es) → rows_of (remove_entry (nat_eq c) es) ≡ filter (λ r. not (r.0 == c)) (rows_of es)
left_rows c [] distinct = refl
left_rows c (e ∷ es) distinct =
    let none : nat_eq c e.0 ≡ true → lookup (nat_eq c) es ≡ None = λ t. lookup-none (nat_eq c) es (none_past_head nat_eq_equiv c e es distinct t) in
    let rest : rows_of (remove_entry (nat_eq c) es) ≡ filter (λ r. not (r.0 == c)) (rows_of es) = left_rows c es (IsDistinct-tail nat_eq e.0 (keys_of es) distinct) in
    elim (nat_eq c e.0) as (λ b. nat_eq c e.0 ≡ b → rows_of (cond b es (e ∷ remove_entry (nat_eq c) es)) ≡ filter (λ r. not (r.0 == c)) (rows_of (e ∷ es))) [
      | true ↦ λ t. let same : (e.0 == c) ≡ true = nat_eq_equiv.symm e.0 c ∙ t in rw (same, none_left_out c es (none t)) refl
      | false ↦ λ t. rw (differs c e.0 t, rest) refl
    ] refl

-- the keys of what a test of the keys keeps
keys_filter : {X : Type 0} (p : ℕ → Bool) (rs : List (ℕ × X)) → keys_of (filter (λ r. p r.0) rs) ≡ filter p (keys_of rs)
keys_filter p [] = refl
keys_filter p (r ∷ rs) =
    elim (p r.0) as (λ b. keys_of (cond b (r ∷ filter (λ r. p r.0) rs) (filter (λ r. p r.0) rs)) ≡ cond b (r.0 ∷ filter p (keys_of rs)) (filter p (keys_of rs))) [
      | true ↦ ap (λ ks. r.0 ∷ ks) (keys_filter p rs)
      | false ↦ keys_filter p rs
    ]

keys_of_rows : (es : List (ℕ × Buffer Packet)) → keys_of (rows_of es) ≡ keys_of es
keys_of_rows [] = refl
keys_of_rows (e ∷ es) = ap (λ ks. e.0 ∷ ks) (keys_of_rows es)

not_longer : {X : Type 0} (test : ℕ → Bool) (es : List (ℕ × X)) → length (remove_entry test es) ≤ length es
not_longer test [] = omega arith
not_longer test (e ∷ es) =
    elim (test e.0) as (λ b. length (cond b es (e ∷ remove_entry test es)) ≤ length (e ∷ es)) [
      | true ↦ omega arith
      | false ↦ omega (arith, not_longer test es)
    ]

-- numbers that rise differ
ascending_differ : (ks : List ℕ) → IsStrictlyIncreasing ks → IsDistinct nat_eq ks
ascending_differ ks ascending =
    subst (λ (t : ℕ → ℕ → Bool). IsDistinct t ks) (λ i q k. same_test q k i) (IsDistinct-from_sorted nat_cmp ks (sorted_from_strictly_increasing ks ascending))

-- a neighbour that is taken out
pub removed : (c most room : ℕ) (es fs : List (ℕ × Buffer Packet)) → AreRings es most room → fs ≡ remove_entry (nat_eq c) es
    → AreRings fs most room × (outputs_of most room fs ≡ left c (outputs_of most room es))
removed c most room es fs are is =
    let distinct : IsDistinct nat_eq (keys_of es) = ascending_differ (keys_of es) are.ascending in
    let rows_are : rows_of fs ≡ filter (λ r. not (r.0 == c)) (rows_of es) = ap rows_of is ∙ left_rows c es distinct in
    let keys_are : keys_of fs ≡ filter (λ k. not (k == c)) (keys_of es) =
    sym (keys_of_rows fs) ∙ ap keys_of rows_are ∙ keys_filter (λ k. not (k == c)) (rows_of es) ∙ ap (filter (λ k. not (k == c))) (keys_of_rows es) in (
      record {
        few = rw is (omega (arith, are.few, not_longer (nat_eq c) es));
        most_fits = are.most_fits;
        room_fits = are.room_fits;
        ascending = rw keys_are (IsStrictlyIncreasing-filter (λ k. not (k == c)) (keys_of es) are.ascending);
        rings = rw is (All-map-remove_entry (nat_eq c) (λ (e : ℕ × Buffer Packet). e.1) (IsRing room) es are.rings);
      },
      rw rows_are refl,
    )

-- ---- what a table gives

-- the output queues of a table are as output queues are
pub outputs_are : (most room : ℕ) (es : List (ℕ × Buffer Packet)) → AreRings es most room → AreOutputs (outputs_of most room es)
outputs_are most room es are =
    let rings : All (λ e. IsRing room e.1) es = all_unmapped (λ (e : ℕ × Buffer Packet). e.1) (IsRing room) es are.rings in
    record {
      few = omega (arith, are.few, length-map es row_of);
      ascending = rw (keys_of_rows es) are.ascending;
      short = All-map (λ r. length r.1 ≤ room) row_of es (λ k d h. (rings k d h).1);
    }

number_is : (es : List (ℕ × Buffer Packet)) (i : ℕ) → slice_get (keys_of (rows_of es)) i ≡ option_map (λ e. e.0) (slice_get es i)
number_is es i = ap (λ ks. slice_get ks i) (keys_of_rows es) ∙ slice_get-map (λ (e : ℕ × Buffer Packet). e.0) es i

-- the connection at a place of the entries ds, which are these
pub number_at : (es ds : List (ℕ × Buffer Packet)) (i : ℕ) (e : ℕ × Buffer Packet) → ds ≡ es → true ≡ nat_lt i (length ds) → e ≡ get_or ds i e → Some e.0 ≡ slice_get (keys_of (rows_of es)) i
number_at es ds i e are low is =
    let at : slice_get ds i ≡ Some e = slice_get_read ds (length ds) i e refl (ltb-true i (length ds) (sym low)) is in
    sym (number_is es i ∙ ap (λ xs. option_map (λ (x : ℕ × Buffer Packet). x.0) (slice_get xs i)) (sym are) ∙ ap (option_map (λ (x : ℕ × Buffer Packet). x.0)) at)

-- the connection and the count of the row at a place of the entries ds, which are these
pub row_at : (es ds : List (ℕ × Buffer Packet)) (i : ℕ) (e : ℕ × Buffer Packet) (n : ℕ) → ds ≡ es → true ≡ nat_lt i (length ds) → e ≡ get_or ds i e → n ≡ length e.1.items
    → ◌≡◌ {A = Option (ℕ × ℕ)} (Some (e.0, n)) (option_map (λ r. (r.0, length r.1)) (slice_get (rows_of es) i))
row_at es ds i e n are low is many =
    let at : slice_get ds i ≡ Some e = slice_get_read ds (length ds) i e refl (ltb-true i (length ds) (sym low)) is in
    let pair : ℕ → ℕ × ℕ = λ m. (e.0, m) in
    let count : ℕ × List Packet → ℕ × ℕ = λ r. (r.0, length r.1) in
    ap (λ m. Some (pair m)) many
    ∙ sym (ap (option_map count)
    (slice_get-map row_of es i ∙ ap (λ xs. option_map row_of (slice_get xs i)) (sym are) ∙ ap (option_map row_of) at))

-- the ring at a place has no more packets than there is room
pub ring_at : (most room : ℕ) (es ds : List (ℕ × Buffer Packet)) (i : ℕ) (e : ℕ × Buffer Packet) → AreRings es most room → ds ≡ es → true ≡ nat_lt i (length ds) → e ≡ get_or ds i e
    → IsRing room e.1
ring_at most room es ds i e rings are low is =
    let within : i < length es = omega (arith, ltb-true i (length ds) (sym low), ap length are) in
    let at : get_or (values_of es) i e.1 ≡ e.1 =
    get_or-map (λ (x : ℕ × Buffer Packet). x.1) es i e e.1 within ∙ ap (λ (xs : List (ℕ × Buffer Packet)). (get_or xs i e).1) (sym are) ∙ ap (λ (x : ℕ × Buffer Packet). x.1) (sym is) in
    subst (IsRing room) at (All-get_or (IsRing room) (values_of es) i e.1 (omega (arith, within, length-map es (λ (x : ℕ × Buffer Packet). x.1))) rings.rings)

-- ---- a ring that is written

-- no row of c is there to be changed
pub none_changed : (c : ℕ) (change : List Packet → List Packet) (es : List (ℕ × Buffer Packet)) → lookup (nat_eq c) es ≡ None → map (row_with c change) (rows_of es) ≡ rows_of es
none_changed c change [] h = refl
none_changed c change (e ∷ es) h =
    elim (nat_eq c e.0) as (λ b. nat_eq c e.0 ≡ b → cond b (Some e.1) (lookup (nat_eq c) es) ≡ None → row_with c change (row_of e) ∷ map (row_with c change) (rows_of es) ≡ row_of e ∷ rows_of es) [
      | true ↦ λ t h. cc
      | false ↦ λ t h. rw (differs c e.0 t, none_changed c change es h) refl
    ] refl h

-- the rows after the ring of c is written
rows_written : (c : ℕ) (change : List Packet → List Packet) (es : List (ℕ × Buffer Packet)) (v w : Buffer Packet) → IsDistinct nat_eq (keys_of es) → lookup (nat_eq c) es ≡ Some v → w.items ≡ change v.items
    → rows_of (set_value (nat_eq c) es w) ≡ map (row_with c change) (rows_of es)
rows_written c change [] v w distinct found is = cc
rows_written c change (e ∷ es) v w distinct found is =
    let flip : (e.0 == c) ≡ nat_eq c e.0 = nat_eq_equiv.symm e.0 c in
    let rest : lookup (nat_eq c) es ≡ Some v → rows_of (set_value (nat_eq c) es w) ≡ map (row_with c change) (rows_of es) = λ h. rows_written c change es v w (IsDistinct-tail nat_eq e.0 (keys_of es) distinct) h is in
    let none : nat_eq c e.0 ≡ true → map (row_with c change) (rows_of es) ≡ rows_of es = λ t. none_changed c change es (lookup-none (nat_eq c) es (none_past_head nat_eq_equiv c e es distinct t)) in
    elim (nat_eq c e.0) as (λ b. nat_eq c e.0 ≡ b → (e.0 == c) ≡ b → cond b (Some e.1) (lookup (nat_eq c) es) ≡ Some v
    → rows_of (cond b ((e.0, w) ∷ es) (e ∷ set_value (nat_eq c) es w)) ≡ row_with c change (row_of e) ∷ map (row_with c change) (rows_of es)) [
      | true ↦ λ t f h. let same : e.1 ≡ v = cc in rw (f, none t, same, is) refl
      | false ↦ λ t f h. rw (f, rest h) refl
    ] refl flip found

-- what is written is what was there
set_same : {X : Type 0} (c : ℕ) (es : List (ℕ × X)) (v : X) → lookup (nat_eq c) es ≡ Some v → set_value (nat_eq c) es v ≡ es
set_same c [] v h = cc
set_same c (e ∷ es) v h =
    let rest : lookup (nat_eq c) es ≡ Some v → set_value (nat_eq c) es v ≡ es = λ f. set_same c es v f in
    elim (nat_eq c e.0) as (λ b. cond b (Some e.1) (lookup (nat_eq c) es) ≡ Some v → cond b ((e.0, v) ∷ es) (e ∷ set_value (nat_eq c) es v) ≡ e ∷ es) [
      | true ↦ λ f. let same : e.1 ≡ v = cc in rw (← same) refl
      | false ↦ λ f. ap (λ xs. e ∷ xs) (rest f)
    ] h

-- a table after one of its rings is written: fs are its entries, v was the ring, and w is the ring now
pub record IsRewritten (c : ℕ) (es fs : List (ℕ × Buffer Packet)) (v w : Buffer Packet) : Type 0 where
  pub found : lookup (nat_eq c) es ≡ Some v
  pub is : fs ≡ set_value (nat_eq c) es w

module _ (c most room : ℕ) (es fs : List (ℕ × Buffer Packet)) (v w : Buffer Packet) (are : AreRings es most room) (wrote : IsRewritten c es fs v w) where
  pub rings_written : IsRing room w → AreRings fs most room
  rings_written fits = record {
    few = omega (arith, are.few, ap (λ (ds : List (ℕ × Buffer Packet)). length ds) wrote.is, length-set_value (nat_eq c) es w);
    most_fits = are.most_fits;
    room_fits = are.room_fits;
    ascending = rw (wrote.is, keys-set_value (nat_eq c) es w) are.ascending;
    rings = rw wrote.is (All-values-set_value (nat_eq c) (IsRing room) es w are.rings fits);
  }

  changed : (change : List Packet → List Packet) → w.items ≡ change v.items → outputs_of most room fs ≡ record (outputs_of most room es) { rows = map (row_with c change) (rows_of es) }
  changed change is = rw (wrote.is, rows_written c change es v w (ascending_differ (keys_of es) are.ascending) wrote.found is) refl

  -- after a pop
  pub popped_row : w ≡ buffer (drop 1 v.items) v.capacity → AreRings fs most room × (outputs_of most room fs ≡ popped c (outputs_of most room es))
  popped_row is =
      let ring : IsRing room v = found_ring c most room es v are wrote.found in
      let short : length (drop 1 v.items) ≤ room = omega (arith, length-drop 1 v.items, ring.1) in
      let fits : IsRing room w = rw is (ring.0, short) in
      (rings_written fits, changed (drop 1) (ap (λ b. b.items) is))

  -- what a push says of its result
  pub record IsPush {U : Type 0} (p : Packet) (r : Result U Packet) : Type 0 where
    pub variant : IsOk r ↔ (length v.items < v.capacity)
    pub ok : OnOk r (w ≡ buffer (v.items ++ p ∷ []) v.capacity)
    pub err : IfErr r (λ x. (x ≡ p) × (w ≡ v))

  room_is : has_room c (outputs_of most room es) ≡ nat_lt (length v.items) v.capacity
  room_is = rw (lookup_rows c es, wrote.found, (found_ring c most room es v are wrote.found).0) refl

  -- what a push leaves
  pub record IsPushed {U : Type 0} (p : Packet) (r : Result U Packet) : Type 0 where
    pub rings : AreRings fs most room
    pub ok : OnOk r ((has_room c (outputs_of most room es) ≡ true) × (outputs_of most room fs ≡ pushed c p (outputs_of most room es)))
    pub err : IfErr r (λ x. (has_room c (outputs_of most room es) ≡ false) × (x ≡ p) × (outputs_of most room fs ≡ outputs_of most room es))

  pub pushed_row : {U : Type 0} (p : Packet) (r : Result U Packet) → IsPush p r → IsPushed p r
  pushed_row {U} p (Ok u) push =
      let ring : IsRing room v = found_ring c most room es v are wrote.found in
      let free : length v.items < v.capacity = push.variant.0 refl in
      let short : length (v.items ++ p ∷ []) ≤ room = omega (arith, free, ring.0, length-append v.items (p ∷ [])) in
      let fits : IsRing room w = rw push.ok (ring.0, short) in
      record {
        rings = rings_written fits;
        ok = (room_is ∙ lt-ltb (length v.items) v.capacity free, changed (λ packets. packets ++ p ∷ []) (ap (λ b. b.items) push.ok));
        err = tt;
      }
  pushed_row {U} p (Err x) push =
      let ring : IsRing room v = found_ring c most room es v are wrote.found in
      let same : w ≡ v = push.err.1 in
      record {
        rings = rings_written (rw same ring);
        ok = tt;
        err = (room_is ∙ full, push.err.0, rw (wrote.is, same, set_same c es v wrote.found) refl);
      }
    where
      no_room : length v.items < v.capacity → nat_lt (length v.items) v.capacity ≡ false
      no_room free = let is : IsOk {T = U} {E = Packet} (Err x) = push.variant.1 free in cc

      full : nat_lt (length v.items) v.capacity ≡ false
      full = ⊎_elim no_room (le-ltb (length v.items) v.capacity) (cases_lt (length v.items) v.capacity)
