-- Each kind of step keeps the rule.
use Rattle.std.proofs.Common.{◌≡◌, ◌≢◌, ◌⊎◌, ℕ, zero, suc, ◌+◌, ◌<◌, ◌≤◌, max, List, [], ◌∷◌, ◌++◌, length, set, sym, refl, ap, ◌∙◌, subst, inl, inr, ⊎_elim, append_assoc, append-nil, length-append, arith}
use mathlib.Core.Option.{some, none, some-injective, some-ne-none}
use lib.ListN.{get_elem?}
use Rattle.atomic_table.proofs.Lists.{at_set}
use Rattle.crossbeam_channel.specs.Fifo.{Pushes, Pops, Forks, Merges, Learns}
use Rattle.gn_stage.specs.Rule.{Role, of_desk, of_intake, of_outlet, joined, owned, jobs_of, Past, Fits, Invariant, Known, AreHome, new_desk, new_intake, new_outlet, spent, with_item, with_intake, with_outlet, with_intake_home, with_outlet_home}
use Rattle.gn_stage.specs.Lessons.{AreCounted, IsRunning, IsDraining, Drained}
use Rattle.gn_stage.proofs.Numbers.{as_many}
use Rattle.gn_stage.proofs.Owners.{owned_by-mine, owned_by-other, jobs_of-push}
use Rattle.gn_stage.proofs.Sides.{seat_set, seat_here, seat_else, free_apart, seats_apart, still_held, side_more, side_made, side_home, side_begins, side_free, all_free}

-- roles, numbered
abbrev rank : Role → ℕ
rank of_desk = 0
rank of_intake = 1
rank of_outlet = 2
rank joined = 3

-- two roles of different numbers are not one
unlike : (a b : Role) → rank a ≢ rank b → a ≡ b → ⊥
unlike a b apart same = apart (ap rank same)

module _ {J : Type 0} where
  abbrev AllFit : (ℕ → Known J → Type 0) → List (Known J) → Type 0
  AllFit F views = (port : ℕ) (v : Known J) → get_elem? views port ≡ some v → F port v

  all_set : (F : ℕ → Known J → Type 0) (views : List (Known J)) (port : ℕ) (w : Known J) → F port w → ((j : ℕ) (u : Known J) → j ≢ port → get_elem? views j ≡ some u → F j u) → AllFit F (set views port w)
  all_set F views port w mine others j u e = ⊎_elim (λ (x : (j ≡ port) × (w ≡ u)). subst (λ (y : ℕ × Known J). F y.0 y.1) (λ i. (sym x.0 i, x.1 i)) mine)
      (λ (x : (j ≢ port) × (get_elem? views j ≡ some u)). others j u x.0 x.1) (at_set views port j w u e)

  -- an element of a list that is one longer, with its place
  at_end : (l : List (Known J)) (a b : Known J) (j : ℕ) → get_elem? (l ++ a ∷ []) j ≡ some b → (get_elem? l j ≡ some b) ⊎ ((j ≡ length l) × (a ≡ b))
  at_end [] a b zero e = inr (refl, some-injective a b e)
  at_end [] a b (suc j) e = absurd (some-ne-none b (sym e))
  at_end (x ∷ xs) a b zero e = inl e
  at_end (x ∷ xs) a b (suc j) e = ⊎_elim (λ t. inl t) (λ t. inr (ap suc t.0, t.1)) (at_end xs a b j e)

  all_end : (F : ℕ → Known J → Type 0) (views : List (Known J)) (a : Known J) → AllFit F views → F (length views) a → AllFit F (views ++ a ∷ [])
  all_end F views a old new j u e = ⊎_elim (λ x. old j u x) (λ (x : (j ≡ length views) × (a ≡ u)). subst (λ (y : ℕ × Known J). F y.0 y.1) (λ i. (sym x.0 i, x.1 i)) new) (at_end views a u j e)

  few_more : (d items : List J) (x : J) (n room most : ℕ) → d ≡ [] → length items < n → room ≡ n → room ≤ most → length d + length (items ++ x ∷ []) ≤ most
  few_more d items x n room most none_drained short e le = rw none_drained (let l = length-append items (x ∷ []) in omega arith)

  pub puts : (n port : ℕ) (v : Known J) (x : J) → v.role ≡ of_intake → v.room ≡ n → Pushes Invariant n port v x (λ w. w ≡ with_item v x)
  puts n port v x is room items views short h at =
      let p = h.past in
      let mine = (h.fits port v at).as_intake is in
      let me = v.end.number in
      let past : Past J = record p { put = p.put ++ owned me x ∷ [] } in
      let w = with_item v x in (
        w,
        record {
          past = past;
          order = jobs_of-push me x p.put ∙ ap (λ l. l ++ x ∷ []) h.order ∙ append_assoc (jobs_of p.taken ++ p.drained) items (x ∷ []);
          ins_last = h.ins_last;
          outs_last = h.outs_last;
          few = few_more p.drained items x n v.room p.room (h.ins_last me port mine.0) short room mine.2;
          fits = all_set (Fits past) views port w
              (record {
                as_intake = λ i. (mine.0, ap (λ l. l ++ x ∷ []) mine.1 ∙ sym (owned_by-mine me x p.put), mine.2);
                as_outlet = λ i. absurd (unlike of_intake of_outlet (λ (e : 1 ≡ 2). omega arith) (sym is ∙ i));
                as_desk = λ i. absurd (unlike of_intake of_desk (λ (e : 1 ≡ 0). omega arith) (sym is ∙ i));
              })
              (λ j u other e. let was = h.fits j u e in record {
                as_intake = λ i. let f = was.as_intake i in (f.0, f.1 ∙ sym (owned_by-other me u.end.number x p.put (seats_apart p.in_seat me u.end.number port j mine.0 f.0 other)), f.2);
                as_outlet = was.as_outlet;
                as_desk = λ i. let d = was.as_desk i in record { here = d.here; drained = d.drained; room = d.room; ins = side_more _ p.in_seat p.put me x port mine.0 d.ins; outs = d.outs };
              });
        },
        refl,
      )

  order_taken : (q t d items : List J) (x : J) → d ≡ [] → q ≡ (t ++ d) ++ (x ∷ items) → q ≡ ((t ++ x ∷ []) ++ d) ++ items
  order_taken q t d items x none_drained e = rw none_drained (rw none_drained at e ∙ simp (append_assoc, append-nil))

  pub takes : (port : ℕ) (v : Known J) → v.role ≡ of_outlet → Pops Invariant port v (λ x w. w ≡ with_item v x)
  takes port v is x items views h at =
      let p = h.past in
      let mine = (h.fits port v at).as_outlet is in
      let me = v.end.number in
      let past : Past J = record p { taken = p.taken ++ owned me x ∷ [] } in
      let w = with_item v x in (
        w,
        record {
          past = past;
          order = order_taken _ (jobs_of p.taken) p.drained items x (h.outs_last me port mine.0) h.order ∙ ap (λ t. (t ++ p.drained) ++ items) (sym (jobs_of-push me x p.taken));
          ins_last = h.ins_last;
          outs_last = h.outs_last;
          few = let few = h.few in omega arith;
          fits = all_set (Fits past) views port w
              (record {
                as_intake = λ i. absurd (unlike of_outlet of_intake (λ (e : 2 ≡ 1). omega arith) (sym is ∙ i));
                as_outlet = λ i. (mine.0, ap (λ l. l ++ x ∷ []) mine.1 ∙ sym (owned_by-mine me x p.taken));
                as_desk = λ i. absurd (unlike of_outlet of_desk (λ (e : 2 ≡ 0). omega arith) (sym is ∙ i));
              })
              (λ j u other e. let was = h.fits j u e in record {
                as_intake = was.as_intake;
                as_outlet = λ i. let f = was.as_outlet i in (f.0, f.1 ∙ sym (owned_by-other me u.end.number x p.taken (seats_apart p.out_seat me u.end.number port j mine.0 f.0 other)));
                as_desk = λ i. let d = was.as_desk i in record { here = d.here; drained = d.drained; room = d.room; ins = d.ins; outs = side_more _ p.out_seat p.taken me x port mine.0 d.outs };
              });
        },
        refl,
      )

  order_drained : (q t d items : List J) (x : J) → q ≡ (t ++ d) ++ (x ∷ items) → q ≡ (t ++ (d ++ x ∷ [])) ++ items
  order_drained q t d items x e = e ∙ simp append_assoc

  pub drains : (port : ℕ) (v : Known J) → v.role ≡ of_desk → AreHome v.ins → AreHome v.outs → Pops Invariant port v (Drained v)
  drains port v is all_in all_out x items views h at =
      let p = h.past in
      let mine = (h.fits port v at).as_desk is in
      let past : Past J = record p { drained = p.drained ++ x ∷ [] } in
      let w = with_item v x in
      let drained : w.end.jobs ≡ past.drained = ap (λ l. l ++ x ∷ []) mine.drained in
      let size = length-append p.drained (x ∷ []) in
      let few : length past.drained + length items ≤ p.room = let was = h.few in omega arith in
      let few_drained : length w.end.jobs ≤ w.room = rw drained (let room = mine.room in omega arith) in (
        w,
        record {
          past = past;
          order = order_drained _ (jobs_of p.taken) p.drained items x h.order;
          ins_last = λ k j out. absurd (some-ne-none j (sym out ∙ all_free _ p.in_seat p.put all_in mine.ins k));
          outs_last = λ k j out. absurd (some-ne-none j (sym out ∙ all_free _ p.out_seat p.taken all_out mine.outs k));
          few = few;
          fits = all_set (Fits past) views port w
              (record {
                as_intake = λ i. absurd (unlike of_desk of_intake (λ (e : 0 ≡ 1). omega arith) (sym is ∙ i));
                as_outlet = λ i. absurd (unlike of_desk of_outlet (λ (e : 0 ≡ 2). omega arith) (sym is ∙ i));
                as_desk = λ i. record { here = mine.here; drained = drained; room = mine.room; ins = mine.ins; outs = mine.outs };
              })
              (λ j u other e. let was = h.fits j u e in record {
                as_intake = was.as_intake;
                as_outlet = was.as_outlet;
                as_desk = λ i. absurd (other ((was.as_desk i).here ∙ sym mine.here));
              });
        },
        (refl, few_drained),
      )

  pub runs : (port : ℕ) (v : Known J) → v.role ≡ of_outlet → Learns Invariant port v (IsRunning v.end)
  runs port v is items views h at =
      let p = h.past in
      let mine = (h.fits port v at).as_outlet is in
      let none_drained = h.outs_last v.end.number port mine.0 in
      record { put = p.put; taken = p.taken; order = h.order ∙ ap (λ l. l ++ items) (ap (λ d. jobs_of p.taken ++ d) none_drained ∙ append-nil (jobs_of p.taken)); mine = mine.1 }

  pub learns : (port : ℕ) (v : Known J) → v.role ≡ of_desk → AreHome v.ins → AreHome v.outs → Learns Invariant port v (IsDraining v)
  learns port v is all_in all_out items views h at =
      let p = h.past in
      let mine = (h.fits port v at).as_desk is in record {
        put = p.put;
        taken = p.taken;
        order = h.order ∙ ap (λ d. (jobs_of p.taken ++ d) ++ items) (sym mine.drained);
        ins = side_free _ p.in_seat p.put mine.ins;
        outs = side_free _ p.out_seat p.taken mine.outs;
      }

  pub numbers : (port : ℕ) (v : Known J) → v.role ≡ of_desk → Learns Invariant port v (λ items. AreCounted v)
  numbers port v is items views h at =
      let side = ((h.fits port v at).as_desk is).ins in
      as_many v.ins.made v.ins.home (λ k d lt. (side.home k d lt).below) side.apart

  alone : (j : ℕ) (u : Known J) → j ≢ 0 → get_elem? (new_desk ∷ []) j ≡ some u → ⊥
  alone zero u n e = n refl
  alone (suc j) u n e = some-ne-none u (sym e)

  pub begins : Invariant {J = J} [] (new_desk ∷ [])
  begins =
      let past : Past J = record { put = []; taken = []; drained = []; in_seat = λ k. none; out_seat = λ k. none; desk = 0; room = 0 } in
      let first : Fits past 0 new_desk = record { as_intake = λ i. absurd (unlike of_desk of_intake (λ (e : 0 ≡ 1). omega arith) i); as_outlet = λ i. absurd (unlike of_desk of_outlet (λ (e : 0 ≡ 2). omega arith) i); as_desk = λ i. record { here = refl; drained = refl; room = refl; ins = side_begins; outs = side_begins } } in
      record {
        past = past;
        order = refl;
        ins_last = λ k port e. refl;
        outs_last = λ k port e. refl;
        few = omega arith;
        fits = all_set (Fits past) (new_desk ∷ []) 0 new_desk first (λ j u other e. absurd (alone j u other e));
      }

  pub makes_intake : (room port : ℕ) (v : Known J) → v.role ≡ of_desk → v.end.jobs ≡ [] → Forks Invariant port v (with_intake room v) (new_intake room v.ins.made)
  makes_intake room port v is empty items views h at =
      let p = h.past in
      let mine = (h.fits port v at).as_desk is in
      let left = with_intake room v in
      let vs : List (Known J) = set views port left in
      let right : Known J = new_intake room v.ins.made in
      let seat = seat_set p.in_seat v.ins.made (some (length vs)) in
      let free = mine.ins.later v.ins.made (omega arith) in
      let past : Past J = record p { in_seat = seat; room = max p.room room } in
      record {
        past = past;
        order = h.order;
        ins_last = λ k j e. sym mine.drained ∙ empty;
        outs_last = h.outs_last;
        few = let few = h.few in omega arith;
        fits = all_end (Fits past) vs right
            (all_set (Fits past) views port left
            (record {
              as_intake = λ i. absurd (unlike of_desk of_intake (λ (e : 0 ≡ 1). omega arith) (sym is ∙ i));
              as_outlet = λ i. absurd (unlike of_desk of_outlet (λ (e : 0 ≡ 2). omega arith) (sym is ∙ i));
              as_desk = λ i. record { here = mine.here; drained = mine.drained; room = ap (λ n. max n room) mine.room; ins = side_made _ p.in_seat p.put (length vs) mine.ins; outs = mine.outs };
            })
            (λ j u other e. let was = h.fits j u e in record {
              as_intake = λ i. let f = was.as_intake i in (seat_else p.in_seat v.ins.made (some (length vs)) u.end.number (free_apart p.in_seat u.end.number v.ins.made j f.0 free.0) ∙ f.0, f.1, (let le = f.2 in omega arith));
              as_outlet = was.as_outlet;
              as_desk = λ i. absurd (other ((was.as_desk i).here ∙ sym mine.here));
            }))
            (record {
              as_intake = λ i. (seat_here p.in_seat v.ins.made (some (length vs)), sym free.1, omega arith);
              as_outlet = λ i. absurd (unlike of_intake of_outlet (λ (e : 1 ≡ 2). omega arith) i);
              as_desk = λ i. absurd (unlike of_intake of_desk (λ (e : 1 ≡ 0). omega arith) i);
            });
      }

  pub makes_outlet : (room port : ℕ) (v : Known J) → v.role ≡ of_desk → v.end.jobs ≡ [] → Forks Invariant port v (with_outlet v) (new_outlet room v.outs.made)
  makes_outlet room port v is empty items views h at =
      let p = h.past in
      let mine = (h.fits port v at).as_desk is in
      let left = with_outlet v in
      let vs : List (Known J) = set views port left in
      let right : Known J = new_outlet room v.outs.made in
      let seat = seat_set p.out_seat v.outs.made (some (length vs)) in
      let free = mine.outs.later v.outs.made (omega arith) in
      let past : Past J = record p { out_seat = seat } in
      record {
        past = past;
        order = h.order;
        ins_last = h.ins_last;
        outs_last = λ k j e. sym mine.drained ∙ empty;
        few = h.few;
        fits = all_end (Fits past) vs right
            (all_set (Fits past) views port left
            (record {
              as_intake = λ i. absurd (unlike of_desk of_intake (λ (e : 0 ≡ 1). omega arith) (sym is ∙ i));
              as_outlet = λ i. absurd (unlike of_desk of_outlet (λ (e : 0 ≡ 2). omega arith) (sym is ∙ i));
              as_desk = λ i. record { here = mine.here; drained = mine.drained; room = mine.room; ins = mine.ins; outs = side_made _ p.out_seat p.taken (length vs) mine.outs };
            })
            (λ j u other e. let was = h.fits j u e in record {
              as_intake = was.as_intake;
              as_outlet = λ i. let f = was.as_outlet i in (seat_else p.out_seat v.outs.made (some (length vs)) u.end.number (free_apart p.out_seat u.end.number v.outs.made j f.0 free.0) ∙ f.0, f.1);
              as_desk = λ i. absurd (other ((was.as_desk i).here ∙ sym mine.here));
            }))
            (record {
              as_intake = λ i. absurd (unlike of_outlet of_intake (λ (e : 2 ≡ 1). omega arith) i);
              as_outlet = λ i. (seat_here p.out_seat v.outs.made (some (length vs)), sym free.1);
              as_desk = λ i. absurd (unlike of_outlet of_desk (λ (e : 2 ≡ 0). omega arith) i);
            });
      }

  pub joins_intake : (port : ℕ) (v : Known J) (other : ℕ) (w : Known J) → v.role ≡ of_desk → w.role ≡ of_intake → Merges Invariant port v other w (with_intake_home v w.end) spent
  joins_intake port v other w is home items views h at two at' =
      let p = h.past in
      let mine = (h.fits port v at).as_desk is in
      let both = with_intake_home v w.end in
      let vs : List (Known J) = set views port both in
      let was : get_elem? views other ≡ some w = ⊎_elim (λ x. absurd (two x.0)) (λ x. x.1) (at_set views port other both w at') in
      let theirs = (h.fits other w was).as_intake home in
      let seat = seat_set p.in_seat w.end.number none in
      let past : Past J = record p { in_seat = seat } in
      let Now : ℕ → Known J → Type 0 = λ j y. j ≢ other → Fits past j y in
      let now : AllFit Now vs = all_set Now views port both
      (λ off. record {
        as_intake = λ i. absurd (unlike of_desk of_intake (λ (e : 0 ≡ 1). omega arith) (sym is ∙ i));
        as_outlet = λ i. absurd (unlike of_desk of_outlet (λ (e : 0 ≡ 2). omega arith) (sym is ∙ i));
        as_desk = λ i. record { here = mine.here; drained = mine.drained; room = mine.room; ins = side_home _ p.in_seat p.put w.end other theirs.0 theirs.1 mine.ins; outs = mine.outs };
      })
      (λ j u away e off. let f = h.fits j u e in record {
        as_intake = λ i. let s = f.as_intake i in (seat_else p.in_seat w.end.number none u.end.number (λ same. seats_apart p.in_seat w.end.number u.end.number other j theirs.0 s.0 off (sym same)) ∙ s.0, s.1, s.2);
        as_outlet = f.as_outlet;
        as_desk = λ i. absurd (away ((f.as_desk i).here ∙ sym mine.here));
      }) in
      record {
        past = past;
        order = h.order;
        ins_last = λ k j e. h.ins_last k j (still_held p.in_seat w.end.number k j e);
        outs_last = h.outs_last;
        few = h.few;
        fits = all_set (Fits past) vs other spent (record { as_intake = λ i. absurd (unlike joined of_intake (λ (e : 3 ≡ 1). omega arith) i); as_outlet = λ i. absurd (unlike joined of_outlet (λ (e : 3 ≡ 2). omega arith) i); as_desk = λ i. absurd (unlike joined of_desk (λ (e : 3 ≡ 0). omega arith) i) }) (λ j y off e. now j y e off);
      }

  pub joins_outlet : (port : ℕ) (v : Known J) (other : ℕ) (w : Known J) → v.role ≡ of_desk → w.role ≡ of_outlet → Merges Invariant port v other w (with_outlet_home v w.end) spent
  joins_outlet port v other w is home items views h at two at' =
      let p = h.past in
      let mine = (h.fits port v at).as_desk is in
      let both = with_outlet_home v w.end in
      let vs : List (Known J) = set views port both in
      let was : get_elem? views other ≡ some w = ⊎_elim (λ x. absurd (two x.0)) (λ x. x.1) (at_set views port other both w at') in
      let theirs = (h.fits other w was).as_outlet home in
      let seat = seat_set p.out_seat w.end.number none in
      let past : Past J = record p { out_seat = seat } in
      let Now : ℕ → Known J → Type 0 = λ j y. j ≢ other → Fits past j y in
      let now : AllFit Now vs = all_set Now views port both
      (λ off. record {
        as_intake = λ i. absurd (unlike of_desk of_intake (λ (e : 0 ≡ 1). omega arith) (sym is ∙ i));
        as_outlet = λ i. absurd (unlike of_desk of_outlet (λ (e : 0 ≡ 2). omega arith) (sym is ∙ i));
        as_desk = λ i. record { here = mine.here; drained = mine.drained; room = mine.room; ins = mine.ins; outs = side_home _ p.out_seat p.taken w.end other theirs.0 theirs.1 mine.outs };
      })
      (λ j u away e off. let f = h.fits j u e in record {
        as_intake = f.as_intake;
        as_outlet = λ i. let s = f.as_outlet i in (seat_else p.out_seat w.end.number none u.end.number (λ same. seats_apart p.out_seat w.end.number u.end.number other j theirs.0 s.0 off (sym same)) ∙ s.0, s.1);
        as_desk = λ i. absurd (away ((f.as_desk i).here ∙ sym mine.here));
      }) in
      record {
        past = past;
        order = h.order;
        ins_last = h.ins_last;
        outs_last = λ k j e. h.outs_last k j (still_held p.out_seat w.end.number k j e);
        few = h.few;
        fits = all_set (Fits past) vs other spent (record { as_intake = λ i. absurd (unlike joined of_intake (λ (e : 3 ≡ 1). omega arith) i); as_outlet = λ i. absurd (unlike joined of_outlet (λ (e : 3 ≡ 2). omega arith) i); as_desk = λ i. absurd (unlike joined of_desk (λ (e : 3 ≡ 0). omega arith) i) }) (λ j y off e. now j y e off);
      }
