-- A drained desk settles its stage.
use Rattle.std.proofs.Common.{◌≡◌, ◌↔◌, ◌<◌, ◌^◌, ℕ, Bool, List, [], ◌++◌, length, nat_eq, sym, ap, ◌∙◌, append-nil, subst, arith, eq-eqb}
use Rattle.std.specs.Prelude.{IsTrue, sum_by}
use Rattle.std.proofs.lemmas.Bool.Decides.{Decides-eqb}
use mathlib.Core.Option.{none}
use Rattle.gn_stage.specs.Ends.{End, Layout, AreAllHome}
use Rattle.gn_stage.specs.Lessons.{AreCounted, IsDraining}
use Rattle.gn_stage.specs.Rule.{of_desk, Known, Gathered, FitsSide, IsDeskOf, AreHome, jobs_of, with_drained, with_outlets_home}
use Rattle.gn_stage.specs.Settled.{AreWhole, IsSettled, capped}
use Rattle.gn_stage.proofs.Interleavings.{interleaves, counts}

module _ {J : Type 0} where
  -- what a desk knows that has these ends home
  abbrev pub home_desk : ℕ → ℕ → Known J → List (End J) → List (End J) → Type 0
  home_desk intakes outlets v ins outs = (v.ins ≡ record { made = intakes; home = ins }) × (v.outs ≡ record { made = outlets; home = outs })

  pub gathers : (intakes outlets capacity : ℕ) (came outs : List (End J)) (v w : Known J) → IsDeskOf intakes outlets capacity came v → w ≡ with_outlets_home v outs → home_desk intakes outlets w came outs × (w.role ≡ of_desk) × (w.end.jobs ≡ []) × (w.room ≡ v.room)
  gathers intakes outlets capacity came outs v w h is = (
    (
      ap (λ (v : Known J). v.ins) is ∙ h.ins,
      ap (λ (v : Known J). v.outs) is ∙ ap (λ (g : Gathered J). record g { home = g.home ++ outs }) h.outs,
    ),
    ap (λ (v : Known J). v.role) is ∙ h.role,
    ap (λ (v : Known J). v.end.jobs) is ∙ h.undrained,
    ap (λ (v : Known J). v.room) is,
  )

  pub homes : (intakes outlets : ℕ) (v : Known J) (ins outs : List (End J)) → home_desk intakes outlets v ins outs → AreAllHome intakes ins → AreAllHome outlets outs → AreHome v.ins × AreHome v.outs
  homes intakes outlets v ins outs known all_in all_out = (subst AreHome (sym known.0) all_in, subst AreHome (sym known.1) all_out)

  -- as many came home as were made just where all did
  pub home_by_count : (home made wide outlets capacity : ℕ) (came : List (End J)) (v : Known J) → IsDeskOf made outlets capacity came v → AreCounted v → home ≡ capped (length came) → wide ≡ made → made < 2 ^ 32 → IsTrue (nat_eq home wide) ↔ AreAllHome made came
  home_by_count home made wide outlets capacity came v h counted is same low =
      let all = subst (λ (g : Gathered J). (length g.home ≡ g.made) ↔ AreHome g) h.ins counted in (
        λ yes. all.0 (let equal = (Decides-eqb home wide).0 yes in omega arith),
        λ whole. eq-eqb home wide (let many = all.1 whole in omega arith),
      )

  -- with the intakes home, all are where the outlets are
  pub whole_by : (made : Layout) (n : ℕ) (came outs : List (End J)) (are : Bool) → n ≡ made.outlets → AreAllHome made.intakes came → IsTrue are ↔ AreAllHome n outs → IsTrue are ↔ AreWhole made came outs
  whole_by made n came outs are same home all = (
    λ yes. record { ins = home; outs = subst (λ n. AreAllHome n outs) same (all.0 yes) },
    λ whole. all.1 (subst (λ n. AreAllHome n outs) (sym same) whole.outs),
  )

  -- what is settled of these intakes is settled of the same
  pub settled_at : (came was outs : List (End J)) (put taken : ℕ) (drained : List J) → came ≡ was → IsSettled came outs put taken drained → IsSettled was outs put taken drained
  settled_at came was outs put taken drained same is = subst (λ ins. IsSettled ins outs put taken drained) same is

  -- a count of these jobs is a count of the same
  pub count_at : (count : ℕ) (now was : List (End J)) → now ≡ was → count ≡ capped (sum_by (λ e. length e.jobs) now) → count ≡ capped (sum_by (λ e. length e.jobs) was)
  count_at count now was same is = is ∙ ap (λ (l : List (End J)). capped (sum_by (λ e. length e.jobs) l)) same

  pub settles : (intakes outlets put taken : ℕ) (v w : Known J) (ins outs : List (End J)) (drained : List J)
      → home_desk intakes outlets v ins outs → w ≡ with_drained v drained → IsDraining w []
      → AreAllHome intakes ins → AreAllHome outlets outs → put ≡ capped (sum_by (λ e. length e.jobs) ins) → taken ≡ capped (sum_by (λ e. length e.jobs) outs)
      → IsSettled ins outs put taken drained
  settles intakes outlets put taken v w ins outs drained known now h all_in all_out put_is taken_is =
      let ins_are = ap (λ (v : Known J). v.ins) now ∙ known.0 in
      let outs_are = ap (λ (v : Known J). v.outs) now ∙ known.1 in
      let in_side = subst (λ g. FitsSide g (λ k. none) h.put) ins_are h.ins in
      let out_side = subst (λ g. FitsSide g (λ k. none) h.taken) outs_are h.outs in
      record {
        queued = jobs_of h.put;
        passed = jobs_of h.taken;
        order = h.order ∙ append-nil _ ∙ ap (λ (v : Known J). jobs_of h.taken ++ v.end.jobs) now;
        puts = interleaves _ _ h.put all_in in_side;
        takes = interleaves _ _ h.taken all_out out_side;
        put_count = put_is ∙ ap capped (counts _ _ h.put all_in in_side);
        taken_count = taken_is ∙ ap capped (counts _ _ h.taken all_out out_side);
      }
