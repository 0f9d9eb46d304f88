-- What the desk knows, as its parts.
use Rattle.std.proofs.Common.{◌≡◌, ℕ, ◌+◌, List, [], ◌∷◌, ◌++◌, length, sym, ap, ◌∙◌, arith}
use Rattle.gn_stage.specs.Ends.{End}
use Rattle.gn_stage.specs.Rule.{Role, Known, IsDeskOf, new_pass, new_desk, with_intake, with_intake_home, with_outlet, one_made, one_home}
use Rattle.gn_stage.specs.Settled.{capped}

module _ {J : Type 0} where
  -- a new pass is its parts
  pub new_parts : (role : Role) (room p : ℕ) (v : Known J) → v ≡ new_pass role room p → (v.role ≡ role) × (v.room ≡ room) × (p ≡ v.end.number) × (0 ≡ capped (length v.end.jobs))
  new_parts role room p v e = (
    ap (λ (v : Known J). v.role) e,
    ap (λ (v : Known J). v.room) e,
    sym (ap (λ (v : Known J). v.end.number) e),
    sym (ap (λ (v : Known J). capped (length v.end.jobs)) e),
  )

  pub desk_begins : (capacity : ℕ) (v : Known J) → v ≡ new_desk → IsDeskOf 0 0 capacity [] v
  desk_begins capacity v e = record {
    role = ap (λ (v : Known J). v.role) e;
    undrained = ap (λ (v : Known J). v.end.jobs) e;
    room = let room = ap (λ (v : Known J). v.room) e in omega arith;
    ins = ap (λ (v : Known J). v.ins) e;
    outs = ap (λ (v : Known J). v.outs) e;
  }

  pub desk_makes_intake : (intakes outlets capacity : ℕ) (came : List (End J)) (v w : Known J) → IsDeskOf intakes outlets capacity came v → w ≡ with_intake capacity v → IsDeskOf (intakes + 1) outlets capacity came w
  desk_makes_intake intakes outlets capacity came v w h e = record {
    role = ap (λ (v : Known J). v.role) e ∙ h.role;
    undrained = ap (λ (v : Known J). v.end.jobs) e ∙ h.undrained;
    room = let room = ap (λ (v : Known J). v.room) e in let was = h.room in omega arith;
    ins = ap (λ (v : Known J). v.ins) e ∙ ap one_made h.ins;
    outs = ap (λ (v : Known J). v.outs) e ∙ h.outs;
  }

  pub desk_makes_outlet : (intakes outlets capacity : ℕ) (came : List (End J)) (v w : Known J) → IsDeskOf intakes outlets capacity came v → w ≡ with_outlet v → IsDeskOf intakes (outlets + 1) capacity came w
  desk_makes_outlet intakes outlets capacity came v w h e = record {
    role = ap (λ (v : Known J). v.role) e ∙ h.role;
    undrained = ap (λ (v : Known J). v.end.jobs) e ∙ h.undrained;
    room = let room = ap (λ (v : Known J). v.room) e in let was = h.room in omega arith;
    ins = ap (λ (v : Known J). v.ins) e ∙ h.ins;
    outs = ap (λ (v : Known J). v.outs) e ∙ ap one_made h.outs;
  }

  pub desk_takes_intake : (intakes outlets capacity : ℕ) (came : List (End J)) (e : End J) (v w : Known J) → IsDeskOf intakes outlets capacity came v → w ≡ with_intake_home v e → IsDeskOf intakes outlets capacity (came ++ e ∷ []) w
  desk_takes_intake intakes outlets capacity came e v w h is = record {
    role = ap (λ (v : Known J). v.role) is ∙ h.role;
    undrained = ap (λ (v : Known J). v.end.jobs) is ∙ h.undrained;
    room = let room = ap (λ (v : Known J). v.room) is in let was = h.room in omega arith;
    ins = ap (λ (v : Known J). v.ins) is ∙ ap (λ g. one_home g e) h.ins;
    outs = ap (λ (v : Known J). v.outs) is ∙ h.outs;
  }
