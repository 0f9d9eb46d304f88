-- Vectors that contracts alone make.
use Rattle.std.specs.Prelude.{◌<◌, ◌+◌, ◌^◌, List, length, map, Vec}
use Rattle.std.proofs.Math.Path.{◌∙◌, refl, sym, subst}
use Rattle.std.proofs.Math.Nat.{le_refl}
use Rattle.std.proofs.lemmas.List.{length-map}
use Rattle.gn_report.specs.declared.unkept.Unkept.{Unkept}
use denote.RawPtr.{null_ptr}

-- a vector of what an account has of a list, over this allocator
abbrev pub vec_of : {T B : Type 0} → B → Unkept T → Vec T B
vec_of {T} {B} heap list =
    let items = list.items in
    record { ptr = null_ptr; len = length items; cap = length items; alloc = heap; items = items; ok = (refl, le_refl (length items)); small = list.few }

-- a vector of what becomes of each item of this one
abbrev pub map_vec : {T U B : Type 0} → (T → U) → Vec T B → Vec U B
map_vec {T} {U} {B} f v =
    record { ptr = null_ptr; len = v.len; cap = v.cap; alloc = v.alloc; items = map f v.items; ok = (v.ok.0 ∙ sym (length-map v.items f), v.ok.1); small = v.small }

-- as many actors have numbers where links and workers are mapped
abbrev pub mapped_numbered : {T U X Y : Type 0} (f : T → U) (g : X → Y) (links : List T) (workers : List X) → length links + length links + length workers + 1 < 2 ^ 32
    → length (map f links) + length (map f links) + length (map g workers) + 1 < 2 ^ 32
mapped_numbered f g links workers few =
    subst (λ n. n + n + length (map g workers) + 1 < 2 ^ 32) (sym (length-map links f))
    (subst (λ n. length links + length links + n + 1 < 2 ^ 32) (sym (length-map workers g)) few)
