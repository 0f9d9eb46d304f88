-- A reader that gives what a function of the bytes does gives the grammar's reading, where that function is the grammar's.
use Rattle.std.proofs.Common.{◌≡◌, Option, Some, None, option_map, IfSome, IfNone, refl, sym, ◌∙◌}
use Rattle.std.proofs.lemmas.Option.{none-some}

pub found_of : {X Y : Type 0} (view : X → Y) (P : Y → Type 0) (reading : Option Y) (o : Option X) → ((y : Y) → reading ≡ Some y → P y)
    → option_map view o ≡ reading → IfSome o (λ x. P (view x))
found_of view P reading None sound e = tt
found_of view P reading (Some x) sound e = sound (view x) (sym e)

pub none_of : {X Y : Type 0} (view : X → Y) (P : Y → Type 0) (reading : Option Y) (o : Option X) → ((y : Y) → P y → reading ≡ Some y)
    → option_map view o ≡ reading → IfNone o ((y : Y) → P y → ⊥)
none_of view P reading None whole e = λ y is. none-some y (e ∙ whole y is)
none_of view P reading (Some x) whole e = tt

pub as_it_is : {X : Type 0} (o : Option X) → option_map (λ x. x) o ≡ o
as_it_is None = refl
as_it_is (Some x) = refl
