-- The equality of keys is the derived one, and an equivalence.
use Rattle.std.proofs.Common.{◌≡◌, ◌++◌, refl}
use Rattle.std.specs.Cmp.{IsEquivalence}
use Rattle.std.specs.Cmp.Lexicographic.{nat_list_eq_equiv}
use Rattle.gn_wire.specs.declared.kind.Guid.{Guid}
use Rattle.gn_wire.specs.declared.kind.Kind.{Kind}
use Rattle.gn_wire.specs.declared.kind.Kind.TheVariants.{Unknown}
use Rattle.gn_wire.specs.declared.key.Key.{Key}
use Rattle.gn_wire.specs.contracts.key.KeyPartialEq.TheImpl as derived
use Rattle.gn_wire.specs.Keys.{is_same_key, kind_numbers}

-- what the derived `==` computes, kind by kind
same_at : (a b : Kind) (x y : Guid) → (derived.eq-value).it (record { kind = a; id = x }) (record { kind = b; id = y }) ≡ is_same_key (record { kind = a; id = x }) (record { kind = b; id = y })
same_at (Unknown c) (Unknown d) x y = refl
same_at a (Unknown d) x y = refl
same_at a b x y = refl

-- the derived `==` is the equality that definitions cite
pub same_key : (a b : Key) → (derived.eq-value).it a b ≡ is_same_key a b
same_key a b = same_at a.kind b.kind a.id b.id

-- the same as one equation of tests
pub same_test : (derived.eq-value).it ≡ is_same_key
same_test = λ i a b. same_key a b i

pub key_laws : IsEquivalence is_same_key
key_laws = record {
  refl = λ a. nat_list_eq_equiv.refl (kind_numbers a.kind ++ a.id.0);
  symm = λ a b. nat_list_eq_equiv.symm (kind_numbers a.kind ++ a.id.0) (kind_numbers b.kind ++ b.id.0);
  congr = λ a b c. nat_list_eq_equiv.congr (kind_numbers a.kind ++ a.id.0) (kind_numbers b.kind ++ b.id.0) (kind_numbers c.kind ++ c.id.0);
}
