use Rattle.std.proofs.Common.{rules, ◌≡◌, ◌&&◌, Bool, IsTrue, eqb}
use lib.Pointwise.{pointwise}
use Rattle.gn_rules.specs.declared.config.Own.{Own}
use Rattle.gn_rules.proofs.ConfigLemmas.{same_servents}
use Rattle.gn_rules.proofs.config.is_same_config.Goals as goal

-- of equal servents all is equal that is compared
compared : (x y : Own) (r : Bool)
    → r ≡ (pointwise eqb x.servent.0 y.servent.0 && (pointwise eqb x.ip y.ip && (eqb x.port y.port && (eqb x.files y.files && eqb x.kbytes y.kbytes))))
    → x ≡ y → IsTrue r
compared x y r is same = search rules

pub returns-then-eq : goal.returns-then-eq
returns-then-eq c =
    let a = c.args.a.now in
    let b = c.args.b.now in
    let numbers : a.numbers ≡ b.numbers = search rules in
    let own : IsTrue c.eq-then-eq.result → a.own ≡ b.own = search rules in
    same_servents a b c.eq-then-eq.result numbers (own, compared a.own b.own c.eq-then-eq.result c.eq-then-eq.ensures)
