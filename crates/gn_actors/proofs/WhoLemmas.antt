-- No two actors of a run have one number.
use Rattle.std.proofs.Common.{ap, refl, arith}
use Rattle.gn_actors.specs.declared.who.Numbering.TheVariants.{Known, Open}
use Rattle.gn_actors.specs.declared.who.Who.TheVariants.{Reader, Writer, Worker, House}
use Rattle.gn_actors.specs.Who.{NumbersAreApart}

pub numbers_are_apart : NumbersAreApart
numbers_are_apart (Known n v) (Reader k) (Reader j) p q is = ap Reader is
numbers_are_apart (Known n v) (Reader k) (Writer j) p q is = absurd (omega (arith, p, q, is))
numbers_are_apart (Known n v) (Reader k) (Worker j) p q is = absurd (omega (arith, p, q, is))
numbers_are_apart (Known n v) (Reader k) House p q is = absurd (omega (arith, p, is))
numbers_are_apart (Known n v) (Writer k) (Reader j) p q is = absurd (omega (arith, p, q, is))
numbers_are_apart (Known n v) (Writer k) (Writer j) p q is = ap Writer (omega (arith, is))
numbers_are_apart (Known n v) (Writer k) (Worker j) p q is = absurd (omega (arith, p, q, is))
numbers_are_apart (Known n v) (Writer k) House p q is = absurd (omega (arith, p, is))
numbers_are_apart (Known n v) (Worker k) (Reader j) p q is = absurd (omega (arith, p, q, is))
numbers_are_apart (Known n v) (Worker k) (Writer j) p q is = absurd (omega (arith, p, q, is))
numbers_are_apart (Known n v) (Worker k) (Worker j) p q is = ap Worker (omega (arith, is))
numbers_are_apart (Known n v) (Worker k) House p q is = absurd (omega (arith, p, is))
numbers_are_apart (Known n v) House (Reader j) p q is = absurd (omega (arith, q, is))
numbers_are_apart (Known n v) House (Writer j) p q is = absurd (omega (arith, q, is))
numbers_are_apart (Known n v) House (Worker j) p q is = absurd (omega (arith, q, is))
numbers_are_apart (Known n v) House House p q is = refl
numbers_are_apart (Open v) (Reader k) (Reader j) p q is = ap Reader (omega (arith, is))
numbers_are_apart (Open v) (Reader k) (Writer j) p q is = absurd (omega (arith, is))
numbers_are_apart (Open v) (Reader k) (Worker j) p q is = absurd (omega (arith, q, is))
numbers_are_apart (Open v) (Reader k) House p q is = absurd (omega (arith, is))
numbers_are_apart (Open v) (Writer k) (Reader j) p q is = absurd (omega (arith, is))
numbers_are_apart (Open v) (Writer k) (Writer j) p q is = ap Writer (omega (arith, is))
numbers_are_apart (Open v) (Writer k) (Worker j) p q is = absurd (omega (arith, q, is))
numbers_are_apart (Open v) (Writer k) House p q is = absurd (omega (arith, is))
numbers_are_apart (Open v) (Worker k) (Reader j) p q is = absurd (omega (arith, p, is))
numbers_are_apart (Open v) (Worker k) (Writer j) p q is = absurd (omega (arith, p, is))
numbers_are_apart (Open v) (Worker k) (Worker j) p q is = ap Worker (omega (arith, is))
numbers_are_apart (Open v) (Worker k) House p q is = absurd (omega (arith, p, is))
numbers_are_apart (Open v) House (Reader j) p q is = absurd (omega (arith, is))
numbers_are_apart (Open v) House (Writer j) p q is = absurd (omega (arith, is))
numbers_are_apart (Open v) House (Worker j) p q is = absurd (omega (arith, q, is))
numbers_are_apart (Open v) House House p q is = refl
