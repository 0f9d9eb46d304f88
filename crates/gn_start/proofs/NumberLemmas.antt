-- The numbers of a run's actors.
use Rattle.std.proofs.Common.{◌≡◌, ◌<◌, ◌+◌, ◌≢◌, ℕ, arith}
use Rattle.gn_actors.specs.Who.{number_of}
use Rattle.gn_actors.specs.declared.who.Numbering.{Numbering}
use Rattle.gn_actors.specs.declared.who.Numbering.TheVariants.{Known, Open}
use Rattle.gn_actors.specs.declared.who.Who.TheVariants.{Worker, House}
use Rattle.gn_start.specs.Numbers.{HasRoom, IsNobodys, IsUpTo, links_of, more_of, numbers_of, reader_of, workers_of, writer_of}

-- the actors of two links are four
pub record AreApart (m : Numbering) (j k : ℕ) : Type 0 where
  pub rr : reader_of m j ≢ reader_of m k
  pub rw : reader_of m j ≢ writer_of m k
  pub wr : writer_of m j ≢ reader_of m k
  pub ww : writer_of m j ≢ writer_of m k

pub apart : (m : Numbering) (j k came : ℕ) → IsUpTo m came → j < came → k < came → j ≢ k → AreApart m j k
apart (Known n v) j k came up a b e = record {
  rr = λ is. e is;
  rw = λ is. absurd (omega (arith, is, a, up));
  wr = λ is. absurd (omega (arith, is, b, up));
  ww = λ is. e (omega (arith, is));
}
apart (Open v) j k came up a b e = record {
  rr = λ is. e (omega (arith, is));
  rw = λ is. absurd (omega (arith, is));
  wr = λ is. absurd (omega (arith, is));
  ww = λ is. e (omega (arith, is));
}

-- those of one link are two
pub two : (m : Numbering) (k came : ℕ) → IsUpTo m came → k < came → reader_of m k ≢ writer_of m k
two (Known n v) k came up a = λ is. absurd (omega (arith, is, a, up))
two (Open v) k came up a = λ is. absurd (omega (arith, is))

-- they are among the numbers that there are
pub within : (m : Numbering) (k came : ℕ) → IsUpTo m came → k < came → (reader_of m k < numbers_of m came) × (writer_of m k < numbers_of m came)
within (Known n v) k came up a = (omega (arith, a, up), omega (arith, a, up))
within (Open v) k came up a = (omega (arith, a), omega (arith, a))

-- where there is room for a link
pub up_next : (m : Numbering) (came : ℕ) → HasRoom m came → IsUpTo m (came + 1)
up_next (Known n v) came room = omega (arith, room)
up_next (Open v) came room = tt

pub numbers_next : (m : Numbering) (came : ℕ) → numbers_of m came + more_of m ≡ numbers_of m (came + 1)
numbers_next (Known n v) came = omega arith
numbers_next (Open v) came = omega arith

-- who comes next is nobody of those that came
pub reader_is_new : (m : Numbering) (came : ℕ) → HasRoom m came → IsNobodys m came (reader_of m came)
reader_is_new m came room k below =
    let far = apart m came k (came + 1) (up_next m came room) (omega arith) (omega (arith, below)) (λ e. absurd (omega (arith, e, below))) in
    (far.rr, far.rw)

pub writer_is_new : (m : Numbering) (came : ℕ) → HasRoom m came → IsNobodys m came (writer_of m came)
writer_is_new m came room k below =
    let far = apart m came k (came + 1) (up_next m came room) (omega arith) (omega (arith, below)) (λ e. absurd (omega (arith, e, below))) in
    (far.wr, far.ww)

-- neither is a worker or the house
pub worker_is_no_links : (m : Numbering) (came j : ℕ) → IsUpTo m came → j < workers_of m → IsNobodys m came (number_of m (Worker j))
worker_is_no_links (Known n v) came j up low k below = (λ is. absurd (omega (arith, is, below, up)), λ is. absurd (omega (arith, is, below, up)))
worker_is_no_links (Open v) came j up low k below = (λ is. absurd (omega (arith, is, low)), λ is. absurd (omega (arith, is, low)))

pub house_is_no_links : (m : Numbering) (came : ℕ) → IsUpTo m came → IsNobodys m came (number_of m House)
house_is_no_links (Known n v) came up k below = (λ is. absurd (omega (arith, is, below, up)), λ is. absurd (omega (arith, is, below, up)))
house_is_no_links (Open v) came up k below = (λ is. absurd (omega (arith, is)), λ is. absurd (omega (arith, is)))

pub worker_within : (m : Numbering) (came j : ℕ) → j < workers_of m → number_of m (Worker j) < numbers_of m came
worker_within (Known n v) came j low = omega (arith, low)
worker_within (Open v) came j low = omega (arith, low)

pub house_within : (m : Numbering) (came : ℕ) → number_of m House < numbers_of m came
house_within (Known n v) came = omega arith
house_within (Open v) came = omega arith

-- the numbers of links' actors are among those of a run of as many links
pub in_run : (m : Numbering) (k came : ℕ) → IsUpTo m came → k < came
    → (reader_of m k < links_of m came + links_of m came + workers_of m + 1) × (writer_of m k < links_of m came + links_of m came + workers_of m + 1)
in_run (Known n v) k came up a = (omega (arith, a, up), omega (arith, a, up))
in_run (Open v) k came up a = (omega (arith, a), omega (arith, a))
