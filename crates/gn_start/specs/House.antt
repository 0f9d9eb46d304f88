-- The house while links come.
use Rattle.std.specs.Prelude.{◌≡◌, ℕ, Bool, true, false}
use Rattle.gn_actors.specs.ActorState.{ActorState}
use Rattle.gn_report.specs.Accounts.{are_houses}

-- the house as it was and as it is, in a run whose own servent sends Pings or not: what it has made since are its own events
pub record HasOriginated {A : Type 0} (originates : Bool) (me us : ActorState A) : Type 0 where
  pub same : us.number ≡ me.number
  pub own : are_houses originates me.receipts ≡ true → are_houses originates us.receipts ≡ true

-- the house as it was and as it is, where it has made steps of before again, or there was none to make
pub record HasRecalled {A : Type 0} (recalls : Bool) (me us : ActorState A) : Type 0 where
  pub same : us.number ≡ me.number
  pub none : recalls ≡ false → us.receipts ≡ me.receipts

-- the house once all links have ended: it has this number, and made its own events alone, where it made no steps of before again
pub record IsHouse {A : Type 0} (recalls originates : Bool) (number : ℕ) (me : ActorState A) : Type 0 where
  pub is : me.number ≡ number
  pub own : recalls ≡ false → are_houses originates me.receipts ≡ true
