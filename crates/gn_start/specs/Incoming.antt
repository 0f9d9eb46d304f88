-- Links as they come.
use Rattle.std.specs.Prelude.{◌≡◌, ◌+◌, ℕ, ⊤, Bool, true, is_some, Option}
use Rattle.gn_links.specs.Halves.{IsNewReader, IsNewWriter, ReadHalf, WrittenHalf}
use Rattle.gn_links.specs.declared.place.Place.{Place}
use Rattle.gn_shake.specs.declared.role.Role.{Role}
use Rattle.gn_start.specs.declared.incoming.Coming.{Coming}
use Rattle.gn_start.specs.declared.incoming.Coming.TheVariants.{Link, Nobody, Over, Ping}
use Rattle.gn_start.specs.declared.incoming.NewLink.{NewLink}

-- what may come now might have come so many links later before, and where it may be over now it might have been then
pub record IsSameFrom {V F : Type 0} (may : V → ℕ → Role → F → Type 0) (ends : V → ℕ → Type 0) (from : ℕ) (was now : V) : Type 0 where
  pub same_may : (k : ℕ) (role : Role) (known : F) → may now k role known → may was (from + k) role known
  pub same_ends : (k : ℕ) → ends now k → ends was (from + k)

-- the next link has come, as it might, with new halves of one link; the others are still to come
pub record HasCome {V Rd W O F : Type 0} (link : NewLink Rd W) (reads : Rd → ReadHalf) (writes : W → WrittenHalf) (read_of : Rd → O)
    (written_of : W → O) (foreknown : O → F) (may : V → ℕ → Role → F → Type 0) (ends : V → ℕ → Type 0) (was now : V) : Type 0 where
  pub reader : IsNewReader (reads link.reader)
  pub writer : IsNewWriter (writes link.writer)
  pub one : written_of link.writer ≡ read_of link.reader
  pub may_come : may was 0 link.role (foreknown (read_of link.reader))
  pub rest : IsSameFrom may ends 1 was now

-- what becomes of a wait for the next link, where this is its place: a link comes only where there is a place; where it is known when
-- all have come, it isn't over before
abbrev pub IsComing : {V Rd W O F : Type 0} → Bool → Option Place → Coming Rd W → (Rd → ReadHalf) → (W → WrittenHalf) → (Rd → O) → (W → O) → (O → F)
    → (V → ℕ → Role → F → Type 0) → (V → ℕ → Type 0) → V → V → Type 0
IsComing is_known place (Link link) reads writes read_of written_of foreknown may ends was now =
    (is_some place ≡ true) × HasCome link reads writes read_of written_of foreknown may ends was now
IsComing is_known place Nobody reads writes read_of written_of foreknown may ends was now = IsSameFrom may ends 0 was now
IsComing is_known place (Ping id) reads writes read_of written_of foreknown may ends was now = IsSameFrom may ends 0 was now
IsComing is_known place Over reads writes read_of written_of foreknown may ends was now = is_known ≡ true → ends was 0

-- a Ping is sent only where the own servent sends Pings
abbrev pub MayPing : {Rd W : Type 0} → Bool → Coming Rd W → Type 0
MayPing originates (Ping id) = originates ≡ true
MayPing originates coming = ⊤
