-- Runs that sockets join: what is trusted of a socket, and that such runs are a network.
use Rattle.std.specs.Prelude.{◌≡◌, ◌<◌, ℕ, true, All, List, ◌++◌, length, reverse, slice_index_or, Option, Some}
use Rattle.std.specs.List.{concat}
use Rattle.gn_wire.specs.Packet.{IsDescriptor}
use Rattle.gn_shake.specs.declared.role.Role.{Role}
use Rattle.gn_shake.specs.Greeting.{greeting_of}
use Rattle.gn_links.specs.Halves.{ReadHalf, WrittenHalf}
use Rattle.gn_rules.specs.declared.config.Config.{Config}
use Rattle.gn_rules.specs.Output.{taken}
use Rattle.gn_bodies.specs.Written.{opening_texts}
use Rattle.gn_report.specs.declared.report.LinkReport.{LinkReport}
use Rattle.gn_report.specs.declared.report.Report.{Report}
use Rattle.gn_threads.specs.Headline.{Holds}
use Rattle.gn_paths.specs.Networks.{Carries, IsNetwork, Network}

-- a link of a run, by its report: it stands there at some index, with this role, and its connection is c
pub record IsLinkOf {Rd W A : Type 0} (roles : List Role) (report : Report Rd W A) (role : Role) (link : LinkReport Rd W A)
    (c : ℕ) : Type 0 where
  pub index : ℕ
  pub within : index < length report.links.items
  pub stands : slice_index_or report.links.items index link ≡ link
  pub has_role : slice_index_or roles index role ≡ role
  pub connected : link.conn ≡ Some c

-- all that a socket is trusted for, in one direction: what was read at one end is a beginning of what was written at the other;
-- and both ends know their bytes
pub record IsDelivered (written : WrittenHalf) (read : ReadHalf) : Type 0 where
  pub wrote : written.is_known ≡ true
  pub knows : read.is_known ≡ true
  pub rest : List ℕ
  pub begins : written.bytes ≡ read.bytes ++ rest

-- a link of the first role opens with the greeting that one of the second awaits: one calls and the other accepts, or both are
-- plain
abbrev pub Greets : Role → Role → Type 0
Greets role other = concat (opening_texts role) ≡ greeting_of other

-- a socket leads from connection c of one run to connection d of another. Each packet that was taken there is a descriptor, as
-- every value of that type is
pub record Leads {Rd W A : Type 0} (reads : Rd → ReadHalf) (writes : W → WrittenHalf) (roles others : List Role)
    (first second : Report Rd W A) (c d : ℕ) : Type 0 where
  pub role : Role
  pub other : Role
  pub giver : LinkReport Rd W A
  pub taker : LinkReport Rd W A
  pub gives : IsLinkOf roles first role giver c
  pub takes : IsLinkOf others second other taker d
  pub greets : Greets role other
  pub delivered : IsDelivered (writes giver.writer) (reads taker.reader)
  pub valid : All IsDescriptor (taken (reverse first.history.items) c)

-- runs by numbers, each with how many packets its writers take at once at most, its configuration, its links' roles, how many
-- workers it has, and its report; and what their connections are joined to: a connection of another run, or nothing of these runs,
-- which is the outside
pub record Runs (Rd W A : Type 0) : Type 0 where
  pub batch : ℕ → ℕ
  pub settings : ℕ → Config
  pub roles : ℕ → List Role
  pub workers : ℕ → ℕ
  pub report : ℕ → Report Rd W A
  pub joined : ℕ → ℕ → Option (ℕ × ℕ)

-- the headline holds of each run, and a socket leads from each joined connection to the one that it is joined to, and back
pub record AreJoined {Rd W A : Type 0} (reads : Rd → ReadHalf) (writes : W → WrittenHalf) (runs : Runs Rd W A) : Type 0 where
  pub holds : (i : ℕ) → Holds (runs.batch i) reads writes (runs.settings i) (runs.roles i) (runs.workers i) (runs.report i)
  pub both : (i c j d : ℕ) → runs.joined i c ≡ Some (j, d) → runs.joined j d ≡ Some (i, c)
  pub leads : (i c j d : ℕ) → runs.joined i c ≡ Some (j, d)
      → Leads reads writes (runs.roles i) (runs.roles j) (runs.report i) (runs.report j) c d

-- the routers of these runs
abbrev pub routers_of : {Rd W A : Type 0} → Runs Rd W A → Network A
routers_of runs =
    record { settings = runs.settings; history = λ i. reverse (runs.report i).history.items; joined = runs.joined }

-- runs that sockets join are a network, of which the laws of paths hold
pub record RunsMakeANetwork (Rd W A : Type 0) : Type 0 where
  -- between two runs of which the headline holds, whatever the batch of each: where a socket leads from the one to the other, all
  -- that the second admitted on its connection was taken from the first one's
  pub link : (first_batch second_batch : ℕ) (reads : Rd → ReadHalf) (writes : W → WrittenHalf) (s t : Config)
      (roles others : List Role) (workers crew : ℕ) (first second : Report Rd W A) (c d : ℕ)
      → Holds first_batch reads writes s roles workers first → Holds second_batch reads writes t others crew second
      → Leads reads writes roles others first second c d
      → Carries (reverse first.history.items) c (reverse second.history.items) d
  -- of any number of runs
  pub network : (reads : Rd → ReadHalf) (writes : W → WrittenHalf) (runs : Runs Rd W A)
      → AreJoined reads writes runs → IsNetwork (routers_of runs)
