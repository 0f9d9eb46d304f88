-- The steps of a run whose links come one after another, in the numbers of a run whose links are all known.
use Rattle.std.specs.Prelude.{◌≡◌, ◌+◌, ◌-◌, ℕ, zero, suc, true, nat_lt, if◌then◌else◌, List}
use Rattle.std.specs.List.{list_all}
use Rattle.gn_rules.specs.declared.receipt.Step.{Step}
use Rattle.gn_rules.specs.History.{mine}
use Rattle.gn_actors.specs.declared.who.Numbering.TheVariants.{Known, Open}
use Rattle.gn_actors.specs.declared.who.Who.{Who}
use Rattle.gn_actors.specs.declared.who.Who.TheVariants.{House, Reader, Worker, Writer}
use Rattle.gn_actors.specs.Who.{IsActor, number_of}
use Rattle.gn_renumber.specs.Moved.{moved}

-- the same actor of the next link
abbrev pub next_link : Who → Who
next_link (Reader k) = Reader (k + 1)
next_link (Writer k) = Writer (k + 1)
next_link who = who

-- who has a number of links' actors that are numbered from 0 on: reader and writer of the first, then those of the second
abbrev pub link_actor : ℕ → Who
link_actor zero = Reader 0
link_actor (suc zero) = Writer 0
link_actor (suc (suc i)) = next_link (link_actor i)

-- who has a number in a run of v workers whose links come one after another
abbrev pub who_open : ℕ → ℕ → Who
who_open v zero = House
who_open v (suc a) = if nat_lt a v then Worker a else link_actor (a - v)

-- the number of that actor in a run of n links that are all known
abbrev pub known_number : (n v : ℕ) → ℕ → ℕ
known_number n v a = number_of (Known n v) (who_open v a)

-- the steps of such a run, of n links and v workers, in the numbers of a run whose links are all known
abbrev pub renumbered : {A : Type 0} → (n v : ℕ) → List (Step A) → List (Step A)
renumbered n v steps = moved (known_number n v) steps

-- where no step is of an actor that the run doesn't have, each actor's own steps are the same
abbrev pub RenumberedIsOwn : Type 0 → Type 0
RenumberedIsOwn A =
    (n v : ℕ) (steps : List (Step A)) (who : Who) → list_all (λ step. nat_lt step.actor (1 + v + (n + n))) steps ≡ true → IsActor (Known n v) who
    → mine (renumbered n v steps) (number_of (Known n v) who) ≡ mine steps (number_of (Open v) who)

-- and none of them is of an actor that the other run doesn't have
abbrev pub RenumberedIsOnly : Type 0 → Type 0
RenumberedIsOnly A =
    (n v : ℕ) (steps : List (Step A)) → list_all (λ step. nat_lt step.actor (1 + v + (n + n))) steps ≡ true
    → list_all (λ step. nat_lt step.actor (number_of (Known n v) House + 1)) (renumbered n v steps) ≡ true
