-- Laws of connections: each number is given once, and one that is closed stays closed.
--
-- In each law `past` is a history with its newest step first, as in the definitions of the rules.
use Rattle.std.specs.Prelude.{◌≡◌, ◌≤◌, ◌<◌, ◌+◌, ℕ, Bool, true, false, List, [], ◌∷◌, ◌++◌, length, slice_index_or, count_by, Ok}
use Rattle.std.specs.List.{list_any}
use Rattle.gn_rules.specs.declared.config.Config.{Config}
use Rattle.gn_rules.specs.declared.event.Event.{Event}
use Rattle.gn_rules.specs.declared.receipt.Step.{Step}
use Rattle.gn_rules.specs.declared.reply.Reply.{Reply}
use Rattle.gn_rules.specs.Answer.{answer, IsLegal}
use Rattle.gn_rules.specs.History.{connected_of, is_at, is_close, sends_of, connections, live}
use Rattle.gn_rules.specs.Output.{queued, queued_to, takes}

-- how many steps are replied Connected(c)
abbrev pub connects : {A : Type 0} → List (Step A) → ℕ → ℕ
connects past c = count_by (λ step. is_at c (connected_of step.reply)) past

-- how many steps are Close(c)
abbrev pub closes : {A : Type 0} → List (Step A) → ℕ → ℕ
closes past c = count_by (λ step. is_close c step.event) past

-- a step is Close(c)
abbrev pub is_closed : {A : Type 0} → List (Step A) → ℕ → Bool
is_closed past c = list_any (λ step. is_close c step.event) past

-- the numbers of a history's connections
pub record AreNumbered {A : Type 0} (past : List (Step A)) : Type 0 where
  -- from the first on they are 1, 2, 3 and so on
  pub count : (k : ℕ) → k < length (connections past) → slice_index_or (connections past) k 0 ≡ 1 + k
  -- at most one step is replied Connected(c)
  pub once : (c : ℕ) → connects past c ≤ 1
  -- no step is replied Connected(0)
  pub positive : connects past 0 ≡ 0

-- the numbers of a legal history's connections are 1, 2, 3 and so on, each given once
abbrev pub ConnectionsCount : Type 0 → Type 0
ConnectionsCount A = (s : Config) (past : List (Step A)) → IsLegal s past → AreNumbered past

-- in a legal history at most one step is Close(c); where there is one, c isn't live
pub record StaysClosed {A : Type 0} (past : List (Step A)) (c : ℕ) : Type 0 where
  pub once : closes past c ≤ 1
  pub closed : is_closed past c ≡ true → live past c ≡ false

abbrev pub ClosedStaysClosed : Type 0 → Type 0
ClosedStaysClosed A = (s : Config) (past : List (Step A)) (c : ℕ) → IsLegal s past → StaysClosed past c

-- an answered event queues nothing to a connection that isn't live
abbrev pub PacketsGoToLive : Type 0 → Type 0
PacketsGoToLive A =
    (s : Config) (past : List (Step A)) (event : Event A) (reply : Reply A) (c : ℕ)
    → answer s past event ≡ Ok reply → live past c ≡ false → queued_to c (sends_of reply) ≡ []

-- what was queued to c and taken from it is what it was before its Close
pub record NothingSince {A : Type 0} (past earlier : List (Step A)) (c : ℕ) : Type 0 where
  pub queued_before : queued past c ≡ queued earlier c
  pub takes_before : takes past c ≡ takes earlier c

-- in a legal history nothing is queued to c, and nothing taken from it, at its Close or later
abbrev pub NothingAfterClose : Type 0 → Type 0
NothingAfterClose A =
    (s : Config) (later : List (Step A)) (step : Step A) (earlier : List (Step A)) (c : ℕ)
    → IsLegal s (later ++ step ∷ earlier) → is_close c step.event ≡ true
    → NothingSince (later ++ step ∷ earlier) earlier c
