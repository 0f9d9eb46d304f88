-- The links of a replay, by the bytes that they were given.
use Rattle.std.specs.Prelude.{◌≡◌, ℕ, List, [], ◌∷◌, None}
use Rattle.gn_frames.specs.Frames.{frames_of}
use Rattle.gn_shake.specs.declared.role.Role.TheVariants.{Accepting, Plain}
use Rattle.gn_shake.specs.declared.shake.ShakeState.TheVariants.{More}
use Rattle.gn_shake.specs.Greeting.{greeting_state, request_text}
use Rattle.gn_inbound.specs.Inbound.{IsAt}
use Rattle.gn_replay.specs.declared.link.Link.{Link}
use Rattle.gn_replay.specs.declared.link.Link.TheVariants as link

-- a link: ended; awaiting its greeting, with all its bytes so far; or joined to a connection, with all its bytes so far
-- after the greeting
pub data LinkState : Type 0 where
  ended : LinkState
  greeting : List ℕ → LinkState
  joined : ℕ → List ℕ → LinkState

-- what a link keeps is where its bytes so far stand: once it is joined, those after the greeting, which have no fault
abbrev pub IsLink : {A : Type 0} → Link A → LinkState → Type 0
IsLink link.Ended ended = Unit {0}
IsLink (link.Greeting inbound) (greeting bytes) = IsAt Accepting bytes inbound × (greeting_state request_text bytes ≡ More)
IsLink (link.Joined c inbound) (joined d bytes) = (c ≡ d) × ((frames_of bytes).fault ≡ None) × IsAt Plain bytes inbound
IsLink kept state = ⊥

-- the links, one by one
abbrev pub AreLinks : {A : Type 0} → List (Link A) → List LinkState → Type 0
AreLinks [] [] = Unit {0}
AreLinks (kept ∷ more) (state ∷ states) = IsLink kept state × AreLinks more states
AreLinks kept states = ⊥
