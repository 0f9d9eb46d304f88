-- What the laws of paths say of one packet that waited for a connection, and of two packets of one key.
use Rattle.std.specs.Prelude.{◌≡◌, ◌<◌, ℕ, true, List, ◌∷◌, ◌++◌, ◌⊎◌}
use Rattle.std.specs.List.{Contains}
use Rattle.gn_wire.specs.declared.key.Key.{Key}
use Rattle.gn_wire.specs.Packet.{Packet}
use Rattle.gn_rules.specs.declared.config.Config.{Config}
use Rattle.gn_rules.specs.declared.receipt.Step.{Step}
use Rattle.gn_rules.specs.Answer.{IsLegal}
use Rattle.gn_rules.specs.History.{sends_of}
use Rattle.gn_rules.specs.Output.{queued}
use Rattle.gn_paths.specs.Paths.{kept_since}
use Rattle.gn_paths.specs.Sends.{AreOthers, IsOwnPong, IsPassedOn, is_kept_kind, originated, sends_of_key}

-- a packet was queued to the connection c in a legal history, and what the laws say of where it came from
pub record Queued {A : Type 0} (s : Config) (past : List (Step A)) (c : ℕ) (packet : Packet) : Type 0 where
  pub legal : IsLegal s past
  pub waited : Contains (queued past c) packet
  pub origin : IsOwnPong s past c packet ⊎ (Contains (originated past) packet ⊎ IsPassedOn s past c packet)

-- some step sent a packet of this key, after the steps `earlier`
pub record WasSent {A : Type 0} (past : List (Step A)) (key : Key) : Type 0 where
  pub between : List (Step A)
  pub first : Step A
  pub earlier : List (Step A)
  pub stands : past ≡ between ++ first ∷ earlier
  pub once : 0 < sends_of_key key (sends_of first.reply)

-- a step of a legal history sends a packet of a key, as one before it did, and what the laws say of the steps between them
pub record SentAgain {A : Type 0} (s : Config) (past : List (Step A)) (step : Step A) (key : Key) : Type 0 where
  pub legal : IsLegal s (step ∷ past)
  pub kept : is_kept_kind key.kind ≡ true
  pub before : WasSent past key
  pub again : 0 < sends_of_key key (sends_of step.reply)
  -- as many others were kept as are remembered
  pub others : AreOthers s.numbers.seen key (kept_since before.between (before.first ∷ before.earlier))
