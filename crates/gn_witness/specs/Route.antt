-- What the laws of paths say of one step that routes.
use Rattle.std.specs.Prelude.{◌≡◌, ◌≢◌, ℕ, true, if◌then◌else◌, List, [], ◌∷◌, Some}
use Rattle.std.specs.List.{AllByRecursion}
use Rattle.gn_wire.specs.declared.kind.Kind.{Kind}
use Rattle.gn_wire.specs.declared.kind.Kind.TheVariants.{Push}
use Rattle.gn_payload.specs.Fields.{push_servent}
use Rattle.gn_rules.specs.declared.config.Config.{Config}
use Rattle.gn_rules.specs.declared.event.Event.TheVariants.{Route}
use Rattle.gn_rules.specs.declared.receipt.Step.{Step}
use Rattle.gn_rules.specs.Answer.{is_request, IsLegal}
use Rattle.gn_rules.specs.Flight.{Admission, admission}
use Rattle.gn_rules.specs.History.{sends_of}
use Rattle.gn_paths.specs.Paths.{answered_kind, GoesBack, GoesToServent}
use Rattle.gn_paths.specs.Sends.{is_news, IsOwnOrOn, sent_to, spread_to}

-- a step of a legal history routes a descriptor of this kind and sends something of it, and what the laws say of that
pub record Routes {A : Type 0} (s : Config) (past : List (Step A)) (step : Step A) (kind : Kind) : Type 0 where
  pub legal : IsLegal s (step ∷ past)
  pub ticket : ℕ
  pub routed : Admission
  pub routes : step.event ≡ Route ticket
  pub admitted : admission past ticket ≡ Some routed
  pub is_kind : routed.packet.kind ≡ kind
  pub some : sends_of step.reply ≢ []
  -- a Pong or Query Hit goes back to where its request came from
  pub answer : (asked : Kind) → answered_kind kind ≡ Some asked
      → GoesBack s past routed (record { kind = asked; id = routed.packet.id }) (sends_of step.reply)
  -- a Push goes to where the last Query Hit of its servent came from
  pub push : kind ≡ Push → GoesToServent s past routed (push_servent routed.packet.payload) (sends_of step.reply)
  -- a Ping or Query spreads, once to each connection
  pub request : is_request kind ≡ true → (c : ℕ)
      → sent_to c (sends_of step.reply) ≡ (if is_news s past routed.packet then spread_to s past routed c else [])
  -- what is passed on has one Hop more and less TTL
  pub life : AllByRecursion (λ x. IsOwnOrOn s routed x) (sends_of step.reply)
