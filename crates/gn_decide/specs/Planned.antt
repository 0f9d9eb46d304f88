-- The reply that a plan stands for.
use Rattle.std.specs.Prelude.{◌≡◌, ℕ, nat_lt, List, [], ◌∷◌, Result, Ok, Err}
use Rattle.gn_wire.specs.Packet.{Packet}
use Rattle.gn_rules.specs.declared.config.Config.{Config}
use Rattle.gn_rules.specs.declared.receipt.Step.{Step}
use Rattle.gn_rules.specs.declared.refusal.Refusal.{Refusal}
use Rattle.gn_rules.specs.declared.reply.Reply.{Reply}
use Rattle.gn_rules.specs.declared.reply.Reply.TheVariants as reply
use Rattle.gn_rules.specs.declared.sends.Sending.{Sending}
use Rattle.gn_rules.specs.Answer.{decision_reply}
use Rattle.gn_rules.specs.Decision.{Decision}
use Rattle.gn_rules.specs.Flight.{Admission}
use Rattle.gn_rules.specs.Sending.{fanout, flood_sends}
use Rattle.gn_decide.specs.declared.plan.Outgoing.{Outgoing}
use Rattle.gn_decide.specs.declared.plan.Outgoing.TheVariants.{Nothing, One, Flood, Each}
use Rattle.gn_decide.specs.declared.plan.Found.{Found}
use Rattle.gn_decide.specs.declared.plan.Plan.{Plan}
use Rattle.gn_decide.specs.declared.plan.Plan.TheVariants.{Ready, Taken, Routed, Sent}
use Rattle.gn_decide.specs.Made.{made_packet}

-- the sends that outgoing packets stand for
abbrev pub outgoing_sends : {A : Type 0} → Config → List (Step A) → Outgoing A → List (Sending A)
outgoing_sends s past Nothing = []
outgoing_sends s past (One c place count made) =
    record { to = c; packet = made_packet made; queued = nat_lt count s.numbers.out } ∷ []
outgoing_sends s past (Flood c d) = flood_sends s past (record { origin = c; packet = d.now })
outgoing_sends s past (Each d) = fanout s past 0 d.now

-- the reply that a plan stands for
abbrev pub plan_reply : {A : Type 0} → Config → List (Step A) → Plan A → Reply A
plan_reply s past (Ready reply) = reply
plan_reply s past (Taken d) = reply.Taken d.now
plan_reply s past (Routed sends local) = reply.Routed (outgoing_sends s past sends) local
plan_reply s past (Sent sends) = reply.Sent (outgoing_sends s past sends)

-- the answer that a plan or a refusal stands for
abbrev pub planned : {A : Type 0} → Config → List (Step A) → Result (Found A) Refusal → Result (Reply A) Refusal
planned s past (Ok found) = Ok (plan_reply s past found.plan)
planned s past (Err refusal) = Err refusal

-- a plan for a descriptor that this connection admitted stands for what a rule decides of it
abbrev pub Decides : {A : Type 0} → Config → List (Step A) → ℕ → Packet → (Admission → Decision) → Plan A → Type 0
Decides s past origin packet rule plan =
    let a : Admission = record { origin = origin; packet = packet } in
    plan_reply s past plan ≡ decision_reply s past a (rule a)
