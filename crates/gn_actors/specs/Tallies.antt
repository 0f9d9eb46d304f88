-- What an actor's receipts count, and where the last of them stands.
use Rattle.std.specs.Prelude.{◌<◌, ◌+◌, ◌^◌, ℕ, Bool, true, false, cond, List, [], ◌∷◌, None}
use Rattle.std.specs.List.{count_by}
use Rattle.std.specs.Option.{option_or}
use Rattle.gn_rules.specs.declared.event.Event.{Event}
use Rattle.gn_rules.specs.declared.event.Event.TheVariants.{Admit}
use Rattle.gn_rules.specs.declared.receipt.Receipt.{Receipt}
use Rattle.gn_rules.specs.declared.reply.Reply.{Reply}
use Rattle.gn_rules.specs.declared.reply.Reply.TheVariants.{Taken}
use Rattle.gn_rules.specs.Fits.{is_at_threshold}
use Rattle.gn_rules.specs.History.{connected_of}
use Rattle.gn_laws.specs.Owners.{known_conn}
use Rattle.gn_actors.specs.declared.tally.Tally.{Tally}

-- an event by which a link brings a descriptor, whatever it is answered
abbrev pub is_offer : {A : Type 0} → Event A → Bool
is_offer (Admit c packet) = true
is_offer event = false

-- a reply by which a packet is taken
abbrev pub is_taking : {A : Type 0} → Reply A → Bool
is_taking (Taken packet) = true
is_taking reply = false

-- how many descriptors a link brought, by these receipts
abbrev pub offered : {A : Type 0} → List (Receipt A) → ℕ
offered receipts = count_by (λ receipt. is_offer receipt.event) receipts

-- how many of them were refused at a threshold
abbrev pub busy : {A : Type 0} → List (Receipt A) → ℕ
busy receipts = count_by (λ receipt. is_at_threshold receipt.reply) receipts

-- how many packets were taken, by these receipts
abbrev pub taken : {A : Type 0} → List (Receipt A) → ℕ
taken receipts = count_by (λ receipt. is_taking receipt.reply) receipts

-- what these receipts tell: the connection of the first reply Connected, and what they count
abbrev pub tally_of : {A : Type 0} → List (Receipt A) → Tally
tally_of receipts = record {
  connection = known_conn receipts;
  offered = offered receipts;
  busy = busy receipts;
  taken = taken receipts;
}

-- what no receipts tell
abbrev pub no_tally : Tally
no_tally = record { connection = None; offered = 0; busy = 0; taken = 0 }

-- what was told, with one receipt more
abbrev pub tally_with : {A : Type 0} → Tally → Receipt A → Tally
tally_with tally r = record {
  connection = option_or tally.connection (connected_of r.reply);
  offered = tally.offered + cond (is_offer r.event) 1 0;
  busy = tally.busy + cond (is_at_threshold r.reply) 1 0;
  taken = tally.taken + cond (is_taking r.reply) 1 0;
}

-- each count may be one more
pub record HasRoom (tally : Tally) : Type 0 where
  pub offered : tally.offered + 1 < 2 ^ 64
  pub busy : tally.busy + 1 < 2 ^ 64
  pub taken : tally.taken + 1 < 2 ^ 64

-- one more than the index of the last of these receipts; 0 where there are none
abbrev pub last_place : {A : Type 0} → List (Receipt A) → ℕ
last_place [] = 0
last_place (r ∷ []) = r.index + 1
last_place (r ∷ s ∷ receipts) = last_place (s ∷ receipts)
