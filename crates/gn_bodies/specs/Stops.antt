-- How a body ended, and why it has no end of its own.
use Rattle.std.specs.Prelude.{Bool, true, false}
use Rattle.gn_rules.specs.declared.refusal.Refusal.{Refusal}
use Rattle.gn_rules.specs.declared.refusal.Refusal.TheVariants as refusal
use Rattle.gn_bodies.specs.declared.ends.BodyFault.{BodyFault}
use Rattle.gn_bodies.specs.declared.ends.BodyFault.TheVariants.{HistoryFull, NoMemory, Refused}

-- whether a fault stops the body at once
abbrev pub is_stop : BodyFault → Bool
is_stop HistoryFull = true
is_stop NoMemory = true
is_stop Refused = false

-- why a call made no step, by the router's refusal: a full history and out of memory are themselves, the others refuse the call
abbrev pub fault_of : Refusal → BodyFault
fault_of refusal.HistoryFull = HistoryFull
fault_of refusal.NoMemory = NoMemory
fault_of refusal = Refused
