-- What the local servent sends.
use Rattle.std.proofs.Common.{◌≡◌, ◌==◌, Bool, true, false, ◌&&◌, not, cond, List, length, Result, Ok, Err, refl}
use Rattle.std.proofs.lemmas.Bool.{and_parts}
use Rattle.gn_wire.specs.Keys.{key_of}
use Rattle.gn_wire.specs.Packet.{life_left, Packet}
use Rattle.gn_payload.specs.Reading.{has_reading}
use Rattle.gn_rules.specs.declared.config.Config.{Config}
use Rattle.gn_rules.specs.declared.event.Event.TheVariants.{Originate}
use Rattle.gn_rules.specs.declared.receipt.Step.{Step}
use Rattle.gn_rules.specs.declared.refusal.Refusal.{Refusal}
use Rattle.gn_rules.specs.declared.refusal.Refusal.TheVariants.{HistoryFull, BadOrigin, Remembered}
use Rattle.gn_rules.specs.declared.reply.Reply.{Reply}
use Rattle.gn_rules.specs.declared.reply.Reply.TheVariants.{Sent}
use Rattle.gn_rules.specs.Answer.{answer, is_request, may_originate}
use Rattle.gn_rules.specs.Sending.{fanout}
use Rattle.gn_rules.specs.SeenEntries.{is_remembered}

-- after three tests that refuse
three_tests : {A : Type 0} (full may remembered : Bool) (sent reply : Reply A)
    → cond {A = Result (Reply A) Refusal} full (Err HistoryFull) (cond (not may) (Err BadOrigin) (cond remembered (Err Remembered) (Ok sent))) ≡ Ok reply → (may ≡ true) × (remembered ≡ false)
three_tests true may remembered sent reply e = absurd (cc)
three_tests false false remembered sent reply e = absurd (cc)
three_tests false true true sent reply e = absurd (cc)
three_tests false true false sent reply e = (refl, refl)

-- what the local servent sends is a request, and its key is new
pub originate_parts : {A : Type 0} (s : Config) (past : List (Step A)) (d : Packet) (reply : Reply A) → answer s past (Originate d) ≡ Ok reply
    → (is_request d.kind ≡ true) × (is_remembered s past (key_of d) ≡ false)
originate_parts {A} s past d reply e =
    let tests = three_tests (length past == s.numbers.steps) (may_originate s.numbers.life d) (is_remembered s past (key_of d)) (Sent (fanout s past 0 d)) reply e in
    let four = and_parts (is_request d.kind && not (d.ttl == 0) && (d.hops == 0) && (life_left s.numbers.life d == d.ttl)) (has_reading d.kind d.payload) tests.0 in
    let three = and_parts (is_request d.kind && not (d.ttl == 0) && (d.hops == 0)) (life_left s.numbers.life d == d.ttl) four.0 in
    let two = and_parts (is_request d.kind && not (d.ttl == 0)) (d.hops == 0) three.0 in
    ((and_parts (is_request d.kind) (not (d.ttl == 0)) two.0).0, tests.1)
