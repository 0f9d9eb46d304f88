-- The packets that wait for each connection.
use Rattle.std.specs.Prelude.{◌+◌, ℕ, ◌==◌, ◌&&◌, if◌then◌else◌, List, [], ◌∷◌, ◌++◌, length, map, filter, drop, None}
use Rattle.std.specs.Option.{option_to_list}
use Rattle.gn_wire.specs.Packet.{Packet}
use Rattle.gn_rules.specs.declared.receipt.Step.{Step}
use Rattle.gn_rules.specs.declared.sends.Sending.{Sending}
use Rattle.gn_rules.specs.History.{is_take, sends_of, taken_of, live, live_connections}

-- the packets of these sends that were queued to c
abbrev pub queued_to : {A : Type 0} → ℕ → List (Sending A) → List Packet
queued_to c sends = map (λ x. x.packet) (filter (λ x. (x.to == c) && x.queued) sends)

-- the output of c: the packets that were queued to it and not taken yet, from the first on; a Take takes the first
abbrev pub out : {A : Type 0} → List (Step A) → ℕ → List Packet
out [] c = []
out (step ∷ earlier) c =
    (if is_take c step.event then drop 1 (out earlier c) else out earlier c) ++ queued_to c (sends_of step.reply)

-- how many packets wait for c: none where it isn't live
abbrev pub waiting : {A : Type 0} → List (Step A) → ℕ → ℕ
waiting past c = if live past c then length (out past c) else 0

-- the live connections, ascending, each with its output
abbrev pub rows : {A : Type 0} → List (Step A) → List (ℕ × List Packet)
rows past = map (λ c. (c, out past c)) (live_connections past)

-- all packets that were ever queued to c, from the first on
abbrev pub queued : {A : Type 0} → List (Step A) → ℕ → List Packet
queued [] c = []
queued (step ∷ earlier) c = queued earlier c ++ queued_to c (sends_of step.reply)

-- how many steps took from c
abbrev pub takes : {A : Type 0} → List (Step A) → ℕ → ℕ
takes [] c = 0
takes (step ∷ earlier) c = takes earlier c + (if is_take c step.event then 1 else 0)

-- all packets that were ever taken from c, from the first on: of each step Take(c) the packet that its reply took
abbrev pub taken : {A : Type 0} → List (Step A) → ℕ → List Packet
taken [] c = []
taken (step ∷ earlier) c =
    taken earlier c ++ option_to_list (if is_take c step.event then taken_of step.reply else None)
