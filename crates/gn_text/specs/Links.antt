-- The texts of what happens to a link.
use Rattle.std.specs.Prelude.{ℕ, List, ◌++◌, codes, decimal}
use Rattle.gn_wire.specs.declared.header.FrameFault.{FrameFault}
use Rattle.gn_wire.specs.declared.header.FrameFault.TheVariants.{FixedLength, TooLong}
use Rattle.gn_numbers.specs.Names.{kind_names}

-- what is wrong with a payload's length, and the length; only Pings, Pongs and Pushes have payloads of one length
abbrev pub length_text : FrameFault → List ℕ
length_text (FixedLength kind length) = codes "fixed " ++ (kind_names kind).word ++ codes " " ++ decimal length
length_text (TooLong length) = codes "long " ++ decimal length

-- the line of a descriptor that a link can't have
abbrev pub frame_fault_text : ℕ → FrameFault → List ℕ
frame_fault_text link fault = codes "fault " ++ decimal link ++ codes " " ++ length_text fault ++ codes "\n"

-- the line of a link whose greeting isn't the one that is due
abbrev pub greeting_refused_text : ℕ → List ℕ
greeting_refused_text link = codes "greeting " ++ decimal link ++ codes " refused\n"

-- the line of bytes for a link that has ended
abbrev pub ended_text : ℕ → List ℕ
ended_text link = codes "ended " ++ decimal link ++ codes "\n"
