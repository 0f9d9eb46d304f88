-- What is counted of a text as it goes by.
use Rattle.std.specs.Prelude.{ℕ, ◌-◌, ◌^◌, ◌==◌, nat_lt, if◌then◌else◌, List, [], ◌∷◌, ◌++◌, length, map, min, replicate, take, Option, None, Some}
use Rattle.gn_rules.specs.declared.statistics.Counter.{Counter}
use Rattle.gn_rules.specs.declared.statistics.Stats.{Stats}
use Rattle.gn_rules.specs.Statistics.{count_in, counter_place, counters}
use Rattle.gn_numbers.specs.Names.{counter_named}
use Rattle.gn_metrics.specs.Sums.{counted}
use Rattle.gn_metrics.specs.declared.tally.Place.{Place}
use Rattle.gn_metrics.specs.declared.tally.Place.TheVariants.{Start, Event, Word, Rest}
use Rattle.gn_metrics.specs.declared.tally.Tally.{Tally}

-- where a text stands: what comes next, the letters of a word that are looked at, and the counts
pub record Standing : Type 0 where
  pub place : Place
  pub word : List ℕ
  pub counts : List ℕ

-- how a tally stands
abbrev pub standing : Tally → Standing
standing tally = record { place = tally.place; word = take tally.letters tally.word; counts = tally.counts }

-- before the first byte
abbrev pub at_first : Standing
at_first = record { place = Start; word = []; counts = replicate 16 0 }

-- a word with one more letter: 16 of them are looked at
abbrev pub with_letter : List ℕ → ℕ → List ℕ
with_letter word letter = if nat_lt (length word) 16 then word ++ letter ∷ [] else word

-- a word is at its end: where it is the name of a counter, its line is counted there
abbrev pub with_found : Option Counter → Standing → Standing
with_found None s = record { place = s.place; word = []; counts = s.counts }
with_found (Some counter) s = record { place = Rest; word = []; counts = counted (counter_place counter) s.counts }

-- a word is at its end
abbrev pub word_ended : Standing → Standing
word_ended s = with_found (counter_named s.word) s

-- somewhere else
abbrev pub moved : Place → Standing → Standing
moved place s = record { place = place; word = s.word; counts = s.counts }

-- what comes behind the first byte of a line
abbrev pub behind_start : ℕ → Place
behind_start byte = if byte == 10 then Start else (if byte == 35 then Rest else (if byte == 61 then Word else Event))

-- what comes behind a byte before `=`
abbrev pub behind_event : ℕ → Place
behind_event byte = if byte == 61 then Word else (if byte == 10 then Start else Event)

-- what comes behind a byte of what is left of a line
abbrev pub behind_rest : ℕ → Place
behind_rest byte = if byte == 10 then Start else Rest

-- a word has one more letter
abbrev pub longer : Standing → ℕ → Standing
longer s letter = record { place = s.place; word = with_letter s.word letter; counts = s.counts }

-- a byte behind `=`
abbrev pub letter_read : Standing → ℕ → Standing
letter_read s byte =
    if byte == 10 then moved Start (word_ended s)
    else (if byte == 32 then word_ended s else longer s byte)

-- a byte at this place
abbrev pub byte_at : Place → Standing → ℕ → Standing
byte_at Start s byte = moved (behind_start byte) s
byte_at Event s byte = moved (behind_event byte) s
byte_at Word s byte = letter_read s byte
byte_at Rest s byte = moved (behind_rest byte) s

-- the next byte
abbrev pub after_byte : Standing → ℕ → Standing
after_byte s byte = byte_at s.place s byte

-- the next bytes, one by one
abbrev pub after_bytes : Standing → List ℕ → Standing
after_bytes s [] = s
after_bytes s (byte ∷ bytes) = after_bytes (after_byte s byte) bytes

-- the counters of statistics in order, each at most the last u32
abbrev pub listed : Stats → List ℕ
listed stats = map (λ counter. min (count_in counter stats) (2 ^ 32 - 1)) counters
