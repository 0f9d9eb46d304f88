-- What the lines of a configuration say, and their texts.
use Rattle.std.specs.Prelude.{ℕ, Bool, ◌&&◌, nat_le, if◌then◌else◌, List, [], ◌∷◌, codes, Option, Some, None, ◌++◌, decimal}
use Rattle.gn_rules.specs.declared.config.Config.{Config}
use Rattle.gn_rules.specs.declared.config.Own.{Own}
use Rattle.gn_rules.specs.declared.limits.Numbers.{Numbers}
use Rattle.gn_rules.specs.Limits.{most}
use Rattle.gn_numbers.specs.declared.version.Later.{Later}
use Rattle.gn_numbers.specs.declared.version.Version.{Version}
use Rattle.gn_text.specs.Addresses.{ip_of, ip_text}
use Rattle.gn_text.specs.Bytes.{guid_of}
use Rattle.gn_text.specs.Lines.{is_word}
use Rattle.gn_numbers.specs.Numbers.{number_of, number_below, ◌>>=◌}
use Rattle.gn_numbers.specs.Versions.{later_parsed, later_text, version_for}
use Rattle.hex.specs.Hex.{encode_lower}

-- what a configuration says: its numbers and its own servent
abbrev pub settings_of : Config → Numbers × Own
settings_of s = (s.numbers, s.own)

-- a number is from 1 to its limit
abbrev pub is_within : ℕ → ℕ → Bool
is_within number limit = nat_le 1 number && nat_le number limit

-- each number is from 1 to its limit; the limit on a life and the threshold of a connection may be 0
abbrev pub are_within : Numbers → Bool
are_within n =
    is_within n.neighbours most.neighbours && is_within n.seen most.seen && is_within n.servents most.servents
    && is_within n.stage most.stage && is_within n.out most.out && is_within n.steps most.steps
    && nat_le n.life most.life && nat_le n.crowd most.crowd

-- numbers, where each is within its limit
abbrev pub numbers_within : Numbers → Option Numbers
numbers_within n = if are_within n then Some n else None

-- six numbers and those after them, where all are there and each is within its limit
abbrev pub each_within : Option ℕ → Option ℕ → Option ℕ → Option ℕ → Option ℕ → Option ℕ → Option Later → Option Numbers
each_within k n m t w h later = do
  neighbours ← k
  seen ← n
  servents ← m
  stage ← t
  out ← w
  steps ← h
  more ← later
  numbers_within (record {
    neighbours = neighbours;
    seen = seen;
    servents = servents;
    stage = stage;
    out = out;
    steps = steps;
    life = more.life;
    crowd = more.crowd;
  })

-- the numbers that the fields of a version say, where each is within its limit: six, and those that the version has more
abbrev pub numbers_parsed : Version → List (List ℕ) → Option Numbers
numbers_parsed version (k ∷ n ∷ m ∷ t ∷ w ∷ h ∷ later) =
    each_within (number_of k) (number_of n) (number_of m) (number_of t) (number_of w) (number_of h) (later_parsed version later)
numbers_parsed version fields = None

-- the servent that five fields say: its ID, its address and port, its files and its kilobytes
abbrev pub servent_parsed : List (List ℕ) → Option Own
servent_parsed (id ∷ address ∷ place ∷ shared ∷ size ∷ []) = do
  servent ← guid_of id
  ip ← ip_of address
  port ← number_below 65536 place
  files ← number_of shared
  kbytes ← number_of size
  Some (record { servent = servent; ip = ip; port = port; files = files; kbytes = kbytes })
servent_parsed fields = None

-- what the fields after a word say
abbrev pub after_word : {X : Type 0} → List ℕ → (List (List ℕ) → Option X) → List (List ℕ) → Option X
after_word word parsed [] = None
after_word word parsed (field ∷ fields) = if is_word field word then parsed fields else None

-- what the fields of a line `config K N M T W H` say; the second version has L behind H, the third L and Q
abbrev pub config_of : Version → List (List ℕ) → Option Numbers
config_of version fields = after_word (codes "config") (numbers_parsed version) fields

-- what the fields of a line `own SERVENT IP PORT FILES KBYTES` say
abbrev pub own_of : List (List ℕ) → Option Own
own_of fields = after_word (codes "own") servent_parsed fields

-- a number after a space
abbrev pub field_text : ℕ → List ℕ
field_text n = codes " " ++ decimal n

-- the part of the line that each version has
abbrev pub six_text : Numbers → List ℕ
six_text n =
    codes "config" ++ field_text n.neighbours ++ field_text n.seen ++ field_text n.servents ++ field_text n.stage ++ field_text n.out
    ++ field_text n.steps

-- the line of the numbers, without its line feed, in the least version that can say them
abbrev pub config_line : Config → List ℕ
config_line s = six_text s.numbers ++ later_text (version_for s.numbers) s.numbers

-- the line of the own servent, without its line feed
abbrev pub own_line : Own → List ℕ
own_line own =
    codes "own " ++ encode_lower own.servent.0 ++ codes " " ++ ip_text own.ip ++ field_text own.port ++ field_text own.files
    ++ field_text own.kbytes

-- the text of the numbers
abbrev pub config_text : Config → List ℕ
config_text s = config_line s ++ codes "\n"

-- the text of the own servent
abbrev pub own_text : Own → List ℕ
own_text own = own_line own ++ codes "\n"

-- the text of a configuration: its numbers, then its servent
abbrev pub settings_text : Config → List ℕ
settings_text s = config_text s ++ own_text s.own
