-- What is left of a reply's sends, after those that were looked for.
use Rattle.std.specs.Prelude.{Bool, true, false, ◌==◌, ◌&&◌, if◌then◌else◌, List, [], ◌∷◌, Option, Some, None}
use Rattle.std.specs.Bool.{beq}
use Rattle.gn_wire.specs.Keys.{is_same_packet}
use Rattle.gn_rules.specs.declared.sends.Sending.{Sending}

-- two sends are the same
abbrev pub is_same_sending : {A : Type 0} → Sending A → Sending A → Bool
is_same_sending x y = (x.to == y.to) && is_same_packet x.packet y.packet && beq x.queued y.queued

-- what is left of these sends without the first, where that is x; nothing, where it isn't
abbrev pub without_first : {A : Type 0} → Sending A → Option (List (Sending A)) → Option (List (Sending A))
without_first x None = None
without_first x (Some []) = None
without_first x (Some (y ∷ ys)) = if is_same_sending x y then Some ys else None

-- all that was looked for was found, and no send is left
abbrev pub is_end : {A : Type 0} → Option (List (Sending A)) → Bool
is_end None = false
is_end (Some []) = true
is_end (Some (y ∷ ys)) = false
