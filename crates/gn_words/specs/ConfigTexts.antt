-- Options as they are printed: one a line, each with its value.
use Rattle.std.specs.Prelude.{◌∷◌, ◌++◌, ℕ, Bool, false, true, List, [], Option, Some, None, codes, decimal, unwrap_or}
use Rattle.clap.specs.Words.{Text}
use Rattle.gn_text.specs.Addresses.{ip_text}
use Rattle.gn_words.specs.declared.peers.Peer.{Peer}
use Rattle.gn_words.specs.declared.retrying.Retry.{Retry}
use Rattle.gn_words.specs.declared.retrying.Retry.TheVariants.{Never, For, Always}
use Rattle.gn_words.specs.declared.servent.Servent.{Servent}
use Rattle.gn_words.specs.declared.servent.Servent.TheVariants.{Given, Random}
use Rattle.hex.specs.Hex.{encode_lower}

-- what stands behind an option: a number; a limit, 0 where there is none; how many callers are taken; an address; who a router is; for how
-- long a peer is called again; nothing behind a flag, which is set or isn't; or a peer, in an option for each
pub data Saying : Type 0 where
  Number : ℕ → Saying
  Limit : Option ℕ → Saying
  Callers : Option ℕ → Saying
  Ip : List ℕ → Saying
  Who : Servent → Saying
  Again : Retry → Saying
  Flag : Bool → Saying
  Each : List Peer → Saying

-- an option with its value
abbrev pub option_line : Text → Text → Text
option_line name value = codes "--" ++ name ++ codes " " ++ value ++ codes "\n"

-- how many callers are taken
abbrev pub callers_text : Option ℕ → Text
callers_text None = codes "any"
callers_text (Some accept) = decimal accept

-- who a router is
abbrev pub servent_text : Servent → Text
servent_text (Given id) = encode_lower id.0
servent_text Random = codes "random"

-- for how long a peer is called again
abbrev pub retry_text : Retry → Text
retry_text Never = decimal 0
retry_text (For seconds) = decimal seconds
retry_text Always = codes "always"

-- a peer that is called
abbrev pub peer_text : Peer → Text
peer_text peer = ip_text peer.ip ++ codes ":" ++ decimal peer.port

-- an option that is given for each of these peers
abbrev pub peers_lines : Text → List Peer → Text
peers_lines name [] = []
peers_lines name (peer ∷ more) = option_line name (peer_text peer) ++ peers_lines name more

-- an option with what stands behind it; nothing for a flag that isn't set
abbrev pub row_lines : Text → Saying → Text
row_lines name (Number number) = option_line name (decimal number)
row_lines name (Limit limit) = option_line name (decimal (unwrap_or limit 0))
row_lines name (Callers accept) = option_line name (callers_text accept)
row_lines name (Ip ip) = option_line name (ip_text ip)
row_lines name (Who servent) = option_line name (servent_text servent)
row_lines name (Again retry) = option_line name (retry_text retry)
row_lines name (Flag false) = []
row_lines name (Flag true) = codes "--" ++ name ++ codes "\n"
row_lines name (Each peers) = peers_lines name peers

-- options with what stands behind them
abbrev pub rows_lines : List (Text × Saying) → Text
rows_lines [] = []
rows_lines ((name, said) ∷ more) = row_lines name said ++ rows_lines more
