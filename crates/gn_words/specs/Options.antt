-- What the values of options say.
use Rattle.std.specs.Prelude.{◌≡◌, ◌∷◌, ◌++◌, ◌==◌, ◌&&◌, ◌||◌, ℕ, Bool, false, true, List, [], Option, Some, None, Result, Ok, Err, codes, length, nat_le, not, option_map, slice_index, unwrap_or, if◌then◌else◌}
use Rattle.std.specs.List.{slice_split}
use Rattle.std.specs.Option.{option_map_or}
use Rattle.std.specs.Str.{bytes_eq}
use Rattle.clap.specs.Words.{Row, Text, all_of, first_of}
use Rattle.gn_text.specs.Addresses.{ip_of}
use Rattle.gn_text.specs.Bytes.{guid_of}
use Rattle.gn_numbers.specs.Numbers.{number_below, number_of, ◌>>=◌}
use Rattle.gn_words.specs.declared.peers.Peer.{Peer}
use Rattle.gn_words.specs.declared.retrying.Retry.{Retry}
use Rattle.gn_words.specs.declared.retrying.Retry.TheVariants.{Never, For, Always}
use Rattle.gn_words.specs.declared.servent.Servent.{Servent}
use Rattle.gn_words.specs.declared.servent.Servent.TheVariants.{Given, Random}
use Rattle.gn_words.specs.declared.site.Site.{Site}
use Rattle.gn_words.specs.declared.unread.Unread.{Unread}
use Rattle.gn_words.specs.declared.unread.Unread.TheVariants.{Mistake, NoMemory}

-- whether a flag is set
abbrev pub is_set : Text → List Row → Bool
is_set flag rows = option_map_or (λ value. bytes_eq value (codes "true")) (first_of flag rows) false

-- the number that a text says, where it is within these
abbrev pub number_between : ℕ → ℕ → Text → Option ℕ
number_between least most text = do
  number ← number_of text
  if nat_le least number && nat_le number most then Some number else None

-- the number that an option asks for, where it is within these
abbrev pub number_asked : Text → ℕ → ℕ → List Row → Option ℕ
number_asked option least most rows = do
  text ← first_of option rows
  number_between least most text

-- who a text says that a router is: one of a random ID, or the servent of this ID
abbrev pub servent_in : Text → Option Servent
servent_in text = if bytes_eq text (codes "random") then Some Random else option_map Given (guid_of text)

-- who the router is that is asked for
abbrev pub servent_of : List Row → Option Servent
servent_of rows = do
  text ← first_of (codes "servent") rows
  servent_in text

-- the address that an option asks for
abbrev pub ip_asked : Text → List Row → Option (List ℕ)
ip_asked option rows = do
  text ← first_of option rows
  ip_of text

-- whether an address is 0.0.0.0: who listens there does so at all addresses of the machine
abbrev pub is_all : List ℕ → Bool
is_all ip = (slice_index ip 0 == 0 && slice_index ip 1 == 0) && (slice_index ip 2 == 0 && slice_index ip 3 == 0)

-- where a router is that listens at this address: its own Pongs say the one that is asked for, or where that is 0.0.0.0 the same, which
-- then has to be another
abbrev pub site_at : List ℕ → List ℕ → Option Site
site_at bind asked =
    if not (is_all asked) then Some (record { bind = bind; address = asked })
    else if is_all bind then None else Some (record { bind = bind; address = bind })

-- where the router is that is asked for
abbrev pub site_of : List Row → Option Site
site_of rows = do
  bind ← ip_asked (codes "bind") rows
  asked ← ip_asked (codes "address") rows
  site_at bind asked

-- whether an address is one of this machine that no other machine can call: 127 and three bytes more
abbrev pub is_near : List ℕ → Bool
is_near ip = slice_index ip 0 == 127

-- whether a router calls peers on other machines, too: one that listens at no such address
abbrev pub calls_far : Site → Bool
calls_far site = not (is_near site.bind)

-- the peer at an address, where that is one of this machine, or other machines are called, and the text says its port, 1 to 65,535
abbrev pub peer_at : Bool → Text → List ℕ → Option Peer
peer_at far place ip = do
  port ← number_below 65536 place
  if (far || is_near ip) && nat_le 1 port then Some (record { ip = ip; port = port }) else None

-- the peer that two texts say
abbrev pub peer_of_parts : Bool → List Text → Option Peer
peer_of_parts far (address ∷ place ∷ []) = do
  ip ← ip_of address
  peer_at far place ip
peer_of_parts far parts = None

-- the peer that a text says, its address and its port with a colon between them
abbrev pub peer_of : Bool → Text → Option Peer
peer_of far text = peer_of_parts far (slice_split (λ b. b == 58) text)

-- these peers, and after them those that texts say
abbrev pub peers_after : Bool → List Peer → List Text → Option (List Peer)
peers_after far peers [] = Some peers
peers_after far peers (text ∷ texts) = do
  peer ← peer_of far text
  peers_after far (peers ++ peer ∷ []) texts

-- the peers that at most 64 texts say
abbrev pub peers_in : Bool → List Text → Option (List Peer)
peers_in far texts = if nat_le (length texts) 64 then peers_after far [] texts else None

-- the peers that are asked for; none, where the option isn't given
abbrev pub peers_of : Bool → List Row → Option (List Peer)
peers_of far rows = peers_in far (unwrap_or (all_of (codes "peer") rows) [])

-- how many callers are asked for, 0 to 128; none, where that is any number of them
abbrev pub accept_of : List Row → Option (Option ℕ)
accept_of rows =
    if option_map_or (λ text. bytes_eq text (codes "any")) (first_of (codes "accept") rows) false then Some None
    else option_map Some (number_asked (codes "accept") 0 128 rows)

-- the limit that an option asks for: none, where its number is 0; another number is a mistake where such a limit is barred
abbrev pub limit_asked : Text → ℕ → ℕ → Bool → List Row → Option (Option ℕ)
limit_asked option least most are_barred rows = do
  number ← number_asked option least most rows
  if number == 0 then Some None else if are_barred then None else Some (Some number)

-- the limit that a number of seconds says: none, where there are none
abbrev pub limit_of : ℕ → Option ℕ
limit_of seconds = if seconds == 0 then None else Some seconds

-- for how long so many seconds say that a peer is called again
abbrev pub retry_for : ℕ → Retry
retry_for seconds = if seconds == 0 then Never else For seconds

-- for how long a peer is called again that doesn't listen, for 0 to 86,400 seconds or always
abbrev pub retry_of : List Row → Option Retry
retry_of rows =
    if option_map_or (λ text. bytes_eq text (codes "always")) (first_of (codes "retry") rows) false then Some Always
    else option_map retry_for (number_asked (codes "retry") 0 86400 rows)

-- the same, where a serve of so many callers, or of any number, takes it: always is taken with any number alone
abbrev pub retry_with : Option ℕ → Retry → Option Retry
retry_with (Some accept) Always = None
retry_with (Some accept) Never = Some Never
retry_with (Some accept) (For seconds) = Some (For seconds)
retry_with None retry = Some retry

-- whether a serve goes on with a history that standard input gives: only where any number of callers is taken, standard input isn't what ends
-- it, and its servent is always the same
abbrev pub resumes_by : Option ℕ → Bool → Servent → Bool → Option Bool
resumes_by accept until_eof servent false = Some false
resumes_by (Some accept) until_eof servent true = None
resumes_by None true servent true = None
resumes_by None false Random true = None
resumes_by None false (Given id) true = Some true

-- whether the options say so
abbrev pub resumes_of : Option ℕ → Servent → List Row → Option Bool
resumes_of accept servent rows = resumes_by accept (is_set (codes "until-eof") rows) servent (is_set (codes "resume") rows)

-- a value was read as the definition says; a mistake is where it says none, and memory may run out at any time. view is how the
-- definition sees the value that was read
abbrev pub IsReadAs : {X T : Type 0} → (T → X) → Option X → Result T Unread → Type 0
IsReadAs view asked (Ok value) = asked ≡ Some (view value)
IsReadAs view asked (Err (Mistake text)) = asked ≡ None
IsReadAs view asked (Err NoMemory) = Unit {0}
