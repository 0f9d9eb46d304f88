-- The tables of ends: what each end of a link's reader and of its writer says, in one row.
--
-- Here `steps` is the history, in order, and `own` are the receipts of the reader or the writer; `turns` is how many reads of a link
-- may give bytes, `first` whether a link's writer may close its connection before the reader is done, and `batch` how many packets a
-- writer takes at once at most.
use Rattle.std.specs.Prelude.{◌≡◌, ◌<◌, ◌≤◌, ◌⊎◌, ◌==◌, ◌&&◌, ◌||◌, ℕ, Bool, true, not, if◌then◌else◌, List, [], ◌∷◌, ◌++◌, drop, length, map, take, Option, Some, None, ⊤}
use Rattle.std.specs.List.{concat, list_all, list_any}
use Rattle.gn_wire.specs.Encoding.{bytes_of}
use Rattle.gn_wire.specs.Packet.{Packet}
use Rattle.gn_rules.specs.declared.event.Event.{Event}
use Rattle.gn_rules.specs.declared.event.Event.TheVariants.{Admit, Connect}
use Rattle.gn_rules.specs.declared.receipt.Receipt.{Receipt}
use Rattle.gn_rules.specs.declared.receipt.Step.{Step}
use Rattle.gn_rules.specs.History.{closed_of, is_at, is_close}
use Rattle.gn_frames.specs.Frames.{Frames, frames_of}
use Rattle.gn_shake.specs.declared.role.Role.{Role}
use Rattle.gn_shake.specs.declared.shake.ShakeState.{ShakeState}
use Rattle.gn_shake.specs.declared.shake.ShakeState.TheVariants.{More, Done, Refused}
use Rattle.gn_shake.specs.Greeting.{greeting_of, greeting_state, is_calling, request_text}
use Rattle.gn_links.specs.Halves.{ReadHalf, WrittenHalf}
use Rattle.gn_laws.specs.Owners.{packets_of}
use Rattle.gn_bodies.specs.declared.ends.ReaderEnd.{ReaderEnd}
use Rattle.gn_bodies.specs.declared.ends.ReaderEnd.TheVariants.{Bytes, Fault, ReadFailed, Turns, GreetingRefused, GreetingCut, TooMany, NotLive}
use Rattle.gn_bodies.specs.declared.ends.WriterEnd.{WriterEnd}
use Rattle.gn_bodies.specs.declared.ends.WriterEnd.TheVariants.{Drained, WriteFailed, Closed, NeverOpened}
use Rattle.gn_bodies.specs.Events.{link_events_in}
use Rattle.gn_bodies.specs.ReaderRows.{WithClose}
use Rattle.gn_bodies.specs.Written.{opening_texts}
use Rattle.gn_report.specs.Actors.{is_awaited_reader}
use Rattle.gn_report.specs.BodyEnds.{is_settled, is_turned_away}

-- somebody closed connection c
abbrev pub IsClosed : {A : Type 0} → List (Step A) → ℕ → Type 0
IsClosed steps c = list_any (λ step. is_close c step.event) steps ≡ true

-- where the bytes read are known: the awaited greeting has come as far as this ShakeState, and `says` holds of the `Frames` of the
-- bytes past the greeting's length
abbrev pub IsGreeted : ReadHalf → Role → ShakeState → (Frames → Type 0) → Type 0
IsGreeted half role state says =
    half.is_known ≡ true
    → (greeting_state (greeting_of role) half.bytes ≡ state) × says (frames_of (drop (length (greeting_of role)) half.bytes))

-- a Connect, then an Admit on c of each of these descriptors, in order
abbrev pub admitting : {A : Type 0} → ℕ → List Packet → List (Event A)
admitting c descriptors = Connect ∷ map (Admit c) descriptors

-- the table of ends for a reader: how its reads ended and who closed its connection; and, only where the bytes read are known, what
-- they were, and its events except the Routes. Known or not, GreetingRefused and GreetingCut made no event, Bytes no Close, and TooMany
-- the one Connect alone. `first`: whether its writer may close c before the reader is done
abbrev pub ReaderEnds : {A : Type 0} → ℕ → List (Step A) → ℕ → Bool → Role → List (Receipt A) → ReadHalf → ReaderEnd → Option ℕ → Type 0
-- a read found the end of the bytes, and they have no fault; it made a Connect, an Admit of each whole descriptor, in order, and no
-- Close
ReaderEnds turns steps writer first role own half Bytes (Some c) =
    (half.has_ended ≡ true) × (not (list_any (λ r. is_close c r.event) own) ≡ true)
    × IsGreeted half role Done (λ frames. (frames.fault ≡ None) × (link_events_in own ≡ admitting c frames.descriptors))
-- the bytes have the fault f; it made a Connect, an Admit of each descriptor before the fault, and perhaps a Close; somebody closed
-- c
ReaderEnds turns steps writer first role own half (Fault f) (Some c) =
    IsClosed steps c
    × IsGreeted half role Done
    (λ frames. (frames.fault ≡ Some f) × WithClose c (link_events_in own) (admitting c frames.descriptors))
-- a read failed; it made a Connect, an Admit of each whole descriptor, and perhaps a Close; somebody closed c
ReaderEnds turns steps writer first role own half ReadFailed (Some c) =
    (0 < half.failures) × IsClosed steps c
    × IsGreeted half role Done (λ frames. WithClose c (link_events_in own) (admitting c frames.descriptors))
-- a read failed within the greeting; it made no event but Routes
ReaderEnds turns steps writer first role own half ReadFailed None =
    (0 < half.failures) × IsGreeted half role More (λ frames. link_events_in own ≡ [])
-- the limit of reads was reached; all else as at `ReadFailed, Some c`
ReaderEnds turns steps writer first role own half Turns (Some c) =
    (half.pieces ≡ turns) × IsClosed steps c
    × IsGreeted half role Done (λ frames. WithClose c (link_events_in own) (admitting c frames.descriptors))
-- the same within the greeting; it made no event but Routes
ReaderEnds turns steps writer first role own half Turns None =
    (half.pieces ≡ turns) × IsGreeted half role More (λ frames. link_events_in own ≡ [])
-- its writer may close c first, as `first` says, and did; it made a Connect, and an Admit of each of the first descriptors, not of
-- all
ReaderEnds turns steps writer first role own half NotLive (Some c) =
    ((first && list_any (λ step. (step.actor == writer) && is_close c step.event) steps) ≡ true)
    × IsGreeted half role Done
    (λ frames. (n : ℕ) × (n < length frames.descriptors) × (link_events_in own ≡ admitting c (take n frames.descriptors)))
-- the bytes differ from the greeting; it made no event
ReaderEnds turns steps writer first role own half GreetingRefused None = (own ≡ []) × IsGreeted half role Refused (λ frames. ⊤)
-- a read found the end of the bytes within the greeting; it made no event
ReaderEnds turns steps writer first role own half GreetingCut None =
    (half.has_ended ≡ true) × (own ≡ []) × IsGreeted half role More (λ frames. ⊤)
-- the greeting is whole; its one event was a Connect, with the reply TooMany
ReaderEnds turns steps writer first role own half TooMany None =
    (((length own == 1) && list_all (λ r. is_turned_away r.event r.reply) own) ≡ true) × IsGreeted half role Done (λ frames. ⊤)
ReaderEnds turns steps writer first role own half end conn = ⊥

-- what a writer had to write: the opening text, and the packets that it took
abbrev pub texts_of : {A : Type 0} → Role → List (Receipt A) → List (List ℕ)
texts_of role own = opening_texts role ++ map bytes_of (packets_of own)

-- a write failed, or wrote no bytes; what was written, where known, is all texts but the last, one to `batch` of them, and a prefix
-- of these. A writer takes at most `batch` packets at once, in `run` 1
pub record IsHurt (batch : ℕ) (half : WrittenHalf) (texts : List (List ℕ)) : Type 0 where
  pub part : half.is_known ≡ true
      → (done last : List (List ℕ)) × (n : ℕ) × (texts ≡ done ++ last) × (0 < length last) × (length last ≤ batch)
      × (half.bytes ≡ concat done ++ take n (concat last))
  pub hurt : (0 < half.failures) ⊎ (half.is_stuck ≡ true)

-- the table of ends for a writer: what was written, where that is known, its events, and who closed its connection
abbrev pub WriterEnds : {A : Type 0} → ℕ → List (Step A) → List Role → ℕ → Role → List (Receipt A) → WrittenHalf → WriterEnd → Option ℕ → Type 0
-- all its texts were written; it closed c when c's output was empty, nothing was in flight, and all awaited readers had made their
-- last step
WriterEnds batch steps roles writer role own half Drained (Some c) =
    (half.is_known ≡ true → half.bytes ≡ concat (texts_of role own))
    × (list_any
    (λ r. is_close c r.event && is_at 0 (closed_of r.reply) && is_settled steps r.index
    && list_all (λ step. not (is_awaited_reader roles step.actor)) (drop r.index steps))
    own ≡ true)
-- all its texts were written; another actor closed c
WriterEnds batch steps roles writer role own half Closed (Some c) =
    (half.is_known ≡ true → half.bytes ≡ concat (texts_of role own))
    × (list_any (λ step. not (step.actor == writer) && is_close c step.event) steps ≡ true)
-- a write failed or wrote no bytes; and the link calls and its writer made no event, or somebody closed c
WriterEnds batch steps roles writer role own half WriteFailed (Some c) =
    IsHurt batch half (texts_of role own)
    × (((is_calling role && (length own == 0)) || list_any (λ step. is_close c step.event) steps) ≡ true)
-- a write of the connection request failed or wrote no bytes; it made no event
WriterEnds batch steps roles writer role own half WriteFailed None =
    IsHurt batch half (texts_of role own) × ((is_calling role && (length own == 0)) ≡ true)
-- the link never connected: the connection request was written where it calls, else nothing
WriterEnds batch steps roles writer role own half NeverOpened None =
    half.is_known ≡ true → half.bytes ≡ (if is_calling role then request_text else [])
WriterEnds batch steps roles writer role own half end conn = ⊥
