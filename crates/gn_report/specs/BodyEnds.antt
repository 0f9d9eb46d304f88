-- Who closed a connection; and what the end of a link's reader or writer says of the link's connection, of the Close of it, and
-- of the end of the other body.
--
-- Here `steps` is a history in order, `own` are the receipts of the body, and `writer` is the number of the link's writer.
use Rattle.std.specs.Prelude.{ℕ, Bool, true, ◌==◌, ◌&&◌, not, List, false, ◌||◌, drop, length, reverse, take, Option, Some, None}
use Rattle.std.specs.List.{list_any, list_all}
use Rattle.gn_rules.specs.declared.receipt.Step.{Step}
use Rattle.gn_rules.specs.History.{is_close, is_at, closed_of}
use Rattle.gn_rules.specs.declared.event.Event.{Event}
use Rattle.gn_rules.specs.declared.event.Event.TheVariants.{Connect}
use Rattle.gn_rules.specs.declared.receipt.Receipt.{Receipt}
use Rattle.gn_rules.specs.declared.reply.Reply.{Reply}
use Rattle.gn_rules.specs.declared.reply.Reply.TheVariants.{TooMany}
use Rattle.gn_rules.specs.Flight.{flying}
use Rattle.gn_shake.specs.declared.role.Role.{Role}
use Rattle.gn_shake.specs.Greeting.{is_calling}
use Rattle.gn_bodies.specs.declared.ends.ReaderEnd.{ReaderEnd}
use Rattle.gn_bodies.specs.declared.ends.WriterEnd.{WriterEnd}
use Rattle.gn_bodies.specs.declared.ends.WriterEnd.TheVariants.{Drained, WriteFailed, Closed, NeverOpened}
use Rattle.gn_report.specs.declared.closes.Closer.{Closer}
use Rattle.gn_report.specs.declared.closes.Closer.TheVariants.{Anyone, Actor, Except}
use Rattle.gn_report.specs.Actors.{is_awaited_reader}
use Rattle.gn_bodies.specs.declared.ends.ReaderEnd.TheVariants as reader

-- whether actor a is one of those whose Close is looked for
abbrev pub is_closer : Closer → ℕ → Bool
is_closer Anyone a = true
is_closer (Actor b) a = a == b
is_closer (Except b) a = not (a == b)

-- whether a Close(c) by one of those stands among the steps
abbrev pub has_close : {A : Type 0} → Closer → List (Step A) → ℕ → Bool
has_close closer steps c = list_any (λ step. is_closer closer step.actor && is_close c step.event) steps

-- whether somebody closed this connection
abbrev pub is_closed : {A : Type 0} → List (Step A) → ℕ → Bool
is_closed steps c = list_any (λ step. is_close c step.event) steps

-- whether nothing is in flight after the first k steps
abbrev pub is_settled : {A : Type 0} → List (Step A) → ℕ → Bool
is_settled steps k = length (flying (reverse (take k steps))) == 0

-- whether an event is Connect
abbrev pub is_connect : {A : Type 0} → Event A → Bool
is_connect Connect = true
is_connect event = false

-- whether an event is a Connect with the reply TooMany
abbrev pub is_turned_away : {A : Type 0} → Event A → Reply A → Bool
is_turned_away Connect TooMany = true
is_turned_away event reply = false

-- whether a writer with this end may have closed the connection before its reader was done: after a failed write; or as Drained,
-- where its reader isn't awaited
abbrev pub may_close_first : Bool → Role → WriterEnd → Bool
may_close_first all_call role WriteFailed = true
may_close_first all_call role Drained = is_calling role && not all_call
may_close_first all_call role end = false

-- whether a reader's end is right by the history and its receipts; `first` says that its writer may have closed first
abbrev pub is_reader_end : {A : Type 0} → List (Step A) → ℕ → Bool → List (Receipt A) → ReaderEnd → Option ℕ → Bool
-- it closed nothing
is_reader_end steps writer first own reader.Bytes (Some c) = not (list_any (λ r. is_close c r.event) own)
-- somebody closed its connection
is_reader_end steps writer first own (reader.Fault f) (Some c) = list_any (λ step. is_close c step.event) steps
is_reader_end steps writer first own reader.ReadFailed (Some c) = list_any (λ step. is_close c step.event) steps
is_reader_end steps writer first own reader.ReadFailed None = true
is_reader_end steps writer first own reader.Turns (Some c) = list_any (λ step. is_close c step.event) steps
is_reader_end steps writer first own reader.Turns None = true
-- it made no event
is_reader_end steps writer first own reader.GreetingRefused conn = length own == 0
is_reader_end steps writer first own reader.GreetingCut conn = length own == 0
-- its one event was a Connect that was replied TooMany
is_reader_end steps writer first own reader.TooMany conn =
    (length own == 1) && list_all (λ r. is_turned_away r.event r.reply) own
-- the link's writer closed first
is_reader_end steps writer first own reader.NotLive (Some c) =
    first && list_any (λ step. (step.actor == writer) && is_close c step.event) steps
is_reader_end steps writer first own end conn = false

-- whether a writer's end is right by the history and its receipts; `settled` says after how many steps nothing is in flight
abbrev pub is_writer_end : {A : Type 0} → (ℕ → Bool) → List Role → List (Step A) → ℕ → Role → List (Receipt A) → WriterEnd → Option ℕ → Bool
-- it closed its connection, by a Close(c) replied Closed(0), when nothing was in flight, and after every step of the readers that the
-- run waits for
is_writer_end settled roles steps writer role own Drained (Some c) =
    list_any
    (λ r. is_close c r.event && is_at 0 (closed_of r.reply) && settled r.index
    && list_all (λ step. not (is_awaited_reader roles step.actor)) (drop r.index steps))
    own
-- another actor closed its connection
is_writer_end settled roles steps writer role own Closed (Some c) =
    list_any (λ step. not (step.actor == writer) && is_close c step.event) steps
-- it failed in the request of a link that calls, and made no event; or somebody closed its connection
is_writer_end settled roles steps writer role own WriteFailed (Some c) =
    (is_calling role && (length own == 0)) || list_any (λ step. is_close c step.event) steps
is_writer_end settled roles steps writer role own WriteFailed None = is_calling role && (length own == 0)
is_writer_end settled roles steps writer role own NeverOpened None = true
is_writer_end settled roles steps writer role own end conn = false
